-- The packets that a half sends go to its peer.
use Rattle.std.proofs.Common.{◌≡◌, ◌∙◌, ◌+◌, ◌==◌, ℕ, zero, suc, Bool, true, false, List, [], ◌∷◌, drop, length, map, nat_le, take, Option, Some, None, Ok, Err, Result, refl, sym, subst}
use Rattle.std.specs.List.{AllByRecursion}
use Rattle.mctp_wire.specs.declared.unit.Unit.{«Unit»}
use Rattle.mctp_wire.specs.Units.{bytes_of}
use Rattle.mctp_wire.specs.declared.unit.TheConstants.{MAX_PACKETS}
use Rattle.mctp_reasm.specs.Held.{Held}
use Rattle.mctp_reasm.specs.Pieces.{MessageOf, Route, message_route, piece, pieces_from, spelling_of}
use Rattle.pldm_base.specs.declared.header.PldmHead.{PldmHead}
use Rattle.fwup_wire.specs.Values.{CommandOf}
use Rattle.pldm_exch.specs.Caller.{CallerState, Open, is_quiet, may_begin}
use Rattle.pldm_exch.specs.Sides.{AskerRow, AskerTick, TakerRow, asker_counts, asker_row, taker_counts, taker_row}
use Rattle.exch_lane.specs.Lanes.{LaneEntryOf, LaneOf, Sent}
use Rattle.fw_package.specs.Package.{PackageText}
use Rattle.fw_node.specs.Cores.{session_core}
use Rattle.fw_node.specs.Halves.{CoreOf, HalfOf, begins_if, begins_wish, half_tick_by_row, half_on_packet, half_on_rows, half_takes, half_ticks, tick_if, kept_if, read_by, still_wished, takes_if, takes_read, unwished_abandoned, unwished_for, with_caller}
use Rattle.fw_node.specs.Packets.{all_packets, packets_of}
use Rattle.fw_steps.specs.Lanes.{Explained, LinkExplained, Times, times_of}
use Rattle.fw_steps.specs.Links.{LinkOf}
use Rattle.fw_steps.proofs.LinksAreLanes.Hears.{sent_in}
use Rattle.fw_steps.proofs.LinksAreLanes.InLanes.{ways_of}
use Rattle.fw_steps.proofs.LinksAreLanes.Routed.{AnswersPeer, AsksPeer, IsRouted, TakesFrom, TickGoes, if_either, lane_routed, taker_row_from, tick_goes}
use Rattle.fw_steps.proofs.LinksAreLanes.Sorted.{both_all}
use Rattle.fw_steps.proofs.LinksAreLanes.Ways.{BothWays}

-- the messages that a half keeps for sending go to its peer
pub record IsRoutedHalf {C : Type 0} (h : HalfOf C) : Type 0 where
  pub asks : AsksPeer h.peer h.asker.caller
  pub answers : AnswersPeer h.peer h.taker.kept

routed_lane : (u : «Unit») (asker taker : ℕ) (lane : List LaneEntryOf → LaneOf) (e : Explained u asker taker lane) → IsRouted (lane e.run.entries)
routed_lane u asker taker lane e = subst IsRouted e.is (lane_routed u asker taker e.steps)

-- The first of two halves between which both ways are explained.
pub routed_half : {A B : Type 0} (now : Times) (a : HalfOf A) (b : HalfOf B) (ps : List Sent) → BothWays now a b ps → IsRoutedHalf a
routed_half now a b ps h = record {
  asks = (routed_lane a.unit a.own b.own _ h.asks).asks;
  answers = subst (λ p. AnswersPeer p a.taker.kept) (sym h.peer) (routed_lane b.unit b.own a.own _ h.answers).answers;
}

-- all these messages go to this node
abbrev pub AreTo : ℕ → List MessageOf → Type 0
AreTo peer ms = AllByRecursion (λ m. m.dest ≡ peer) ms

-- a tick
begins_if_to : {C : Type 0} (peer : ℕ) (may : Bool) (h : HalfOf C) (c : CommandOf) (ms : List MessageOf) → h.asker.caller.peer ≡ peer → AreTo peer ms → AreTo peer (begins_if may h c ms).sent
begins_if_to peer true h c ms to k = both_all (λ m. m.dest ≡ peer) ms _ k (to, tt)
begins_if_to peer false h c ms to k = k

begins_wish_to : {C : Type 0} (peer : ℕ) (wish : Option CommandOf) (h : HalfOf C) (ms : List MessageOf) → h.asker.caller.peer ≡ peer → AreTo peer ms → AreTo peer (begins_wish wish h ms).sent
begins_wish_to peer None h ms to k = k
begins_wish_to peer (Some c) h ms to k = begins_if_to peer (may_begin h.asker.caller) h c ms to k

kept_peer : (wished : Bool) (c : CallerState) → (kept_if wished c).peer ≡ c.peer
kept_peer true c = refl
kept_peer false c = refl

unwished_peer : (wish : Option CommandOf) (c : CallerState) (o : Option Open) → (unwished_for wish c o).peer ≡ c.peer
unwished_peer wish c None = refl
unwished_peer wish c (Some o) = kept_peer (still_wished wish o) c

hears_if_to : {C : Type 0} (peer : ℕ) (hearing : Bool) (f : CoreOf C) (h : HalfOf C) (ms : List MessageOf) → h.asker.caller.peer ≡ peer → AreTo peer ms → AreTo peer (tick_if hearing f h ms).sent
hears_if_to peer true f h ms to k =
    begins_wish_to peer (f.wish (f.ticked h.core)) (with_caller (record h { core = f.ticked h.core }) (unwished_abandoned (f.wish (f.ticked h.core)) h.asker.caller)) ms
    (unwished_peer (f.wish (f.ticked h.core)) h.asker.caller h.asker.caller.asked ∙ to) k
hears_if_to peer false f h ms to k = k

called_to : {C : Type 0} (peer : ℕ) (f : CoreOf C) (h : HalfOf C) (row : AskerTick) → TickGoes peer row → AreTo peer (half_tick_by_row f h row).sent
called_to peer f h (AskerTick.Waits a) k = hears_if_to peer (a.deaf == 0) f (record h { asker = a }) [] k.to tt
called_to peer f h (AskerTick.Resends a m) k = hears_if_to peer (a.deaf == 0) f (record h { asker = a }) (m ∷ []) k.0.to (k.1, tt)
called_to peer f h (AskerTick.GivesUp a) k = hears_if_to peer (a.deaf == 0) f (record h { asker = a; core = f.silent h.core }) [] k.to tt

pub tick_sends_to : {C : Type 0} (f : CoreOf C) (h : HalfOf C) → IsRoutedHalf h → AreTo h.peer (half_ticks f true h).sent
tick_sends_to f h k = called_to h.peer f (record h { taker = taker_counts h.taker }) (asker_counts h.asker) (tick_goes h.peer h.asker k.asks)

-- a packet
takes_read_to : {C : Type 0} (peer : ℕ) (core : CoreOf C) (quiet works : Bool) (h : HalfOf C) (requests : List (Option Held)) (m : MessageOf) (head : PldmHead) (r : Result CommandOf ℕ)
    → m.source ≡ peer → AreTo peer (sent_in (takes_read core quiet works h requests m head r))
takes_read_to peer core quiet works h requests m head (Ok c) from = (from, tt)
takes_read_to peer core quiet works h requests m head (Err code) from = (from, tt)

takes_if_to : {C : Type 0} (peer : ℕ) (five : Bool) (core : CoreOf C) (works : Bool) (h : HalfOf C) (requests : List (Option Held)) (m : MessageOf) (head : PldmHead) (body : List ℕ)
    → m.source ≡ peer → AreTo peer (sent_in (takes_if five core works h requests m head body))
takes_if_to peer true core works h requests m head body from = takes_read_to peer core (is_quiet h.asker.caller) works h requests m head (read_by core head.command body) from
takes_if_to peer false core works h requests m head body from = tt

takes_to : {C : Type 0} (peer : ℕ) (core : CoreOf C) (works : Bool) (h : HalfOf C) (row : TakerRow) → TakesFrom peer row → AreTo peer (sent_in (half_takes core works h row))
takes_to peer core works h (TakerRow.Silent requests) k = tt
takes_to peer core works h (TakerRow.Repeats requests answer) k = (k, tt)
takes_to peer core works h (TakerRow.TakesUp requests m head body) k = takes_if_to peer (head.pldm_type == 5) core works h requests m head body k
takes_to peer core works h (TakerRow.Strays requests m) k = tt

hears_by_to : {C : Type 0} (peer : ℕ) (core : CoreOf C) (works : Bool) (h : HalfOf C) (asks : AskerRow) (answers : TakerRow) → TakesFrom peer answers
    → AreTo peer (sent_in (half_on_rows core works h asks answers))
hears_by_to peer core works h (AskerRow.Ignores replies) answers k = takes_to peer core works (record h { asker = record h.asker { replies = replies } }) answers k
hears_by_to peer core works h (AskerRow.Learns replies caller heard) answers k = tt

pub heard_sends_to : {C : Type 0} (core : CoreOf C) (works : Bool) (h : HalfOf C) (bytes : List ℕ) → IsRoutedHalf h → AreTo h.peer (sent_in (half_on_packet core works h bytes))
heard_sends_to core works h bytes k =
    hears_by_to h.peer core works h (asker_row h.unit h.own h.peer h.asker bytes) (taker_row h.unit h.own h.peer h.taker bytes) (taker_row_from h.unit h.own h.peer h.taker bytes k.answers)

-- the second byte of a packet is its destination
abbrev pub GoesTo : ℕ → List ℕ → Type 0
GoesTo dest (version ∷ to ∷ rest) = to ≡ dest
GoesTo dest bytes = ⊥

pieces_to : (u : «Unit») (most : ℕ) (r : Route) (n : ℕ) (bytes : List ℕ) → AllByRecursion (GoesTo r.dest) (map spelling_of (pieces_from u most r n bytes))
unfolding pieces_from
pieces_to u zero r n bytes = tt
pieces_to u (suc most) r n bytes =
    if_either (λ ps. AllByRecursion (GoesTo r.dest) (map spelling_of ps)) (nat_le (length bytes) (bytes_of u)) (piece r n true bytes ∷ [])
    (piece r n false (take (bytes_of u) bytes) ∷ pieces_from u most r (n + 1) (drop (bytes_of u) bytes))
    (refl, tt) (refl, pieces_to u most r (n + 1) (drop (bytes_of u) bytes))

pub packets_to : (u : «Unit») (peer : ℕ) (ms : List MessageOf) → AreTo peer ms → AllByRecursion (GoesTo peer) (all_packets u ms)
packets_to u peer [] k = tt
packets_to u peer (m ∷ ms) k =
    both_all (GoesTo peer) (packets_of u m) (all_packets u ms)
    (subst (λ d. AllByRecursion (GoesTo d) (packets_of u m)) k.0 (pieces_to u MAX_PACKETS (message_route m) 0 m.bytes))
    (packets_to u peer ms k.1)

-- At every packet and tick, an explained link's agent sends packets to its device, and the device
-- to its agent.
pub agent_tick_to : (now : ℕ) (packages : List PackageText) (l : LinkOf) → LinkExplained now l
    → AllByRecursion (GoesTo l.device.own) (all_packets l.agent.unit (half_ticks (session_core packages) true l.agent).sent)
agent_tick_to now packages l e =
    packets_to l.agent.unit l.device.own (half_ticks (session_core packages) true l.agent).sent
    (subst (λ p. AreTo p (half_ticks (session_core packages) true l.agent).sent) e.agent_peer
    (tick_sends_to (session_core packages) l.agent (routed_half (times_of now l) l.agent l.device l.packets (ways_of now l e))))

pub agent_heard_to : (now : ℕ) (packages : List PackageText) (l : LinkOf) (works : Bool) (bytes : List ℕ) → LinkExplained now l
    → AllByRecursion (GoesTo l.device.own) (all_packets l.agent.unit (sent_in (half_on_packet (session_core packages) works l.agent bytes)))
agent_heard_to now packages l works bytes e =
    packets_to l.agent.unit l.device.own (sent_in (half_on_packet (session_core packages) works l.agent bytes))
    (subst (λ p. AreTo p (sent_in (half_on_packet (session_core packages) works l.agent bytes))) e.agent_peer
    (heard_sends_to (session_core packages) works l.agent bytes (routed_half (times_of now l) l.agent l.device l.packets (ways_of now l e))))
