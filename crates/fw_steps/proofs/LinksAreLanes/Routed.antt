-- The messages that the nodes of a lane keep for sending go to the other node.
use Rattle.std.proofs.Common.{◌≡◌, ◌+◌, ◌==◌, ◌&&◌, ℕ, zero, suc, Bool, true, false, if◌then◌else◌, List, [], ◌∷◌, get_or, nat_le, nat_lt, map, replicate, slice_set, Option, Some, None, IfSome, Ok, Err, Result, refl}
use Rattle.std.specs.List.{AllByRecursion}
use Rattle.std.proofs.lemmas.Bool.{eqb-true}
use Rattle.mctp_wire.specs.declared.unit.Unit.{«Unit»}
use Rattle.mctp_wire.specs.Packet as wire
use Rattle.mctp_wire.specs.declared.fault.WireFault.{WireFault}
use Rattle.mctp_wire.specs.declared.layout.Head.{Head}
use Rattle.mctp_reasm.specs.Held.{Held, cause_of, feed_outcome_for, held_tick, packets_with, message_of}
use Rattle.mctp_reasm.specs.Inboxes.{feed_outcome_at, for_end, held_at, held_with, is_for, packet_for}
use Rattle.mctp_reasm.specs.Pieces.{MessageOf, PacketOf, packet_of}
use Rattle.mctp_reasm.specs.declared.outcomes.DropCause.{DropCause}
use Rattle.mctp_reasm.specs.declared.outcomes.Fed.{Fed}
use Rattle.mctp_reasm.specs.declared.outcomes.Fed.TheVariants as outcomes
use Rattle.pldm_base.specs.Header.{pldm_of}
use Rattle.pldm_base.specs.declared.header.PldmFault.{PldmFault}
use Rattle.pldm_base.specs.declared.header.PldmHead.{PldmHead}
use Rattle.pldm_exch.specs.Caller.{CallTickOf, CallerState, ReplyInOf, Open, answer_body, answer_outcome, caller_tick, closed_by, answer_outcome_for, sends_at, caller_tick_for}
use Rattle.pldm_exch.specs.Ends.{AskerOf, TakerOf}
use Rattle.pldm_exch.specs.Kept.{AskedOf, KeptAnswer, answerer_tick, asked_by_kept, identifier_of, kept_as, kept_tick, asked_for}
use Rattle.pldm_exch.specs.Requests.{reply_message}
use Rattle.pldm_exch.specs.Sides.{AskerRow, AskerTick, TakerRow, asker_answered, asker_called, asker_counts, asker_fed, asker_packet, asker_row, asker_tick, taker_asked, taker_counts, taker_fed, taker_packet, taker_read, taker_row, taker_tick}
use Rattle.exch_lane.specs.Lanes.{LaneOf, Sent, LaneStepOf, lane_new, item_numbered}
use Rattle.exch_lane.specs.Steps.{asker_does, asker_ticks, lane_after_deliver, lane_after, lane_run, tick_begins, taker_does}
use Rattle.exch_lane.specs.declared.step.End.{End}
use Rattle.exch_lane.specs.declared.step.End.TheVariants as ends
use Rattle.fw_steps.proofs.LinksAreLanes.Routes.{both_hold}

-- a fact of both branches of a choice
pub if_either : {A : Type 0} (P : A → Type 0) (b : Bool) (x y : A) → P x → P y → P (if b then x else y)
if_either P true x y h k = h
if_either P false x y h k = k

-- requests go to this peer
pub record AsksPeer (peer : ℕ) (c : CallerState) : Type 0 where
  pub to : c.peer ≡ peer
  pub asked : IfSome c.asked (λ o. o.message.dest ≡ peer)

-- and so do kept answers
abbrev pub AnswersPeer : ℕ → List (Option KeptAnswer) → Type 0
AnswersPeer peer kept = AllByRecursion (λ k. IfSome k (λ x. x.reply.dest ≡ peer)) kept

pub record IsRouted (w : LaneOf) : Type 0 where
  pub asks : AsksPeer w.taker_eid w.asker.caller
  pub answers : AnswersPeer w.asker_eid w.taker.kept

-- the message that a tick of the requests sends again goes to this peer
abbrev pub SendsTo : ℕ → CallTickOf → Type 0
SendsTo peer (CallTickOf.Send m) = m.dest ≡ peer
SendsTo peer t = Prim.Unit {0}

-- a tick of the requests
abbrev TicksTo : ℕ → CallerState × CallTickOf → Type 0
TicksTo peer r = AsksPeer peer r.0 × SendsTo peer r.1

ticked_to : (peer : ℕ) (c : CallerState) (o : Option Open) → AsksPeer peer c → IfSome o (λ x. x.message.dest ≡ peer) → TicksTo peer (caller_tick_for c o)
ticked_to peer c None h k = (record { to = h.to; asked = h.asked }, tt)
ticked_to peer c (Some o) h k =
    if_either (TicksTo peer) (sends_at (o.age + 1)) _ _ (record { to = h.to; asked = k }, k)
    (if_either (TicksTo peer) (o.age + 1 == 18) _ _ (record { to = h.to; asked = tt }, tt) (record { to = h.to; asked = k }, tt))

-- the row of a tick
abbrev pub TickGoes : ℕ → AskerTick → Type 0
TickGoes peer (AskerTick.Waits a) = AsksPeer peer a.caller
TickGoes peer (AskerTick.Resends a m) = AsksPeer peer a.caller × (m.dest ≡ peer)
TickGoes peer (AskerTick.GivesUp a) = AsksPeer peer a.caller

called_goes : (peer : ℕ) (a : AskerOf) (t : CallTickOf) → AsksPeer peer a.caller → SendsTo peer t → TickGoes peer (asker_called a t)
called_goes peer a CallTickOf.Nothing h k = h
called_goes peer a (CallTickOf.Send m) h k = (h, k)
called_goes peer a CallTickOf.GaveUp h k = h

pub tick_goes : (peer : ℕ) (a : AskerOf) → AsksPeer peer a.caller → TickGoes peer (asker_counts a)
tick_goes peer a h =
    let t = ticked_to peer a.caller a.caller.asked h h.asked in
    if_either (TickGoes peer) (nat_le a.deaf 1) _ _
    (called_goes peer (record { deaf = 0; caller = (caller_tick a.caller).0; replies = map held_tick a.replies }) (caller_tick a.caller).1 t.0 t.1) h

tick_goes_by : (peer : ℕ) (counts : Bool) (a : AskerOf) → AsksPeer peer a.caller → TickGoes peer (asker_tick counts a)
tick_goes_by peer true a h = tick_goes peer a h
tick_goes_by peer false a h = h

-- an answer to the requests
closed_to : (peer : ℕ) (c : CallerState) (o : Open) (b : Option (List ℕ)) → AsksPeer peer c → AsksPeer peer (closed_by c o b).0
closed_to peer c o None h = h
closed_to peer c o (Some b) h = record { to = h.to; asked = tt }

heard_to : (peer : ℕ) (c : CallerState) (o : Option Open) (m : MessageOf) → AsksPeer peer c → AsksPeer peer (answer_outcome_for c o m).0
heard_to peer c None m h = h
heard_to peer c (Some o) m h = closed_to peer c o (answer_body o m) h

-- the row of a packet at the node that asks
abbrev LearnsTo : ℕ → AskerRow → Type 0
LearnsTo peer (AskerRow.Ignores replies) = Prim.Unit {0}
LearnsTo peer (AskerRow.Learns replies caller heard) = AsksPeer peer caller

learnt_to : (peer : ℕ) (replies : List (Option Held)) (c : CallerState) (heard : Option ReplyInOf) → AsksPeer peer c → LearnsTo peer (asker_answered replies c heard)
learnt_to peer replies c None h = tt
learnt_to peer replies c (Some heard) h = h

asker_fed_to : (peer : ℕ) (replies : List (Option Held)) (c : CallerState) (f : Fed) → AsksPeer peer c → LearnsTo peer (asker_fed replies c f)
asker_fed_to peer replies c (outcomes.Whole m) h = learnt_to peer replies (answer_outcome c m).0 (answer_outcome c m).1 (heard_to peer c c.asked m h)
asker_fed_to peer replies c outcomes.Open h = tt
asker_fed_to peer replies c (outcomes.Dropped cause) h = tt

asker_packet_to : (u : «Unit») (peer : ℕ) (a : AskerOf) (p : Option PacketOf) → AsksPeer peer a.caller → LearnsTo peer (asker_packet u a p)
asker_packet_to u peer a None h = tt
asker_packet_to u peer a (Some p) h = asker_fed_to peer (held_with u a.replies p) a.caller (feed_outcome_at u a.replies p) h

asker_row_to : (u : «Unit») (own peer : ℕ) (a : AskerOf) (bytes : List ℕ) → AsksPeer peer a.caller → LearnsTo peer (asker_row u own peer a bytes)
asker_row_to u own peer a bytes h = if_either (LearnsTo peer) (a.deaf == 0) _ _ (asker_packet_to u peer a (packet_for u own peer false bytes) h) tt

-- kept answers
kept_here : (peer : ℕ) (kept : List (Option KeptAnswer)) (i : ℕ) → AnswersPeer peer kept → IfSome (get_or kept i None) (λ x. x.reply.dest ≡ peer)
kept_here peer [] i h = tt
kept_here peer (k ∷ ks) zero h = h.0
kept_here peer (k ∷ ks) (suc i) h = kept_here peer ks i h.1

kept_set : (peer : ℕ) (kept : List (Option KeptAnswer)) (i : ℕ) (x : KeptAnswer) → AnswersPeer peer kept → x.reply.dest ≡ peer → AnswersPeer peer (slice_set kept i (Some x))
kept_set peer [] i x h k = tt
kept_set peer (y ∷ ys) zero x h k = (k, h.1)
kept_set peer (y ∷ ys) (suc i) x h k = (h.0, kept_set peer ys i x h.1 k)

kept_by : (peer : ℕ) (kept : List (Option KeptAnswer)) (m : MessageOf) (identifier : Option ℕ) → AnswersPeer peer kept → m.dest ≡ peer → AnswersPeer peer (kept_as kept m identifier)
kept_by peer kept m None h k = h
kept_by peer kept m (Some identifier) h k = kept_set peer kept m.tag (record { identifier = identifier; reply = m; age = 0 }) h k

aged_to : (peer : ℕ) (k : Option KeptAnswer) → IfSome k (λ x. x.reply.dest ≡ peer) → IfSome (kept_tick k) (λ x. x.reply.dest ≡ peer)
aged_to peer None h = tt
aged_to peer (Some k) h = if_either (λ o. IfSome o (λ x. x.reply.dest ≡ peer)) (nat_lt k.age 24) _ _ h tt

ticked_kept : (peer : ℕ) (kept : List (Option KeptAnswer)) → AnswersPeer peer kept → AnswersPeer peer (answerer_tick kept)
ticked_kept peer [] h = tt
ticked_kept peer (k ∷ ks) h = (aged_to peer k h.0, ticked_kept peer ks h.1)

counted_kept : (peer : ℕ) (t : TakerOf) → AnswersPeer peer t.kept → AnswersPeer peer (taker_counts t).kept
counted_kept peer t h = if_either {A = TakerOf} (λ x. AnswersPeer peer x.kept) (nat_le t.deaf 1) _ _ (ticked_kept peer t.kept h) h

counted_by : (peer : ℕ) (counts : Bool) (t : TakerOf) → AnswersPeer peer t.kept → AnswersPeer peer (taker_tick counts t).kept
counted_by peer true t h = counted_kept peer t h
counted_by peer false t h = h

none_in : (peer n : ℕ) → AnswersPeer peer (replicate n None)
none_in peer zero = tt
none_in peer (suc n) = (tt, none_in peer n)

-- the row of a packet at the node that answers
abbrev pub TakesFrom : ℕ → TakerRow → Type 0
TakesFrom peer (TakerRow.Repeats requests answer) = answer.dest ≡ peer
TakesFrom peer (TakerRow.TakesUp requests m head body) = m.source ≡ peer
TakesFrom peer row = Prim.Unit {0}

abbrev AskedFrom : ℕ → AskedOf → Type 0
AskedFrom peer (AskedOf.Again answer) = answer.dest ≡ peer
AskedFrom peer AskedOf.New = Prim.Unit {0}

asked_from : (peer : ℕ) (k : Option KeptAnswer) (identifier : Option ℕ) → IfSome k (λ x. x.reply.dest ≡ peer) → AskedFrom peer (asked_by_kept k identifier)
asked_from peer (Some k) (Some identifier) h = if_either (AskedFrom peer) (k.identifier == identifier) _ _ h tt
asked_from peer (Some k) None h = tt
asked_from peer None identifier h = tt

taker_asked_from : (peer : ℕ) (requests : List (Option Held)) (m : MessageOf) (head : PldmHead) (body : List ℕ) (a : AskedOf) → m.source ≡ peer → AskedFrom peer a
    → TakesFrom peer (taker_asked requests m head body a)
taker_asked_from peer requests m head body (AskedOf.Again answer) from h = h
taker_asked_from peer requests m head body AskedOf.New from h = from

taker_read_from : (peer : ℕ) (requests : List (Option Held)) (kept : List (Option KeptAnswer)) (m : MessageOf) (r : Result (PldmHead × List ℕ) PldmFault) → m.source ≡ peer → AnswersPeer peer kept
    → TakesFrom peer (taker_read requests kept m r)
taker_read_from peer requests kept m (Ok r) from h =
    if_either (TakesFrom peer) r.0.rq _ _
    (taker_asked_from peer requests m r.0 r.1 (asked_for kept m) from (asked_from peer (get_or kept m.tag None) (identifier_of m) (kept_here peer kept m.tag h))) tt
taker_read_from peer requests kept m (Err fault) from h = tt

abbrev FedFrom : ℕ → Fed → Type 0
FedFrom peer (outcomes.Whole m) = m.source ≡ peer
FedFrom peer f = Prim.Unit {0}

fed_from : (peer : ℕ) (cause : Option DropCause) (last : Bool) (m : MessageOf) → m.source ≡ peer → FedFrom peer (feed_outcome_for cause last m)
fed_from peer (Some cause) last m from = tt
fed_from peer None true m from = from
fed_from peer None false m from = tt

taker_fed_from : (peer : ℕ) (requests : List (Option Held)) (kept : List (Option KeptAnswer)) (f : Fed) → FedFrom peer f → AnswersPeer peer kept → TakesFrom peer (taker_fed requests kept f)
taker_fed_from peer requests kept (outcomes.Whole m) from h = taker_read_from peer requests kept m (pldm_of m.bytes) from h
taker_fed_from peer requests kept outcomes.Open from h = tt
taker_fed_from peer requests kept (outcomes.Dropped cause) from h = tt

taker_packet_from : (u : «Unit») (peer : ℕ) (t : TakerOf) (o : Option PacketOf) → IfSome o (λ p. p.head.source ≡ peer) → AnswersPeer peer t.kept → TakesFrom peer (taker_packet u t o)
taker_packet_from u peer t None from h = tt
taker_packet_from u peer t (Some p) from h =
    taker_fed_from peer (held_with u t.requests p) t.kept (feed_outcome_at u t.requests p)
    (fed_from peer (cause_of u (held_at t.requests p.head.tag) p) p.head.eom (message_of p.head (packets_with (held_at t.requests p.head.tag) p)) from) h

for_from : (own peer : ℕ) (for : Bool) (h : Head) (body : List ℕ) → is_for own peer true h ≡ for → IfSome (if for then Some (packet_of h body) else None) (λ p. p.head.source ≡ peer)
for_from own peer true h body e = eqb-true h.source peer (both_hold (h.dest == own) (h.source == peer) (both_hold ((h.dest == own) && (h.source == peer)) h.to e).0).1
for_from own peer false h body e = tt

end_from : (own peer : ℕ) (r : Result (Head × List ℕ) WireFault) → IfSome (for_end own peer true r) (λ p. p.head.source ≡ peer)
end_from own peer (Ok p) = for_from own peer (is_for own peer true p.0) p.0 p.1 refl
end_from own peer (Err fault) = tt

pub taker_row_from : (u : «Unit») (own peer : ℕ) (t : TakerOf) (bytes : List ℕ) → AnswersPeer peer t.kept → TakesFrom peer (taker_row u own peer t bytes)
taker_row_from u own peer t bytes h = if_either (TakesFrom peer) (t.deaf == 0) _ _ (taker_packet_from u peer t (packet_for u own peer true bytes) (end_from own peer (wire.packet_of u bytes)) h) tt

-- each step of a lane
learns_routed : (w : LaneOf) (row : AskerRow) → IsRouted w → LearnsTo w.taker_eid row → IsRouted (asker_does w row)
learns_routed w (AskerRow.Ignores replies) h k = record { asks = h.asks; answers = h.answers }
learns_routed w (AskerRow.Learns replies caller heard) h k = record { asks = k; answers = h.answers }

takes_routed : (w : LaneOf) (reply : List ℕ) (row : TakerRow) → IsRouted w → TakesFrom w.asker_eid row → IsRouted (taker_does w reply row)
takes_routed w reply (TakerRow.Silent requests) h k = record { asks = h.asks; answers = h.answers }
takes_routed w reply (TakerRow.Repeats requests answer) h k = record { asks = h.asks; answers = h.answers }
takes_routed w reply (TakerRow.TakesUp requests m head body) h k = record {
  asks = h.asks;
  answers = kept_by w.asker_eid w.taker.kept (reply_message m head reply) (identifier_of (reply_message m head reply)) h.answers k;
}
takes_routed w reply (TakerRow.Strays requests m) h k = record { asks = h.asks; answers = h.answers }

ticks_routed : (w : LaneOf) (row : AskerTick) → AnswersPeer w.asker_eid w.taker.kept → TickGoes w.taker_eid row → IsRouted (asker_ticks w row)
ticks_routed w (AskerTick.Waits a) h k = record { asks = k; answers = h }
ticks_routed w (AskerTick.Resends a m) h k = record { asks = k.0; answers = h }
ticks_routed w (AskerTick.GivesUp a) h k = record { asks = k; answers = h }

delivered_routed : (w : LaneOf) (end : End) (reply : List ℕ) (o : Option Sent) → IsRouted w → IsRouted (lane_after_deliver w end reply o)
delivered_routed w end reply None h = h
delivered_routed w ends.Asker reply (Some p) h = learns_routed w (asker_row w.unit w.asker_eid w.taker_eid w.asker p.bytes) h (asker_row_to w.unit w.asker_eid w.taker_eid w.asker p.bytes h.asks)
delivered_routed w ends.Taker reply (Some p) h = takes_routed w reply (taker_row w.unit w.taker_eid w.asker_eid w.taker p.bytes) h (taker_row_from w.unit w.taker_eid w.asker_eid w.taker p.bytes h.answers)

step_routed : (w : LaneOf) (s : LaneStepOf) → IsRouted w → IsRouted (lane_after w s)
step_routed w (LaneStepOf.Begin command body) h = record { asks = record { to = h.asks.to; asked = h.asks.to }; answers = h.answers }
step_routed w LaneStepOf.Abandon h = record { asks = record { to = h.asks.to; asked = tt }; answers = h.answers }
step_routed w (LaneStepOf.Deliver number end reply) h = delivered_routed w end reply (item_numbered w.packets number) h
step_routed w (LaneStepOf.Tick asker taker) h =
    ticks_routed (tick_begins w asker taker) (asker_tick asker w.asker) (counted_by w.asker_eid taker w.taker h.answers) (tick_goes_by w.taker_eid asker w.asker h.asks)
step_routed w (LaneStepOf.Restart ends.Asker) h = record { asks = record { to = refl; asked = tt }; answers = h.answers }
step_routed w (LaneStepOf.Restart ends.Taker) h = record { asks = h.asks; answers = none_in w.asker_eid 8 }

run_routed : (w : LaneOf) (ss : List LaneStepOf) → IsRouted w → IsRouted (lane_run w ss)
run_routed w [] h = h
run_routed w (s ∷ ss) h = run_routed (lane_after w s) ss (step_routed w s h)

-- In every lane that steps reach from a new one, the nodes keep only messages to the other node.
pub lane_routed : (u : «Unit») (asker taker : ℕ) (ss : List LaneStepOf) → IsRouted (lane_run (lane_new u asker taker) ss)
lane_routed u asker taker ss = run_routed (lane_new u asker taker) ss (record { asks = record { to = refl; asked = tt }; answers = none_in asker 8 })
