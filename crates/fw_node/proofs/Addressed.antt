-- The packets that a half sends go to its peer.
use Rattle.std.proofs.Common.{◌≡◌, ◌+◌, ℕ, zero, suc, Bool, true, false, List, [], ◌∷◌, drop, length, map, nat_le, take, inl, inr, Option, Some, None, refl, sym, subst, arith}
use Rattle.std.specs.List.{AllByRecursion}
use Rattle.fw_package.specs.Package.{PackageText}
use Rattle.ua_core.specs.Session.{TimedOf}
use Rattle.fwup_wire.specs.Commands.{command_bytes, command_code}
use Rattle.fwup_wire.specs.Values.{CommandOf}
use Rattle.mctp_wire.specs.declared.unit.Unit.{«Unit»}
use Rattle.mctp_wire.specs.Units.{bytes_of}
use Rattle.mctp_wire.specs.declared.unit.TheConstants.{MAX_PACKETS}
use Rattle.mctp_reasm.specs.Pieces.{MessageOf, Route, message_route, piece, pieces_from, spelling_of}
use Rattle.pldm_exch.specs.Caller.{CallerState, Open, begin_outcome, caller_tick, may_begin, sends_at, caller_tick_for}
use Rattle.fw_node.specs.AgentViews.{half_in}
use Rattle.fw_node.specs.Agents.{IsAddressed, IsPacketFor, session_half_aged, session_half_idle}
use Rattle.fw_node.specs.BothEnds.{IsAsking}
use Rattle.fw_node.specs.Cores.{session_core}
use Rattle.fw_node.specs.Halves.{CoreOf, HalfOf, begins_if, begins_wish, last_part, unwished_abandoned, with_caller}
use Rattle.fw_node.specs.Packets.{all_packets, packets_of, sent_by}
use Rattle.fw_node.proofs.AgentTicks.{ticked_sent}
use Rattle.fw_node.proofs.OneATick.{bool_cases, settled_is, tick_is}
use Rattle.std.proofs.lemmas.Bool.Decides.{eqb_tells}
use Rattle.std.proofs.lemmas.List.{append-nil}
use Rattle.fw_node.specs.declared.half.Half.{Half}

-- each piece of a message has the message's destination
first_if : (last : Bool) (r : Route) (n : ℕ) (bytes : List ℕ) (ps : List (List ℕ)) → AllByRecursion (IsPacketFor r.dest) ps
    → AllByRecursion (IsPacketFor r.dest) (spelling_of (piece r n last bytes) ∷ ps)
first_if last r n bytes ps rest = (refl, rest)

pieces_for : (u : «Unit») (most : ℕ) (r : Route) (n : ℕ) (bytes : List ℕ) → AllByRecursion (IsPacketFor r.dest) (map spelling_of (pieces_from u most r n bytes))
unfolding pieces_from
pieces_for u zero r n bytes = tt
pieces_for u (suc most) r n bytes = elim (bool_cases (nat_le (length bytes) (bytes_of u))) [
  | inl last ↦ rw last (first_if true r n bytes [] tt)
  | inr more ↦ rw more (first_if false r n (take (bytes_of u) bytes) (map spelling_of (pieces_from u most r (n + 1) (drop (bytes_of u) bytes))) (pieces_for u most r (n + 1) (drop (bytes_of u) bytes)))
]

message_for : (u : «Unit») (m : MessageOf) → AllByRecursion (IsPacketFor m.dest) (packets_of u m)
message_for u m = pieces_for u MAX_PACKETS (message_route m) 0 m.bytes

one_for : (u : «Unit») (eid : ℕ) (m : MessageOf) → m.dest ≡ eid → AllByRecursion (IsPacketFor eid) (all_packets u (m ∷ []))
one_for u eid m is = subst (AllByRecursion (IsPacketFor eid)) (sym (append-nil (packets_of u m))) (subst (λ d. AllByRecursion (IsPacketFor d) (packets_of u m)) is (message_for u m))

-- a request that is sent again
again_by : (u : «Unit») {peer : ℕ} (c : CallerState) (o : Option Open) → IsAsking peer c → c.asked ≡ o → AllByRecursion (IsPacketFor peer) (all_packets u (sent_by (caller_tick_for c o).1))
again_by u c None h e = tt
again_by u {peer} c (Some o) h e = elim (bool_cases (sends_at (o.age + 1))) [
  | inl due ↦ rw due (one_for u peer o.message (rw e at h.message))
  | inr other ↦ elim (eqb_tells (o.age + 1) 18) [
    | inl last ↦ rw (other, last.0) tt
    | inr more ↦ rw (other, more.0) tt
  ]
]

pub again_for : (u : «Unit») {peer : ℕ} (c : CallerState) → IsAsking peer c → AllByRecursion (IsPacketFor peer) (all_packets u (sent_by (caller_tick c).1))
again_for u c h = again_by u c c.asked h refl

-- a request that begins
begins_for : {C : Type 0} (u : «Unit») (b : Bool) (h : HalfOf C) (c : CommandOf) (peer : ℕ) → h.asker.caller.peer ≡ peer → AllByRecursion (IsPacketFor peer) (all_packets u (begins_if b h c []).sent)
begins_for u true h c peer is = one_for u peer (begin_outcome h.asker.caller 5 (command_code c) (command_bytes c)).1 is
begins_for u false h c peer is = tt

wish_for : {C : Type 0} (u : «Unit») (wish : Option CommandOf) (h : HalfOf C) (peer : ℕ) → h.asker.caller.peer ≡ peer → AllByRecursion (IsPacketFor peer) (all_packets u (begins_wish wish h []).sent)
wish_for u None h peer is = tt
wish_for u (Some c) h peer is = begins_for u (may_begin h.asker.caller) h c peer is

pub last_for : {C : Type 0} (u : «Unit») (core : CoreOf C) (h : HalfOf C) (peer : ℕ) → IsAsking peer h.asker.caller → AllByRecursion (IsPacketFor peer) (all_packets u (last_part core h []).sent)
last_for u core h peer is =
    let settled = settled_is (core.wish h.core) h.asker.caller is in
    wish_for u (core.wish h.core) (with_caller h (unwished_abandoned (core.wish h.core) h.asker.caller)) peer settled.asks

-- both parts of a tick
pub addressed : (packages : List PackageText) (p : Half TimedOf) → IsAsking p.ends.asking.peer p.ends.asking.caller → IsAddressed packages (half_in 0 p)
addressed packages p h = record {
  sent = ticked_sent packages 0 p (omega arith);
  again = again_for p.ends.asking.unit p.ends.asking.caller h;
  begun = last_for p.ends.asking.unit (session_core packages) (session_half_idle packages (session_half_aged packages (half_in 0 p))) p.ends.asking.peer (tick_is p.ends.asking.caller h);
}
