-- A tick of a half, in the order of the code.
use Rattle.std.proofs.Common.{◌≡◌, ◌∙◌, ◌≤◌, ◌++◌, [], Bool, true, false, List, Option, Some, None, refl}
use Rattle.std.proofs.lemmas.Bool.{le-leb}
use Rattle.std.proofs.lemmas.List.{append-nil}
use Rattle.std.proofs.lemmas.Grind.{flat_map-append}
use Rattle.mctp_reasm.specs.Pieces.{MessageOf}
use Rattle.pldm_exch.specs.Caller.{CallTickOf, caller_tick, may_begin}
use Rattle.fwup_wire.specs.Values.{CommandOf}
use Rattle.pldm_exch.specs.Sides.{asker_called}
use Rattle.fw_node.specs.Halves.{CoreOf, HalfOf, Ticked, half_with_older_ends, begins_if, begins_wish, half_tick_by_row, half_grows, half_ticks, half_waits, half_with_ticked_core, last_part, core_after_give_up, unwished_abandoned, with_caller}
use Rattle.mctp_wire.specs.declared.unit.Unit.{«Unit»}
use Rattle.fw_node.specs.Packets.{all_packets, packets_of, sent_by}

-- the messages sent before come before the messages sent last
abbrev pub behind : {C : Type 0} → List MessageOf → Ticked C → Ticked C
behind ms t = record { half = t.half; sent = ms ++ t.sent }

begun_behind : {C : Type 0} (may : Bool) (h : HalfOf C) (c : CommandOf) (ms : List MessageOf) → begins_if may h c ms ≡ behind ms (begins_if may h c [])
begun_behind true h c ms = refl
begun_behind false h c ms = rw (append-nil ms) refl

wished_behind : {C : Type 0} (wish : Option CommandOf) (h : HalfOf C) (ms : List MessageOf) → begins_wish wish h ms ≡ behind ms (begins_wish wish h [])
wished_behind None h ms = rw (append-nil ms) refl
wished_behind (Some c) h ms = begun_behind (may_begin h.asker.caller) h c ms

pub last_behind : {C : Type 0} (f : CoreOf C) (h : HalfOf C) (ms : List MessageOf) → last_part f h ms ≡ behind ms (last_part f h [])
last_behind f h ms = wished_behind (f.wish h.core) (with_caller h (unwished_abandoned (f.wish h.core) h.asker.caller)) ms

by_call : {C : Type 0} (core : CoreOf C) (h : HalfOf C) (t : CallTickOf)
    → half_tick_by_row core (half_with_older_ends h) (asker_called (half_with_older_ends h).asker t) ≡ last_part core (half_with_ticked_core core (record (half_with_older_ends h) { core = core_after_give_up core t h.core })) (sent_by t)
by_call core h CallTickOf.Nothing = refl
by_call core h (CallTickOf.Send m) = refl
by_call core h CallTickOf.GaveUp = refl

pub hearing_tick : {C : Type 0} (core : CoreOf C) (h : HalfOf C) → h.asker.deaf ≤ 1 → h.taker.deaf ≤ 1
    → half_ticks core true h ≡ behind (sent_by (caller_tick h.asker.caller).1) (half_waits core (half_grows core h))
hearing_tick core h ask take =
    rw (le-leb h.asker.deaf 1 ask, le-leb h.taker.deaf 1 take) (by_call core h (caller_tick h.asker.caller).1)
    ∙ last_behind core (half_with_ticked_core core (half_grows core h)) (sent_by (caller_tick h.asker.caller).1)

pub packets_behind : (u : «Unit») (ms ns : List MessageOf) → all_packets u (ms ++ ns) ≡ all_packets u ms ++ all_packets u ns
packets_behind u ms ns = flat_map-append (packets_of u) ms ns

pub ruleset node_ticks = (hearing_tick, packets_behind)
