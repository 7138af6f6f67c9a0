-- The effect of a step on a lane, from the outcomes at its ends.
use Rattle.std.proofs.Common.{◌≡◌, ℕ, true, false, List, ◌++◌, Option, Some, None, Ok, refl, ap}
use Rattle.std.specs.Option.{option_map}
use Rattle.mctp_wire.specs.Packet as wire
use Rattle.mctp_wire.specs.Packet.{spelling}
use Rattle.mctp_wire.specs.declared.layout.Packet.{Packet}
use Rattle.mctp_wire.specs.declared.unit.Unit.{«Unit»}
use Rattle.mctp_wire.proofs.Spelled.{spelled_alike}
use Rattle.mctp_reasm.specs.Inboxes.{for_end}
use Rattle.mctp_reasm.specs.Pieces.{MessageOf}
use Rattle.pldm_exch.specs.declared.caller.CallTick.TheVariants as ticks
use Rattle.pldm_exch.specs.Caller.{CallTickOf, Open, tick_of}
use Rattle.exch_lane.specs.Lanes.{LaneOf}
use Rattle.pldm_exch.specs.Sides.{AskerRow, AskerTick, TakerRow, answering_row, asker_packet, asker_row, asking_after, asking_row, reply_in_row, taker_packet, taker_row}
use Rattle.exch_lane.specs.Steps.{asker_does, asker_ticks, packets_of_message, taker_does, with_asker}
use Rattle.exch_lane.specs.Journals.{with_learnt, with_sent, with_taken}
use Rattle.pldm_exch.specs.Ends.{AnsweringOf, AskingOf, asker_of, taker_of}
use Rattle.exch_lane.specs.Nodes.{asker_after, asker_ticked, call_tick_of, taker_action_in, taker_after}

-- an end that isn't deaf has the same outcome for bytes as for the packet that they read as
pub asker_reads : (deaf : ℕ) (a : AskingOf) (u : «Unit») (bytes : List ℕ) (p : Packet) → deaf ≡ 0 → Ok (p.head, p.body.now) ≡ wire.packet_of u bytes
    → asker_row a.unit a.own a.peer (asker_of deaf a) bytes ≡ asking_row a (spelling p)
asker_reads deaf a u bytes p hears reads =
    rw hears (ap (λ r. asker_packet a.unit (asker_of 0 a) (for_end a.own a.peer false r)) (spelled_alike u a.unit bytes p reads))

pub taker_reads : (deaf : ℕ) (t : AnsweringOf) (u : «Unit») (bytes : List ℕ) (p : Packet) → deaf ≡ 0 → Ok (p.head, p.body.now) ≡ wire.packet_of u bytes
    → taker_row t.unit t.own t.peer (taker_of deaf t) bytes ≡ answering_row t (spelling p)
taker_reads deaf t u bytes p hears reads =
    rw hears (ap (λ r. taker_packet t.unit (taker_of 0 t) (for_end t.own t.peer true r)) (spelled_alike u t.unit bytes p reads))

-- an end that isn't deaf has the outcome of its node
pub hears_as : (a : AskingOf) (row : AskerRow) → asker_of 0 (asking_after a row) ≡ asker_after (asker_of 0 a) row
hears_as a (AskerRow.Ignores replies) = refl
hears_as a (AskerRow.Learns replies caller heard) = refl

pub stays_between : (a : AskingOf) (row : AskerRow) → ((asking_after a row).unit ≡ a.unit) × ((asking_after a row).own ≡ a.own) × ((asking_after a row).peer ≡ a.peer)
stays_between a (AskerRow.Ignores replies) = (refl, refl, refl)
stays_between a (AskerRow.Learns replies caller heard) = (refl, refl, refl)

-- a packet at the node that asks
pub asker_does_is : (w : LaneOf) (row : AskerRow)
    → asker_does w row ≡ record w { asker = asker_after w.asker row; entries = with_learnt w.entries (reply_in_row row) }
asker_does_is w (AskerRow.Ignores replies) = refl
asker_does_is w (AskerRow.Learns replies caller heard) = refl

-- a packet at the node that answers
pub taker_does_is : (w : LaneOf) (reply : List ℕ) (row : TakerRow)
    → taker_does w reply row
    ≡ record w {
      taker = taker_after w.taker reply row;
      packets = with_sent w.unit w.now w.packets (taker_action_in reply row);
      entries = with_taken reply w.entries (taker_action_in reply row);
    }
taker_does_is w reply (TakerRow.Silent requests) = refl
taker_does_is w reply (TakerRow.Repeats requests answer) = refl
taker_does_is w reply (TakerRow.TakesUp requests m head body) = refl
taker_does_is w reply (TakerRow.Strays requests m) = refl

-- a tick that sends sends the message of the open request
pub again_is : (o : Option Open) (m : MessageOf) → Some m ≡ option_map (λ o. o.message) o → tick_of ticks.Send o ≡ CallTickOf.Send m
again_is None m e = absurd (cc)
again_is (Some o) m e = let same : o.message ≡ m = cc in rw same refl

pub none_is : (o : Option Open) → None ≡ option_map (λ o. o.message) o → tick_of ticks.Send o ≡ CallTickOf.Nothing
none_is None e = refl
none_is (Some o) e = absurd (cc)

-- a tick of the node that asks
pub resends_is : (w : LaneOf) (row : AskerTick) (m : MessageOf) → CallTickOf.Send m ≡ call_tick_of row
    → asker_ticks w row ≡ record w { asker = asker_ticked row; packets = w.packets ++ packets_of_message w.unit w.now m }
resends_is w (AskerTick.Waits a) m e = absurd (cc)
resends_is w (AskerTick.Resends a n) m e = let same : n ≡ m = cc in rw same refl
resends_is w (AskerTick.GivesUp a) m e = absurd (cc)

pub waits_is : (w : LaneOf) (row : AskerTick) → CallTickOf.Nothing ≡ call_tick_of row → asker_ticks w row ≡ with_asker w (asker_ticked row)
waits_is w (AskerTick.Waits a) e = refl
waits_is w (AskerTick.Resends a n) e = absurd (cc)
waits_is w (AskerTick.GivesUp a) e = absurd (cc)

pub gives_up_is : (w : LaneOf) (row : AskerTick) → CallTickOf.GaveUp ≡ call_tick_of row → asker_ticks w row ≡ with_asker w (asker_ticked row)
gives_up_is w (AskerTick.Waits a) e = absurd (cc)
gives_up_is w (AskerTick.Resends a n) e = absurd (cc)
gives_up_is w (AskerTick.GivesUp a) e = refl

pub ruleset rows = (hears_as, stays_between, asker_does_is, taker_does_is, again_is, none_is, resends_is, waits_is, gives_up_is)
