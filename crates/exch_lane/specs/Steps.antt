-- The effect of a step on a lane, and the steps that may be taken.
use Rattle.std.specs.Prelude.{◌≡◌, ◌⊎◌, ◌≤◌, ℕ, ◌+◌, ◌-◌, ◌^◌, ◌==◌, ◌&&◌, nat_lt, if◌then◌else◌, Bool, false, true, List, [], ◌∷◌, ◌++◌, length, map, Option, Some, None, is_some}
use Rattle.mctp_wire.specs.declared.unit.Unit.{«Unit»}
use Rattle.mctp_reasm.specs.Held.{Held}
use Rattle.pldm_base.specs.Limits.{reply_limit}
use Rattle.mctp_reasm.specs.Pieces.{MessageOf, pieces, spelling_of}
use Rattle.pldm_base.specs.declared.header.PldmHead.{PldmHead}
use Rattle.pldm_exch.specs.Caller.{caller_after_abandon, begin_outcome, may_begin}
use Rattle.pldm_exch.specs.Kept.{kept_with}
use Rattle.exch_lane.specs.Clocks.{clock_after_unit, may_beat}
use Rattle.exch_lane.specs.Lanes.{LaneEntryOf, LaneOf, Sent, LaneStepOf, asker_clock, lives_until, item_numbered, taker_clock}
use Rattle.pldm_exch.specs.Ends.{AskerOf, TakerOf, asker_new, taker_new}
use Rattle.pldm_exch.specs.Requests.{reply_message}
use Rattle.pldm_exch.specs.Sides.{AskerRow, AskerTick, TakerRow, asker_row, asker_tick, taker_row, taker_tick}
use Rattle.exch_lane.specs.declared.step.End.{End}
use Rattle.exch_lane.specs.declared.step.End.TheVariants as ends
use Rattle.exch_lane.specs.declared.step.LaneFault.{LaneFault}
use Rattle.exch_lane.specs.declared.step.LaneFault.TheVariants as faults

-- a packet that is sent at this moment
abbrev pub sent_at : ℕ → List ℕ → Sent
sent_at now bytes = record { date = now; bytes = bytes }

-- the packets of a message that is sent at this moment
abbrev pub packets_of_message : «Unit» → ℕ → MessageOf → List Sent
packets_of_message u now m = map (sent_at now) (map spelling_of (pieces u m))

-- A message is sent: its packets are dated now.
abbrev pub lane_after_sending : LaneOf → MessageOf → LaneOf
lane_after_sending w m = record w { packets = w.packets ++ packets_of_message w.unit w.now m }

-- an entry is appended
abbrev pub lane_with_entry : LaneOf → LaneEntryOf → LaneOf
lane_with_entry w e = record w { entries = w.entries ++ e ∷ [] }

abbrev pub with_asker : LaneOf → AskerOf → LaneOf
with_asker w a = record w { asker = a }

abbrev pub with_taker : LaneOf → TakerOf → LaneOf
with_taker w t = record w { taker = t }

-- A request begins (DSP0267: PLDM type 5): its packets are sent.
abbrev pub lane_after_begin : LaneOf → (command : ℕ) → List ℕ → LaneOf
lane_after_begin w command body =
    lane_with_entry
    (lane_after_sending
    (with_asker w (record w.asker { caller = (begin_outcome w.asker.caller 5 command body).0 }))
    (begin_outcome w.asker.caller 5 command body).1)
    (LaneEntryOf.Asked command body)

-- The open request is given up.
abbrev pub lane_after_abandon : LaneOf → LaneOf
lane_after_abandon w = with_asker w (record w.asker { caller = caller_after_abandon w.asker.caller })

-- A new request is taken: it is answered by this reply, which is kept.
abbrev pub lane_after_take : LaneOf → List (Option Held) → MessageOf → PldmHead → List ℕ → List ℕ → LaneOf
lane_after_take w requests m head body reply =
    lane_with_entry
    (lane_after_sending
    (with_taker w (record w.taker { kept = kept_with w.taker.kept (reply_message m head reply); requests = requests }))
    (reply_message m head reply))
    (LaneEntryOf.Taken head.command body reply)

-- the effect of a packet at the node that answers
abbrev pub taker_does : LaneOf → (reply : List ℕ) → TakerRow → LaneOf
taker_does w reply (TakerRow.Silent requests) = with_taker w (record w.taker { requests = requests })
taker_does w reply (TakerRow.Repeats requests answer) = lane_after_sending (with_taker w (record w.taker { requests = requests })) answer
taker_does w reply (TakerRow.TakesUp requests m head body) = lane_after_take w requests m head body reply
taker_does w reply (TakerRow.Strays requests m) = with_taker w (record w.taker { requests = requests })

-- the effect of a packet at the node that asks
abbrev pub asker_does : LaneOf → AskerRow → LaneOf
asker_does w (AskerRow.Ignores replies) = with_asker w (record w.asker { replies = replies })
asker_does w (AskerRow.Learns replies caller heard) =
    lane_with_entry (with_asker w (record w.asker { caller = caller; replies = replies })) (LaneEntryOf.Learnt heard.reply)

-- the outcome of these bytes at the node that answers
abbrev pub taker_row_in : LaneOf → List ℕ → TakerRow
taker_row_in w bytes = taker_row w.unit w.taker_eid w.asker_eid w.taker bytes

-- the outcome of these bytes at the node that asks
abbrev pub asker_row_in : LaneOf → List ℕ → AskerRow
asker_row_in w bytes = asker_row w.unit w.asker_eid w.taker_eid w.asker bytes

-- An end receives these bytes; a new request is answered with this reply.
abbrev pub lane_after_packet : LaneOf → End → List ℕ → (reply : List ℕ) → LaneOf
lane_after_packet w ends.Asker bytes reply = asker_does w (asker_row_in w bytes)
lane_after_packet w ends.Taker bytes reply = taker_does w reply (taker_row_in w bytes)

-- A packet is delivered to an end. It stays in the list, so that it can be delivered again.
abbrev pub lane_after_deliver : LaneOf → End → (reply : List ℕ) → Option Sent → LaneOf
lane_after_deliver w end reply None = w
lane_after_deliver w end reply (Some p) = lane_after_packet w end p.bytes reply

-- the effect of a tick at the node that asks; its packets are dated with the new time
abbrev pub asker_ticks : LaneOf → AskerTick → LaneOf
asker_ticks w (AskerTick.Waits a) = with_asker w a
asker_ticks w (AskerTick.Resends a m) = lane_after_sending (with_asker w a) m
asker_ticks w (AskerTick.GivesUp a) = with_asker w a

-- A unit passes: the time rises, the clocks count or miss it, and each end that counts it ticks.
abbrev pub tick_begins : LaneOf → (asker taker : Bool) → LaneOf
tick_begins w asker taker =
    record w {
      now = w.now + 1;
      asker_since_miss = (clock_after_unit asker (asker_clock w)).since_miss;
      taker_since_miss = (clock_after_unit taker (taker_clock w)).since_miss;
      taker = taker_tick taker w.taker;
    }

-- the outcome of a tick at the node that asks
abbrev pub asker_tick_in : LaneOf → (asker taker : Bool) → AskerTick
asker_tick_in w asker taker = asker_tick asker (tick_begins w asker taker).asker

abbrev pub lane_after_tick : LaneOf → (asker taker : Bool) → LaneOf
lane_after_tick w asker taker = asker_ticks (tick_begins w asker taker) (asker_tick_in w asker taker)

-- An end restarts, and is deaf for 40 ticks. No packet that was sent is lost.
abbrev pub lane_after_restart : LaneOf → End → LaneOf
lane_after_restart w ends.Asker = with_asker w (asker_new w.asker_eid w.taker_eid 40)
lane_after_restart w ends.Taker = with_taker w (taker_new 40)

-- the lane after a step
abbrev pub lane_after : LaneOf → LaneStepOf → LaneOf
lane_after w (LaneStepOf.Begin command body) = lane_after_begin w command body
lane_after w LaneStepOf.Abandon = lane_after_abandon w
lane_after w (LaneStepOf.Deliver number end reply) = lane_after_deliver w end reply (item_numbered w.packets number)
lane_after w (LaneStepOf.Tick asker taker) = lane_after_tick w asker taker
lane_after w (LaneStepOf.Restart end) = lane_after_restart w end

-- the lane after the steps, in order
abbrev pub lane_run : LaneOf → List LaneStepOf → LaneOf
lane_run w [] = w
lane_run w (s ∷ ss) = lane_run (lane_after w s) ss

-- a packet may be delivered while it lives
abbrev pub may_deliver : ℕ → Option Sent → Option LaneFault
may_deliver now None = Some faults.NoSuchPacket
may_deliver now (Some p) = if nat_lt (lives_until p) now then Some faults.Dead else None

-- The reason why a step may not be taken; None if it may.
abbrev pub may_step : LaneOf → LaneStepOf → Option LaneFault
may_step w (LaneStepOf.Begin command body) =
    if nat_lt (reply_limit w.unit) (length body) then Some faults.NotNow
    else if (w.asker.deaf == 0) && may_begin w.asker.caller then None else Some faults.NotNow
may_step w LaneStepOf.Abandon = if is_some w.asker.caller.asked then None else Some faults.NotNow
may_step w (LaneStepOf.Deliver number end reply) =
    if nat_lt (reply_limit w.unit) (length reply) then Some faults.NotNow else may_deliver w.now (item_numbered w.packets number)
may_step w (LaneStepOf.Tick asker taker) =
    if nat_lt w.now (2 ^ 32 - 1) && (may_beat asker w.asker_since_miss && may_beat taker w.taker_since_miss) then None
    else Some faults.NotNow
may_step w (LaneStepOf.Restart end) = None

-- a step that may add packets or an entry needs memory for them; abandoning a request and
-- restarting need none
abbrev pub needs_memory : LaneStepOf → Bool
needs_memory (LaneStepOf.Begin command body) = true
needs_memory LaneStepOf.Abandon = false
needs_memory (LaneStepOf.Deliver number end reply) = true
needs_memory (LaneStepOf.Tick asker taker) = true
needs_memory (LaneStepOf.Restart end) = false

-- The cause of a refused step: it may not be taken, for this reason, or there is no memory for its
-- additions.
abbrev pub IsCause : LaneOf → LaneStepOf → LaneFault → Type 0
IsCause w s e = (may_step w s ≡ Some e) ⊎ ((e ≡ faults.Memory) × (needs_memory s ≡ true) × (may_step w s ≡ None))

-- request data, and a reply with its code, fit a message of the transmission unit after its header
abbrev pub IsStep : «Unit» → LaneStepOf → Type 0
IsStep u (LaneStepOf.Begin command body) = length body ≤ reply_limit u
IsStep u LaneStepOf.Abandon = Prim.Unit {0}
IsStep u (LaneStepOf.Deliver number end reply) = length reply ≤ reply_limit u
IsStep u (LaneStepOf.Tick asker taker) = Prim.Unit {0}
IsStep u (LaneStepOf.Restart end) = Prim.Unit {0}

-- the step may be taken
pub record MayTake (w : LaneOf) (s : LaneStepOf) : Type 0 where
  pub lawful : IsStep w.unit s
  pub may : may_step w s ≡ None

-- each step may be taken in its place
abbrev pub MayRun : LaneOf → List LaneStepOf → Type 0
MayRun w [] = Prim.Unit {0}
MayRun w (s ∷ ss) = MayTake w s × MayRun (lane_after w s) ss
