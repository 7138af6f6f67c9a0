-- A lane: the node that asks, the node that answers, and all packets between them.
use Rattle.std.specs.Prelude.{◌≢◌, ◌≤◌, ℕ, ◌+◌, ◌-◌, ◌==◌, not, nat_lt, if◌then◌else◌, Bool, List, [], map, slice_get, Option, None}
use Rattle.mctp_wire.specs.declared.unit.Unit.{«Unit»}
use Rattle.pldm_exch.specs.Ends.{AskerOf, TakerOf, asker_new, taker_new}
use Rattle.exch_lane.specs.Clocks.{Clock}
use Rattle.exch_lane.specs.declared.step.End.{End}
use Rattle.exch_lane.specs.declared.step.End.TheVariants as ends
use Rattle.exch_lane.specs.declared.step.LaneStep.{LaneStep}
use Rattle.exch_lane.specs.declared.step.LaneStep.TheVariants as steps
use Rattle.exch_lane.specs.declared.entry.LaneEntry.{LaneEntry}
use Rattle.exch_lane.specs.declared.entry.LaneEntry.TheVariants as entries

-- a packet as it was sent, and when
pub record Sent : Type 0 where
  pub date : ℕ
  pub bytes : List ℕ

-- A packet lives for 8 units of time after its sending. This is the last unit at which it may
-- arrive.
abbrev pub lives_until : Sent → ℕ
lives_until p = p.date + 8

-- it may still arrive
abbrev pub IsAlive : (now : ℕ) → Sent → Type 0
IsAlive now p = now ≤ lives_until p

-- an entry of a history: a request was asked, a request was taken and answered, or a reply was
-- received
pub data LaneEntryOf : Type 0 where
  Asked : (command : ℕ) → (body : List ℕ) → LaneEntryOf
  Taken : (command : ℕ) → (body reply : List ℕ) → LaneEntryOf
  Learnt : (reply : List ℕ) → LaneEntryOf

-- The lane: the network's transmission unit, the two nodes, the time, the ticks of each end since
-- its last missed one, both ends, every packet that was sent, in order, and the history.
pub record LaneOf : Type 0 where
  pub unit : «Unit»
  pub asker_eid : ℕ
  pub taker_eid : ℕ
  pub now : ℕ
  pub asker_since_miss : ℕ
  pub taker_since_miss : ℕ
  pub asker : AskerOf
  pub taker : TakerOf
  pub packets : List Sent
  pub entries : List LaneEntryOf

-- the next step; a tick says which ends count it
pub data LaneStepOf : Type 0 where
  Begin : (command : ℕ) → (body : List ℕ) → LaneStepOf
  Abandon : LaneStepOf
  Deliver : (number : ℕ) → (end : End) → (reply : List ℕ) → LaneStepOf
  Tick : (asker taker : Bool) → LaneStepOf
  Restart : (end : End) → LaneStepOf

-- the value of a step
abbrev pub lane_step_of : LaneStep → LaneStepOf
lane_step_of (steps.Begin command body) = LaneStepOf.Begin command body.items
lane_step_of steps.Abandon = LaneStepOf.Abandon
lane_step_of (steps.Deliver number end reply) = LaneStepOf.Deliver number end reply.items
lane_step_of (steps.Tick asker taker) = LaneStepOf.Tick asker taker
lane_step_of (steps.Restart end) = LaneStepOf.Restart end

abbrev pub lane_steps_of : List LaneStep → List LaneStepOf
lane_steps_of steps = map lane_step_of steps

-- the value of an entry
abbrev pub lane_entry_of : LaneEntry → LaneEntryOf
lane_entry_of (entries.Asked command body) = LaneEntryOf.Asked command body.items
lane_entry_of (entries.Taken command body reply) = LaneEntryOf.Taken command body.items reply.items
lane_entry_of (entries.Learnt reply) = LaneEntryOf.Learnt reply.items

-- a lane with an empty history
abbrev pub lane_new : (u : «Unit») (asker taker : ℕ) → LaneOf
lane_new u asker taker =
    record {
      unit = u;
      asker_eid = asker;
      taker_eid = taker;
      now = 0;
      asker_since_miss = 8;
      taker_since_miss = 8;
      asker = asker_new asker taker 0;
      taker = taker_new 0;
      packets = [];
      entries = [];
    }

-- endpoint identifiers that nodes may have (DSP0236: 0 to 7 and 255 are reserved)
abbrev pub IsEid : ℕ → Type 0
IsEid eid = (8 ≤ eid) × (eid ≤ 254)

-- a lane is between two different nodes
pub record AreEnds (asker_eid taker_eid : ℕ) : Type 0 where
  pub asker : IsEid asker_eid
  pub taker : IsEid taker_eid
  pub differ : asker_eid ≢ taker_eid

-- the clocks of both ends
abbrev pub asker_clock : LaneOf → Clock
asker_clock w = record { now = w.now; since_miss = w.asker_since_miss }

abbrev pub taker_clock : LaneOf → Clock
taker_clock w = record { now = w.now; since_miss = w.taker_since_miss }

-- the item of a list with a number, counted from 1
abbrev pub item_numbered : {A : Type 0} → List A → ℕ → Option A
item_numbered xs number = if nat_lt 0 number then slice_get xs (number - 1) else None

-- an end is deaf
abbrev pub is_deaf_in : LaneOf → End → Bool
is_deaf_in w ends.Asker = not (w.asker.deaf == 0)
is_deaf_in w ends.Taker = not (w.taker.deaf == 0)
