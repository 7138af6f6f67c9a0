-- The results of both nodes' calls, from the outcomes at the ends.
use Rattle.std.specs.Prelude.{List, ℕ}
use Rattle.mctp_reasm.specs.Pieces.{MessageOf}
use Rattle.pldm_exch.specs.Caller.{CallTickOf}
use Rattle.pldm_exch.specs.Ends.{AskerOf, TakerOf}
use Rattle.pldm_exch.specs.Kept.{kept_with}
use Rattle.pldm_exch.specs.Requests.{reply_message}
use Rattle.pldm_exch.specs.Sides.{AskerRow, AskerTick, TakerRow}

-- the node that asks, after a packet
abbrev pub asker_after : AskerOf → AskerRow → AskerOf
asker_after a (AskerRow.Ignores replies) = record a { replies = replies }
asker_after a (AskerRow.Learns replies caller heard) = record a { caller = caller; replies = replies }

-- the result of a tick
abbrev pub call_tick_of : AskerTick → CallTickOf
call_tick_of (AskerTick.Waits a) = CallTickOf.Nothing
call_tick_of (AskerTick.Resends a m) = CallTickOf.Send m
call_tick_of (AskerTick.GivesUp a) = CallTickOf.GaveUp

-- the node that asks, after a tick
abbrev pub asker_ticked : AskerTick → AskerOf
asker_ticked (AskerTick.Waits a) = a
asker_ticked (AskerTick.Resends a m) = a
asker_ticked (AskerTick.GivesUp a) = a

-- the action of the node that answers on a packet: do nothing, send a kept answer again, or take a
-- request and answer it
pub data TakerAction : Type 0 where
  Nothing : TakerAction
  Again : (answer : MessageOf) → TakerAction
  New : (command : ℕ) → (body : List ℕ) → (answer : MessageOf) → TakerAction

-- the same for a `TakerRow`
abbrev pub taker_action_in : (reply : List ℕ) → TakerRow → TakerAction
taker_action_in reply (TakerRow.Silent requests) = TakerAction.Nothing
taker_action_in reply (TakerRow.Repeats requests answer) = TakerAction.Again answer
taker_action_in reply (TakerRow.TakesUp requests m head body) = TakerAction.New head.command body (reply_message m head reply)
taker_action_in reply (TakerRow.Strays requests m) = TakerAction.Nothing

-- the node that answers, after a packet
abbrev pub taker_after : TakerOf → (reply : List ℕ) → TakerRow → TakerOf
taker_after t reply (TakerRow.Silent requests) = record t { requests = requests }
taker_after t reply (TakerRow.Repeats requests answer) = record t { requests = requests }
taker_after t reply (TakerRow.TakesUp requests m head body) =
    record t { kept = kept_with t.kept (reply_message m head reply); requests = requests }
taker_after t reply (TakerRow.Strays requests m) = record t { requests = requests }
