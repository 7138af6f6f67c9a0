-- A device with its session, as the world has them, and the conditions of its steps.
use Rattle.std.specs.Prelude.{◌&&◌, ◌==◌, ℕ, Bool, false, is_some, not, true, List, [], Option, Some, None}
use Rattle.fd_core.specs.Commands.{may_activate}
use Rattle.fd_core.specs.Images.{KeyedImage, applied_keyed_images}
use Rattle.fd_core.specs.States.{DeviceState}
use Rattle.fd_core.specs.declared.states.Verdict.{Verdict}
use Rattle.fd_core.specs.declared.states.Verdict.TheVariants as verdicts
use Rattle.ua_core.specs.declared.state.SessionState.{SessionState}
use Rattle.ua_core.specs.declared.state.SessionState.TheVariants as stands
use Rattle.fw_message.specs.Pairs.{CellContentOf, PairOf, is_empty}
use Rattle.fwup_wire.specs.Values.{AnswerOf, CommandOf}
use Rattle.fwup_wire.specs.declared.values.Key.{Key}
use Rattle.fw_message.specs.Worlds.{NodeOf}
use Rattle.fw_message.specs.declared.side.Way.{Way}
use Rattle.fw_message.specs.declared.side.Way.TheVariants as ways
use Rattle.fw_message.specs.declared.step.MessageStep.{MessageStep}
use Rattle.fw_message.specs.declared.step.MessageStep.TheVariants as steps

-- a device with its session, and the number of failures of its bank
pub record CountedOf : Type 0 where
  pub node : NodeOf
  pub faults : ℕ

-- the operator's calls, and restarts
abbrev pub IsCall : MessageStep → Type 0
IsCall (steps.Start device number) = Unit {0}
IsCall (steps.Cancel device) = Unit {0}
IsCall (steps.Activate device) = Unit {0}
IsCall (steps.Restart device) = Unit {0}
IsCall s = ⊥

-- steps that neither call a bank nor add to the history
abbrev pub IsQuiet : MessageStep → Type 0
IsQuiet (steps.Take device way quiet) = ⊥
IsQuiet (steps.Learn device ways.Up) = ⊥
IsQuiet (steps.Verdict device verdict) = ⊥
IsQuiet s = Unit {0}

-- a command waits to be taken
abbrev pub waits : Option CellContentOf → Bool
waits None = false
waits (Some h) = not (is_some h.reply)

-- the agent's command waits, and the device may take it with this `quiet`
abbrev pub may_take : PairOf → Bool → Bool
may_take m quiet = waits m.down && not (quiet && not (is_empty m.up))

-- whether the device activates if it takes this command and its bank works
abbrev pub follows : DeviceState → CommandOf → Bool
follows v (CommandOf.ActivateFirmware self_contained) = may_activate v
follows v c = false

abbrev pub follows_cell : DeviceState → Option CellContentOf → Bool
follows_cell v None = false
follows_cell v (Some h) = follows v h.command

-- whether a session makes a record of this command: a good ApplyComplete, in Apply
abbrev pub is_completion : CommandOf → SessionState → Bool
is_completion (CommandOf.ApplyComplete result method) stands.Apply = result == 0
is_completion c state = false

abbrev pub completes : SessionState → Option CellContentOf → Bool
completes state None = false
completes state (Some h) = is_completion h.command state

-- the bytes of the image that this verdict applies, from the staged component and its size
abbrev pub room_of : Verdict → Option (Key × ℕ) → ℕ
room_of verdicts.ApplyOk (Some staged) = staged.1
room_of verdict staged = 0

-- the images that ActivateFirmware activates, if it is taken
abbrev pub activated_images_by : DeviceState → CommandOf → List KeyedImage
activated_images_by v (CommandOf.ActivateFirmware self_contained) = applied_keyed_images v.rows
activated_images_by v c = []

abbrev pub activated_images_by_cell : DeviceState → Option CellContentOf → List KeyedImage
activated_images_by_cell v None = []
activated_images_by_cell v (Some h) = activated_images_by v h.command

abbrev pub to_activate : PairOf → List KeyedImage
to_activate m = activated_images_by_cell m.device m.down

-- an answer that says that images were activated
abbrev pub activates : Option AnswerOf → Bool
activates (Some (AnswerOf.ActivateFirmware time)) = true
activates reply = false

abbrev pub is_activation : Option CellContentOf → Bool
is_activation None = false
is_activation (Some h) = activates h.reply

-- the cell of a way
abbrev pub cell_of : PairOf → Way → Option CellContentOf
cell_of m ways.Down = m.down
cell_of m ways.Up = m.up

abbrev pub cell_in : Option NodeOf → Way → Option CellContentOf
cell_in None way = None
cell_in (Some n) way = cell_of n.pair way
