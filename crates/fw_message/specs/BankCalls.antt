-- Whether a device calls its bank in a step: the device takes the command in a cell, learns the
-- answer that it waits for, or has a verdict, and its table calls the bank then.
use Rattle.std.specs.Prelude.{◌≡◌, Bool, false, true, List, Option, Some, None, is_some}
use Rattle.fw_package.specs.Package.{PackageText}
use Rattle.fwup_wire.specs.Values.{AnswerOf}
use Rattle.fd_core.specs.BankCalls.{DifferIf, answer_calls_bank, command_calls_bank, verdict_calls_bank}
use Rattle.fd_core.specs.States.{DeviceState}
use Rattle.fw_message.specs.Pairs.{CellContentOf, PairOf, StepOf, step_of, waiting_answer}
use Rattle.fw_message.specs.Worlds.{NodeOf, MessageWorldOf, device_of, node_at, pair_step}
use Rattle.fw_message.specs.declared.step.MessageStep.{MessageStep}

-- the command in a cell, if there is one
abbrev pub held_calls_bank : DeviceState → Option CellContentOf → (quiet : Bool) → Bool
held_calls_bank v None quiet = false
held_calls_bank v (Some h) quiet = command_calls_bank v h.command quiet

-- the answer that the device waits for, if there is one
abbrev pub brought_calls_bank : DeviceState → Option AnswerOf → Bool
brought_calls_bank v None = false
brought_calls_bank v (Some a) = answer_calls_bank v (Some a)

-- a step of a pair
abbrev pub pair_step_calls_bank : PairOf → StepOf → Bool
pair_step_calls_bank m (StepOf.TakeDown quiet works) = held_calls_bank m.device m.down quiet
pair_step_calls_bank m (StepOf.LearnUp works) = brought_calls_bank m.device (waiting_answer m.up)
pair_step_calls_bank m (StepOf.Judge verdict works) = verdict_calls_bank m.device verdict
pair_step_calls_bank m s = false

-- a step of the world, from its device
abbrev pub node_calls_bank : MessageStep → Option NodeOf → Bool
node_calls_bank s None = false
node_calls_bank s (Some n) = pair_step_calls_bank n.pair (pair_step true s)

abbrev pub message_step_calls_bank : MessageWorldOf → MessageStep → Bool
message_step_calls_bank w s = node_calls_bank s (node_at w.nodes (device_of s))

-- The effect of a step that may be taken depends on whether the bank works exactly if the step
-- calls the bank.
abbrev pub PairStepsDependOnCalls : Type 0
PairStepsDependOnCalls = (packages : List PackageText) (m : PairOf) (s : MessageStep)
    → is_some (step_of packages m (pair_step true s)) ≡ true
    → DifferIf (pair_step_calls_bank m (pair_step true s)) (step_of packages m (pair_step false s)) (step_of packages m (pair_step true s))
