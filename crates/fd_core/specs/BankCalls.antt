-- The calls of a device to its bank. Four calls of a bank may fail: begin, put, seal and switch.
-- Each case makes at most one of these calls. An accepted UpdateComponent begins a stage, the bytes
-- of an image are put into it, ApplyOk seals it, and ActivateFirmware switches to the applied
-- images if none is missing.
use Rattle.std.specs.Prelude.{◌≡◌, ◌≢◌, Bool, Option, false, length, true}
use Rattle.fd_core.specs.Commands.{OfferRow, device_take, may_activate, offer_row}
use Rattle.fd_core.specs.States.{DeviceState, Phase}
use Rattle.fd_core.specs.Steps.{device_verdict}
use Rattle.fd_core.specs.Wishes.{DeviceLearnRow, asked_length, download_row, learn_at}
use Rattle.fd_core.specs.declared.states.Progress.TheVariants as progress
use Rattle.fd_core.specs.declared.states.Verdict.{Verdict}
use Rattle.fd_core.specs.declared.states.Verdict.TheVariants as verdicts
use Rattle.fwup_wire.specs.Values.{AnswerOf, CommandOf}

-- the case that accepts an offer begins a stage
abbrev pub begins_stage : OfferRow → Bool
begins_stage (OfferRow.BeginWork u) = true
begins_stage row = false

-- whether taking a command calls the bank
abbrev pub command_calls_bank : DeviceState → CommandOf → (quiet : Bool) → Bool
command_calls_bank v (CommandOf.UpdateComponent o) quiet = begins_stage (offer_row v.rows v.phase o quiet true)
command_calls_bank v (CommandOf.ActivateFirmware self_contained) quiet = may_activate v
command_calls_bank v c quiet = false

-- the case of an answer with the requested bytes puts them
abbrev pub puts_piece : DeviceLearnRow → Bool
puts_piece (DeviceLearnRow.PutPiece bytes) = true
puts_piece row = false

-- whether taking an answer calls the bank: only in DOWNLOAD
abbrev pub answer_calls_bank_in : Phase → DeviceState → Option AnswerOf → Bool
answer_calls_bank_in (Phase.Download u w p) v a = puts_piece (download_row p (asked_length v.unit u w (length v.stage)) a true)
answer_calls_bank_in p v a = false

abbrev pub answer_calls_bank : DeviceState → Option AnswerOf → Bool
answer_calls_bank v a = answer_calls_bank_in v.phase v a

-- whether a verdict calls the bank: only ApplyOk, and only if it counts
abbrev pub verdict_calls_bank_in : Phase → Verdict → Bool
verdict_calls_bank_in (Phase.Apply u w progress.InProgress) verdicts.ApplyOk = true
verdict_calls_bank_in p verdict = false

abbrev pub verdict_calls_bank : DeviceState → Verdict → Bool
verdict_calls_bank v verdict = verdict_calls_bank_in v.phase verdict

-- Two results, with a bank that fails and with one that works: they differ if the bank is called,
-- otherwise they are equal.
abbrev pub DifferIf : {R : Type 0} → (called : Bool) → (failing working : R) → Type 0
DifferIf true failing working = failing ≢ working
DifferIf false failing working = failing ≡ working

-- The effect of a command, an answer or a verdict on a device depends on whether its bank works
-- exactly if the device calls the bank.
abbrev pub CommandsDependOnCalls : Type 0
CommandsDependOnCalls = (v : DeviceState) (c : CommandOf) (quiet : Bool)
    → DifferIf (command_calls_bank v c quiet) (device_take v c quiet false) (device_take v c quiet true)

abbrev pub AnswersDependOnCalls : Type 0
AnswersDependOnCalls = (v : DeviceState) (a : Option AnswerOf)
    → DifferIf (answer_calls_bank v a) (learn_at v v.phase a false) (learn_at v v.phase a true)

abbrev pub VerdictsDependOnCalls : Type 0
VerdictsDependOnCalls = (v : DeviceState) (verdict : Verdict)
    → DifferIf (verdict_calls_bank v verdict) (device_verdict v verdict false) (device_verdict v verdict true)
