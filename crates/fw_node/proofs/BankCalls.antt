-- The outcome of a packet for a device's half depends on whether the bank works exactly if the
-- packet calls the bank.
use Rattle.std.proofs.Common.{ℕ, ◌≡◌, ◌∷◌, [], ◌==◌, ◌&&◌, Bool, true, false, List, Option, Result, Ok, Err, refl}
use Rattle.mctp_reasm.specs.Held.{Held}
use Rattle.mctp_reasm.specs.Pieces.{MessageOf}
use Rattle.pldm_base.specs.declared.header.PldmHead.{PldmHead}
use Rattle.pldm_exch.specs.Caller.{CallerState, is_quiet}
use Rattle.pldm_exch.specs.Requests.{reply_message}
use Rattle.pldm_exch.specs.Sides.{AskerRow, TakerRow, asker_row, taker_row}
use Rattle.fwup_wire.specs.Answers.{answer_bytes, answer_read}
use Rattle.fwup_wire.specs.Values.{AnswerOf, CommandOf}
use Rattle.fd_core.specs.BankCalls.{DifferIf, answer_calls_bank, command_calls_bank}
use Rattle.fd_core.specs.Commands.{CommandEffect, device_take}
use Rattle.fd_core.specs.States.{idle_count_if}
use Rattle.fd_core.specs.Wishes.{AnswerEffect, has_failed, learn_at}
use Rattle.fd_core.proofs.BankCalls.{answers_differ, commands_differ, differ_through}
use Rattle.fw_node.specs.BankCalls.{PacketsDependOnCalls, incoming_calls_bank, read_calls_bank}
use Rattle.fw_node.specs.Cores.{TimedDevice, answer_or, device_core}
use Rattle.fw_node.specs.Halves.{HalfOf, HalfOutcome, half_after_answer, half_after_settle, half_on_rows, incoming, read_by, takes_if, takes_read}

-- the answer that a core gave
abbrev answer_given : HalfOutcome TimedDevice → AnswerOf
answer_given (HalfOutcome.Took half sent command answer) = answer
answer_given outcome = AnswerOf.TransferComplete

-- the work of the device failed
abbrev work_failed : HalfOutcome TimedDevice → Bool
work_failed (HalfOutcome.Went half sent) = has_failed half.core.device.phase
work_failed outcome = false

-- a half whose device took a command, or received an answer, with this effect
abbrev taken_by : HalfOf TimedDevice → CommandOf → List (Option Held) → MessageOf → PldmHead → CommandEffect → HalfOutcome TimedDevice
taken_by h c requests m head t =
    HalfOutcome.Took
    (half_after_settle device_core (half_after_answer (record h { core = record { device = t.after; idle = idle_count_if h.core.idle t.stirs } }) requests m head (answer_bytes t.answer)))
    (reply_message m head (answer_bytes t.answer) ∷ [])
    c
    t.answer

abbrev learnt_by : HalfOf TimedDevice → List (Option Held) → CallerState → AnswerEffect → HalfOutcome TimedDevice
learnt_by h replies caller l =
    HalfOutcome.Went
    (half_after_settle device_core (record h {
      core = record { device = l.after; idle = idle_count_if h.core.idle l.stirs };
      asker = record h.asker { caller = caller; replies = replies };
    }))
    []

-- a command that was read
read_depends : (h : HalfOf TimedDevice) (quiet : Bool) (requests : List (Option Held)) (m : MessageOf) (head : PldmHead) (read : Result CommandOf ℕ)
    → DifferIf (read_calls_bank device_core quiet h.core read) (takes_read device_core quiet false h requests m head read) (takes_read device_core quiet true h requests m head read)
read_depends h quiet requests m head (Ok c) =
    differ_through (λ t. t.answer) (taken_by h c requests m head) answer_given (command_calls_bank h.core.device c quiet)
    (device_take h.core.device c quiet false) (device_take h.core.device c quiet true) refl refl (commands_differ h.core.device c quiet)
read_depends h quiet requests m head (Err code) = refl

-- a new request, of this PLDM type or of another
request_depends : (h : HalfOf TimedDevice) (is_update : Bool) (requests : List (Option Held)) (m : MessageOf) (head : PldmHead) (body : List ℕ)
    → DifferIf (is_update && read_calls_bank device_core (is_quiet h.asker.caller) h.core (read_by device_core head.command body))
    (takes_if is_update device_core false h requests m head body) (takes_if is_update device_core true h requests m head body)
request_depends h true requests m head body = read_depends h (is_quiet h.asker.caller) requests m head (read_by device_core head.command body)
request_depends h false requests m head body = refl

-- by the rows of both ends
rows_depend : (h : HalfOf TimedDevice) (a : AskerRow) (t : TakerRow)
    → DifferIf (incoming_calls_bank device_core h (incoming a t)) (half_on_rows device_core false h a t) (half_on_rows device_core true h a t)
rows_depend h (AskerRow.Learns replies caller heard) t =
    differ_through (λ l. has_failed l.after.phase) (learnt_by h replies caller) work_failed (answer_calls_bank h.core.device (answer_or (answer_read heard.command heard.reply)))
    (learn_at h.core.device h.core.device.phase (answer_or (answer_read heard.command heard.reply)) false)
    (learn_at h.core.device h.core.device.phase (answer_or (answer_read heard.command heard.reply)) true)
    refl refl (answers_differ h.core.device (answer_or (answer_read heard.command heard.reply)))
rows_depend h (AskerRow.Ignores replies) (TakerRow.TakesUp requests m head body) =
    request_depends (record h { asker = record h.asker { replies = replies } }) (head.pldm_type == 5) requests m head body
rows_depend h (AskerRow.Ignores replies) (TakerRow.Silent requests) = refl
rows_depend h (AskerRow.Ignores replies) (TakerRow.Repeats requests answer) = refl
rows_depend h (AskerRow.Ignores replies) (TakerRow.Strays requests m) = refl

pub packets_depend : PacketsDependOnCalls
packets_depend h bytes = rows_depend h (asker_row h.unit h.own h.peer h.asker bytes) (taker_row h.unit h.own h.peer h.taker bytes)
