-- Lines show what was encoded.
use Rattle.std.proofs.Common.{◌≡◌, ◌++◌, ℕ, List, Ok, Some, codes, if◌then◌else◌, true, false, refl, arith}
use Rattle.pldm_base.specs.Header.{ReadsMessages, WritesMessages, pldm_bytes, pldm_of}
use Rattle.pldm_base.specs.declared.header.PldmHead.{PldmHead}
use Rattle.fwup_wire.specs.Answers.{answer_bytes, answer_code, answer_in}
use Rattle.fwup_wire.specs.Commands.{command_bytes, command_code, command_read}
use Rattle.fwup_wire.specs.Laws.{WritesAnswers, WritesCommands}
use Rattle.fwup_wire.specs.Values.{AnswerOf, CommandOf}
use Rattle.fw_trace.specs.Answers.{answer_fields, update_answer}
use Rattle.fw_trace.specs.Commands.{command_fields, update_request}
use Rattle.fw_trace.specs.Laws.{ShowsAnswers, ShowsCommands, command_name, update_head}
use Rattle.fw_trace.specs.Messages.{message_text, pldm_answer, pldm_request}
use Rattle.fw_trace.specs.Names.{name_or_digits, update_code, update_command}

-- a command's own code has its name
named : (c : CommandOf) → name_or_digits (update_command (command_code c)) (command_code c) ≡ codes " " ++ command_name c
named CommandOf.QueryDeviceIdentifiers = refl
named CommandOf.GetFirmwareParameters = refl
named (CommandOf.RequestUpdate _) = refl
named (CommandOf.PassComponentTable _) = refl
named (CommandOf.UpdateComponent _) = refl
named (CommandOf.RequestFirmwareData _ _) = refl
named (CommandOf.TransferComplete _) = refl
named (CommandOf.VerifyComplete _) = refl
named (CommandOf.ApplyComplete _ _) = refl
named (CommandOf.ActivateFirmware _) = refl
named CommandOf.GetStatus = refl
named CommandOf.CancelUpdateComponent = refl
named CommandOf.CancelUpdate = refl

-- a request's fields are those of the decoded command
asked : (c : CommandOf) → command_read (command_code c) (command_bytes c) ≡ Ok c
    → update_request (command_code c) (command_bytes c) ≡ (codes " " ++ command_name c) ++ command_fields c
unfolding update_request
asked c read = rw (named c, read) refl

-- a PLDM message is shown by its head and its body
read_as : (h : PldmHead) (body : List ℕ) → pldm_of (pldm_bytes h body) ≡ Ok (h, body)
    → message_text (pldm_bytes h body) ≡ (if h.rq then pldm_request h body else pldm_answer h body)
unfolding message_text
read_as h body read = rw read refl

pub shows_commands_law : WritesMessages → ReadsMessages → WritesCommands → ShowsCommands
unfolding pldm_request
shows_commands_law writes reads commands instance c few spoken =
    let h : PldmHead = update_head true instance (command_code c) in
    let read = reads (pldm_bytes h (command_bytes c)) h (command_bytes c) (writes h (command_bytes c) (few, omega arith)) in
    rw (read_as h (command_bytes c) read, asked c (commands c spoken.widths spoken.writable)) refl

-- an answer's fields are those of the decoded answer
answered : (command : ℕ) (a : AnswerOf) → answer_in command (answer_bytes a) ≡ Some a
    → update_answer command (answer_bytes a)
    ≡ name_or_digits (update_command command) command ++ (name_or_digits (update_code (answer_code a)) (answer_code a) ++ answer_fields a)
unfolding update_answer
answered command a read = rw read refl

pub shows_answers_law : WritesMessages → ReadsMessages → WritesAnswers → ShowsAnswers
unfolding pldm_answer
shows_answers_law writes reads answers instance command a few answers_it widths writable =
    let h : PldmHead = update_head false instance command in
    let read = reads (pldm_bytes h (answer_bytes a)) h (answer_bytes a) (writes h (answer_bytes a) (few, omega arith)) in
    rw (read_as h (answer_bytes a) read, answered command a (answers command a answers_it widths writable)) refl
