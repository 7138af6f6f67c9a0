-- The laws of reading and writing.
use Rattle.std.specs.Prelude.{IfOk, IfSome, List, Ok, Some, true, ◌≡◌, ℕ}
use Rattle.fwup_wire.specs.Commands.{HasCommandWidths, IsCommand, IsWritable, command_bytes, command_code, command_read}
use Rattle.fwup_wire.specs.Answers.{HasAnswerWidths, IsAnswer, IsAnswerWritable, answer_bytes, answer_in, answers_command}
use Rattle.fwup_wire.specs.Values.{AnswerOf, CommandOf}

-- request data are at most one command, which reading returns
abbrev pub ReadsCommands : Type 0
ReadsCommands = (command : ℕ) (fields : List ℕ) (c : CommandOf) → IsCommand command fields c → command_read command fields ≡ Ok c

-- reading returns the command that the request data are
abbrev pub ReadsOnlyCommands : Type 0
ReadsOnlyCommands = (command : ℕ) (fields : List ℕ) → IfOk (command_read command fields) (λ c. IsCommand command fields c)

-- an encoded command reads back as the same command
abbrev pub WritesCommands : Type 0
WritesCommands = (c : CommandOf) → HasCommandWidths c → IsWritable c → command_read (command_code c) (command_bytes c) ≡ Ok c

-- bytes are at most one answer to a command, which reading returns
abbrev pub ReadsAnswers : Type 0
ReadsAnswers = (command : ℕ) (bytes : List ℕ) (a : AnswerOf) → IsAnswer command bytes a → answer_in command bytes ≡ Some a

-- reading returns the answer that the bytes are
abbrev pub ReadsOnlyAnswers : Type 0
ReadsOnlyAnswers = (command : ℕ) (bytes : List ℕ) → IfSome (answer_in command bytes) (λ a. IsAnswer command bytes a)

-- an encoded answer reads back as the same answer, for each command that it can answer
abbrev pub WritesAnswers : Type 0
WritesAnswers =
    (command : ℕ) (a : AnswerOf) → answers_command command a ≡ true → HasAnswerWidths a → IsAnswerWritable a
    → answer_in command (answer_bytes a) ≡ Some a
