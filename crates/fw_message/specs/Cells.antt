-- The view of a cell, whose answer is kept as the bytes that were written.
use Rattle.std.specs.Prelude.{ℕ, List, Option, Some, None, IsSome}
use Rattle.fwup_wire.specs.Answers.{answer_in}
use Rattle.fwup_wire.specs.Commands.{command_code}
use Rattle.fwup_wire.specs.Values.{AnswerOf, CommandOf}

-- the answer that these bytes encode
abbrev pub answer_kept : CommandOf → Option (List ℕ) → Option AnswerOf
answer_kept c None = None
answer_kept c (Some bytes) = answer_in (command_code c) bytes

-- the bytes encode an answer
abbrev pub IsAnswerBytes : CommandOf → Option (List ℕ) → Type 0
IsAnswerBytes c None = Unit {0}
IsAnswerBytes c (Some bytes) = IsSome (answer_in (command_code c) bytes)
