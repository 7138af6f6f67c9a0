-- The behavior of `fwupd answer` on a text that it reads in pieces.
use Rattle.std.specs.Prelude.{ℕ, ◌≡◌, ◌≢◌, ◌≤◌, ◌<◌, ◌+◌, ◌*◌, ◌⊎◌, List, [], ◌∷◌, ◌++◌, length, take, Option}
use Rattle.std.specs.Io.KnownBytes.{Appends, Consumes, IsAtEnd}
use Rattle.mctp_ctl.specs.declared.answers.Endpoint.{Endpoint}
use Rattle.fwupd_base.specs.Answers.{answers_of, lines_text, text_for_line, tid_along}
use Rattle.fwupd_base.specs.Lines.{lines_with_ends, AreLines, IsOneLine}
use Rattle.fwupd_base.specs.declared.stream.AnswerFault.{AnswerFault}
use Rattle.fwupd_base.specs.declared.stream.AnswerFault.TheVariants.{Read}

-- The reader is at its end, and the answers to its text are written. If a reader's bytes aren't
-- known, it gave some text.
pub record AnswerOk (e : Endpoint) (read_before read_now written_before written_now : Option (List ℕ)) : Type 0 where
  pub text : List ℕ
  pub most : length text ≤ 16777216
  pub read : Consumes read_before read_now text
  pub end : IsAtEnd read_now
  pub written : Appends written_before written_now (answers_of e text)

-- A run stopped for this fault, which isn't the writer's. The whole lines of the text that it read
-- are answered. The rest is less than a line: a part without a line feed, and the byte past the
-- limit if that stopped the run.
pub record AnswerErr (e : Endpoint) (fault : AnswerFault) (read_before read_now written_before written_now : Option (List ℕ)) : Type 0 where
  pub lines : List (List ℕ)
  pub each : AreLines lines
  pub part : List ℕ
  pub one : IsOneLine part
  pub past : List ℕ
  pub within : length (lines_with_ends lines ++ part) ≤ 16777216
  pub limit : past ≢ [] → (fault ≡ Read) × (length past ≡ 1) × (length (lines_with_ends lines ++ part) ≡ 16777216)
  pub read : Consumes read_before read_now ((lines_with_ends lines ++ part) ++ past)
  pub written : Appends written_before written_now (lines_text e 0 lines)

-- a beginning of the piece was written
pub record WritesBeginning (before now : Option (List ℕ)) (piece : List ℕ) : Type 0 where
  pub count : ℕ
  pub written : Appends before now (take count piece)

-- a line ends here
abbrev pub IsAtLineEnd : List ℕ → Type 0
IsAtLineEnd [] = Unit {0}
IsAtLineEnd (b ∷ _) = b ≡ 10

-- A write failed. The lines of a text up to some line are answered, and a beginning of the next
-- answer is written.
pub record BreaksOffAnswer (e : Endpoint) (text : List ℕ) (before now : Option (List ℕ)) : Type 0 where
  pub lines : List (List ℕ)
  pub each : AreLines lines
  pub line : List ℕ
  pub one : IsOneLine line
  pub rest : List ℕ
  pub whole : IsAtLineEnd rest
  pub is : text ≡ lines_with_ends lines ++ (line ++ rest)
  pub count : ℕ
  pub written : Appends before now (lines_text e 0 lines ++ take count (text_for_line e (tid_along e 0 lines) line))

-- A write failed, and this holds for the text that was read, without the byte past the limit.
pub record AnswerWriteErr (e : Endpoint) (read_before read_now written_before written_now : Option (List ℕ)) : Type 0 where
  pub text : List ℕ
  pub past : List ℕ
  pub within : length text ≤ 16777216
  pub most : length past ≤ 1
  pub read : Consumes read_before read_now (text ++ past)
  pub off : BreaksOffAnswer e text written_before written_now

-- There was no room for `most` more digits than are held, or none for the bytes that they encode
-- together.
abbrev pub LacksDigitRoom : (digits most room spelled : ℕ) → Type 0
LacksDigitRoom digits most room spelled = (room < digits + most) ⊎ (2 * spelled < digits + most + 2)
