-- A server of lines on a text that it reads in pieces. `serves s line t text` says that a server
-- `s` serves a line, is `t` afterwards, and prints `text`.
use Rattle.std.specs.Prelude.{ℕ, ◌≡◌, ◌≢◌, ◌≤◌, ◌+◌, ◌⊎◌, List, [], ◌∷◌, ◌++◌, length, take, Bool, false, Option}
use Rattle.std.specs.Io.KnownBytes.{Appends, Consumes, IsAtEnd}
use Rattle.fwupd_base.specs.Lines.{lines_of, lines_with_ends, AreLines, IsOneLine}
use Rattle.fwupd_base.specs.Stream.{IsAtLineEnd}
use Rattle.fwupd_base.specs.declared.stream.AnswerFault.{AnswerFault}
use Rattle.fwupd_base.specs.declared.stream.AnswerFault.TheVariants.{Read, Write}

-- A server serves lines, in order, and prints their texts one after another.
abbrev pub ServesLines : {S : Type 0} → (S → List ℕ → S → List ℕ → Type 0) → S → List (List ℕ) → S → List ℕ → Type 0
ServesLines serves s [] t text = (t ≡ s) × (text ≡ [])
ServesLines {S} serves s (line ∷ lines) t text =
    (mid : S) × (first : List ℕ) × (rest : List ℕ) × serves s line mid first × ServesLines serves mid lines t rest × (text ≡ first ++ rest)

-- A server served a line, and its text is written.
pub record WritesLine {S : Type 0} (serves : S → List ℕ → S → List ℕ → Type 0) (s : S) (line : List ℕ) (t : S) (before now : Option (List ℕ)) : Type 0 where
  pub text : List ℕ
  pub served : serves s line t text
  pub written : Appends before now text

-- A server served a line, and a beginning of its text is written.
pub record BreaksOffLine {S : Type 0} (serves : S → List ℕ → S → List ℕ → Type 0) (s : S) (line : List ℕ) (t : S) (before now : Option (List ℕ)) : Type 0 where
  pub text : List ℕ
  pub served : serves s line t text
  pub count : ℕ
  pub written : Appends before now (take count text)

-- The whole lines of a text are served, and `part` is the beginning of the next line.
pub record HasServedLines {S : Type 0} (serves : S → List ℕ → S → List ℕ → Type 0) (s t : S) (text : List ℕ) (before now : Option (List ℕ)) (part : List ℕ) : Type 0 where
  pub lines : List (List ℕ)
  pub each : AreLines lines
  pub one : IsOneLine part
  pub is : text ≡ lines_with_ends lines ++ part
  pub printed : List ℕ
  pub served : ServesLines serves s lines t printed
  pub written : Appends before now printed

-- Lines from the beginning of a text are served, and nothing of the next line is written.
pub record StopsAtLine {S : Type 0} (serves : S → List ℕ → S → List ℕ → Type 0) (s : S) (text : List ℕ) (before now : Option (List ℕ)) : Type 0 where
  pub lines : List (List ℕ)
  pub each : AreLines lines
  pub rest : List ℕ
  pub is : text ≡ lines_with_ends lines ++ rest
  pub after : S
  pub printed : List ℕ
  pub served : ServesLines serves s lines after printed
  pub written : Appends before now printed

-- A line at the beginning of a text is served, and a beginning of what it prints is written after
-- `printed`.
pub record BreaksOffNext {S : Type 0} (serves : S → List ℕ → S → List ℕ → Type 0) (s t : S) (text : List ℕ) (before now : Option (List ℕ)) (printed : List ℕ) : Type 0 where
  pub line : List ℕ
  pub one : IsOneLine line
  pub rest : List ℕ
  pub whole : IsAtLineEnd rest
  pub is : text ≡ line ++ rest
  pub last : List ℕ
  pub next : serves s line t last
  pub count : ℕ
  pub written : Appends before now (printed ++ take count last)

-- A write failed. Lines from the beginning of a text are served. Either these are all, and nothing
-- was written after what they print, or the next line is served too, and a beginning of what it
-- prints is written.
pub record BreaksOffText {S : Type 0} (serves : S → List ℕ → S → List ℕ → Type 0) (s t : S) (text : List ℕ) (before now : Option (List ℕ)) : Type 0 where
  pub lines : List (List ℕ)
  pub each : AreLines lines
  pub rest : List ℕ
  pub is : text ≡ lines_with_ends lines ++ rest
  pub mid : S
  pub printed : List ℕ
  pub served : ServesLines serves s lines mid printed
  pub off : (IsOneLine rest × (t ≡ mid) × Appends before now printed) ⊎ BreaksOffNext serves mid t rest before now printed

-- Each line of a text is served.
pub record ServesText {S : Type 0} (serves : S → List ℕ → S → List ℕ → Type 0) (s t : S) (text : List ℕ) (before now : Option (List ℕ)) : Type 0 where
  pub printed : List ℕ
  pub served : ServesLines serves s (lines_of text) t printed
  pub written : Appends before now printed

-- The reader is at its end, and each line of its text is served.
pub record ServeOk {S : Type 0} (serves : S → List ℕ → S → List ℕ → Type 0) (bound : ℕ) (s t : S) (read_before read_now written_before written_now : Option (List ℕ)) : Type 0 where
  pub text : List ℕ
  pub most : length text ≤ bound
  pub read : Consumes read_before read_now text
  pub end : IsAtEnd read_now
  pub served : ServesText serves s t text written_before written_now

-- A run stopped for this fault, which isn't the writer's. Lines from the beginning of the text that
-- it read are served, and nothing of the next line is written. If the reader failed or had more
-- bytes than a run reads, or memory is never refused to the server, these are all whole lines.
pub record ServeErr {S : Type 0} (serves : S → List ℕ → S → List ℕ → Type 0) (may_lack : Bool) (bound : ℕ) (s t : S) (fault : AnswerFault) (read_before read_now written_before written_now : Option (List ℕ)) : Type 0 where
  pub lines : List (List ℕ)
  pub each : AreLines lines
  pub rest : List ℕ
  pub past : List ℕ
  pub within : length (lines_with_ends lines ++ rest) ≤ bound
  pub most : length past ≤ 1
  pub limit : past ≢ [] → length (lines_with_ends lines ++ rest) ≡ bound
  pub read : Consumes read_before read_now ((lines_with_ends lines ++ rest) ++ past)
  pub mid : S
  pub printed : List ℕ
  pub served : ServesLines serves s lines mid printed
  pub written : Appends written_before written_now printed
  pub all : (fault ≡ Read) ⊎ (may_lack ≡ false) → IsOneLine rest × (t ≡ mid) × (past ≢ [] → fault ≡ Read)

-- A write failed, and this holds for the text that was read, without the byte past the limit.
pub record ServeWriteErr {S : Type 0} (serves : S → List ℕ → S → List ℕ → Type 0) (bound : ℕ) (s t : S) (read_before read_now written_before written_now : Option (List ℕ)) : Type 0 where
  pub text : List ℕ
  pub past : List ℕ
  pub within : length text ≤ bound
  pub most : length past ≤ 1
  pub read : Consumes read_before read_now (text ++ past)
  pub off : BreaksOffText serves s t text written_before written_now

-- `count` bytes were read. Each whole line of them, without the byte past the limit, is served, and
-- `part` follows the lines.
pub record ServesPart {S : Type 0} (serves : S → List ℕ → S → List ℕ → Type 0) (bound : ℕ) (s t : S) (count : ℕ) (read_before read_now written_before written_now : Option (List ℕ)) (part : List ℕ) : Type 0 where
  pub text : List ℕ
  pub past : List ℕ
  pub within : length text ≤ bound
  pub limit : past ≢ [] → (length past ≡ 1) × (length text ≡ bound)
  pub size : length text + length past ≡ count
  pub read : Consumes read_before read_now (text ++ past)
  pub stands : HasServedLines serves s t text written_before written_now part
