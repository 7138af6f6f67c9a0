-- The output of serving lines. `serves s line t text` says that a server `s` serves a line, is `t`
-- afterwards, and prints `text`; `may_lack` is whether memory may be refused to it.
use Rattle.std.specs.Prelude.{ℕ, ◌≡◌, ◌≢◌, ◌⊎◌, ◌^◌, Bool, false, true, List, Option, Result, Ok, Err}
use Rattle.std.specs.Io.KnownBytes.{append_known}
use Rattle.fwupd_base.specs.Serving.{ServeErr, ServeOk, ServeWriteErr}
use Rattle.fwupd_base.specs.declared.stream.AnswerFault.{AnswerFault}
use Rattle.fwupd_base.specs.declared.stream.AnswerFault.TheVariants as answers
use Rattle.fwupd_watch.specs.Outputs.{OutputOf}

-- the input that isn't read yet, and the output
pub record StreamsOf : Type 0 where
  pub input : Option (List ℕ)
  pub output : OutputOf

-- the most bytes that are read
abbrev pub line_bound : ℕ
line_bound = 2 ^ 40

-- All input is served, and no write failed.
pub record ServesAll {S : Type 0} (serves : S → List ℕ → S → List ℕ → Type 0) (s t : S) (before now : StreamsOf) : Type 0 where
  pub intact : before.output.is_broken ≡ false
  pub whole : now.output.is_broken ≡ false
  pub served : ServeOk serves line_bound s t before.input now.input before.output.written now.output.written

-- the state for a result of serving
abbrev pub IsServed : {S : Type 0} → (S → List ℕ → S → List ℕ → Type 0) → (may_lack : Bool) → (s t : S) → Result Unit AnswerFault → (read_before read_now written_before written_now : Option (List ℕ)) → Type 0
IsServed serves may_lack s t (Ok _) read_before read_now written_before written_now = ServeOk serves line_bound s t read_before read_now written_before written_now
IsServed serves may_lack s t (Err answers.Write) read_before read_now written_before written_now = ServeWriteErr serves line_bound s t read_before read_now written_before written_now
IsServed serves may_lack s t (Err fault) read_before read_now written_before written_now = ServeErr serves may_lack line_bound s t fault read_before read_now written_before written_now

-- The reader failed, or memory was refused: the lines before are served, and what they print is
-- written.
pub record ServingStops {S : Type 0} (serves : S → List ℕ → S → List ℕ → Type 0) (may_lack : Bool) (s t : S) (fault : AnswerFault) (before now : StreamsOf) : Type 0 where
  pub other : fault ≢ answers.Write
  pub intact : before.output.is_broken ≡ false
  pub whole : now.output.is_broken ≡ false
  pub stopped : ServeErr serves may_lack line_bound s t fault before.input now.input before.output.written now.output.written

-- A write failed. The written bytes, with those still held back, are what the lines so far print.
pub record ServingBreaks {S : Type 0} (serves : S → List ℕ → S → List ℕ → Type 0) (may_lack : Bool) (s t : S) (fault : AnswerFault) (before now : StreamsOf) : Type 0 where
  pub is : fault ≡ answers.Write
  pub intact : before.output.is_broken ≡ false
  pub failed : now.output.is_broken ≡ true
  pub end : Result Unit AnswerFault
  pub held : List ℕ
  pub served : IsServed serves may_lack s t end before.input now.input before.output.written (append_known now.output.written held)

-- A write had failed before: nothing is read, served or written.
pub record ServingShut {S : Type 0} (s t : S) (fault : AnswerFault) (before now : StreamsOf) : Type 0 where
  pub is : fault ≡ answers.Write
  pub shut : before.output.is_broken ≡ true
  pub kept : t ≡ s
  pub unread : now.input ≡ before.input
  pub same : now.output ≡ before.output

-- The result of serving that failed.
abbrev pub ServingEnds : {S : Type 0} → (S → List ℕ → S → List ℕ → Type 0) → (may_lack : Bool) → (s t : S) → AnswerFault → (before now : StreamsOf) → Type 0
ServingEnds serves may_lack s t fault before now =
    ServingStops serves may_lack s t fault before now ⊎ (ServingBreaks serves may_lack s t fault before now ⊎ ServingShut s t fault before now)
