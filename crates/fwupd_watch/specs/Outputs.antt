-- The output of a job's report.
use Rattle.std.specs.Prelude.{ℕ, ◌≡◌, Bool, false, true, List, Option}
use Rattle.std.specs.Io.KnownBytes.{Appends}
use Rattle.fwupd_base.specs.Stream.{WritesBeginning}

-- Whether a write failed, and the written bytes, if they are known.
pub record OutputOf : Type 0 where
  pub is_broken : Bool
  pub written : Option (List ℕ)

-- This text was written, and no write had failed before.
pub record WritesOutput (before now : OutputOf) (text : List ℕ) : Type 0 where
  pub intact : before.is_broken ≡ false
  pub whole : now.is_broken ≡ false
  pub written : Appends before.written now.written text

-- Its write failed, after a beginning of it; or a write had failed before, and nothing is written.
pub record FailsToWriteOutput (before now : OutputOf) (text : List ℕ) : Type 0 where
  pub failed : now.is_broken ≡ true
  pub begun : WritesBeginning before.written now.written text
  pub shut : before.is_broken ≡ true → now ≡ before
