-- The output of answering packets.
use Rattle.std.specs.Prelude.{ℕ, ◌≡◌, ◌≢◌, ◌⊎◌, false, true, List, Option, Result, Ok, Err}
use Rattle.std.specs.Io.KnownBytes.{append_known}
use Rattle.mctp_ctl.specs.declared.answers.Endpoint.{Endpoint}
use Rattle.fwupd_base.specs.Stream.{AnswerOk, AnswerWriteErr, AnswerErr}
use Rattle.fwupd_base.specs.declared.stream.AnswerFault.{AnswerFault}
use Rattle.fwupd_base.specs.declared.stream.AnswerFault.TheVariants as answers
use Rattle.fwupd_watch.specs.Outputs.{OutputOf}
use Rattle.fwupd_watch.specs.declared.faults.JobFault.{JobFault}
use Rattle.fwupd_watch.specs.declared.faults.JobFault.TheVariants as faults

-- All input is answered, and no write failed.
pub record AnswersAll (e : Endpoint) (read_before read_now : Option (List ℕ)) (before now : OutputOf) : Type 0 where
  pub intact : before.is_broken ≡ false
  pub whole : now.is_broken ≡ false
  pub answered : AnswerOk e read_before read_now before.written now.written

-- the state of the answers for a result of answering
abbrev pub IsAnswered : Endpoint → Result Unit AnswerFault → (read_before read_now written_before written_now : Option (List ℕ)) → Type 0
IsAnswered e (Ok _) read_before read_now written_before written_now = AnswerOk e read_before read_now written_before written_now
IsAnswered e (Err answers.Write) read_before read_now written_before written_now = AnswerWriteErr e read_before read_now written_before written_now
IsAnswered e (Err fault) read_before read_now written_before written_now = AnswerErr e fault read_before read_now written_before written_now

-- The reader failed, or memory was refused: each whole line before is answered, and the answers are
-- written.
pub record AnswersStop (e : Endpoint) (read_before read_now : Option (List ℕ)) (told : JobFault) (before now : OutputOf) : Type 0 where
  pub fault : AnswerFault
  pub is : told ≡ faults.Answer fault
  pub other : fault ≢ answers.Write
  pub intact : before.is_broken ≡ false
  pub whole : now.is_broken ≡ false
  pub stopped : AnswerErr e fault read_before read_now before.written now.written

-- A write failed. The written bytes, with those still held back, are the answers so far.
pub record AnswersBreak (e : Endpoint) (read_before read_now : Option (List ℕ)) (told : JobFault) (before now : OutputOf) : Type 0 where
  pub is : told ≡ faults.Answer answers.Write
  pub intact : before.is_broken ≡ false
  pub failed : now.is_broken ≡ true
  pub end : Result Unit AnswerFault
  pub held : List ℕ
  pub answered : IsAnswered e end read_before read_now before.written (append_known now.written held)

-- A write had failed before: nothing is read or written.
pub record AnswersShut (read_before read_now : Option (List ℕ)) (told : JobFault) (before now : OutputOf) : Type 0 where
  pub is : told ≡ faults.Answer answers.Write
  pub shut : before.is_broken ≡ true
  pub same : now ≡ before
  pub unread : read_now ≡ read_before

-- The result of answering that failed.
abbrev pub AnswerEnds : Endpoint → (read_before read_now : Option (List ℕ)) → JobFault → (before now : OutputOf) → Type 0
AnswerEnds e read_before read_now told before now =
    AnswersStop e read_before read_now told before now
    ⊎ (AnswersBreak e read_before read_now told before now ⊎ AnswersShut read_before read_now told before now)
