-- An endpoint without a device as a server of lines.
use Rattle.std.specs.Prelude.{◌≡◌, ℕ, List}
use Rattle.fwupd_base.specs.Answers.{text_for_line, tid_after_line}
use Rattle.fwupd_base.specs.declared.responder.Responder.{Responder}

-- It answers a line, and keeps the terminus identifier.
pub record AnswersLine (s : Responder) (line : List ℕ) (t : Responder) (text : List ℕ) : Type 0 where
  pub printed : text ≡ text_for_line s.endpoint s.tid line
  pub after : t ≡ record s { tid = tid_after_line s.endpoint s.tid line }
