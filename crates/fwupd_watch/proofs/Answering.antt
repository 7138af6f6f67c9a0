-- The state of the answers.
use Rattle.std.proofs.Common.{◌≡◌, ◌≢◌, ◌++◌, ◌∙◌, ℕ, List, [], false, true, Option, Some, None, Result, Ok, Err, inl, inr, append-nil, ap, take, subst, sym, refl}
use Rattle.std.specs.Prelude.{IfErr, OnOk}
use Rattle.std.specs.Io.KnownBytes.{Appends, Keeps, append_known}
use Rattle.mctp_ctl.specs.declared.answers.Endpoint.{Endpoint}
use Rattle.fwupd_base.specs.Answers.{answers_of, lines_text, text_for_line, tid_along}
use Rattle.fwupd_base.specs.Stream.{AnswerOk, AnswerWriteErr, BreaksOffAnswer, AnswerErr}
use Rattle.fwupd_base.specs.declared.stream.AnswerFault.{AnswerFault}
use Rattle.fwupd_base.specs.declared.stream.AnswerFault.TheVariants as answers
use Rattle.fwupd_watch.specs.Answering.{AnswerEnds, IsAnswered}
use Rattle.fwupd_watch.specs.Outputs.{OutputOf}
use Rattle.fwupd_watch.specs.declared.faults.JobFault.TheVariants as faults

-- nothing is held back
pub held_none : (known : Option (List ℕ)) (held : List ℕ) → held ≡ [] → append_known known held ≡ known
held_none None held e = refl
held_none (Some xs) held e = ap Some (ap (λ ys. xs ++ ys) e ∙ append-nil xs)

-- appended bytes stay if they are kept
pub appends_kept : (before w v : Option (List ℕ)) (text : List ℕ) → Appends before w text → Keeps w v → Appends before v text
appends_kept None w v text h k = tt
appends_kept (Some xs) None v text h k = absurd h
appends_kept (Some xs) (Some ys) None text h k = absurd k
appends_kept (Some xs) (Some ys) (Some zs) text h k = k ∙ h

all_kept : (e : Endpoint) (rb rn before w v : Option (List ℕ)) → AnswerOk e rb rn before w → Keeps w v → AnswerOk e rb rn before v
all_kept e rb rn before w v h k = record { text = h.text; most = h.most; read = h.read; end = h.end; written = appends_kept before w v (answers_of e h.text) h.written k }

stopped_kept : (e : Endpoint) (fault : AnswerFault) (rb rn before w v : Option (List ℕ)) → AnswerErr e fault rb rn before w → Keeps w v → AnswerErr e fault rb rn before v
stopped_kept e fault rb rn before w v h k = record {
  lines = h.lines;
  each = h.each;
  part = h.part;
  one = h.one;
  past = h.past;
  within = h.within;
  limit = h.limit;
  read = h.read;
  written = appends_kept before w v (lines_text e 0 h.lines) h.written k;
}

off_kept : (e : Endpoint) (text : List ℕ) (before w v : Option (List ℕ)) → BreaksOffAnswer e text before w → Keeps w v → BreaksOffAnswer e text before v
off_kept e text before w v h k = record {
  lines = h.lines;
  each = h.each;
  line = h.line;
  one = h.one;
  rest = h.rest;
  whole = h.whole;
  is = h.is;
  count = h.count;
  written = appends_kept before w v (lines_text e 0 h.lines ++ take h.count (text_for_line e (tid_along e 0 h.lines) h.line)) h.written k;
}

broken_kept : (e : Endpoint) (rb rn before w v : Option (List ℕ)) → AnswerWriteErr e rb rn before w → Keeps w v → AnswerWriteErr e rb rn before v
broken_kept e rb rn before w v h k = record {
  text = h.text;
  past = h.past;
  within = h.within;
  most = h.most;
  read = h.read;
  off = off_kept e h.text before w v h.off k;
}

-- the state of the answers stays if the written bytes are kept
answered_kept : (e : Endpoint) (end : Result Unit AnswerFault) (rb rn before w v : Option (List ℕ)) → IsAnswered e end rb rn before w → Keeps w v → IsAnswered e end rb rn before v
answered_kept e (Ok u) rb rn before w v h k = all_kept e rb rn before w v h k
answered_kept e (Err answers.Read) rb rn before w v h k = stopped_kept e answers.Read rb rn before w v h k
answered_kept e (Err answers.Write) rb rn before w v h k = broken_kept e rb rn before w v h k
answered_kept e (Err answers.Memory) rb rn before w v h k = stopped_kept e answers.Memory rb rn before w v h k

-- the clauses of a run of answers, joined
pub answered_so : (e : Endpoint) (end : Result Unit AnswerFault) (rb rn before w : Option (List ℕ))
    → OnOk end (AnswerOk e rb rn before w)
    → IfErr end (λ f. f ≢ answers.Write → AnswerErr e f rb rn before w)
    → IfErr end (λ f. f ≡ answers.Write → AnswerWriteErr e rb rn before w)
    → IsAnswered e end rb rn before w
answered_so e (Ok u) rb rn before w ok stopped broken = ok
answered_so e (Err answers.Read) rb rn before w ok stopped broken = stopped (λ h. cc)
answered_so e (Err answers.Write) rb rn before w ok stopped broken = broken refl
answered_so e (Err answers.Memory) rb rn before w ok stopped broken = stopped (λ h. cc)

-- a write failed
pub answers_break : (e : Endpoint) (end : Result Unit AnswerFault) (rb rn known w : Option (List ℕ)) (before now : OutputOf) (kept held : List ℕ)
    → before.is_broken ≡ false → before.written ≡ known → kept ≡ [] → now.is_broken ≡ true → IsAnswered e end rb rn (append_known known kept) w
    → Keeps w (append_known now.written held) → AnswerEnds e rb rn (faults.Answer answers.Write) before now
answers_break e end rb rn known w before now kept held intact is none failed h k = inr (inl (record {
  is = refl;
  intact = intact;
  failed = failed;
  end = end;
  held = held;
  answered =
      answered_kept e end rb rn before.written w (append_known now.written held)
      (subst (λ o. IsAnswered e end rb rn o w) (held_none known kept none ∙ sym is) h) k;
}))

-- no write failed
answers_stop : (e : Endpoint) (fault : AnswerFault) (rb rn known w : Option (List ℕ)) (before now : OutputOf) (kept held : List ℕ)
    → before.is_broken ≡ false → before.written ≡ known → kept ≡ [] → held ≡ [] → now.is_broken ≡ false → AnswerErr e fault rb rn (append_known known kept) w
    → Keeps w (append_known now.written held) → fault ≢ answers.Write → AnswerEnds e rb rn (faults.Answer fault) before now
answers_stop e fault rb rn known w before now kept held intact is none all whole h k other = inl (record {
  fault = fault;
  is = refl;
  other = other;
  intact = intact;
  whole = whole;
  stopped =
      subst (λ o. AnswerErr e fault rb rn before.written o) (held_none now.written held all)
      (stopped_kept e fault rb rn before.written w (append_known now.written held)
      (subst (λ o. AnswerErr e fault rb rn o w) (held_none known kept none ∙ sym is) h) k);
})

pub answers_end : (e : Endpoint) (fault : AnswerFault) (rb rn known w : Option (List ℕ)) (before now : OutputOf) (kept held : List ℕ)
    → before.is_broken ≡ false → before.written ≡ known → kept ≡ [] → held ≡ [] → (fault ≡ answers.Write → now.is_broken ≡ true) → (fault ≢ answers.Write → now.is_broken ≡ false)
    → IsAnswered e (Err fault) rb rn (append_known known kept) w → Keeps w (append_known now.written held) → AnswerEnds e rb rn (faults.Answer fault) before now
answers_end e answers.Write rb rn known w before now kept held intact is none all failed whole h k =
    answers_break e (Err answers.Write) rb rn known w before now kept held intact is none (failed refl) h k
answers_end e answers.Read rb rn known w before now kept held intact is none all failed whole h k =
    answers_stop e answers.Read rb rn known w before now kept held intact is none all (whole (λ x. cc)) h k (λ x. cc)
answers_end e answers.Memory rb rn known w before now kept held intact is none all failed whole h k =
    answers_stop e answers.Memory rb rn known w before now kept held intact is none all (whole (λ x. cc)) h k (λ x. cc)
