-- The answers of an endpoint without a device, from the lines that it serves.
use Rattle.std.proofs.Common.{inl, inr, ◌≡◌, ◌≢◌, ◌≤◌, ◌∙◌, ℕ, List, [], ◌∷◌, ◌++◌, length, take, refl, sym, ap, subst, append-nil, arith, false, IfErr, OnOk, Result, Option}
use Rattle.std.specs.Io.KnownBytes.{Appends}
use Rattle.mctp_ctl.specs.declared.answers.Endpoint.{Endpoint}
use Rattle.fwupd_base.specs.Answering.{AnswersLine}
use Rattle.fwupd_base.specs.Answers.{answers_of, lines_text, text_for_line, tid_after_line, tid_along}
use Rattle.fwupd_base.specs.Lines.{AreLines, lines_of, lines_with_ends}
use Rattle.fwupd_base.specs.Serving.{BreaksOffNext, BreaksOffText, ServeErr, ServeOk, ServesLines, ServeWriteErr}
use Rattle.fwupd_base.specs.Stream.{AnswerErr, AnswerOk, AnswerWriteErr, BreaksOffAnswer}
use Rattle.fwupd_base.specs.declared.responder.Responder.{Responder}
use Rattle.fwupd_base.specs.declared.stream.AnswerFault.{AnswerFault}
use Rattle.fwupd_base.specs.declared.stream.AnswerServer.{AnswerServer}
use Rattle.fwupd_base.proofs.Streams.{nonempty}

-- the server's relation
abbrev pub answers : AnswerServer → List ℕ → AnswerServer → List ℕ → Type 0
answers s line t text = AnswersLine s.responder line t.responder text

-- what lines print, and the responder after them
record Answered (e : Endpoint) (tid : ℕ) (lines : List (List ℕ)) (t : AnswerServer) (printed : List ℕ) : Type 0 where
  text : printed ≡ lines_text e tid lines
  after : t.responder ≡ record { endpoint = e; tid = tid_along e tid lines }

answered : (e : Endpoint) (tid : ℕ) (s t : AnswerServer) (lines : List (List ℕ)) (printed : List ℕ) → s.responder ≡ record { endpoint = e; tid = tid } → ServesLines answers s lines t printed → Answered e tid lines t printed
answered e tid s t [] printed is h = record { text = h.1; after = ap (λ x. x.responder) h.0 ∙ is }
answered e tid s t (line ∷ lines) printed is h =
    let first : h.1 ≡ text_for_line e tid line = h.3.printed ∙ ap (λ r. text_for_line r.endpoint r.tid line) is in
    let next = h.3.after ∙ ap (λ (r : Responder). record r { tid = tid_after_line r.endpoint r.tid line }) is in
    let rest = answered e (tid_after_line e tid line) h.0 t lines h.2 next h.4 in
    record {
      text = h.5 ∙ ap (λ x. x ++ h.2) first ∙ ap (λ y. text_for_line e tid line ++ y) rest.text;
      after = rest.after;
    }

pub answer_ok : (e : Endpoint) (m : ℕ) (s t : AnswerServer) (a c w z : Option (List ℕ)) → m ≡ 16777216 → s.responder ≡ record { endpoint = e; tid = 0 } → ServeOk answers m s t a c w z → AnswerOk e a c w z
answer_ok e m s t a c w z bound is h = record {
  text = h.text;
  most = rw bound at h.most;
  read = h.read;
  end = h.end;
  written = subst (Appends w z) (answered e 0 s t (lines_of h.text) h.served.printed is h.served.served).text h.served.written;
}

pub answer_err : (e : Endpoint) (m : ℕ) (s t : AnswerServer) (fault : AnswerFault) (a c w z : Option (List ℕ)) → m ≡ 16777216 → s.responder ≡ record { endpoint = e; tid = 0 } → ServeErr answers false m s t fault a c w z
    → AnswerErr e fault a c w z
answer_err e m s t fault a c w z bound is h =
    let all = h.all (inr refl) in
    record {
      lines = h.lines;
      each = h.each;
      part = h.rest;
      one = all.0;
      past = h.past;
      within = rw bound at h.within;
      limit = λ some. (all.2 some, (let more = nonempty h.past some in omega (arith, more, h.most)), h.limit some ∙ bound);
      read = h.read;
      written = subst (Appends w z) (answered e 0 s h.mid h.lines h.printed is h.served).text h.written;
    }

breaks_next : (e : Endpoint) (s t mid : AnswerServer) (lines : List (List ℕ)) (text rest printed : List ℕ) (w z : Option (List ℕ)) → AreLines lines → text ≡ lines_with_ends lines ++ rest
    → Answered e 0 lines mid printed → BreaksOffNext answers mid t rest w z printed → BreaksOffAnswer e text w z
breaks_next e s t mid lines text rest printed w z each is before k = record {
  lines = lines;
  each = each;
  line = k.line;
  one = k.one;
  rest = k.rest;
  whole = k.whole;
  is = is ∙ ap (λ x. lines_with_ends lines ++ x) k.is;
  count = k.count;
  written =
      let last : k.last ≡ text_for_line e (tid_along e 0 lines) k.line = k.next.printed ∙ ap (λ r. text_for_line r.endpoint r.tid k.line) before.after in
      subst (λ x. Appends w z (x ++ take k.count (text_for_line e (tid_along e 0 lines) k.line))) before.text
      (subst (λ x. Appends w z (printed ++ take k.count x)) last k.written);
}

breaks : (e : Endpoint) (s t : AnswerServer) (text : List ℕ) (w z : Option (List ℕ)) → s.responder ≡ record { endpoint = e; tid = 0 } → BreaksOffText answers s t text w z → BreaksOffAnswer e text w z
breaks e s t text w z is h =
    let before = answered e 0 s h.mid h.lines h.printed is h.served in
    elim h.off [
      | inl none ↦ record {
        lines = h.lines;
        each = h.each;
        line = h.rest;
        one = none.0;
        rest = [];
        whole = tt;
        is = h.is ∙ ap (λ x. lines_with_ends h.lines ++ x) (sym (append-nil h.rest));
        count = 0;
        written = subst (Appends w z) (before.text ∙ sym (append-nil (lines_text e 0 h.lines))) none.2;
      }
      | inr k ↦ breaks_next e s t h.mid h.lines text h.rest h.printed w z h.each h.is before k
    ]

pub answer_write_err : (e : Endpoint) (m : ℕ) (s t : AnswerServer) (a c w z : Option (List ℕ)) → m ≡ 16777216 → s.responder ≡ record { endpoint = e; tid = 0 } → ServeWriteErr answers m s t a c w z → AnswerWriteErr e a c w z
answer_write_err e m s t a c w z bound is h = record {
  text = h.text;
  past = h.past;
  within = rw bound at h.within;
  most = h.most;
  read = h.read;
  off = breaks e s t h.text w z is h.off;
}
