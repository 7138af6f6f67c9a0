-- The state of served lines.
use Rattle.std.proofs.Common.{◌≡◌, ◌≢◌, ◌∙◌, ℕ, List, [], Bool, false, true, Option, Result, Ok, Err, inl, inr, take, ◌++◌, subst, sym, refl}
use Rattle.std.specs.Prelude.{IfErr, OnOk}
use Rattle.std.specs.Io.KnownBytes.{Keeps, append_known}
use Rattle.fwupd_base.specs.Serving.{BreaksOffNext, BreaksOffText, ServeErr, ServeOk, ServeWriteErr, ServesText}
use Rattle.fwupd_base.specs.declared.stream.AnswerFault.{AnswerFault}
use Rattle.fwupd_base.specs.declared.stream.AnswerFault.TheVariants as answers
use Rattle.fwupd_watch.specs.Serving.{IsServed, ServingEnds, StreamsOf, line_bound}
use Rattle.fwupd_watch.proofs.Answering.{appends_kept, held_none}

text_kept : {S : Type 0} (serves : S → List ℕ → S → List ℕ → Type 0) (s t : S) (text : List ℕ) (before w v : Option (List ℕ)) → ServesText serves s t text before w → Keeps w v → ServesText serves s t text before v
text_kept serves s t text before w v h k = record { printed = h.printed; served = h.served; written = appends_kept before w v h.printed h.written k }

next_kept : {S : Type 0} (serves : S → List ℕ → S → List ℕ → Type 0) (s t : S) (text : List ℕ) (before w v : Option (List ℕ)) (printed : List ℕ)
    → BreaksOffNext serves s t text before w printed → Keeps w v → BreaksOffNext serves s t text before v printed
next_kept serves s t text before w v printed h k = record {
  line = h.line;
  one = h.one;
  rest = h.rest;
  whole = h.whole;
  is = h.is;
  last = h.last;
  next = h.next;
  count = h.count;
  written = appends_kept before w v (printed ++ take h.count h.last) h.written k;
}

off_kept : {S : Type 0} (serves : S → List ℕ → S → List ℕ → Type 0) (s t : S) (text : List ℕ) (before w v : Option (List ℕ)) → BreaksOffText serves s t text before w → Keeps w v → BreaksOffText serves s t text before v
off_kept serves s t text before w v h k = record {
  lines = h.lines;
  each = h.each;
  rest = h.rest;
  is = h.is;
  mid = h.mid;
  printed = h.printed;
  served = h.served;
  off = elim h.off [
    | inl none ↦ inl (none.0, none.1, appends_kept before w v h.printed none.2 k)
    | inr next ↦ inr (next_kept serves h.mid t h.rest before w v h.printed next k)
  ];
}

stopped_kept : {S : Type 0} (serves : S → List ℕ → S → List ℕ → Type 0) (lack : Bool) (s t : S) (fault : AnswerFault) (rb rn before w v : Option (List ℕ))
    → ServeErr serves lack line_bound s t fault rb rn before w → Keeps w v → ServeErr serves lack line_bound s t fault rb rn before v
stopped_kept serves lack s t fault rb rn before w v h k = record {
  lines = h.lines;
  each = h.each;
  rest = h.rest;
  past = h.past;
  within = h.within;
  most = h.most;
  limit = h.limit;
  read = h.read;
  mid = h.mid;
  printed = h.printed;
  served = h.served;
  written = appends_kept before w v h.printed h.written k;
  all = h.all;
}

-- the state stays if the written bytes are kept
served_kept : {S : Type 0} (serves : S → List ℕ → S → List ℕ → Type 0) (lack : Bool) (s t : S) (end : Result Unit AnswerFault) (rb rn before w v : Option (List ℕ))
    → IsServed serves lack s t end rb rn before w → Keeps w v → IsServed serves lack s t end rb rn before v
served_kept serves lack s t (Ok u) rb rn before w v h k = record { text = h.text; most = h.most; read = h.read; end = h.end; served = text_kept serves s t h.text before w v h.served k }
served_kept serves lack s t (Err answers.Read) rb rn before w v h k = stopped_kept serves lack s t answers.Read rb rn before w v h k
served_kept serves lack s t (Err answers.Write) rb rn before w v h k = record {
  text = h.text;
  past = h.past;
  within = h.within;
  most = h.most;
  read = h.read;
  off = off_kept serves s t h.text before w v h.off k;
}
served_kept serves lack s t (Err answers.Memory) rb rn before w v h k = stopped_kept serves lack s t answers.Memory rb rn before w v h k

-- the clauses of a run, joined
pub served_so : {S : Type 0} (serves : S → List ℕ → S → List ℕ → Type 0) (lack : Bool) (s t : S) (end : Result Unit AnswerFault) (rb rn before w : Option (List ℕ))
    → OnOk end (ServeOk serves line_bound s t rb rn before w)
    → IfErr end (λ f. f ≢ answers.Write → ServeErr serves lack line_bound s t f rb rn before w)
    → IfErr end (λ f. f ≡ answers.Write → ServeWriteErr serves line_bound s t rb rn before w)
    → IsServed serves lack s t end rb rn before w
served_so serves lack s t (Ok u) rb rn before w ok stopped broken = ok
served_so serves lack s t (Err answers.Read) rb rn before w ok stopped broken = stopped (λ h. cc)
served_so serves lack s t (Err answers.Write) rb rn before w ok stopped broken = broken refl
served_so serves lack s t (Err answers.Memory) rb rn before w ok stopped broken = stopped (λ h. cc)

-- a write failed
pub serving_breaks : {S : Type 0} (serves : S → List ℕ → S → List ℕ → Type 0) (lack : Bool) (s t : S) (end : Result Unit AnswerFault) (known w : Option (List ℕ)) (before now : StreamsOf) (kept held : List ℕ)
    → before.output.is_broken ≡ false → before.output.written ≡ known → kept ≡ [] → now.output.is_broken ≡ true
    → IsServed serves lack s t end before.input now.input (append_known known kept) w
    → Keeps w (append_known now.output.written held) → ServingEnds serves lack s t answers.Write before now
serving_breaks serves lack s t end known w before now kept held intact is none failed h k = inr (inl (record {
  is = refl;
  intact = intact;
  failed = failed;
  end = end;
  held = held;
  served =
      served_kept serves lack s t end before.input now.input before.output.written w (append_known now.output.written held)
      (subst (λ o. IsServed serves lack s t end before.input now.input o w) (held_none known kept none ∙ sym is) h) k;
}))

-- no write failed
serving_stops : {S : Type 0} (serves : S → List ℕ → S → List ℕ → Type 0) (lack : Bool) (s t : S) (fault : AnswerFault) (known w : Option (List ℕ)) (before now : StreamsOf) (kept held : List ℕ)
    → before.output.is_broken ≡ false → before.output.written ≡ known → kept ≡ [] → held ≡ [] → now.output.is_broken ≡ false
    → ServeErr serves lack line_bound s t fault before.input now.input (append_known known kept) w
    → Keeps w (append_known now.output.written held) → fault ≢ answers.Write → ServingEnds serves lack s t fault before now
serving_stops serves lack s t fault known w before now kept held intact is none all whole h k other = inl (record {
  other = other;
  intact = intact;
  whole = whole;
  stopped =
      subst (λ o. ServeErr serves lack line_bound s t fault before.input now.input before.output.written o) (held_none now.output.written held all)
      (stopped_kept serves lack s t fault before.input now.input before.output.written w (append_known now.output.written held)
      (subst (λ o. ServeErr serves lack line_bound s t fault before.input now.input o w) (held_none known kept none ∙ sym is) h) k);
})

pub serving_ends : {S : Type 0} (serves : S → List ℕ → S → List ℕ → Type 0) (lack : Bool) (s t : S) (fault : AnswerFault) (known w : Option (List ℕ)) (before now : StreamsOf) (kept held : List ℕ)
    → before.output.is_broken ≡ false → before.output.written ≡ known → kept ≡ [] → held ≡ []
    → (fault ≡ answers.Write → now.output.is_broken ≡ true) → (fault ≢ answers.Write → now.output.is_broken ≡ false)
    → IsServed serves lack s t (Err fault) before.input now.input (append_known known kept) w
    → Keeps w (append_known now.output.written held) → ServingEnds serves lack s t fault before now
serving_ends serves lack s t answers.Write known w before now kept held intact is none all failed whole h k =
    serving_breaks serves lack s t (Err answers.Write) known w before now kept held intact is none (failed refl) h k
serving_ends serves lack s t answers.Read known w before now kept held intact is none all failed whole h k =
    serving_stops serves lack s t answers.Read known w before now kept held intact is none all (whole (λ x. cc)) h k (λ x. cc)
serving_ends serves lack s t answers.Memory known w before now kept held intact is none all failed whole h k =
    serving_stops serves lack s t answers.Memory known w before now kept held intact is none all (whole (λ x. cc)) h k (λ x. cc)
