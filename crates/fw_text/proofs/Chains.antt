-- Appending the pieces one by one appends their concatenation.
use Rattle.std.proofs.Common.{◌≡◌, ◌∙◌, List, [], ◌++◌, ℕ, append_assoc, append-nil, sym, ap, refl}
use Rattle.fw_text.specs.Printing.{AppendsText}

pub adds_more : {t t1 t2 a b : List ℕ} → AppendsText t t1 a → AppendsText t1 t2 b → AppendsText t t2 (a ++ b)
adds_more {t} {t1} {t2} {a} {b} first second = record { is = rw (second.is, first.is, append_assoc t a b) refl }

-- appending nothing
pub adds_none : (t : List ℕ) → AppendsText t t []
adds_none t = record { is = sym (append-nil t) }

pub adds_same : {t t1 a b : List ℕ} → AppendsText t t1 a → a ≡ b → AppendsText t t1 b
adds_same {t} {t1} {a} {b} h e = record { is = h.is ∙ ap (λ x. t ++ x) e }

-- appending one more piece leaves the rest to append
pub told_more : (t t1 rest all piece : List ℕ) → t ++ (piece ++ rest) ≡ all → AppendsText t t1 piece → t1 ++ rest ≡ all
told_more t t1 rest all piece told adds = ap (λ xs. xs ++ rest) adds.is ∙ append_assoc t piece rest ∙ told

-- nothing is left to append
pub told_all : (t t1 all : List ℕ) → t1 ++ [] ≡ t ++ all → AppendsText t t1 all
told_all t t1 all told = record { is = sym (append-nil t1) ∙ told }

pub ruleset telling = (told_more, told_all)
