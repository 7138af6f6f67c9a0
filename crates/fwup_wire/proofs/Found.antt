-- The result of reading an answer is the answer that the bytes are.
use Rattle.std.proofs.Common.{Bool, IfSome, List, None, Option, Some, [], false, if◌then◌else◌, refl, rules, sym, true, ◌==◌, ◌∷◌, ◌≡◌, ◌≢◌, ℕ}
use Rattle.std.proofs.lemmas.Bool.{eqb-false, eqb-true}
use Rattle.fwup_wire.specs.Answers.{IsAnswer, IsSuccess, answer_in, fieldless_answer, is_known, success_in}
use Rattle.fwup_wire.specs.Laws.{ReadsOnlyAnswers}
use Rattle.fwup_wire.specs.Values.{AnswerOf}

-- the fields after the code 0
only_success : (command : ℕ) (fields : List ℕ) → IfSome (success_in command fields) (λ a. IsSuccess command fields a)
only_success command fields = search rules

-- after the code 0 it is an answer
with_code : (command : ℕ) (fields : List ℕ) (a : AnswerOf) → IsSuccess command fields a → IsAnswer command (0 ∷ fields) a
with_code command fields (AnswerOf.Refused code) h = absurd h
with_code command fields a h = (refl, h)

coded : (command : ℕ) (fields : List ℕ) (o : Option AnswerOf) → IfSome o (λ a. IsSuccess command fields a)
    → IfSome o (λ a. IsAnswer command (0 ∷ fields) a)
coded command fields None h = tt
coded command fields (Some a) h = with_code command fields a h

-- a refusal, of a known command and with nothing after the code
refused : (known : Bool) (command code : ℕ) (fields : List ℕ) → is_known command ≡ known → code ≢ 0
    → IfSome (if known then fieldless_answer (AnswerOf.Refused code) fields else None) (λ a. IsAnswer command (code ∷ fields) a)
refused true command code [] known other = (known, refl, other, refl)
refused true command code (x ∷ xs) known other = tt
refused false command code fields known other = tt

by_code : (is_zero : Bool) (command code : ℕ) (fields : List ℕ) → (code == 0) ≡ is_zero
    → IfSome
    (if is_zero then success_in command fields
    else if is_known command then fieldless_answer (AnswerOf.Refused code) fields
    else None)
    (λ a. IsAnswer command (code ∷ fields) a)
by_code true command code fields e =
    rw (eqb-true code 0 e) (coded command fields (success_in command fields) (only_success command fields))
by_code false command code fields e = refused (is_known command) command code fields refl (eqb-false code 0 e)

pub only_answer : ReadsOnlyAnswers
only_answer command [] = tt
only_answer command (code ∷ fields) = by_code (code == 0) command code fields refl

-- the same of a value that was read
pub found_answer_value : (command : ℕ) (bytes : List ℕ) (a : AnswerOf) → Some a ≡ answer_in command bytes → IsAnswer command bytes a
found_answer_value command bytes a e =
    let h : IfSome (answer_in command bytes) (λ a. IsAnswer command bytes a) = only_answer command bytes in rw (sym e) at h

-- the same, the other way round
pub read_member : (command : ℕ) (bytes : List ℕ) (a : AnswerOf) → answer_in command bytes ≡ Some a → IsAnswer command bytes a
read_member command bytes a e = found_answer_value command bytes a (sym e)
