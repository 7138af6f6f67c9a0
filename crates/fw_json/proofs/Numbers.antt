-- A 64-bit number plus one is written as a JSON number.
use Rattle.std.proofs.Common.{◌^◌, ◌+◌, ◌<◌, ℕ, decimal, refl, arith, subst, inl, inr}
use Rattle.std.proofs.lemmas.Bool.{cases_lt}
use Rattle.std.specs.Fmt.{digits}
use Rattle.json.specs.Print.{IsNumber}
use Rattle.json.specs.Word.{after_number}
use Rattle.json.proofs.Printed.Decimals.{IsNumber-decimal}

last_number : IsNumber (decimal (2 ^ 64))
unfolding after_number digits
last_number = refl

pub next_number : (n : ℕ) → n < 2 ^ 64 → IsNumber (decimal (n + 1))
next_number n small = elim (cases_lt (n + 1) (2 ^ 64)) [
  | inl less ↦ IsNumber-decimal (n + 1) less
  | inr more ↦ subst (λ k. IsNumber (decimal k)) (omega arith) last_number
]
