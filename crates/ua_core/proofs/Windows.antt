-- Consecutive pieces.
use Prim.Native.Nat.{suc, zero}
use Rattle.std.specs.Prelude.{List, [], length, replicate, take, ◌+◌, ◌++◌, ◌-◌, ◌∷◌, ◌≡◌, ℕ}
use Rattle.std.proofs.Common.{ap, arith, refl}
use Rattle.ua_core.specs.Laws.{WindowContinues}
use Rattle.ua_core.specs.Serve.{window}

-- the first piece, cut to the image
cut : (size missing : ℕ) (xs : List ℕ) → missing ≡ size - length (take size xs)
    → take (length xs) (take size xs ++ replicate missing 0) ≡ take size xs
cut zero missing [] is = refl
cut zero zero (x ∷ xs) is = refl
cut zero (suc m) (x ∷ xs) is = absurd (omega arith)
cut (suc n) missing [] is = refl
cut (suc n) missing (x ∷ xs) is = ap (λ rest. x ∷ rest) (cut n missing xs (omega arith))

nothing_taken : (m : ℕ) → [] ≡ take {A = ℕ} m []
nothing_taken zero = refl
nothing_taken (suc m) = refl

continued : (offset size m : ℕ) (xs : List ℕ) → m ≡ offset + size
    → take (length xs) (take offset xs ++ window xs offset size) ≡ take m xs
continued zero size m xs is =
    let same : m ≡ size = omega arith in rw same (cut size (size - length (take size xs)) xs refl)
continued (suc o) size m [] is = nothing_taken m
continued (suc o) size zero (x ∷ xs) is = absurd (omega arith)
continued (suc o) size (suc m) (x ∷ xs) is = ap (λ rest. x ∷ rest) (continued o size m xs (omega arith))

pub window_continues : WindowContinues
window_continues image offset size = continued offset size (offset + size) image refl
