-- Zeros after zeros.
use Rattle.std.specs.Prelude.{[], replicate, ◌+◌, ◌++◌, ◌∷◌, ◌≡◌, ℕ}
use Rattle.std.proofs.lemmas.List.{replicate-append-replicate}

pub one_more_zero : (n : ℕ) → ◌++◌ {A = ℕ} (replicate n 0) (0 ∷ []) ≡ replicate (n + 1) 0
one_more_zero n = replicate-append-replicate n 1 0
