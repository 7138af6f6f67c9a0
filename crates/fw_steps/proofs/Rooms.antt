-- Room for more in a list.
use Rattle.std.proofs.Common.{◌≡◌, ◌≤◌, ◌+◌, ◌-◌, ℕ, arith}

pub one_less : (capacity after len more : ℕ) → capacity ≤ after → more ≡ len + 1 → capacity - len ≤ after - more + 1
one_less capacity after len more grown longer = grind (arith)
