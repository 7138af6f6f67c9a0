-- The sizes of parts, added up as far as a number of 64 bits goes.
use Rattle.std.proofs.Common.{◌≡◌, ℕ, ◌+◌, ◌^◌, ◌-◌, min, arith}
use Rattle.fw_package.specs.Views.{capped_number}

pub capped_more : (a b : ℕ) → min (capped_number a + b) (2 ^ 64 - 1) ≡ capped_number (a + b)
capped_more a b = omega arith

pub capped_header : (version records components : ℕ)
    → min (min (43 + version) (2 ^ 64 - 1) + min (capped_number records + capped_number components) (2 ^ 64 - 1)) (2 ^ 64 - 1)
    ≡ capped_number (36 + (version + (1 + (records + (2 + (components + 4))))))
capped_header version records components = omega arith
