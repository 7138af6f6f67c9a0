-- The versions of DSP0267 after 1.0, by the identifiers that their package headers begin with.
use Rattle.std.specs.Prelude.{ℕ, ◌==◌, if◌then◌else◌, List, [], ◌∷◌, Option, None, Some, codes}
use Rattle.std.specs.List.{starts_with}

abbrev pub of_1_1 : List ℕ
of_1_1 = 0x12 ∷ 0x44 ∷ 0xD2 ∷ 0x64 ∷ 0x8D ∷ 0x7D ∷ 0x47 ∷ 0x18 ∷ 0xA0 ∷ 0x30 ∷ 0xFC ∷ 0x8A ∷ 0x56 ∷ 0x58 ∷ 0x7D ∷ 0x5A ∷ []

abbrev pub of_1_2 : List ℕ
of_1_2 = 0x31 ∷ 0x19 ∷ 0xCE ∷ 0x2F ∷ 0xE8 ∷ 0x0A ∷ 0x4A ∷ 0x99 ∷ 0xAF ∷ 0x6D ∷ 0x46 ∷ 0xF8 ∷ 0xB1 ∷ 0x21 ∷ 0xF6 ∷ 0xBF ∷ []

abbrev pub of_1_3 : List ℕ
of_1_3 = 0x7B ∷ 0x29 ∷ 0x1C ∷ 0x99 ∷ 0x6D ∷ 0xB6 ∷ 0x42 ∷ 0x08 ∷ 0x80 ∷ 0x1B ∷ 0x02 ∷ 0x02 ∷ 0x6E ∷ 0x46 ∷ 0x3C ∷ 0x78 ∷ []

-- the version of a package header that begins as these bytes do
abbrev pub later_version : (bytes : List ℕ) → Option (List ℕ)
later_version bytes =
    if starts_with (λ a b. a == b) bytes of_1_1 then Some (codes "1.1")
    else if starts_with (λ a b. a == b) bytes of_1_2 then Some (codes "1.2")
    else if starts_with (λ a b. a == b) bytes of_1_3 then Some (codes "1.3")
    else None
