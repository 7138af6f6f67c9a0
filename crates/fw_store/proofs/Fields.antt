-- The ends of a text's fields.
use Rattle.std.proofs.Common.{◌≡◌, ◌+◌, ◌-◌, ◌++◌, ◌==◌, ℕ, false, List, [], ◌∷◌, Some, None, length, length-append, take, drop, refl, arith}
use Rattle.std.specs.List.{AllByRecursion, position, position_or_len}
use Rattle.std.proofs.Math.Seq.{drop-append-add, take-append_seam}
use Rattle.std.proofs.lemmas.Bool.{eq-eqb, lt-ltb}
use Rattle.std.proofs.lemmas.List.{length-drop, take_all}
use Rattle.fw_store.specs.Active.{field_at}

pub field_here : (stop : ℕ) (text : List ℕ) (i : ℕ) → position (λ b. b == stop) text ≡ Some i
    → field_at stop text ≡ Some (take i text, take (length text - (i + 1)) (drop (i + 1) text))
unfolding field_at
field_here stop text i here = rw (here, take_all (length text - (i + 1)) (drop (i + 1) text) (omega (arith, length-drop (i + 1) text))) refl

pub field_nowhere : (stop : ℕ) (text : List ℕ) → position (λ b. b == stop) text ≡ None → field_at stop text ≡ None
unfolding field_at
field_nowhere stop text nowhere = rw nowhere refl

-- bytes that don't include this byte
abbrev pub HasNone : ℕ → List ℕ → Type 0
HasNone stop bytes = AllByRecursion (λ b. (b == stop) ≡ false) bytes

ends_at : (stop : ℕ) (word rest : List ℕ) → HasNone stop word → position_or_len (λ b. b == stop) (word ++ stop ∷ rest) ≡ length word
ends_at stop [] rest none = rw (eq-eqb stop stop refl) refl
ends_at stop (b ∷ word) rest none = rw (none.0, ends_at stop word rest none.1) (omega arith)

-- a word is read back
pub field_back : (stop : ℕ) (word rest : List ℕ) → HasNone stop word → field_at stop (word ++ stop ∷ rest) ≡ Some (word, rest)
unfolding field_at
field_back stop word rest none =
    rw (ends_at stop word rest none, lt-ltb (length word) (length (word ++ stop ∷ rest)) (omega (arith, length-append word (stop ∷ rest))), take-append_seam word (stop ∷ rest), drop-append-add word (stop ∷ rest) 1)
    refl
