-- A list that is received in pieces.
use Rattle.std.specs.Prelude.{◌≡◌, ◌≤◌, ◌+◌, ◌-◌, ◌++◌, ℕ, min, List, [], ◌∷◌, length, take}
use Prim.Native.Nat.{suc, zero}
use Rattle.std.proofs.Common.{refl, sym, subst, ap, ◌∙◌, arith}
use Rattle.std.proofs.lemmas.List.{length-take, length-append}
use Rattle.ua_core.specs.Laws.{WindowContinues}
use Rattle.ua_core.specs.Serve.{window}

take_own : (k : ℕ) (xs : List ℕ) → take k xs ≡ take (length (take k xs)) xs
take_own zero xs = refl
take_own (suc k) [] = refl
take_own (suc k) (x ∷ xs) = ap (λ ys. x ∷ ys) (take_own k xs)

-- a cut of two lists beyond the first is a cut of the second
cut_behind : (k : ℕ) (xs ys : List ℕ) → length xs ≤ k → take k (xs ++ ys) ≡ xs ++ take (k - length xs) ys
cut_behind k [] ys le = let none : k - 0 ≡ k = omega arith in rw none refl
cut_behind zero (x ∷ xs) ys le = absurd (omega (arith, le))
cut_behind (suc k) (x ∷ xs) ys le = let less : suc k - suc (length xs) ≡ k - length xs = omega arith in rw less (ap (λ zs. x ∷ zs) (cut_behind k xs ys (omega (arith, le))))

-- a prefix is continued by a window of the same list
pub piece_kept : (law : WindowContinues) (image stage bytes : List ℕ) (size n : ℕ) → size ≡ length image → stage ≡ take (length stage) image
    → length stage ≤ size → bytes ≡ window image (length stage) n
    → stage ++ take (size - length stage) bytes ≡ take (length (stage ++ take (size - length stage) bytes)) image
piece_kept law image stage bytes size n long s le b =
    let whole : take (length image) (take (length stage) image ++ window image (length stage) n) ≡ take (length stage + n) image = law image (length stage) n in
    let half : take (length image) (stage ++ window image (length stage) n) ≡ take (length stage + n) image =
    subst (λ (xs : List ℕ). take (length image) (xs ++ window image (length stage) n) ≡ take (length stage + n) image) (sym s) whole in
    let put : take size (stage ++ bytes) ≡ take (length stage + n) image =
    ap (λ k. take k (stage ++ bytes)) long ∙ ap (λ ys. take (length image) (stage ++ ys)) b ∙ half in
    let is : stage ++ take (size - length stage) bytes ≡ take (length stage + n) image = sym (cut_behind size stage bytes le) ∙ put in
    rw is (take_own (length stage + n) image)

-- and it stays within the list
pub piece_short : (stage bytes : List ℕ) (size : ℕ) → length stage ≤ size → length (stage ++ take (size - length stage) bytes) ≤ size
piece_short stage bytes size le =
    let both : length (stage ++ take (size - length stage) bytes) ≡ length stage + length (take (size - length stage) bytes) = length-append stage (take (size - length stage) bytes) in
    let cut : length (take (size - length stage) bytes) ≡ min (size - length stage) (length bytes) = length-take (size - length stage) bytes in
    omega arith
