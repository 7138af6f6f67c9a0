-- Lemmas on hexadecimal digits.
use Rattle.std.proofs.Common.{◌≡◌, ◌<◌, ◌+◌, ◌/◌, ◌%◌, ℕ, List, [], ◌∷◌, ◌++◌, length, take, get_or, refl}
use Rattle.std.proofs.lemmas.List.{take_more}
use Rattle.std.specs.Prelude.{slice_index}
use Rattle.hex.specs.Hex.{encode_with, encode_upper, upper_digits}

-- encoding two lists one after the other encodes the joined list
encode_with-append : (t xs ys : List ℕ) → encode_with t (xs ++ ys) ≡ encode_with t xs ++ encode_with t ys
unfolding encode_with
encode_with-append t [] ys = refl
encode_with-append t (x ∷ xs) ys = rw (encode_with-append t xs ys) refl

-- one more byte of a list
pub encode_upper-more : (xs : List ℕ) (i : ℕ) → i < length xs → encode_upper (take (i + 1) xs) ≡ encode_upper (take i xs) ++ encode_upper (get_or xs i 0 ∷ [])
encode_upper-more xs i below = rw (take_more xs i 0 below) (encode_with-append upper_digits (take i xs) (get_or xs i 0 ∷ []))

-- a byte in two digits
pub encode_upper_byte : (b : ℕ) → encode_upper (b ∷ []) ≡ slice_index upper_digits (b / 16) ∷ slice_index upper_digits (b % 16) ∷ []
unfolding encode_with
encode_upper_byte b = refl

pub encode_upper_nil : encode_upper [] ≡ []
unfolding encode_with
encode_upper_nil = refl
