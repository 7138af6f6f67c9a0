-- The number that decimal digits encode.
use Rattle.std.proofs.Common.{◌≡◌, ℕ, ◌+◌, ◌*◌, ◌^◌, ◌<◌, ◌≤◌, ◌&&◌, true, false, List, [], ◌∷◌, ◌++◌, Option, Some, None, length, take, drop, get_or, nat_lt, if◌then◌else◌, refl, sym, ap, ◌∙◌, arith, zero, suc}
use Rattle.std.specs.Char.{digit_value, is_ascii_digit}
use Rattle.std.specs.List.{list_all}
use Rattle.std.specs.Str.Parse.{digits_value, digits_value_after}
use Rattle.std.proofs.lemmas.Bool.{and_left, and_right}
use Rattle.std.proofs.lemmas.Grind.{common_steps}
use Rattle.std.proofs.lemmas.Int.Digits.{digits_value_more}
use Rattle.std.proofs.lemmas.List.{take-append-drop, take_more}
use Rattle.std.proofs.lemmas.List.Folds.{list_all-append}

-- the number that digits encode, if it fits 64 bits
abbrev pub fitting : List ℕ → Option ℕ
fitting ds = if list_all is_ascii_digit ds && nat_lt (digits_value 10 ds) (2 ^ 64) then Some (digits_value 10 ds) else None

digits_value_after-append : (n : ℕ) (xs ys : List ℕ) → digits_value_after 10 n (xs ++ ys) ≡ digits_value_after 10 (digits_value_after 10 n xs) ys
digits_value_after-append n [] ys = refl
digits_value_after-append n (x ∷ xs) ys = digits_value_after-append (n * 10 + digit_value x) xs ys

-- more digits give no smaller number
digits_value_after-ge : (ds : List ℕ) (n : ℕ) → n ≤ digits_value_after 10 n ds
digits_value_after-ge [] n = omega arith
digits_value_after-ge (d ∷ ds) n = omega (arith, digits_value_after-ge ds (n * 10 + digit_value d))

digits_value-take-le : (i : ℕ) (ds : List ℕ) → digits_value 10 (take i ds) ≤ digits_value 10 ds
digits_value-take-le i ds =
    let whole = ap (digits_value 10) (sym (take-append-drop i ds)) ∙ digits_value_after-append 0 (take i ds) (drop i ds) in
    omega (arith, digits_value_after-ge (drop i ds) (digits_value 10 (take i ds)))

-- if one byte is not a digit
pub no_digit : (ds : List ℕ) (i : ℕ) → i < length ds → is_ascii_digit (get_or ds i 0) ≡ false → list_all is_ascii_digit ds ≡ false
no_digit [] i inside fails = absurd (omega arith)
no_digit (d ∷ ds) zero inside fails = and_left _ _ fails
no_digit (d ∷ ds) (suc i) inside fails = and_right _ _ (no_digit ds i (omega arith) fails)

-- if one more byte is a digit
pub more_digits : (ds : List ℕ) (i : ℕ) → i < length ds → list_all is_ascii_digit (take i ds) ≡ true → is_ascii_digit (get_or ds i 0) ≡ true
    → list_all is_ascii_digit (take (i + 1) ds) ≡ true
more_digits ds i inside before here =
    ap (list_all is_ascii_digit) (take_more ds i 0 inside) ∙ list_all-append is_ascii_digit (take i ds) _ ∙ (λ k. before k && (here k && true))

-- if the first digits don't fit
pub too_large : (ds : List ℕ) (i : ℕ) → i < length ds → 2 ^ 64 ≤ digits_value 10 (take i ds) * 10 + digit_value (get_or ds i 0) → fitting ds ≡ None
too_large ds i inside large =
    let past : 2 ^ 64 ≤ digits_value 10 ds = omega (arith, digits_value_more 10 ds i inside, digits_value-take-le (i + 1) ds) in
    grind (arith, common_steps)

-- if some byte is not a digit
pub unfit : (ds : List ℕ) (i : ℕ) → i < length ds → is_ascii_digit (get_or ds i 0) ≡ false → fitting ds ≡ None
unfit ds i inside fails = let none = no_digit ds i inside fails in grind (arith, common_steps)

-- if all are digits and the number fits
pub fits : (ds : List ℕ) → list_all is_ascii_digit ds ≡ true → digits_value 10 ds < 2 ^ 64 → fitting ds ≡ Some (digits_value 10 ds)
fits ds digits small = grind (arith, common_steps)
