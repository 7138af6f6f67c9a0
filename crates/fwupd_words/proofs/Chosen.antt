-- The values of the option `--package` of `run`.
use Rattle.std.proofs.Common.{◌≡◌, ◌≤◌, ◌&&◌, ◌||◌, Bool, ℕ, List, [], ◌∷◌, Option, None, Some, ap, arith, false, true, leb-true, ltb-true, length, refl}
use Rattle.std.specs.Prelude.{nat_le, nat_lt, if◌then◌else◌, is_some, unwrap_or, IfSome}
use Rattle.std.specs.Option.{option_or}
use Rattle.std.specs.Str.{all_ascii_digits}
use Rattle.std.specs.Str.Parse.{IsNumeral, digits_value, without_leading_plus}
use Rattle.std.proofs.lemmas.Bool.{le-leb, lt-ltb}
use Rattle.std.proofs.lemmas.Str.Parse.{numerals_by_value, tells_all_ascii_digits}
use Rattle.clap.proofs.WalkLemmas.{both}
use Rattle.clap.specs.Lexer.{name_and_value}
use Rattle.clap.specs.Words.{Text}
use Rattle.fwupd_words.specs.Packages.{common_value, eid_of, is_same, is_within, number_by, number_given, number_of_package, number_within, own_value, package_of, value_of, value_of_parts}

-- what the test says
within_parts : (low high : ℕ) (ds : Text) → is_within low high ds ≡ true → IsNumeral 10 ds × (low ≤ digits_value 10 ds) × (digits_value 10 ds ≤ high)
within_parts low high ds is =
    let parts = both (nat_lt 0 (length ds) && all_ascii_digits ds) _ is in
    let form = both (nat_lt 0 (length ds)) (all_ascii_digits ds) parts.0 in
    let size = both (nat_le low (digits_value 10 ds)) (nat_le (digits_value 10 ds) high) parts.1 in
    ((ltb-true 0 (length ds) form.0, (numerals_by_value (λ xs. all_ascii_digits xs ≡ true) tells_all_ascii_digits).to ds form.1), leb-true low (digits_value 10 ds) size.0, leb-true (digits_value 10 ds) high size.1)

within_from : (low high : ℕ) (ds : Text) → IsNumeral 10 ds → low ≤ digits_value 10 ds → digits_value 10 ds ≤ high → is_within low high ds ≡ true
within_from low high ds numeral least most =
    rw (lt-ltb 0 (length ds) numeral.0, (numerals_by_value (λ xs. all_ascii_digits xs ≡ true) tells_all_ascii_digits).from ds numeral.1, le-leb low (digits_value 10 ds) least, le-leb (digits_value 10 ds) high most) refl

-- the number of a text between the bounds, and none of any other text
pub number_read : (low high : ℕ) (text : Text) (n : ℕ) → IsNumeral 10 (without_leading_plus text) → n ≡ digits_value 10 (without_leading_plus text) → low ≤ n → n ≤ high
    → Some n ≡ number_within low high text
number_read low high text n numeral is least most =
    rw (within_from low high (without_leading_plus text) numeral (rw is at least) (rw is at most)) (ap Some is)

pub number_other : (low high : ℕ) (text : Text)
    → (IsNumeral 10 (without_leading_plus text) → low ≤ digits_value 10 (without_leading_plus text) → digits_value 10 (without_leading_plus text) ≤ high → ⊥)
    → None ≡ number_within low high text
number_other low high text never = go (is_within low high (without_leading_plus text)) refl
  where
    go : (b : Bool) → is_within low high (without_leading_plus text) ≡ b → None ≡ number_within low high text
    go true is = let parts = within_parts low high (without_leading_plus text) is in absurd (never parts.0 parts.1 parts.2)
    go false is = rw is refl

-- one more value
pub number_more : (a o : Option ℕ) (n : ℕ) → unwrap_or (option_or a o) n ≡ unwrap_or a (unwrap_or o n)
number_more None o n = refl
number_more (Some x) o n = refl

pub number_kept : (a : Option ℕ) (n : ℕ) → unwrap_or (option_or a None) n ≡ unwrap_or a n
number_kept a n = number_more a None n

pub own_more : (b t : Bool) (a : Option ℕ) (n : ℕ) → ((b || t) || is_some a) ≡ (b || is_some (option_or a (if t then Some n else None)))
own_more true t a n = refl
own_more false true None n = refl
own_more false true (Some x) n = refl
own_more false false None n = refl
own_more false false (Some x) n = refl

-- ---- bounds

-- the number of a package is at least 1, and the identifier of its device is 8 to 254
pub record IsAllowed (value : Option ℕ × ℕ) : Type 0 where
  pub number : 1 ≤ value.1
  pub least : IfSome value.0 (λ eid. 8 ≤ eid)
  pub most : IfSome value.0 (λ eid. eid ≤ 254)

-- the bounds of a number
pub within_bounds : (low high : ℕ) (text : Text) → IfSome (number_within low high text) (λ n. (low ≤ n) × (n ≤ high))
within_bounds low high text = go (is_within low high (without_leading_plus text)) refl
  where
    go : (b : Bool) → is_within low high (without_leading_plus text) ≡ b → IfSome (number_within low high text) (λ n. (low ≤ n) × (n ≤ high))
    go true is = let parts = within_parts low high (without_leading_plus text) is in rw is (parts.1, parts.2)
    go false is = rw is tt

own_allowed : (eid number : Option ℕ) → IfSome eid (λ n. (8 ≤ n) × (n ≤ 254)) → IfSome number (λ n. (1 ≤ n) × (n ≤ 4294967295)) → IfSome (own_value eid number) IsAllowed
own_allowed (Some eid) (Some number) e n = record { number = n.0; least = e.0; most = e.1 }
own_allowed (Some eid) None e n = tt
own_allowed None number e n = tt

common_allowed : (number : Option ℕ) → IfSome number (λ n. (1 ≤ n) × (n ≤ 4294967295)) → IfSome (common_value number) IsAllowed
common_allowed (Some number) n = record { number = n.0; least = tt; most = tt }
common_allowed None n = tt

parts_allowed : (parts : Text × Option Text) → IfSome (value_of_parts parts) IsAllowed
parts_allowed (text, None) = common_allowed (number_of_package text) (within_bounds 1 4294967295 text)
parts_allowed (device, Some number) = own_allowed (eid_of device) (number_of_package number) (within_bounds 8 254 device) (within_bounds 1 4294967295 number)

pub value_allowed : (text : Text) → IfSome (value_of text) IsAllowed
value_allowed text = parts_allowed (name_and_value text)

number_least : (device : Option ℕ) (texts : List Text) → IfSome (number_given device texts) (λ n. 1 ≤ n)
number_least device [] = tt
number_least device (text ∷ more) = go (number_given device more) (value_of text) (number_least device more) (value_allowed text)
  where
    by : (b : Bool) (n : ℕ) → 1 ≤ n → IfSome (if b then Some n else None) (λ n. 1 ≤ n)
    by true n least = least
    by false n least = tt

    go : (a : Option ℕ) (o : Option (Option ℕ × ℕ)) → IfSome a (λ n. 1 ≤ n) → IfSome o IsAllowed → IfSome (option_or a (number_by device o)) (λ n. 1 ≤ n)
    go (Some n) o least allowed = least
    go None None least allowed = tt
    go None (Some value) least allowed = by (is_same device value.0) value.1 allowed.number

-- each device's package has a number from 1
pub package_least : (texts : List Text) (eid : ℕ) → 1 ≤ package_of texts eid
package_least texts eid = go (number_given (Some eid) texts) (number_given None texts) (number_least (Some eid) texts) (number_least None texts)
  where
    go : (own common : Option ℕ) → IfSome own (λ n. 1 ≤ n) → IfSome common (λ n. 1 ≤ n) → 1 ≤ unwrap_or own (unwrap_or common 1)
    go (Some n) common own_least least = own_least
    go None (Some n) own_least least = least
    go None None own_least least = omega arith
