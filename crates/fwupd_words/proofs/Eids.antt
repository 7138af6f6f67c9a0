-- The devices of a run have identifiers from 8 to 254.
use Rattle.std.proofs.Common.{◌≡◌, ◌≤◌, ◌||◌, ◌==◌, Bool, ℕ, List, [], ◌∷◌, Option, None, Some, All, arith, eqb-true, false, true, is_some, refl, subst, sym, true≢false}
use Rattle.std.proofs.lemmas.Int.{ints}
use Rattle.std.specs.Prelude.{IfSome, if◌then◌else◌, pos}
use Rattle.std.specs.List.{AllByRecursion}
use Rattle.std.specs.Option.{option_or}
use Rattle.std.specs.Str.Parse.{starts_with_minus}
use Rattle.std.proofs.lemmas.List.Elements.{All-from_recursion}
use Rattle.clap.proofs.ValueTestLemmas.{accepts-Accepts}
use Rattle.clap.specs.ValueTests.{accepts}
use Rattle.clap.specs.Values.{IsSignedIn}
use Rattle.clap.specs.Words.{Text}
use Rattle.fwupd_words.specs.CommandLine.{number_between}
use Rattle.fwupd_words.specs.Packages.{has_own, is_same, number_by, number_given, value_of}
use Rattle.fwupd_words.specs.Words.{IsByte, is_number_in, number_of}
use Rattle.fwupd_words.proofs.Chosen.{IsAllowed, value_allowed}

abbrev pub IsEid : ℕ → Type 0
IsEid eid = (8 ≤ eid) × (eid ≤ 254)

signed_eid : (text : Text) → IsSignedIn (pos 8) (pos 254) text → IsByte text × IsEid (number_of text)
signed_eid text within = go (starts_with_minus text) refl
  where
    go : (b : Bool) → starts_with_minus text ≡ b → IsByte text × IsEid (number_of text)
    go true minus = let least = rw minus at within.2 in absurd (omega (arith, ints))
    go false minus =
        let numeral = rw minus at within.0 in
        let least = rw minus at within.2 in
        let most = rw minus at within.3 in
        ((numeral, omega (arith, ints)), (omega (arith, ints), omega (arith, ints)))

text_eid : (text : Text) → accepts false (number_between 8 254) text ≡ true → IsByte text × IsEid (number_of text)
text_eid text passes = signed_eid text (accepts-Accepts false (number_between 8 254) text passes)

-- texts that the option `--device` accepts
abbrev pub AllAccepted : List Text → Type 0
AllAccepted = AllByRecursion (λ text. accepts false (number_between 8 254) text ≡ true)

bytes_each : (texts : List Text) → AllAccepted texts → AllByRecursion IsByte texts
bytes_each [] all = tt
bytes_each (text ∷ more) all = ((text_eid text all.0).0, bytes_each more all.1)

pub all_bytes : (texts : List Text) → AllAccepted texts → All IsByte texts
all_bytes texts all = All-from_recursion IsByte texts (bytes_each texts all)

given_eid : (texts : List Text) (eid : ℕ) → AllAccepted texts → is_number_in texts eid ≡ true → IsEid eid
given_eid [] eid all is = absurd (true≢false (sym is))
given_eid (text ∷ more) eid all is = go (eid == number_of text) refl (λ h. given_eid more eid all.1 h) is
  where
    go : (b : Bool) → (eid == number_of text) ≡ b → (is_number_in more eid ≡ true → IsEid eid) → (b || is_number_in more eid) ≡ true → IsEid eid
    go true same later is = subst IsEid (sym (eqb-true eid (number_of text) same)) (text_eid text all.0).1
    go false same later is = later is

own_eid : (texts : List Text) (eid : ℕ) → has_own texts eid ≡ true → IsEid eid
own_eid [] eid is = absurd (true≢false (sym is))
own_eid (text ∷ more) eid is = go (number_given (Some eid) more) (value_of text) (λ h. own_eid more eid h) (value_allowed text) is
  where
    same : (device : Option ℕ) (number : ℕ) → IfSome device (λ n. 8 ≤ n) → IfSome device (λ n. n ≤ 254)
        → is_some (if is_same (Some eid) device then Some number else None) ≡ true → IsEid eid
    same None number least most is = absurd (true≢false (sym is))
    same (Some other) number least most is = at (eid == other) refl is
      where
        at : (b : Bool) → (eid == other) ≡ b → is_some (if b then Some number else None) ≡ true → IsEid eid
        at true is_other is = subst IsEid (sym (eqb-true eid other is_other)) (least, most)
        at false is_other is = absurd (true≢false (sym is))

    go : (a : Option ℕ) (o : Option (Option ℕ × ℕ)) → (is_some a ≡ true → IsEid eid) → IfSome o IsAllowed → is_some (option_or a (number_by (Some eid) o)) ≡ true → IsEid eid
    go (Some n) o later allowed is = later refl
    go None None later allowed is = absurd (true≢false (sym is))
    go None (Some value) later allowed is = same value.0 value.1 allowed.least allowed.most is

-- the identifier of a device of a run
pub chosen_eid : (texts values : List Text) (eid : ℕ) → AllAccepted texts → (is_number_in texts eid || has_own values eid) ≡ true → IsEid eid
chosen_eid texts values eid all is = go (is_number_in texts eid) refl is
  where
    go : (b : Bool) → is_number_in texts eid ≡ b → (b || has_own values eid) ≡ true → IsEid eid
    go true given is = given_eid texts eid all given
    go false given is = own_eid values eid is
