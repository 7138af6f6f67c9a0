-- The numbers in arguments without a fault are within the bounds of the command line.
use Rattle.std.proofs.Common.{◌≡◌, ◌∙◌, ◌+◌, ◌∷◌, ◌<◌, ◌≤◌, ◌^◌, [], Bool, ℕ, List, Option, None, Some, ap, arith, false, true, is_some, option_map, refl, subst, sym, true≢false}
use Rattle.std.specs.Prelude.{IfSome, option_and_then, pos, slice_get, unwrap_or}
use Rattle.std.specs.List.{find}
use Rattle.std.specs.Str.{bytes_eq}
use Rattle.std.specs.Str.Parse.{IsNumeral, ParsesUnsigned, without_leading_plus}
use Rattle.std.proofs.lemmas.Slice.Eq.{bytes_eq-Decides}
use Rattle.clap.proofs.CallerReads.{signed_reads}
use Rattle.clap.proofs.ValueTestLemmas.{Accepts-accepts, accepts-Accepts}
use Rattle.clap.specs.Lexer.{without_minus}
use Rattle.clap.specs.Values.{IsSignedIn, read_as, reading_of}
use Rattle.clap.specs.Facts.{parser_of_value}
use Rattle.clap.specs.declared.builder.value_parser.Reading.TheVariants.{WithoutMinus}
use Rattle.clap.specs.ValueTests.{accepts}
use Rattle.clap.specs.Walk.{Row, Rule, Text, all_of, arg_by_id, has_row, one_of, row_text}
use Rattle.clap.specs.declared.builder.value_parser.ValueParser.TheVariants as vp
use Rattle.fwupd_words.specs.CommandLine.{number_between}
use Rattle.fwupd_words.specs.Words.{number_of}
use Rattle.fwupd_words.proofs.Rows.{AllPass, AreRows, IsRowOf}

-- a text is a number of k bits between bounds
pub record IsNumber (k low high : ℕ) (text : Text) : Type 0 where
  pub numeral : IsNumeral 10 (without_leading_plus text)
  pub fits : number_of text < 2 ^ k
  pub least : low ≤ number_of text
  pub most : number_of text ≤ high

in_bounds : (k m low high : ℕ) (text : Text) → high < 2 ^ k → m + 1 ≡ 2 ^ k → m < 2 ^ 64 → IsSignedIn (pos low) (pos high) text → IsNumber k low high (without_minus text)
in_bounds k m low high text fits all small within = go (accepts false (vp.Unsigned 0 m) (without_minus text)) refl
  where
    go : (b : Bool) → accepts false (vp.Unsigned 0 m) (without_minus text) ≡ b → IsNumber k low high (without_minus text)
    go true is =
        let in_all = accepts-Accepts false (vp.Unsigned 0 m) (without_minus text) is in
        let lt : number_of (without_minus text) < 2 ^ k = let most = in_all.3 in omega arith in
        let got = signed_reads (Unit {0}) (λ u x. ParsesUnsigned k 10 u x) k low high text (Some (number_of (without_minus text))) ((in_all.0, lt), refl) (λ u x g. g) fits within in
        let same : number_of (without_minus text) ≡ got.0 = ap (λ (o : Option ℕ). unwrap_or o 0) got.1 in
        record { numeral = in_all.0; fits = lt; least = rw same got.2; most = rw same got.3 }
    go false is =
        let never = λ (q : IsNumeral 10 (without_leading_plus (without_minus text)) × (number_of (without_minus text) < 2 ^ k)).
        let lt = q.1 in
        let wide : number_of (without_minus text) < 2 ^ 64 = omega arith in
        let most : number_of (without_minus text) ≤ m = omega arith in
        let least : 0 ≤ number_of (without_minus text) = omega arith in
        true≢false (sym (Accepts-accepts false (vp.Unsigned 0 m) (without_minus text) (q.0, wide, least, most)) ∙ is) in
        let got = signed_reads (Unit {0}) (λ u x. ParsesUnsigned k 10 u x) k low high text None (tt, never) (λ u x g. g) fits within in
        absurd (true≢false (sym (ap is_some got.1)))

-- the row of an id, if there is one
had_row : (rules : List Rule) (rows : List Row) (id : Text) (a : Rule) → AreRows rules rows → arg_by_id rules id ≡ Some a → has_row id rows ≡ true
    → (r : Row) × (find (λ r. bytes_eq r.id id) rows ≡ Some r) × IsRowOf a r
had_row rules [] id a all by has = absurd (true≢false (sym has))
had_row rules (r ∷ rs) id a all by has = here (bytes_eq r.id id) refl (λ h. had_row rules rs id a all.1 by h)
  where
    here : (b : Bool) → bytes_eq r.id id ≡ b → (has_row id rs ≡ true → (x : Row) × (find (λ y. bytes_eq y.id id) rs ≡ Some x) × IsRowOf a x)
        → (x : Row) × (find (λ y. bytes_eq y.id id) (r ∷ rs) ≡ Some x) × IsRowOf a x
    here true is later = (r, rw is refl, all.0 a (ap (arg_by_id rules) ((bytes_eq-Decides r.id id).0 is) ∙ by))
    here false is later =
        let more = later (rw is at has) in
        (more.0, rw is more.1, more.2)

-- the number under an id
pub number_at : (rules : List Rule) (rows : List Row) (id : Text) (a : Rule) (k m low high : ℕ) → AreRows rules rows → arg_by_id rules id ≡ Some a → has_row id rows ≡ true
    → a.parser ≡ Some (number_between low high) → a.ignore_case ≡ false → high < 2 ^ k → m + 1 ≡ 2 ^ k → m < 2 ^ 64
    → (text : Text) × (one_of id rows ≡ Some text) × IsNumber k low high text
number_at rules rows id a k m low high all by has parser case fits full small =
    let row = had_row rules rows id a all by has in
    let text = row.2.text in
    let reading : row.0.reading ≡ WithoutMinus = row.2.reading ∙ ap (λ p. reading_of (parser_of_value p)) parser in
    let one : one_of id rows ≡ Some (without_minus text) = ap (option_and_then row_text) row.1
    ∙ (λ i. option_map (read_as (reading i)) (slice_get (row.2.values i) 0)) in
    let passes : accepts false (number_between low high) text ≡ true =
    sym (λ i. accepts (case i) (parser_of_value (parser i)) text) ∙ row.2.pass.0 in
    (without_minus text, one, in_bounds k m low high text fits full small (accepts-Accepts false (number_between low high) text passes))

-- the requested number is within its bounds
pub number_under : (rules : List Rule) (rows : List Row) (id : Text) (a : Rule) (k m low high number : ℕ) → AreRows rules rows → arg_by_id rules id ≡ Some a → has_row id rows ≡ true
    → a.parser ≡ Some (number_between low high) → a.ignore_case ≡ false → high < 2 ^ k → m + 1 ≡ 2 ^ k → m < 2 ^ 64
    → ((text : Text) → one_of id rows ≡ Some text → IsNumeral 10 (without_leading_plus text) → number_of text < 2 ^ k → number ≡ number_of text)
    → (low ≤ number) × (number ≤ high)
number_under rules rows id a k m low high number all by has parser case fits full small asks =
    let at = number_at rules rows id a k m low high all by has parser case fits full small in
    let same = asks at.0 at.1 at.2.numeral at.2.fits in
    (rw same at.2.least, rw same at.2.most)

-- the argument accepts all texts under its id
pub texts_at : (rules : List Rule) (rows : List Row) (id : Text) (a : Rule) → AreRows rules rows → arg_by_id rules id ≡ Some a → AllPass a (unwrap_or (all_of id rows) [])
texts_at rules rows id a all by = go (has_row id rows) refl
  where
    none : (rows : List Row) → has_row id rows ≡ false → all_of id rows ≡ None
    none [] absent = refl
    none (r ∷ rs) absent = at (bytes_eq r.id id) refl (λ h. none rs h)
      where
        at : (b : Bool) → bytes_eq r.id id ≡ b → (has_row id rs ≡ false → all_of id rs ≡ None) → all_of id (r ∷ rs) ≡ None
        at true is later = absurd (true≢false (rw is at absent))
        at false is later = rw is (later (rw is at absent))

    go : (b : Bool) → has_row id rows ≡ b → AllPass a (unwrap_or (all_of id rows) [])
    go true has =
        let row = had_row rules rows id a all by has in
        subst (AllPass a) (sym (ap (λ (o : Option Row). unwrap_or (option_map (λ r. r.values) o) []) row.1 ∙ row.2.values)) row.2.pass
    go false has = rw (none rows has) tt

-- without a row of an id it has no text
no_text : (rows : List Row) (id : Text) → has_row id rows ≡ false → one_of id rows ≡ None
no_text [] id none = refl
no_text (r ∷ rs) id none = go (bytes_eq r.id id) refl (λ h. no_text rs id h)
  where
    go : (b : Bool) → bytes_eq r.id id ≡ b → (has_row id rs ≡ false → one_of id rs ≡ None) → one_of id (r ∷ rs) ≡ None
    go true is later = absurd (true≢false (rw is at none))
    go false is later = rw is (later (rw is at none))

-- a number that is `otherwise` without its option is within its bounds
pub number_or : (rules : List Rule) (rows : List Row) (id : Text) (a : Rule) (k m low high otherwise number : ℕ) → AreRows rules rows → arg_by_id rules id ≡ Some a
    → a.parser ≡ Some (number_between low high) → a.ignore_case ≡ false → high < 2 ^ k → m + 1 ≡ 2 ^ k → m < 2 ^ 64 → low ≤ otherwise → otherwise ≤ high
    → (one_of id rows ≡ None → number ≡ otherwise)
    → ((text : Text) → one_of id rows ≡ Some text → IsNumeral 10 (without_leading_plus text) → number_of text < 2 ^ k → number ≡ number_of text)
    → (low ≤ number) × (number ≤ high)
number_or rules rows id a k m low high otherwise number all by parser case fits full small least most none given = go (has_row id rows) refl
  where
    go : (b : Bool) → has_row id rows ≡ b → (low ≤ number) × (number ≤ high)
    go true has = number_under rules rows id a k m low high number all by has parser case fits full small given
    go false has = let same = none (no_text rows id has) in (rw same least, rw same most)

-- a number that may be missing is at least its least, if there is one
pub some_number : (rules : List Rule) (rows : List Row) (id : Text) (a : Rule) (k m low high : ℕ) (number : Option ℕ) → AreRows rules rows → arg_by_id rules id ≡ Some a
    → a.parser ≡ Some (number_between low high) → a.ignore_case ≡ false → high < 2 ^ k → m + 1 ≡ 2 ^ k → m < 2 ^ 64
    → (one_of id rows ≡ None → number ≡ None)
    → ((text : Text) → one_of id rows ≡ Some text → IsNumeral 10 (without_leading_plus text) → number_of text < 2 ^ k → number ≡ Some (number_of text))
    → IfSome number (λ n. low ≤ n)
some_number rules rows id a k m low high number all by parser case fits full small none given = go (has_row id rows) refl
  where
    go : (b : Bool) → has_row id rows ≡ b → IfSome number (λ n. low ≤ n)
    go true has =
        let at = number_at rules rows id a k m low high all by has parser case fits full small in
        rw (given at.0 at.1 at.2.numeral at.2.fits) at.2.least
    go false has = rw (none (no_text rows id has)) tt
