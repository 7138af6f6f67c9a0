-- If arguments have no fault, each row of a subcommand has texts, and its argument accepts each.
use Rattle.std.proofs.Common.{◌≡◌, ◌∙◌, ◌||◌, ◌⊎◌, ℕ, suc, arith, length, ne_eqb, ◌∷◌, [], ◌++◌, Bool, List, Option, None, Some, ap, cond, false, true, inl, inr, refl, subst, sym, true≢false, ◌&&◌, not}
use Rattle.std.specs.Prelude.{IfSome, unwrap_or}
use Rattle.std.specs.List.{AllByRecursion, find, fold, list_any}
use Rattle.clap.proofs.WalkLemmas.{both}
use Rattle.std.specs.Str.{bytes_eq}
use Rattle.std.proofs.lemmas.List.{append-nil}
use Rattle.std.proofs.lemmas.Slice.Eq.{bytes_eq-Decides}
use Rattle.clap.specs.Facts.{parser_of_value, unwrap_or_range}
use Rattle.clap.specs.Faults.{action_fault, check_fault, default_fault, defaults_fault, given_default_fault, level_fault, set_fault, settle_fault, use_fault, values_fault, walk_fault}
use Rattle.clap.specs.Kinds.{Kinds, or_else, range_kinds, request_kinds}
use Rattle.clap.specs.Simple.{Shape}
use Rattle.clap.specs.Takes.{value_passes}
use Rattle.clap.specs.ValueTests.{accepts}
use Rattle.clap.specs.Walk.{Row, Rule, Text, action_of, arg_by_id, at_row, default_rows, has_row, is_empty, more_values, nothing_held, reading_by, rows_after, settled, stronger, used, used_as, values_or_missing, walk, walk_from, with_default, with_values, without}
use Rattle.clap.specs.declared.builder.action.ArgAction.{ArgAction}
use Rattle.clap.specs.declared.builder.range.ValueRange.{ValueRange}
use Rattle.clap.specs.declared.error.kind.ErrorKind.{ErrorKind}
use Rattle.clap.specs.declared.builder.action.ArgAction.TheVariants.{Append, Help, Set, SetTrue}
use Rattle.clap.specs.declared.parser.matches.ValueSource.{ValueSource}
use Rattle.clap.specs.declared.parser.matches.ValueSource.TheVariants.{CommandLine, DefaultValue}
use Rattle.fwupd_words.proofs.Named.{none_of_both}
use Rattle.fwupd_words.proofs.Walks.{settled_keeps, walk_keeps}

-- the argument accepts each of the texts
abbrev pub AllPass : Rule → List Text → Type 0
AllPass a = AllByRecursion (λ text. value_passes a text ≡ true)

-- the row has texts, at least one, each of which the argument accepts, and is parsed as the
-- argument says
pub record IsRowOf (a : Rule) (r : Row) : Type 0 where
  pub text : Text
  pub more : List Text
  pub values : r.values ≡ text ∷ more
  pub pass : AllPass a (text ∷ more)
  pub reading : r.reading ≡ reading_by a

abbrev pub IsRow : List Rule → Row → Type 0
IsRow c r = (a : Rule) → arg_by_id c r.id ≡ Some a → IsRowOf a r

abbrev pub AreRows : List Rule → List Row → Type 0
AreRows c [] = Unit {0}
AreRows c (r ∷ rs) = IsRow c r × AreRows c rs

one_row_more : (c : List Rule) (rows : List Row) (r : Row) → AreRows c rows → IsRow c r → AreRows c (rows ++ r ∷ [])
one_row_more c [] r all is = (is, tt)
one_row_more c (x ∷ xs) r all is = (all.0, one_row_more c xs r all.1 is)

-- if there is no row of an id, one is appended
at_end : (id : Text) (change : Row → List Row) (missing rows : List Row) → has_row id rows ≡ false → at_row id change missing rows ≡ rows ++ missing
at_end id change missing [] none = refl
at_end id change missing (r ∷ rs) none = go (bytes_eq r.id id) (λ e. at_end id change missing rs e) none
  where
    go : (b : Bool) → (has_row id rs ≡ false → at_row id change missing rs ≡ rs ++ missing) → (b || has_row id rs) ≡ false
        → cond b (change r ++ rs) (r ∷ at_row id change missing rs) ≡ r ∷ (rs ++ missing)
    go true rest none = absurd (true≢false none)
    go false rest none = ap (λ xs. r ∷ xs) (rest none)

-- a new row
abbrev pub one_row : Rule → ValueSource → Text → Row
one_row a source text = record { id = a.id; values = text ∷ []; count = None; source = Some source; reading = reading_by a }

-- Each use of an argument sets one text.
abbrev SetsOne : Rule → List Text → List Row → Type 0
SetsOne a values rows =
    (text : Text) × (used a values rows ≡ with_values a.id (reading_by a) CommandLine (text ∷ []) (without a.id rows)) × (set_fault false a (text ∷ []) rows ≡ [])

abbrev UsesOne : Rule → Type 0
UsesOne a = (values : List Text) (rows : List Row) → use_fault false a values rows ≡ [] → SetsOne a values rows

-- Each use of an argument adds one text.
pub record AddsOne (a : Rule) (values : List Text) (rows : List Row) : Type 0 where
  pub text : Text
  pub is : used a values rows ≡ with_values a.id (reading_by a) CommandLine (text ∷ []) rows
  pub passes : values_fault a (text ∷ []) ≡ []

abbrev AppendsOne : Rule → Type 0
AppendsOne a = (values : List Text) (rows : List Row) → use_fault false a values rows ≡ [] → AddsOne a values rows

-- the argument is the only one with its id, sets or adds one text at each use, and has at most one
-- default
pub record IsUsual (c : List Rule) (a : Rule) : Type 0 where
  pub by : arg_by_id c a.id ≡ Some a
  pub uses : UsesOne a ⊎ AppendsOne a
  pub default : (a.defaults ≡ []) ⊎ ((text : Text) × (a.defaults ≡ text ∷ []))

one_passes : (a : Rule) (text : Text) → values_fault a (text ∷ []) ≡ [] → value_passes a text ≡ true
one_passes a text passed = go (accepts a.ignore_case (parser_of_value a.parser) text) refl
  where
    go : (b : Bool) → accepts a.ignore_case (parser_of_value a.parser) text ≡ b → accepts a.ignore_case (parser_of_value a.parser) text ≡ true
    go true is = is
    go false is = absurd (cc)

set_is_first : (a : Rule) (values : List Text) (rows : List Row) → set_fault false a values rows ≡ [] → has_row a.id rows ≡ false
set_is_first a values rows passed = go (has_row a.id rows) refl
  where
    go : (b : Bool) → has_row a.id rows ≡ b → has_row a.id rows ≡ false
    go true is = absurd (cc)
    go false is = is

new_is_row : (c : List Rule) (a : Rule) (source : ValueSource) (text : Text) → IsUsual c a → values_fault a (text ∷ []) ≡ [] → IsRow c (one_row a source text)
new_is_row c a source text usual passed other is =
    let same : a ≡ other = ap (λ (o : Option Rule). unwrap_or o a) (sym usual.by ∙ is) in
    subst (λ (x : Rule). IsRowOf x (one_row a source text)) same (record { text = text; more = []; values = refl; pass = (one_passes a text passed, tt); reading = refl })

all_pass_more : (a : Rule) (texts : List Text) (text : Text) → AllPass a texts → value_passes a text ≡ true → AllPass a (texts ++ text ∷ [])
all_pass_more a [] text all passes = (passes, tt)
all_pass_more a (x ∷ xs) text all passes = (all.0, all_pass_more a xs text all.1 passes)

-- a row with one more text
abbrev longer_row : ValueSource → Text → Row → Row
longer_row source text r = record r { values = r.values ++ text ∷ []; source = Some (stronger r.source source) }

longer_is_row : (c : List Rule) (a : Rule) (source : ValueSource) (text : Text) (r : Row) → value_passes a text ≡ true → arg_by_id c r.id ≡ Some a → IsRow c r
    → IsRow c (longer_row source text r)
longer_is_row c a source text r passes by is other found =
    let same : a ≡ other = ap (λ (o : Option Rule). unwrap_or o a) (sym by ∙ found) in
    let row = is a by in
    subst (λ (x : Rule). IsRowOf x (longer_row source text r)) same (record {
      text = row.text;
      more = row.more ++ text ∷ [];
      values = ap (λ xs. xs ++ text ∷ []) row.values;
      pass = all_pass_more a (row.text ∷ row.more) text row.pass passes;
      reading = row.reading;
    })

-- one more text in the row of an argument, or a new row
more_keeps : (c : List Rule) (a : Rule) (source : ValueSource) (text : Text) (rows : List Row) → IsUsual c a → values_fault a (text ∷ []) ≡ [] → AreRows c rows
    → AreRows c (with_values a.id (reading_by a) source (text ∷ []) rows)
more_keeps c a source text [] usual passed all = (new_is_row c a source text usual passed, tt)
more_keeps c a source text (r ∷ rs) usual passed all = go (bytes_eq r.id a.id) refl (more_keeps c a source text rs usual passed all.1)
  where
    go : (b : Bool) → bytes_eq r.id a.id ≡ b → AreRows c (with_values a.id (reading_by a) source (text ∷ []) rs) → AreRows c (with_values a.id (reading_by a) source (text ∷ []) (r ∷ rs))
    go true is later =
        let by = ap (arg_by_id c) ((bytes_eq-Decides r.id a.id).0 is) ∙ usual.by in
        rw is (longer_is_row c a source text r (one_passes a text passed) by all.0, all.1)
    go false is later = rw is (all.0, later)

set_keeps : (c : List Rule) (a : Rule) (values : List Text) (rows : List Row) → IsUsual c a → UsesOne a → use_fault false a values rows ≡ [] → AreRows c rows
    → AreRows c (used a values rows)
set_keeps c a values rows usual uses passed all =
    let sets = uses values rows passed in
    let first = set_is_first a (sets.0 ∷ []) rows sets.2 in
    let gone : without a.id rows ≡ rows = at_end a.id (λ _. []) [] rows first ∙ append-nil rows in
    let is : used a values rows ≡ rows ++ one_row a CommandLine sets.0 ∷ [] =
    sets.1 ∙ ap (with_values a.id (reading_by a) CommandLine (sets.0 ∷ [])) gone
    ∙ at_end a.id (more_values CommandLine (sets.0 ∷ [])) (one_row a CommandLine sets.0 ∷ []) rows first in
    subst (AreRows c) (sym is) (one_row_more c rows (one_row a CommandLine sets.0) all (new_is_row c a CommandLine sets.0 usual (none_of_both _ _ sets.2).1))

-- a use keeps this
pub use_keeps : (c : List Rule) (a : Rule) (values : List Text) (rows : List Row) → IsUsual c a → use_fault false a values rows ≡ [] → AreRows c rows
    → AreRows c (used a values rows)
use_keeps c a values rows usual passed all = elim usual.uses [
  | inl sets ↦ set_keeps c a values rows usual sets passed all
  | inr adds ↦
      let one = adds values rows passed in
      subst (AreRows c) (sym one.is) (more_keeps c a CommandLine one.text rows usual one.passes all)
]

-- a default adds a row if there is none
pub default_adds : (a : Rule) (rows : List Row) (text : Text) → has_row a.id rows ≡ false → a.defaults ≡ text ∷ [] → with_default rows a ≡ rows ++ one_row a DefaultValue text ∷ []
default_adds a rows text none is =
    rw none (ap (λ texts. default_rows a.id (reading_by a) texts rows) is
    ∙ at_end a.id (more_values DefaultValue (text ∷ [])) (one_row a DefaultValue text ∷ []) rows none)

-- and keeps this too
default_keeps : (c : List Rule) (a : Rule) (rows : List Row) → IsUsual c a → default_fault rows a ≡ [] → AreRows c rows → AreRows c (with_default rows a)
default_keeps c a rows usual passed all = go (has_row a.id rows) refl
  where
    new : (text : Text) → a.defaults ≡ text ∷ [] → has_row a.id rows ≡ false → AreRows c (with_default rows a)
    new text is none =
        let given : given_default_fault a (text ∷ []) ≡ [] = rw (none, is) at passed in
        let fits = none_of_both (request_kinds (action_of a)) _ given in
        subst (AreRows c) (sym (default_adds a rows text none is))
        (one_row_more c rows (one_row a DefaultValue text) all (new_is_row c a DefaultValue text usual fits.1))

    go : (b : Bool) → has_row a.id rows ≡ b → AreRows c (with_default rows a)
    go true is = rw is all
    go false is = elim usual.default [
      | inl empty ↦ rw (is, empty) all
      | inr one ↦ new one.0 one.1 is
    ]

abbrev pub AllUsual : List Rule → List Rule → Type 0
AllUsual c [] = Unit {0}
AllUsual c (a ∷ rest) = IsUsual c a × AllUsual c rest

defaults_keep : (c rules : List Rule) (rows : List Row) → AllUsual c rules → defaults_fault rows rules ≡ [] → AreRows c rows → AreRows c (fold with_default rows rules)
unfolding defaults_fault
defaults_keep c [] rows usual passed all = all
defaults_keep c (a ∷ rest) rows usual passed all =
    let parts = none_of_both (default_fault rows a) _ passed in
    defaults_keep c rest (with_default rows a) usual.1 parts.1 (default_keeps c a rows usual.0 parts.0 all)

-- an argument with this id has a default
abbrev pub has_default : Text → List Rule → Bool
has_default id = list_any (λ a. bytes_eq a.id id && not (is_empty a.defaults))

has_more : (id : Text) (xs ys : List Row) → has_row id xs ≡ true → has_row id (xs ++ ys) ≡ true
has_more id [] ys has = absurd (true≢false (sym has))
has_more id (x ∷ xs) ys has = go (bytes_eq x.id id) (λ e. has_more id xs ys e) has
  where
    go : (b : Bool) → (has_row id xs ≡ true → has_row id (xs ++ ys) ≡ true) → (b || has_row id xs) ≡ true → (b || has_row id (xs ++ ys)) ≡ true
    go true more has = refl
    go false more has = more has

has_last : (id : Text) (xs : List Row) (r : Row) → bytes_eq r.id id ≡ true → has_row id (xs ++ r ∷ []) ≡ true
has_last id [] r is = rw is refl
has_last id (x ∷ xs) r is = go (bytes_eq x.id id) (has_last id xs r is)
  where
    go : (b : Bool) → has_row id (xs ++ r ∷ []) ≡ true → (b || has_row id (xs ++ r ∷ [])) ≡ true
    go true more = refl
    go false more = more

default_stays : (c : List Rule) (a : Rule) (rows : List Row) (id : Text) → IsUsual c a → has_row id rows ≡ true → has_row id (with_default rows a) ≡ true
default_stays c a rows id usual has = go (has_row a.id rows) refl
  where
    go : (b : Bool) → has_row a.id rows ≡ b → has_row id (with_default rows a) ≡ true
    go true is = rw is has
    go false is = elim usual.default [
      | inl empty ↦ rw (is, empty) has
      | inr one ↦ subst (λ rs. has_row id rs ≡ true) (sym (default_adds a rows one.0 is one.1)) (has_more id rows (one_row a DefaultValue one.0 ∷ []) has)
    ]

default_comes : (c : List Rule) (a : Rule) (rows : List Row) (id : Text) → IsUsual c a → (bytes_eq a.id id && not (is_empty a.defaults)) ≡ true
    → has_row id (with_default rows a) ≡ true
default_comes c a rows id usual is = go (has_row a.id rows) refl
  where
    parts : (bytes_eq a.id id ≡ true) × (not (is_empty a.defaults) ≡ true)
    parts = both (bytes_eq a.id id) _ is

    go : (b : Bool) → has_row a.id rows ≡ b → has_row id (with_default rows a) ≡ true
    go true has = default_stays c a rows id usual (ap (λ n. has_row n rows) (sym ((bytes_eq-Decides a.id id).0 parts.0)) ∙ has)
    go false none = elim usual.default [
      | inl empty ↦ absurd (true≢false (sym (ap (λ texts. not (is_empty texts)) (sym empty) ∙ parts.1)))
      | inr one ↦ subst (λ rs. has_row id rs ≡ true) (sym (default_adds a rows one.0 none one.1)) (has_last id rows (one_row a DefaultValue one.0) parts.0)
    ]

defaults_come : (c rules : List Rule) (rows : List Row) (id : Text) → AllUsual c rules → (has_row id rows ≡ true) ⊎ (has_default id rules ≡ true)
    → has_row id (fold with_default rows rules) ≡ true
defaults_come c [] rows id usual (inl has) = has
defaults_come c [] rows id usual (inr none) = absurd (true≢false (sym none))
defaults_come c (a ∷ rest) rows id usual (inl has) = defaults_come c rest (with_default rows a) id usual.1 (inl (default_stays c a rows id usual.0 has))
defaults_come c (a ∷ rest) rows id usual (inr is) = defaults_come c rest (with_default rows a) id usual.1 (go (bytes_eq a.id id && not (is_empty a.defaults)) refl is)
  where
    go : (b : Bool) → (bytes_eq a.id id && not (is_empty a.defaults)) ≡ b → (b || has_default id rest) ≡ true
        → (has_row id (with_default rows a) ≡ true) ⊎ (has_default id rest ≡ true)
    go true has is = inl (default_comes c a rows id usual.0 has)
    go false has is = inr is

usual_found : (c rules : List Rule) (p : Rule → Bool) → AllUsual c rules → IfSome (find p rules) (IsUsual c)
usual_found c [] p usual = tt
usual_found c (a ∷ rest) p usual = go (p a) (usual_found c rest p usual.1)
  where
    go : (b : Bool) → IfSome (find p rest) (IsUsual c) → IfSome (cond b (Some a) (find p rest)) (IsUsual c)
    go true later = usual.0
    go false later = later

-- the rows of a subcommand with usual arguments: each is of an argument, and so are the defaults
pub record AreRead (s : Shape) (rows : List Row) : Type 0 where
  pub each : AreRows s.rules rows
  pub checked : check_fault s rows false ≡ []
  pub defaults : (id : Text) → has_default id s.rules ≡ true → has_row id rows ≡ true

pub level_keeps : (s : Shape) (words : List Text) → s.args_override_self ≡ false → AllUsual s.rules s.rules → level_fault s [] nothing_held words false [] ≡ []
    → AreRead s (rows_after s.rules [] words)
level_keeps s words again usual passed =
    let kept : (a : Rule) (values : List Text) (rows : List Row) → IsUsual s.rules a → use_fault s.args_override_self a values rows ≡ [] → AreRows s.rules rows
    → AreRows s.rules (used a values rows) =
    λ a values rows is fault all. use_keeps s.rules a values rows is (subst (λ (b : Bool). use_fault b a values rows ≡ []) again fault) all in
    let known : (p : Rule → Bool) → IfSome (find p s.rules) (IsUsual s.rules) = λ p. usual_found s.rules s.rules p usual in
    let end = (walk s.rules [] nothing_held words).held in
    let walks = none_of_both (walk_fault s [] (walk_from nothing_held) words) _ passed in
    let settles = none_of_both (settle_fault s.rules s.args_override_self end) _ walks.1 in
    let defaults = none_of_both (defaults_fault (settled s.rules end).rows s.rules) _ settles.1 in
    let walked = walk_keeps s (IsUsual s.rules) (AreRows s.rules) known kept [] (walk_from nothing_held) words walks.0 tt in
    let done = settled_keeps s (IsUsual s.rules) (AreRows s.rules) known kept end settles.0 walked in
    record {
      each = defaults_keep s.rules s.rules (settled s.rules end).rows usual defaults.0 done;
      checked = defaults.1;
      defaults = λ id has. defaults_come s.rules s.rules (settled s.rules end).rows id usual (inr has);
    }

-- ---- usual arguments

pub no_fault_is_one : (k : ErrorKind) (ks : Kinds) → k ∷ ks ≡ [] → ⊥
no_fault_is_one k ks is =
    let bad : suc (length ks) ≡ 0 = ap length is in
    absurd (omega arith)

-- the fault of a use, by its action and the number of its texts
fault_by : (a : Rule) (values : List Text) (rows : List Row) (x : ArgAction) (r : ValueRange) → action_of a ≡ x → unwrap_or_range a.range ≡ r → use_fault false a values rows ≡ []
    → or_else (range_kinds r.start_inclusive r.end_inclusive (length values)) (action_fault x false a (values_or_missing a values) rows) ≡ []
fault_by a values rows x r is range passed =
    sym (λ i. or_else (range_kinds (range i).start_inclusive (range i).end_inclusive (length values)) (action_fault (is i) false a (values_or_missing a values) rows)) ∙ passed

abbrev exactly : ℕ → ValueRange
exactly n = record { start_inclusive = n; end_inclusive = n }

pub sets_text : (a : Rule) → action_of a ≡ Set → unwrap_or_range a.range ≡ exactly 1 → UsesOne a
sets_text a is range [] rows passed = absurd (no_fault_is_one _ _ (fault_by a [] rows Set (exactly 1) is range passed))
sets_text a is range (text ∷ []) rows passed =
    (text, ap (λ x. used_as x a.id (reading_by a) (text ∷ []) rows) is, fault_by a (text ∷ []) rows Set (exactly 1) is range passed)
sets_text a is range (text ∷ more ∷ rest) rows passed =
    let some = ne_eqb (suc (suc (length rest))) 0 (λ e. omega arith) in
    let two = ne_eqb 1 (suc (suc (length rest))) (λ e. omega arith) in
    let fault = fault_by a (text ∷ more ∷ rest) rows Set (exactly 1) is range passed in
    absurd (no_fault_is_one _ _ (rw (some, two) at fault))

pub sets_flag : (a : Rule) (text : Text) → action_of a ≡ SetTrue → unwrap_or_range a.range ≡ exactly 0 → a.missing ≡ text ∷ [] → UsesOne a
sets_flag a text is range missing [] rows passed = (
  text,
  (λ i. used_as (is i) a.id (reading_by a) (missing i) rows),
  subst (λ (texts : List Text). set_fault false a texts rows ≡ []) missing (fault_by a [] rows SetTrue (exactly 0) is range passed),
)
sets_flag a text is range missing (more ∷ rest) rows passed =
    let fault = fault_by a (more ∷ rest) rows SetTrue (exactly 0) is range passed in
    absurd (no_fault_is_one _ _ (rw (ne_eqb 0 (suc (length rest)) (λ e. omega arith)) at fault))

pub adds_text : (a : Rule) → action_of a ≡ Append → unwrap_or_range a.range ≡ exactly 1 → AppendsOne a
adds_text a is range [] rows passed = absurd (no_fault_is_one _ _ (fault_by a [] rows Append (exactly 1) is range passed))
adds_text a is range (text ∷ []) rows passed = record {
  text = text;
  is = ap (λ x. used_as x a.id (reading_by a) (text ∷ []) rows) is;
  passes = fault_by a (text ∷ []) rows Append (exactly 1) is range passed;
}
adds_text a is range (text ∷ more ∷ rest) rows passed =
    let some = ne_eqb (suc (suc (length rest))) 0 (λ e. omega arith) in
    let two = ne_eqb 1 (suc (suc (length rest))) (λ e. omega arith) in
    let fault = fault_by a (text ∷ more ∷ rest) rows Append (exactly 1) is range passed in
    absurd (no_fault_is_one _ _ (rw (some, two) at fault))

pub sets_none : (a : Rule) → action_of a ≡ Help → unwrap_or_range a.range ≡ exactly 0 → UsesOne a
sets_none a is range [] rows passed = absurd (no_fault_is_one _ _ (fault_by a [] rows Help (exactly 0) is range passed))
sets_none a is range (more ∷ rest) rows passed =
    let fault = fault_by a (more ∷ rest) rows Help (exactly 0) is range passed in
    absurd (no_fault_is_one _ _ (rw (ne_eqb 0 (suc (length rest)) (λ e. omega arith)) at fault))

pub set_usual : (c : List Rule) (a : Rule) → arg_by_id c a.id ≡ Some a → action_of a ≡ Set → unwrap_or_range a.range ≡ exactly 1
    → (a.defaults ≡ []) ⊎ ((text : Text) × (a.defaults ≡ text ∷ [])) → IsUsual c a
set_usual c a by is range default = record { by = by; uses = inl (sets_text a is range); default = default }

pub append_usual : (c : List Rule) (a : Rule) → arg_by_id c a.id ≡ Some a → action_of a ≡ Append → unwrap_or_range a.range ≡ exactly 1 → a.defaults ≡ [] → IsUsual c a
append_usual c a by is range none = record { by = by; uses = inr (adds_text a is range); default = inl none }

pub flag_usual : (c : List Rule) (a : Rule) (text : Text) → arg_by_id c a.id ≡ Some a → action_of a ≡ SetTrue → unwrap_or_range a.range ≡ exactly 0
    → a.missing ≡ text ∷ [] → (a.defaults ≡ []) ⊎ ((text : Text) × (a.defaults ≡ text ∷ [])) → IsUsual c a
flag_usual c a text by is range missing default = record { by = by; uses = inl (sets_flag a text is range missing); default = default }

pub help_usual : (c : List Rule) (a : Rule) → arg_by_id c a.id ≡ Some a → action_of a ≡ Help → unwrap_or_range a.range ≡ exactly 0 → a.defaults ≡ [] → IsUsual c a
help_usual c a by is range none = record { by = by; uses = inl (sets_none a is range); default = inl none }

-- two facts, joined
infixr 30 ◌also◌
pub ◌also◌ : {A B : Type 0} → A → B → A × B
one also others = (one, others)
