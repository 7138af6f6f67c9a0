-- The rows of the subcommand that the arguments name, if they have no fault.
use Rattle.std.proofs.Common.{◌≡◌, ◌∙◌, ◌⊎◌, ◌∷◌, [], Bool, List, Option, None, Some, ap, drop, false, true, inl, inr, is_some, option_map, refl, subst, sym, true≢false}
use Rattle.std.specs.Prelude.{IfSome, unwrap_or}
use Rattle.std.specs.Option.{option_map_or}
use Rattle.std.specs.Str.{bytes_eq}
use Rattle.std.proofs.lemmas.Slice.Eq.{bytes_eq-Decides}
use Rattle.clap.specs.Faults.{entered_fault, level_fault, walk_fault}
use Rattle.clap.specs.Simple.{Shape, built, entered, label_of, names_of, rows_at}
use Rattle.clap.specs.Walk.{Row, Text, answers_to, nothing_held, rows_after, stop_after, walk_from}
use Rattle.clap.specs.Words.{fault_of, subcommand_of}
use Rattle.fwupd_words.specs.CommandLine.{Forms, command_line}
use Rattle.fwupd_words.proofs.Named.{EachThat, found_has, none_of_both}
use Rattle.fwupd_words.proofs.Rows.{AllUsual, AreRead, level_keeps}

-- the shape is in the list
abbrev IsOneOf : Shape → List Shape → Type 0
IsOneOf s [] = ⊥
IsOneOf s (x ∷ xs) = (s ≡ x) ⊎ IsOneOf s xs

each_is_one : (p : Shape → Bool) (xs : List Shape) → EachThat (λ s. IsOneOf s xs) p xs
each_is_one p xs = go xs (λ s is. is)
  where
    go : (ys : List Shape) → ((s : Shape) → IsOneOf s ys → IsOneOf s xs) → EachThat (λ s. IsOneOf s xs) p ys
    go [] up = tt
    go (y ∷ ys) up = (λ _. up y (inl refl), go ys (λ s is. up s (inr is)))

-- a subcommand that was parsed without a fault
record IsRead (line : List Shape) (name : Text) (rows : List Row) : Type 0 where
  pub shape : Shape
  pub words : List Text
  pub is : IsOneOf shape line
  pub named : shape.name ≡ name
  pub shown : rows_after shape.rules [] words ≡ rows
  pub passed : level_fault shape [] nothing_held words false [] ≡ []

is_read : (forms : Forms) (words : List Text) (name : Text) (rows : List Row) → fault_of (command_line forms) words ≡ []
    → subcommand_of (command_line forms) words ≡ Some (name, rows) → IsRead (built (command_line forms)).subs name rows
is_read forms words name rows passed is =
    let line = built (command_line forms) in
    let stop = stop_after line.top.rules (names_of line) (drop 1 words) in
    let parts = none_of_both (walk_fault line.top (names_of line) (walk_from nothing_held) (drop 1 words)) _ passed in
    let below = none_of_both (entered_fault line stop) _ parts.1 in
    go stop below.0 is
  where
    found : (p : Text × List Text) (o : Option Shape) → IfSome o (λ s. IsOneOf s (built (command_line forms)).subs)
        → option_map_or (λ s. level_fault s [] nothing_held p.1 false []) o [] ≡ [] → option_map (λ s. rows_at s p.1) o ≡ Some (name, rows)
        → IsRead (built (command_line forms)).subs name rows
    found p None has passed is = absurd (true≢false (sym (ap is_some is)))
    found p (Some s) has passed is =
        let same = ap (λ (o : Option (Text × List Row)). unwrap_or o (name, rows)) is in
        record { shape = s; words = p.1; is = has; named = ap (λ (q : Text × List Row). q.0) same; shown = ap (λ (q : Text × List Row). q.1) same; passed = passed }

    go : (stop : Option (Text × List Text)) → entered_fault (built (command_line forms)) stop ≡ [] → entered (built (command_line forms)) stop ≡ Some (name, rows)
        → IsRead (built (command_line forms)).subs name rows
    go None passed is = absurd (true≢false (sym (ap is_some is)))
    go (Some p) passed is =
        let each = each_is_one (λ s. answers_to p.0 (label_of s)) (built (command_line forms)).subs in
        found p _ (found_has (λ s. IsOneOf s (built (command_line forms)).subs) (λ s. answers_to p.0 (label_of s)) (built (command_line forms)).subs each) passed is

-- only this shape has its name
abbrev pub OnlyNamed : Text → Shape → List Shape → Type 0
OnlyNamed name x [] = Unit {0}
OnlyNamed name x (y ∷ ys) = ((y ≡ x) ⊎ (bytes_eq y.name name ≡ false)) × OnlyNamed name x ys

only_named : (name : Text) (s x : Shape) (xs : List Shape) → IsOneOf s xs → s.name ≡ name → OnlyNamed name x xs → s ≡ x
only_named name s x [] is named only = elim is [ ]
only_named name s x (y ∷ ys) (inl is) named (inl same, rest) = is ∙ same
only_named name s x (y ∷ ys) (inl is) named (inr other, rest) =
    let same : bytes_eq s.name name ≡ true = (bytes_eq-Decides s.name name).1 named in
    absurd (true≢false (sym same ∙ ap (λ (z : Shape). bytes_eq z.name name) is ∙ other))
only_named name s x (y ∷ ys) (inr more) named only = only_named name s x ys more named only.1

-- the rows of that subcommand, if its arguments are usual
pub rows_read : (forms : Forms) (words : List Text) (name : Text) (rows : List Row) (x : Shape) → fault_of (command_line forms) words ≡ []
    → subcommand_of (command_line forms) words ≡ Some (name, rows) → OnlyNamed name x (built (command_line forms)).subs → x.args_override_self ≡ false
    → AllUsual x.rules x.rules → AreRead x rows
rows_read forms words name rows x passed is only again usual =
    let read = is_read forms words name rows passed is in
    let same = only_named name read.shape x (built (command_line forms)).subs read.is read.named only in
    let keeps = level_keeps x read.words again usual (ap (λ (s : Shape). level_fault s [] nothing_held read.words false []) (sym same) ∙ read.passed) in
    subst (AreRead x) (ap (λ (s : Shape). rows_after s.rules [] read.words) (sym same) ∙ read.shown) keeps
