-- The values of arguments, by the matches and by the rows that the matches show.
use Rattle.std.proofs.Common.{◌≡◌, ◌∙◌, ◌⊎◌, IfErr, IfOk, OnOk, Option, None, Some, Result, Ok, Err, List, [], ap, ap₂, codes, inl, inr, option_map, refl, subst, sym}
use Rattle.std.specs.Prelude.{Box, IsSomeAnd, unwrap_or}
use Rattle.std.specs.Box.{box_value}
use Rattle.clap.specs.Words.{App, HasKind, Row, Text, fault_of, found_of, kind_of, rows_of, subcommand_name_of, subcommand_of, subcommand_rows, subcommand_rows_of}
use Rattle.clap.specs.declared.error.Error.{Error}
use Rattle.clap.specs.declared.parser.matches.ArgMatches.{ArgMatches}
use Rattle.clap.specs.declared.parser.matches.ArgMatches.TheViews.{out-ArgMatches, out-SubCommand}
use Rattle.clap.specs.declared.parser.matches.SubCommand.{SubCommand}
use Rattle.clap.proofs.WalkLemmas.{first_value-rows, one_text-rows, raw_values-rows}
use Rattle.fwupd_words.specs.Reading.{HasClash, HasOwnClash, IsFound, IsNoByte, IsNoUuid, IsRefusedWord, ReadsWords, RefusesWords}
use Rattle.fwupd_words.specs.Clashes.{common_clash}
use Rattle.fwupd_words.specs.Jobs.{AsksForJob}
use Rattle.fwupd_words.specs.Words.{Given, given_by, given_in}
use Rattle.fwupd_words.specs.CommandLine.{Forms, IsCommandLine, command_line}
use Rattle.fwupd_words.proofs.Named.{names_a_job}
use Rattle.fwupd_words.proofs.Within.{eid_is_read, is_within}
use Rattle.fwupd_words.specs.declared.asked.Job.{Job}

pub none_of : {A : Type 0} (o : Option A) → ((x : A) → o ≡ Some x → ⊥) → o ≡ None
none_of None never = refl
none_of (Some x) never = absurd (never x refl)

-- the matches have the values of their rows
pub given_rows : (m : ArgMatches) → ◌≡◌ {A = Given} (given_in m) (given_by (rows_of (found_of m)))
given_rows m = λ i. record {
  first = λ name. first_value-rows (found_of m) name i;
  one = λ name. one_text-rows (found_of m) name i;
  all = λ name. raw_values-rows (found_of m) name i;
}

names_are : {Z : Type 0} (o : Option (Box SubCommand Z))
    → option_map (λ (named : Text × List Row). named.0) (subcommand_rows o) ≡ option_map (λ b. (out-SubCommand (box_value b)).name.now) o
names_are None = refl
names_are (Some b) = refl

-- the subcommand in the matches has the name and the rows that are parsed
entered_is : (m : ArgMatches) (name : Text) (rows : List Row) → Some name ≡ subcommand_name_of m → Some rows ≡ option_map (λ named. named.1) (subcommand_rows_of m)
    → subcommand_rows_of m ≡ Some (name, rows)
entered_is m name rows named shown = go (subcommand_rows_of m) (subcommand_name_of m) (names_are (out-ArgMatches m).subcommand) named shown
  where
    go : (o : Option (Text × List Row)) (n : Option Text) → option_map (λ (named : Text × List Row). named.0) o ≡ n → Some name ≡ n
        → Some rows ≡ option_map (λ (named : Text × List Row). named.1) o → o ≡ Some (name, rows)
    go None n is a b = cc
    go (Some p) n is a b =
        let same : Some p.0 ≡ Some name = is ∙ sym a in
        ap₂ (λ (x : Text) (y : List Row). Some (x, y)) (ap (λ (o : Option Text). unwrap_or o name) same) (ap (λ (o : Option (List Row)). unwrap_or o rows) (sym b))

-- why a subcommand requests no job
no_job : (line : App) (words : List Text) (given : Given) (name : Text) (error : Error) → fault_of line words ≡ []
    → (name ≡ codes "answer" → IsNoByte given (codes "EID") → ⊥) → IsRefusedWord name given error
    → HasKind (fault_of line words) error ⊎ (IsNoUuid name given error ⊎ HasOwnClash name given error)
no_job line words given name error passed never (inl memory) = inl (inl memory)
no_job line words given name error passed never (inr (inl (answers, inl memory))) = inl (inl memory)
no_job line words given name error passed never (inr (inl (answers, inr (inl missing)))) = absurd (never answers missing.1)
no_job line words given name error passed never (inr (inl (answers, inr (inr bad)))) =
    inr (inl (record { answers = answers; kind = bad.0; uuid = bad.1 }))
no_job line words given name error passed never (inr (inr clash)) = inr (inr clash)

refused : (line : App) (words : List Text) (entered : ArgMatches) (name : Text) (error : Error) (forms : Forms) → fault_of line words ≡ []
    → Some (name, rows_of (found_of entered)) ≡ subcommand_of line words → fault_of (command_line forms) words ≡ []
    → subcommand_of (command_line forms) words ≡ Some (name, rows_of (found_of entered)) → RefusesWords name (given_in entered) error → ReadsWords line words (Err error)
refused line words entered name error forms passed is free entering (inl (inl memory)) = inl (inl memory)
refused line words entered name error forms passed is free entering (inl (inr common)) =
    let clash = subst (λ given. common_clash given ≡ Some (kind_of error)) (given_rows entered) common in
    inr (passed, subst (λ o. IsSomeAnd o (λ at. HasClash at.0 (given_by at.1) error)) is (inl clash))
refused line words entered name error forms passed is free entering (inr (fits, inr other)) =
    absurd (names_a_job forms words name (rows_of (found_of entered)) free entering other)
refused line words entered name error forms passed is free entering (inr (fits, inl why)) =
    let rows = rows_of (found_of entered) in
    let never : name ≡ codes "answer" → IsNoByte (given_by rows) (codes "EID") → ⊥ =
    eid_is_read forms words name rows free entering in
    let none = subst (λ given. common_clash given ≡ None) (given_rows entered) fits in
    elim (no_job line words (given_by rows) name error passed never (subst (λ given. IsRefusedWord name given error) (given_rows entered) why)) [
      | inl kind ↦ inl kind
      | inr bad ↦ inr (passed, subst (λ o. IsSomeAnd o (λ at. HasClash at.0 (given_by at.1) error)) is (inr (none, bad)))
    ]

-- the result of a subcommand is the result of the arguments
pub reads : (line : App) (words : List Text) (m entered : ArgMatches) (name : Text) (r : Result Job Error) → IsCommandLine line → IsFound line words m
    → Some name ≡ subcommand_name_of m → Some (rows_of (found_of entered)) ≡ option_map (λ named. named.1) (subcommand_rows_of m)
    → IfOk r (AsksForJob name (given_in entered)) → OnOk r (common_clash (given_in entered) ≡ None) → IfErr r (RefusesWords name (given_in entered)) → ReadsWords line words r
reads line words m entered name (Ok job) is_line found named shown asks fits refuses =
    let rows = rows_of (found_of entered) in
    let is = sym (entered_is m name rows named shown) ∙ found.1 in
    let passed = subst (λ a. fault_of a words ≡ []) is_line.is found.0 in
    let entering = sym (subst (λ a. Some (name, rows) ≡ subcommand_of a words) is_line.is is) in
    let here = subst (λ given. AsksForJob name given job × (common_clash given ≡ None)) (given_rows entered) (asks, fits) in (
      found.0,
      subst (λ o. IsSomeAnd o (λ at. AsksForJob at.0 (given_by at.1) job × (common_clash (given_by at.1) ≡ None))) is here,
      is_within is_line.forms words name rows job passed entering here.1 here.0,
    )
reads line words m entered name (Err error) is_line found named shown asks fits refuses =
    let rows = rows_of (found_of entered) in
    let is = sym (entered_is m name rows named shown) ∙ found.1 in
    let passed = subst (λ a. fault_of a words ≡ []) is_line.is found.0 in
    let entering = sym (subst (λ a. Some (name, rows) ≡ subcommand_of a words) is_line.is is) in
    refused line words entered name error is_line.forms found.0 is passed entering refuses
