-- The computed parts of the definition.
use Rattle.std.proofs.Common.{◌≡◌, ◌∙◌, ◌∷◌, [], IfOk, IsErrAnd, Ok, Err, Result, List, ap, codes, inl, true, refl}
use Rattle.std.specs.Borrow.{Bor}
use Rattle.clap.specs.Words.{App, FailsBy, HasMatchesOf, IsParsedFrom, Text, app_of, fault_of, is_simple, is_simple_and_free, kind_of}
use Rattle.clap.specs.declared.builder.command.Command.{Command}
use Rattle.clap.specs.declared.error.Error.{Error}
use Rattle.clap.specs.declared.error.kind.ErrorKind.TheVariants as kinds
use Rattle.clap.specs.declared.parser.matches.ArgMatches.{ArgMatches}
use Rattle.clap.proofs.CallerLemmas.{subcommand_required}
use Rattle.clap.proofs.SimpleLemmas.{plain_fields}
use Rattle.fwupd_words.specs.CommandLine.{Forms, IsCommandLine, command_line}
use Rattle.fwupd_words.specs.Reading.{FindsSubcommand}

-- the library determines the result of each argument on such a command line
pub line_is_simple : (forms : Forms) → is_simple (command_line forms) ≡ true
line_is_simple forms = refl

pub line_is_free : (forms : Forms) → is_simple_and_free (command_line forms) ≡ true
line_is_free forms = refl

-- the matches of arguments on that command line
pub finds : (c : Command) (words : List Text) (r : Result ArgMatches Error) → IsCommandLine (app_of c) → IfOk r (λ m. IsParsedFrom c m)
    → IfOk r (HasMatchesOf (app_of c) words) → (is_simple_and_free (app_of c) ≡ true → FailsBy (fault_of (app_of c) words) r) → FindsSubcommand (app_of c) words r
finds c words (Ok m) line parsed matches kinds =
    let plain = plain_fields c (ap (λ (a : App). a.top.is_plain) line.is) in
    let needs = ap (λ (a : App). a.top.subcommand_required) line.is in (
      kinds (ap is_simple_and_free line.is ∙ line_is_free line.forms),
      (matches (ap is_simple line.is ∙ line_is_simple line.forms)).1,
      subcommand_required c m parsed plain.globals needs,
    )
finds c words (Err e) line parsed matches kinds = kinds (ap is_simple_and_free line.is ∙ line_is_free line.forms)

-- the names that options take at some place in memory
abbrev some_word : Text → Bor Text
some_word word = record { ref_ptr = (0, 0); now = word }

abbrev some_words : List (Bor Text) → Bor (List (Bor Text))
some_words words = record { ref_ptr = (0, 0); now = words }

abbrev pub some_forms : Forms
some_forms = record {
  traces = some_words (some_word (codes "hex") ∷ some_word (codes "text") ∷ some_word (codes "pcap") ∷ []);
  units = some_words (some_word (codes "64") ∷ some_word (codes "128") ∷ []);
}

some_line : IsCommandLine (command_line some_forms)
some_line = record { forms = some_forms; words = (refl, refl); is = refl }

-- if memory for the command line was refused, that is the result
pub finds_no_memory : (words : List Text) (r : Result ArgMatches Error) → IsErrAnd r (λ e. kind_of e ≡ kinds.OutOfMemory)
    → (line : App) × IsCommandLine line × FindsSubcommand line words r
finds_no_memory words (Ok m) e = absurd e
finds_no_memory words (Err e) is = (command_line some_forms, some_line, inl is)
