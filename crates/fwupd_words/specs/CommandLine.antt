-- The command line: the subcommands with their arguments.
use Rattle.std.specs.Prelude.{◌≡◌, ℕ, Bool, true, List, [], ◌∷◌, ◌++◌, Some, codes, fold, pos, map}
use Rattle.std.specs.List.{list_all}
use Rattle.std.specs.Borrow.{Bor}
use Rattle.clap.specs.Simple.{new_shape}
use Rattle.clap.specs.Words.{App, Rule, Text, new_app, new_rule, with_subcommand}
use Rattle.clap.specs.declared.builder.action.ArgAction.TheVariants.{Append, Set, SetTrue}
use Rattle.clap.specs.declared.builder.value_parser.ValueParser.{ValueParser}
use Rattle.clap.specs.declared.builder.value_parser.ValueParser.TheVariants as vp
use Rattle.fwupd_words.specs.declared.options.OptionNames.{OptionNames}

-- A required positional argument, one that may be missing, and one that must not be empty.
abbrev pub word_rule : Text → Rule
word_rule name = record (new_rule name) { action = Some Set; required = true }

abbrev pub optional_word : Text → Rule
optional_word name = record (new_rule name) { action = Some Set }

abbrev pub given_word : Text → Rule
given_word name = record (word_rule name) { parser = Some vp.NonEmptyString }

-- An option without a value.
abbrev pub flag_rule : Text → Rule
flag_rule name = record (new_rule name) { long = Some name; action = Some SetTrue }

-- An option with a text value; and one whose text must not be empty.
abbrev pub text_option : Text → Rule
text_option name = record (new_rule name) { long = Some name; value_names = 1 }

abbrev pub given_option : Text → Rule
given_option name = record (text_option name) { parser = Some vp.NonEmptyString }

-- The numbers from `low` to `high`.
abbrev pub number_between : ℕ → ℕ → ValueParser
number_between low high = vp.Signed (pos low) (pos high)

-- A number of 64 bits.
abbrev pub any_number : ValueParser
any_number = vp.Unsigned 0 18446744073709551615

-- An option with a parser, and a default text.
abbrev pub option_rule : Text → (otherwise : Text) → ValueParser → Rule
option_rule name otherwise parser = record (text_option name) { defaults = otherwise ∷ []; parser = Some parser }

-- The names that options take, borrowed: the trace formats, and the sizes of the transmission
-- units.
abbrev pub Forms : Type 0
Forms = OptionNames

abbrev pub names_of : Bor (List (Bor Text)) → List Text
names_of names = map (λ name. name.now) names.now

abbrev pub AreForms : Forms → Type 0
AreForms forms =
    (names_of forms.traces ≡ codes "hex" ∷ codes "text" ∷ codes "pcap" ∷ []) × (names_of forms.units ≡ codes "64" ∷ codes "128" ∷ [])

-- The option of the trace format, by its name. It has no default, since it may not be there without
-- a trace.
abbrev pub trace_form_rule : Forms → Rule
trace_form_rule forms = record (text_option (codes "trace-format")) { parser = Some (vp.Names forms.traces) }

-- The option of the transmission unit.
abbrev pub unit_rule : Forms → Rule
unit_rule forms = option_rule (codes "unit") (codes "64") (vp.Names forms.units)

-- The option of a package's number, from 1.
abbrev pub package_rule : Rule
package_rule = option_rule (codes "package") (codes "1") (number_between 1 4294967295)

-- An option with a parser, and without a default.
abbrev pub parsed_option : Text → ValueParser → Rule
parsed_option name parser = record (text_option name) { parser = Some parser }

-- The option of the endpoint identifiers of devices, 8 to 254. Each use adds one.
abbrev pub devices_rule : Rule
devices_rule = record (parsed_option (codes "device") (number_between 8 254)) { action = Some Append }

-- The option of the packages of a run, each a text: N, or EID=N. Each use adds one.
abbrev pub packages_rule : Rule
packages_rule = record (text_option (codes "package")) { action = Some Append }

-- The option of the files of images, each a text: EID/CLASS-IDENT=PATH. Each use adds one.
abbrev pub images_rule : Rule
images_rule = record (text_option (codes "image")) { action = Some Append }

-- The options of rough links. They have no default, since a run without chances may have no seed.
abbrev pub roughness_rules : List Rule
roughness_rules =
    parsed_option (codes "loss") (number_between 0 100)
    ∷ parsed_option (codes "duplicate") (number_between 0 100)
    ∷ parsed_option (codes "delay") (number_between 0 8)
    ∷ parsed_option (codes "seed") any_number
    ∷ []

-- `fwupd answer [--uuid UUID] [--serial] EID`
abbrev pub answer_rules : List Rule
answer_rules =
    record (word_rule (codes "EID")) { parser = Some (number_between 8 254) }
    ∷ record (text_option (codes "uuid")) { defaults = codes "00000000-0000-0000-0000-000000000000" ∷ [] }
    ∷ flag_rule (codes "serial")
    ∷ []

-- `fwupd inspect [--digest] [--json] FILE`
abbrev pub inspect_rules : List Rule
inspect_rules = flag_rule (codes "digest") ∷ flag_rule (codes "json") ∷ word_rule (codes "FILE") ∷ []

-- `fwupd replay [--trace FILE] [--trace-format FORM] [--sel FILE] [--store STORE]
-- [--image EID/CLASS-IDENT=PATH]... [--json] CONFIG SCHEDULE`
abbrev pub replay_rules : Forms → List Rule
replay_rules forms =
    text_option (codes "trace")
    ∷ trace_form_rule forms
    ∷ text_option (codes "sel")
    ∷ given_option (codes "store")
    ∷ images_rule
    ∷ flag_rule (codes "json")
    ∷ word_rule (codes "CONFIG")
    ∷ word_rule (codes "SCHEDULE")
    ∷ []

-- `fwupd plan [--package N] [--store STORE] [--image EID/CLASS-IDENT=PATH]... [--json] CONFIG`
abbrev pub plan_rules : List Rule
plan_rules = package_rule ∷ given_option (codes "store") ∷ images_rule ∷ flag_rule (codes "json") ∷ word_rule (codes "CONFIG") ∷ []

-- `fwupd run [OPTIONS] CONFIG FOLDER`, with the options of rough links last
abbrev pub run_options : Forms → List Rule
run_options forms =
    packages_rule
    ∷ devices_rule
    ∷ flag_rule (codes "check")
    ∷ flag_rule (codes "quiet")
    ∷ text_option (codes "trace")
    ∷ trace_form_rule forms
    ∷ text_option (codes "sel")
    ∷ text_option (codes "record")
    ∷ given_option (codes "store")
    ∷ images_rule
    ∷ flag_rule (codes "json")
    ∷ word_rule (codes "CONFIG")
    ∷ given_word (codes "FOLDER")
    ∷ []

abbrev pub run_rules : Forms → List Rule
run_rules forms = run_options forms ++ roughness_rules

-- `fwupd soak [OPTIONS] --runs N CONFIG`, with the options of rough links last
abbrev pub soak_options : List Rule
soak_options =
    record (text_option (codes "runs")) { required = true; parser = Some (number_between 1 1000000) }
    ∷ text_option (codes "record")
    ∷ images_rule
    ∷ flag_rule (codes "json")
    ∷ word_rule (codes "CONFIG")
    ∷ []

abbrev pub soak_rules : List Rule
soak_rules = soak_options ++ roughness_rules

-- `fwupd sel [--json] FILE`
abbrev pub sel_rules : List Rule
sel_rules = flag_rule (codes "json") ∷ word_rule (codes "FILE") ∷ []

-- `fwupd build [--json] SPEC FILE`
abbrev pub build_rules : List Rule
build_rules = flag_rule (codes "json") ∷ word_rule (codes "SPEC") ∷ word_rule (codes "FILE") ∷ []

-- The options of a node's process that a device and the agent share: its serial line, the
-- milliseconds of a unit, the units until it ends, and what is written of it.
abbrev pub process_rules : Forms → List Rule
process_rules forms =
    given_option (codes "tty")
    ∷ record (text_option (codes "tick")) { parser = Some (number_between 1 1000) }
    ∷ record (text_option (codes "ticks")) { parser = Some (number_between 1 4294967295) }
    ∷ text_option (codes "trace")
    ∷ trace_form_rule forms
    ∷ text_option (codes "record")
    ∷ []

-- The option of the agent's package, without a default: a filter of lines has no package.
abbrev pub own_package_rule : Rule
own_package_rule = record (text_option (codes "package")) { parser = Some (number_between 1 4294967295) }

-- `fwupd device [--auto] [--open] [--store STORE] [--image EID/CLASS-IDENT=PATH]...
-- [--report FILE] [--listen FOLDER] [--take-over] CONFIG EID`, with the options of a process last
abbrev pub device_options : List Rule
device_options =
    flag_rule (codes "auto")
    ∷ flag_rule (codes "open")
    ∷ given_option (codes "store")
    ∷ images_rule
    ∷ text_option (codes "report")
    ∷ given_option (codes "listen")
    ∷ flag_rule (codes "take-over")
    ∷ word_rule (codes "CONFIG")
    ∷ record (word_rule (codes "EID")) { parser = Some (number_between 8 254) }
    ∷ []

abbrev pub device_rules : Forms → List Rule
device_rules forms = device_options ++ process_rules forms

-- `fwupd agent [--auto] [--open] [--sel FILE] [--store STORE] [--report FILE] [--connect FOLDER]
-- [--package N] [--check] [--json] CONFIG`, with the options of a process last
abbrev pub agent_options : List Rule
agent_options =
    flag_rule (codes "auto")
    ∷ flag_rule (codes "open")
    ∷ text_option (codes "sel")
    ∷ given_option (codes "store")
    ∷ text_option (codes "report")
    ∷ given_option (codes "connect")
    ∷ own_package_rule
    ∷ flag_rule (codes "check")
    ∷ flag_rule (codes "json")
    ∷ word_rule (codes "CONFIG")
    ∷ []

abbrev pub agent_rules : Forms → List Rule
agent_rules forms = agent_options ++ process_rules forms

-- `fwupd decode [--unit BYTES] [--json] [FILE]`
abbrev pub decode_rules : Forms → List Rule
decode_rules forms = unit_rule forms ∷ flag_rule (codes "json") ∷ optional_word (codes "FILE") ∷ []

-- `fwupd status [--store STORE] [--image EID/CLASS-IDENT=PATH]... [--json] CONFIG`
abbrev pub status_rules : List Rule
status_rules = given_option (codes "store") ∷ images_rule ∷ flag_rule (codes "json") ∷ word_rule (codes "CONFIG") ∷ []

-- A command with these arguments, and without subcommands.
abbrev pub taking : Text → List Rule → App
taking name rules = record (new_app name) { top = record (new_shape name) { rules = rules } }

abbrev pub answer : App
answer = taking (codes "answer") answer_rules

abbrev pub inspect : App
inspect = taking (codes "inspect") inspect_rules

abbrev pub replay : Forms → App
replay forms = taking (codes "replay") (replay_rules forms)

abbrev pub plan : App
plan = taking (codes "plan") plan_rules

abbrev pub run : Forms → App
run forms = taking (codes "run") (run_rules forms)

abbrev pub soak : App
soak = taking (codes "soak") soak_rules

abbrev pub sel : App
sel = taking (codes "sel") sel_rules

abbrev pub build : App
build = taking (codes "build") build_rules

abbrev pub device : Forms → App
device forms = taking (codes "device") (device_rules forms)

abbrev pub agent : Forms → App
agent forms = taking (codes "agent") (agent_rules forms)

abbrev pub decode : Forms → App
decode forms = taking (codes "decode") (decode_rules forms)

abbrev pub status : App
status = taking (codes "status") status_rules

-- The subcommands, in the order in which help lists them.
abbrev pub subcommands : Forms → List App
subcommands forms = answer ∷ inspect ∷ replay forms ∷ plan ∷ run forms ∷ soak ∷ sel ∷ build ∷ device forms ∷ agent forms ∷ decode forms ∷ status ∷ []

-- The program without its subcommands: one is required, and there is a version option.
abbrev pub program : App
program = record (new_app (codes "fwupd")) {
  top = record (new_shape (codes "fwupd")) {
    has_version = true;
    subcommand_required = true;
    arg_required_else_help = true;
  };
}

-- A program with one more subcommand.
abbrev pub with_one : App → App → App
with_one above one = with_subcommand above one.top

-- Nothing in the subcommand changes how arguments are parsed.
abbrev pub is_plain : App → Bool
is_plain one = one.top.is_plain

-- The whole command line.
abbrev pub command_line : Forms → App
command_line forms = fold with_one program (subcommands forms)

-- The command line, wherever the names that options take are in memory.
pub record IsCommandLine (line : App) : Type 0 where
  pub forms : Forms
  pub words : AreForms forms
  pub is : line ≡ command_line forms

-- A command with more options and arguments.
abbrev pub with_rules : App → List Rule → App
with_rules above rules = record above { top = record above.top { rules = above.top.rules ++ rules } }

-- None of the rules changes how arguments are parsed, so each value is found under its name.
abbrev pub are_simple : List Rule → Bool
are_simple = list_all (λ rule. rule.is_simple)
