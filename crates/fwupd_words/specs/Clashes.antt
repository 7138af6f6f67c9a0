-- Options that do nothing without others, and values of `--package` and `--image` that don't fit.
use Rattle.std.specs.Prelude.{◌&&◌, ◌||◌, Bool, if◌then◌else◌, is_some, not, List, Option, None, Some, codes}
use Rattle.clap.specs.declared.error.kind.ErrorKind.{ErrorKind}
use Rattle.clap.specs.declared.error.kind.ErrorKind.TheVariants as kinds
use Rattle.clap.specs.Words.{Text}
use Rattle.fwupd_words.specs.Images.{image_clash}
use Rattle.fwupd_words.specs.Packages.{first_malformed, has_twice}
use Rattle.fwupd_words.specs.Words.{Given, has_value, is_dash, is_set, text_under, texts_under}

-- the format of a trace without a trace
abbrev pub has_form_alone : Given → Bool
has_form_alone words = has_value words (codes "trace-format") && not (has_value words (codes "trace"))

-- a seed without a chance
abbrev pub has_seed_alone : Given → Bool
has_seed_alone words =
    has_value words (codes "seed") && (not (has_value words (codes "loss")) && (not (has_value words (codes "duplicate")) && not (has_value words (codes "delay"))))

-- a file that is to be written is called `-`
abbrev pub has_dashed_output : Given → Bool
has_dashed_output words =
    is_dash (text_under words (codes "trace")) || (is_dash (text_under words (codes "sel"))
    || (is_dash (text_under words (codes "record")) || is_dash (text_under words (codes "report"))))

-- Why the options that subcommands share are refused, if they are: a file that is to be written is
-- called `-`, or the values of `--image` don't fit. Nothing else is tested before it.
abbrev pub common_clash : Given → Option ErrorKind
common_clash words = if has_dashed_output words then Some kinds.ValueValidation else image_clash (texts_under words (codes "image"))

-- Why the arguments of `build` don't go together, if they don't: JSON and the package would both
-- be on standard output.
abbrev pub build_clash : Given → Option ErrorKind
build_clash words = if is_dash (text_under words (codes "FILE")) && is_set words (codes "json") then Some kinds.ArgumentConflict else None

-- Why the values of `--package` are refused, if they are: one is malformed, or two are N or name
-- the same device.
abbrev pub package_clash : List Text → Option ErrorKind
package_clash texts =
    if is_some (first_malformed texts) then Some kinds.ValueValidation
    else (if has_twice texts then Some kinds.ArgumentConflict else None)

-- Why the options of `replay`, or of `run`, don't go together, if they don't.
abbrev pub replay_clash : Given → Option ErrorKind
replay_clash words = if has_form_alone words then Some kinds.MissingRequiredArgument else None

abbrev pub run_clash : Given → Option ErrorKind
run_clash words =
    if has_form_alone words || has_seed_alone words then Some kinds.MissingRequiredArgument
    else package_clash (texts_under words (codes "package"))
