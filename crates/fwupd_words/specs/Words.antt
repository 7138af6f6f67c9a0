-- The parts of jobs that arguments request, by the texts under their names.
use Rattle.std.specs.Prelude.{ℕ, ◌≡◌, ◌<◌, ◌^◌, ◌==◌, Bool, true, false, List, [], Option, None, Some, codes, is_some, option_map, ◌||◌, unwrap_or}
use Rattle.std.specs.List.{All, list_any}
use Rattle.std.specs.Option.{option_map_or}
use Rattle.std.specs.Str.{bytes_eq}
use Rattle.std.specs.Str.Parse.{IsNumeral, digits_value, without_leading_plus}
use Rattle.clap.specs.Words.{Row, Text, all_of, first_of, first_value, found_of, matched_of, one_of, one_text, raw_values}
use Rattle.clap.specs.declared.parser.matches.ArgMatches.{ArgMatches}
use Rattle.fwupd_base.specs.DeviceSets.{has_eid}
use Rattle.fwupd_base.specs.PackageChoices.{number_for}
use Rattle.fwupd_base.specs.declared.package_choice.PackageChoice.{PackageChoice}
use Rattle.fwupd_base.specs.ImageFiles.{files_in}
use Rattle.fwupd_base.specs.declared.image_files.ConfigSource.{ConfigSource}
use Rattle.fwupd_words.specs.Images.{image_clash, images_of}
use Rattle.fwupd_words.specs.Packages.{has_any_own, has_own, package_of}
use Rattle.fwupd_base.specs.declared.device_set.DeviceSet.{DeviceSet}
use Rattle.fwupd_base.specs.declared.roughness.Roughness.{Roughness}
use Rattle.fwupd_base.specs.declared.forms.Form.{Form}
use Rattle.fwupd_base.specs.declared.forms.Form.TheVariants as forms
use Rattle.mctp_ctl.specs.declared.answers.Endpoint.{Endpoint}
use Rattle.mctp_wire.specs.declared.unit.Unit.{«Unit»}
use Rattle.mctp_wire.specs.declared.unit.Unit.TheVariants as units
use Rattle.uuid.specs.Text.{parsed}
use Rattle.fwupd_base.specs.declared.alone.AgentAlone.{AgentAlone}
use Rattle.fwupd_base.specs.declared.alone.DeviceAlone.{DeviceAlone}
use Rattle.fwupd_words.specs.declared.asked.BuildOutput.{BuildOutput}
use Rattle.fwupd_words.specs.declared.asked.BuildOutput.TheVariants as targets
use Rattle.fwupd_words.specs.declared.asked.Order.{Order}
use Rattle.fwupd_words.specs.declared.asked.Plan.{Plan}
use Rattle.fwupd_base.specs.declared.shows.Show.{Show}
use Rattle.fwupd_words.specs.declared.asked.SoakOrder.{SoakOrder}
use Rattle.fwupd_words.specs.declared.asked.Status.{Status}
use Rattle.fwupd_base.specs.declared.forms.TraceForm.{TraceForm}
use Rattle.fwupd_base.specs.declared.forms.TraceForm.TheVariants as traces

-- The values of arguments under their names: the first text, the only text, which is read as a
-- number or a flag, and all texts in their order.
pub record Given : Type 0 where
  pub first : Text → Option Text
  pub one : Text → Option Text
  pub all : Text → Option (List Text)

-- by the matches, and by the rows of a subcommand
abbrev pub given_in : ArgMatches → Given
given_in matches = record {
  first = first_value (found_of matches);
  one = one_text (found_of matches);
  all = λ name. option_map raw_values (matched_of (found_of matches) name);
}

abbrev pub given_by : List Row → Given
given_by rows = record { first = λ name. first_of name rows; one = λ name. one_of name rows; all = λ name. all_of name rows }

-- the text under a name, or an empty text if there is none
abbrev text_or_none : Option (List ℕ) → List ℕ
text_or_none None = []
text_or_none (Some text) = text

abbrev pub text_under : Given → (name : List ℕ) → List ℕ
text_under words name = text_or_none (words.first name)

-- the texts of all uses of a name
abbrev pub texts_under : Given → (name : Text) → List Text
texts_under words name = unwrap_or (words.all name) []

-- whether there is a text under a name, and whether a flag is set
abbrev pub has_value : Given → (name : Text) → Bool
has_value words name = is_some (words.first name)

abbrev pub is_set : Given → (name : Text) → Bool
is_set words name = option_map_or (λ text. bytes_eq text (codes "true")) (words.first name) false

-- a path means standard input or standard output
abbrev pub is_dash : (path : Text) → Bool
is_dash path = bytes_eq path (codes "-")

-- the number that a text encodes
abbrev pub number_of : List ℕ → ℕ
number_of text = digits_value 10 (without_leading_plus text)

-- A flag is set or not.
pub record AsksFlag (words : Given) (name : List ℕ) (flag : Bool) : Type 0 where
  pub set : words.one name ≡ Some (codes "true") → flag ≡ true
  pub unset : words.one name ≡ Some (codes "false") → flag ≡ false

-- The format is JSON if the flag is set, and text otherwise.
pub record AsksForm (words : Given) (form : Form) : Type 0 where
  pub json : words.one (codes "json") ≡ Some (codes "true") → form ≡ forms.Json
  pub text : words.one (codes "json") ≡ Some (codes "false") → form ≡ forms.Text

-- The number of a package, if it fits 32 bits.
pub record AsksNumber (words : Given) (number : ℕ) : Type 0 where
  pub is : (text : List ℕ) → words.one (codes "package") ≡ Some text → IsNumeral 10 (without_leading_plus text) → number_of text < 2 ^ 32 → number ≡ number_of text

-- A configuration: its path, and the files of images, if the values of `--image` fit.
pub record AsksConfig (words : Given) (config : ConfigSource) : Type 0 where
  pub path : config.path.now ≡ text_under words (codes "CONFIG")
  pub images : image_clash (texts_under words (codes "image")) ≡ None → files_in config.images ≡ images_of (texts_under words (codes "image"))

-- The plan of an update.
pub record AsksPlan (words : Given) (plan : Plan) : Type 0 where
  pub config : AsksConfig words plan.config
  pub store : option_map (λ path. path.now) plan.store ≡ words.first (codes "store")
  pub number : AsksNumber words plan.number
  pub form : AsksForm words plan.form

-- What runs on devices.
pub record AsksStatus (words : Given) (status : Status) : Type 0 where
  pub config : AsksConfig words status.config
  pub store : option_map (λ path. path.now) status.store ≡ words.first (codes "store")
  pub form : AsksForm words status.form

-- Where the package of a build goes.
abbrev pub AsksBuild : Given → BuildOutput → Type 0
AsksBuild words (targets.File path) =
    (path.now ≡ text_under words (codes "FILE")) × (is_dash path.now ≡ false) × AsksFlag words (codes "json") false
AsksBuild words (targets.ToldFile path) =
    (path.now ≡ text_under words (codes "FILE")) × (is_dash path.now ≡ false) × AsksFlag words (codes "json") true
AsksBuild words targets.Standard = is_dash (text_under words (codes "FILE")) ≡ true

-- The format of a trace, by its name.
pub record AsksTraceForm (words : Given) (form : TraceForm) : Type 0 where
  pub none : words.first (codes "trace-format") ≡ None → form ≡ traces.Hex
  pub hex : words.first (codes "trace-format") ≡ Some (codes "hex") → form ≡ traces.Hex
  pub told : words.first (codes "trace-format") ≡ Some (codes "text") → form ≡ traces.Text
  pub capture : words.first (codes "trace-format") ≡ Some (codes "pcap") → form ≡ traces.Capture

-- The transmission unit, by its size.
pub record AsksUnit (words : Given) (unit : «Unit») : Type 0 where
  pub none : words.first (codes "unit") ≡ None → unit ≡ units.U64
  pub narrow : words.first (codes "unit") ≡ Some (codes "64") → unit ≡ units.U64
  pub wide : words.first (codes "unit") ≡ Some (codes "128") → unit ≡ units.U128

-- The outputs of a run or a replay.
pub record AsksKept (words : Given) (show : Show) : Type 0 where
  pub trace : option_map (λ path. path.now) show.trace ≡ words.first (codes "trace")
  pub trace_form : AsksTraceForm words show.trace_form
  pub log : option_map (λ path. path.now) show.log ≡ words.first (codes "sel")
  pub store : option_map (λ path. path.now) show.store ≡ words.first (codes "store")
  pub form : AsksForm words show.form

-- and whether there is progress, and a history file
pub record AsksShow (words : Given) (show : Show) : Type 0 where
  pub quiet : AsksFlag words (codes "quiet") show.is_quiet
  pub record_path : option_map (λ path. path.now) show.record ≡ words.first (codes "record")
  pub history : option_map (λ path. path.now) show.history ≡ words.first (codes "store")
  pub kept : AsksKept words show

-- The endpoint of `answer`.
pub record AsksEndpoint (words : Given) (endpoint : Endpoint) : Type 0 where
  pub eid : (text : List ℕ) → words.one (codes "EID") ≡ Some text → endpoint.eid ≡ number_of text
  pub uuid : Some endpoint.uuid ≡ parsed (text_under words (codes "uuid"))

-- A number of 8 bits, and one that is 0 if it is missing; and a seed of 64 bits, which is 0 if it
-- is missing.
abbrev pub AsksSmall : Given → (name : List ℕ) → (number : ℕ) → Type 0
AsksSmall words name number =
    (text : List ℕ) → words.one name ≡ Some text → IsNumeral 10 (without_leading_plus text) → number_of text < 2 ^ 8 → number ≡ number_of text

pub record AsksChance (words : Given) (name : List ℕ) (number : ℕ) : Type 0 where
  pub none : words.one name ≡ None → number ≡ 0
  pub given : AsksSmall words name number

pub record AsksSeed (words : Given) (seed : ℕ) : Type 0 where
  pub none : words.one (codes "seed") ≡ None → seed ≡ 0
  pub given : (text : List ℕ) → words.one (codes "seed") ≡ Some text → IsNumeral 10 (without_leading_plus text) → number_of text < 2 ^ 64 → seed ≡ number_of text

-- The roughness of the links.
pub record AsksRoughness (words : Given) (roughness : Roughness) : Type 0 where
  pub loss : AsksChance words (codes "loss") roughness.loss
  pub duplicate : AsksChance words (codes "duplicate") roughness.duplicate
  pub delay : AsksChance words (codes "delay") roughness.delay
  pub seed : AsksSeed words roughness.seed

-- A text is a number of 8 bits.
abbrev pub IsByte : Text → Type 0
IsByte text = IsNumeral 10 (without_leading_plus text) × (number_of text < 2 ^ 8)

-- a number is that of one of the texts
abbrev pub is_number_in : List Text → (number : ℕ) → Bool
is_number_in texts number = list_any (λ text. number == number_of text) texts

-- an endpoint identifier is in the set, if there is a set
abbrev pub is_named : Option DeviceSet → (eid : ℕ) → Bool
is_named devices eid = option_map_or (λ set. has_eid set eid) devices false

-- The devices of a run: those whose endpoint identifiers `--device` gives, each a number of 8 bits,
-- and those with a package of their own; no set if there is no such device.
pub record AsksDevices (words : Given) (devices : Option DeviceSet) : Type 0 where
  pub none : texts_under words (codes "device") ≡ [] → has_any_own (texts_under words (codes "package")) ≡ false → devices ≡ None
  pub given : All IsByte (texts_under words (codes "device"))
      → (eid : ℕ) → is_named devices eid ≡ (is_number_in (texts_under words (codes "device")) eid || has_own (texts_under words (codes "package")) eid)

-- The packages of a run, by the endpoint identifiers of devices.
pub record AsksPackages (words : Given) (packages : PackageChoice) : Type 0 where
  pub each : (eid : ℕ) → eid < 256 → number_for packages eid ≡ package_of (texts_under words (codes "package")) eid

-- The options of a run.
pub record AsksOrder (words : Given) (order : Order) : Type 0 where
  pub packages : AsksPackages words order.packages
  pub devices : AsksDevices words order.devices
  pub check : AsksFlag words (codes "check") order.is_checked
  pub roughness : AsksRoughness words order.roughness

-- The number of runs, if it fits 32 bits.
pub record AsksRuns (words : Given) (runs : ℕ) : Type 0 where
  pub is : (text : List ℕ) → words.one (codes "runs") ≡ Some text → IsNumeral 10 (without_leading_plus text) → number_of text < 2 ^ 32 → runs ≡ number_of text

-- The options of a soak.
pub record AsksSoak (words : Given) (order : SoakOrder) : Type 0 where
  pub runs : AsksRuns words order.runs
  pub roughness : AsksRoughness words order.roughness

-- A device by itself.
pub record AsksDevice (words : Given) (device : DeviceAlone) : Type 0 where
  pub config : AsksConfig words device.config
  pub eid : AsksSmall words (codes "EID") device.eid
  pub automatic : AsksFlag words (codes "auto") device.is_automatic
  pub opened : AsksFlag words (codes "open") device.is_open
  pub store : option_map (λ path. path.now) device.store ≡ words.first (codes "store")
  pub report : option_map (λ path. path.now) device.report ≡ words.first (codes "report")

-- The agent by itself.
pub record AsksAgent (words : Given) (agent : AgentAlone) : Type 0 where
  pub config : agent.config.now ≡ text_under words (codes "CONFIG")
  pub automatic : AsksFlag words (codes "auto") agent.is_automatic
  pub opened : AsksFlag words (codes "open") agent.is_open
  pub log : option_map (λ path. path.now) agent.log ≡ words.first (codes "sel")
  pub report : option_map (λ path. path.now) agent.report ≡ words.first (codes "report")
