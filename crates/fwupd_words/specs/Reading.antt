-- The result of parsing arguments: a job, or an error with their fault.
use Rattle.std.specs.Prelude.{ℕ, ◌≡◌, ◌≢◌, ◌<◌, ◌≤◌, ◌^◌, ◌⊎◌, true, IfSome, IsSomeAnd, List, [], Option, None, Some, MatchResult, Result, Ok, Err, codes}
use Rattle.std.specs.List.{AllByRecursion}
use Rattle.std.specs.Str.Parse.{IsNumeral, without_leading_plus}
use Rattle.clap.specs.Words.{App, HasKind, Text, fault_of, has_subcommand, kind_of, subcommand_of, subcommand_rows_of}
use Rattle.clap.specs.declared.error.Error.{Error}
use Rattle.clap.specs.declared.error.kind.ErrorKind.TheVariants as kinds
use Rattle.clap.specs.declared.parser.matches.ArgMatches.{ArgMatches}
use Rattle.uuid.specs.Text.{parsed}
use Rattle.fwupd_words.specs.Jobs.{AsksForJob}
use Rattle.fwupd_words.specs.Clashes.{build_clash, common_clash, replay_clash, run_clash}
use Rattle.fwupd_words.specs.Images.{image_clash}
use Rattle.fwupd_words.specs.Processes.{agent_clash, device_clash}
use Rattle.fwupd_words.specs.Words.{Given, given_by, is_named, number_of, text_under}
use Rattle.fwupd_base.specs.ImageFiles.{files_in}
use Rattle.fwupd_base.specs.PackageChoices.{number_for}
use Rattle.fwupd_base.specs.declared.image_files.ConfigSource.{ConfigSource}
use Rattle.fwupd_base.specs.declared.device_set.DeviceSet.{DeviceSet}
use Rattle.fwupd_base.specs.declared.package_choice.PackageChoice.{PackageChoice}
use Rattle.fwupd_base.specs.declared.roughness.Roughness.{Roughness}
use Rattle.fwupd_words.specs.declared.asked.Job.{Job}
use Rattle.fwupd_words.specs.declared.asked.Job.TheVariants as jobs
use Rattle.fwupd_base.specs.declared.processes.Serving.{Serving}

-- The subcommand `answer` is refused for a text that isn't a UUID.
pub record IsNoUuid (name : Text) (words : Given) (error : Error) : Type 0 where
  pub answers : name ≡ codes "answer"
  pub kind : kind_of error ≡ kinds.ValueValidation
  pub uuid : parsed (text_under words (codes "uuid")) ≡ None

-- A subcommand is refused for options that don't go together, with the kind of error of their
-- clash.
abbrev pub HasOwnClash : (name : Text) → Given → Error → Type 0
HasOwnClash name words error =
    ((name ≡ codes "device") × (device_clash words ≡ Some (kind_of error)))
    ⊎ (((name ≡ codes "agent") × (agent_clash words ≡ Some (kind_of error)))
    ⊎ (((name ≡ codes "replay") × (replay_clash words ≡ Some (kind_of error)))
    ⊎ (((name ≡ codes "run") × (run_clash words ≡ Some (kind_of error)))
    ⊎ ((name ≡ codes "build") × (build_clash words ≡ Some (kind_of error))))))

-- Options that subcommands share are refused, with the kind of error of their clash. Only if they
-- fit is a subcommand refused for others.
abbrev pub HasClash : (name : Text) → Given → Error → Type 0
HasClash name words error =
    (common_clash words ≡ Some (kind_of error))
    ⊎ ((common_clash words ≡ None) × (IsNoUuid name words error ⊎ HasOwnClash name words error))

-- The roughness is within the bounds of the command line.
pub record HasAllowedRoughness (roughness : Roughness) : Type 0 where
  pub loss : roughness.loss ≤ 100
  pub duplicate : roughness.duplicate ≤ 100
  pub delay : roughness.delay ≤ 8

-- The ticks of a process are within the bounds of the command line.
pub record HasAllowedTicks (serving : Serving) : Type 0 where
  pub least : 1 ≤ serving.tick
  pub most : serving.tick ≤ 1000
  pub ticks : IfSome serving.ticks (λ ticks. 1 ≤ ticks)

-- The number of each device's package is at least 1.
abbrev pub HasAllowedPackages : PackageChoice → Type 0
HasAllowedPackages packages = (eid : ℕ) → eid < 256 → 1 ≤ number_for packages eid

-- The endpoint identifiers of the chosen devices are 8 to 254.
abbrev pub HasAllowedDevices : Option DeviceSet → Type 0
HasAllowedDevices devices = (eid : ℕ) → is_named devices eid ≡ true → (8 ≤ eid) × (eid ≤ 254)

-- The endpoint identifiers of the devices whose images are in files are 8 to 254.
abbrev pub HasAllowedImages : ConfigSource → Type 0
HasAllowedImages config = AllByRecursion (λ file. (8 ≤ file.eid) × (file.eid ≤ 254)) (files_in config.images)

-- The numbers of a job are within the bounds of the command line.
abbrev pub IsWithinBounds : Job → Type 0
IsWithinBounds (jobs.Answer endpoint) = (8 ≤ endpoint.eid) × (endpoint.eid ≤ 254)
IsWithinBounds (jobs.AnswerSerial endpoint) = (8 ≤ endpoint.eid) × (endpoint.eid ≤ 254)
IsWithinBounds (jobs.Device d) = (8 ≤ d.eid) × (d.eid ≤ 254) × HasAllowedImages d.config
IsWithinBounds (jobs.DeviceProcess d) = (8 ≤ d.eid) × (d.eid ≤ 254) × HasAllowedTicks d.serving × HasAllowedImages d.config
IsWithinBounds (jobs.AgentProcess a) = (1 ≤ a.number) × HasAllowedTicks a.serving
IsWithinBounds (jobs.Replay r) = HasAllowedImages r.config
IsWithinBounds (jobs.Plan p) = (1 ≤ p.number) × HasAllowedImages p.config
IsWithinBounds (jobs.Status s) = HasAllowedImages s.config
IsWithinBounds (jobs.Run u) =
    HasAllowedPackages u.order.packages × HasAllowedDevices u.order.devices × HasAllowedRoughness u.order.roughness × HasAllowedImages u.config
IsWithinBounds (jobs.Soak s) = (1 ≤ s.order.runs) × (s.order.runs ≤ 1000000) × HasAllowedRoughness s.order.roughness × HasAllowedImages s.config
IsWithinBounds _ = Unit {0}

-- Arguments without a fault give the job that their subcommand requests, or are refused for options
-- that don't fit or go together, or for a malformed UUID. The kind of any other error is one of the
-- faults of the arguments, or memory ran out.
abbrev pub ReadsWords : App → List Text → Result Job Error → Type 0
ReadsWords line words (Ok job) =
    (fault_of line words ≡ []) × IsSomeAnd (subcommand_of line words) (λ named. AsksForJob named.0 (given_by named.1) job × (common_clash (given_by named.1) ≡ None)) × IsWithinBounds job
ReadsWords line words (Err error) =
    HasKind (fault_of line words) error
    ⊎ ((fault_of line words ≡ []) × IsSomeAnd (subcommand_of line words) (λ named. HasClash named.0 (given_by named.1) error))

-- ---- the steps

-- The command line finds a subcommand and its rows in arguments without a fault, and otherwise
-- gives an error.
abbrev pub IsFound : App → List Text → ArgMatches → Type 0
IsFound line words matches =
    (fault_of line words ≡ []) × (subcommand_rows_of matches ≡ subcommand_of line words) × (has_subcommand matches ≡ true)

abbrev pub FindsSubcommand : App → List Text → Result ArgMatches Error → Type 0
FindsSubcommand line words result = MatchResult result (IsFound line words) (HasKind (fault_of line words))

-- There is no number of 8 bits under a name.
abbrev pub IsNoByte : Given → (name : Text) → Type 0
IsNoByte words name = (text : Text) → words.one name ≡ Some text → IsNumeral 10 (without_leading_plus text) → number_of text < 2 ^ 8 → ⊥

-- Why arguments give no endpoint: memory ran out, there is no identifier of 8 bits, or the text
-- isn't a UUID.
abbrev pub RefusesEndpoint : Given → Error → Type 0
RefusesEndpoint words error =
    (kind_of error ≡ kinds.OutOfMemory)
    ⊎ (((kind_of error ≡ kinds.MissingRequiredArgument) × IsNoByte words (codes "EID"))
    ⊎ ((kind_of error ≡ kinds.ValueValidation) × (parsed (text_under words (codes "uuid")) ≡ None)))

-- The name isn't that of a subcommand.
abbrev pub IsNoJob : (name : Text) → Type 0
IsNoJob name =
    (name ≢ codes "answer") × (name ≢ codes "inspect") × (name ≢ codes "replay") × (name ≢ codes "plan") × (name ≢ codes "run")
    × (name ≢ codes "soak") × (name ≢ codes "sel") × (name ≢ codes "build") × (name ≢ codes "device") × (name ≢ codes "agent") × (name ≢ codes "decode") × (name ≢ codes "status")

-- Why the subcommand with these arguments requests no job, if the options that subcommands share
-- fit: memory ran out, it is `answer` without an endpoint, or options that don't go together.
abbrev pub IsRefusedWord : (name : Text) → Given → Error → Type 0
IsRefusedWord name words error =
    (kind_of error ≡ kinds.OutOfMemory) ⊎ (((name ≡ codes "answer") × RefusesEndpoint words error) ⊎ HasOwnClash name words error)

-- or there is no such subcommand
abbrev pub RefusesJob : (name : Text) → Given → Error → Type 0
RefusesJob name words error = IsRefusedWord name words error ⊎ IsNoJob name

-- Why the values of `--image` are refused: memory ran out, or they don't fit.
abbrev pub RefusesImages : List Text → Error → Type 0
RefusesImages texts error = (kind_of error ≡ kinds.OutOfMemory) ⊎ (image_clash texts ≡ Some (kind_of error))

-- Why arguments are refused: memory ran out, or the options that subcommands share don't fit, or
-- else for the subcommand.
abbrev pub RefusesCommon : Given → Error → Type 0
RefusesCommon words error = (kind_of error ≡ kinds.OutOfMemory) ⊎ (common_clash words ≡ Some (kind_of error))

abbrev pub RefusesWords : (name : Text) → Given → Error → Type 0
RefusesWords name words error = RefusesCommon words error ⊎ ((common_clash words ≡ None) × RefusesJob name words error)
