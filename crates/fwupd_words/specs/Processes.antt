-- The process of a node that arguments request: its wire, its ticks, and which options go together.
use Rattle.std.specs.Prelude.{ℕ, ◌≡◌, ◌<◌, ◌^◌, ◌||◌, if◌then◌else◌, Bool, true, false, Option, None, Some, codes, option_map}
use Rattle.std.specs.Str.Parse.{IsNumeral, without_leading_plus}
use Rattle.clap.specs.Words.{Text}
use Rattle.clap.specs.declared.error.kind.ErrorKind.{ErrorKind}
use Rattle.clap.specs.declared.error.kind.ErrorKind.TheVariants as kinds
use Rattle.fwupd_words.specs.Words.{AsksConfig, AsksFlag, AsksForm, AsksSmall, AsksTraceForm, Given, has_value, is_set, number_of, text_under}
use Rattle.fwupd_base.specs.declared.processes.AgentProcess.{AgentProcess}
use Rattle.fwupd_base.specs.declared.processes.DeviceProcess.{DeviceProcess}
use Rattle.fwupd_base.specs.declared.processes.Serving.{Serving}
use Rattle.fwupd_base.specs.declared.processes.Watching.{Watching}
use Rattle.fwupd_base.specs.declared.processes.Wire.{Wire}
use Rattle.fwupd_base.specs.declared.processes.Wire.TheVariants as wires

-- ---- which options go together

-- An option that only a process has; one of a device's process, and one of the agent's.
abbrev pub has_process : Given → Bool
has_process words =
    has_value words (codes "tick") || (has_value words (codes "ticks")
    || (has_value words (codes "trace") || (has_value words (codes "trace-format") || has_value words (codes "record"))))

abbrev pub has_device_process : Given → Bool
has_device_process words = has_process words || is_set words (codes "take-over")

abbrev pub has_agent_process : Given → Bool
has_agent_process words =
    has_process words || (has_value words (codes "package")
    || (has_value words (codes "store") || (is_set words (codes "check") || is_set words (codes "json"))))

-- An option that only a filter of lines has.
abbrev pub has_filter : Given → Bool
has_filter words = is_set words (codes "auto") || has_value words (codes "report")

-- Why the options of a node don't go together, if they don't: both wires, a wire with an option of
-- a filter, or no wire with an option of a process.
abbrev pub clash_of : (sockets tty filter process : Bool) → Option ErrorKind
clash_of true true filter process = Some kinds.ArgumentConflict
clash_of true false filter process = if filter then Some kinds.ArgumentConflict else None
clash_of false true filter process = if filter then Some kinds.ArgumentConflict else None
clash_of false false filter process = if process then Some kinds.MissingRequiredArgument else None

-- `sockets` is the option of the folder of its sockets
abbrev pub node_clash : Given → (sockets : Text) → (process : Bool) → Option ErrorKind
node_clash words sockets process = clash_of (has_value words sockets) (has_value words (codes "tty")) (has_filter words) process

abbrev pub device_clash : Given → Option ErrorKind
device_clash words = node_clash words (codes "listen") (has_device_process words)

abbrev pub agent_clash : Given → Option ErrorKind
agent_clash words = node_clash words (codes "connect") (has_agent_process words)

-- ---- the values

-- The wire of a node; a filter has none.
abbrev pub AsksWire : Given → (sockets : Text) → Option Wire → Type 0
AsksWire words sockets (Some (wires.Sockets folder)) = (words.first sockets ≡ Some folder.now) × (words.first (codes "tty") ≡ None)
AsksWire words sockets (Some (wires.Tty path)) = (words.first sockets ≡ None) × (words.first (codes "tty") ≡ Some path.now)
AsksWire words sockets None = (words.first sockets ≡ None) × (words.first (codes "tty") ≡ None)

-- A number of 32 bits that may be missing; and one that is `otherwise` if it is missing.
pub record AsksOptional (words : Given) (name : Text) (number : Option ℕ) : Type 0 where
  pub none : words.one name ≡ None → number ≡ None
  pub given : (text : Text) → words.one name ≡ Some text → IsNumeral 10 (without_leading_plus text) → number_of text < 2 ^ 32 → number ≡ Some (number_of text)

pub record AsksNumberOr (words : Given) (name : Text) (otherwise number : ℕ) : Type 0 where
  pub none : words.one name ≡ None → number ≡ otherwise
  pub given : (text : Text) → words.one name ≡ Some text → IsNumeral 10 (without_leading_plus text) → number_of text < 2 ^ 32 → number ≡ number_of text

-- The milliseconds of a unit, if no option says so.
abbrev pub usual_tick : Wire → ℕ
usual_tick (wires.Sockets folder) = 10
usual_tick (wires.Tty path) = 50

-- How the process of a node is served.
pub record AsksServing (words : Given) (serving : Serving) : Type 0 where
  pub opened : AsksFlag words (codes "open") serving.is_open
  pub tick : AsksNumberOr words (codes "tick") (usual_tick serving.wire) serving.tick
  pub ticks : AsksOptional words (codes "ticks") serving.ticks

-- What is written of the process of a node.
pub record AsksWatching (words : Given) (watching : Watching) : Type 0 where
  pub trace : option_map (λ path. path.now) watching.trace ≡ words.first (codes "trace")
  pub trace_form : AsksTraceForm words watching.trace_form
  pub record_path : option_map (λ path. path.now) watching.record ≡ words.first (codes "record")

-- A device as a process.
pub record AsksDeviceProcess (words : Given) (device : DeviceProcess) : Type 0 where
  pub config : AsksConfig words device.config
  pub eid : AsksSmall words (codes "EID") device.eid
  pub store : option_map (λ path. path.now) device.store ≡ words.first (codes "store")
  pub wire : AsksWire words (codes "listen") (Some device.serving.wire)
  pub serving : AsksServing words device.serving
  pub takes_over : AsksFlag words (codes "take-over") device.takes_over
  pub watching : AsksWatching words device.watching

-- The agent as a process.
pub record AsksAgentProcess (words : Given) (agent : AgentProcess) : Type 0 where
  pub config : agent.config.now ≡ text_under words (codes "CONFIG")
  pub number : AsksNumberOr words (codes "package") 1 agent.number
  pub log : option_map (λ path. path.now) agent.log ≡ words.first (codes "sel")
  pub form : AsksForm words agent.form
  pub checked : AsksFlag words (codes "check") agent.is_checked
  pub store : option_map (λ path. path.now) agent.store ≡ words.first (codes "store")
  pub wire : AsksWire words (codes "connect") (Some agent.serving.wire)
  pub serving : AsksServing words agent.serving
  pub watching : AsksWatching words agent.watching
