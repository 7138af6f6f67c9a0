-- The lines to a node by itself. Their words, fields and faults are those of a schedule.
use Rattle.std.specs.Prelude.{ℕ, List, [], ◌∷◌, Option, None, Some, Result, Ok, Err, codes, if◌then◌else◌}
use Rattle.std.specs.List.{list_all}
use Rattle.std.specs.Char.{is_ascii_hexdigit}
use Rattle.std.specs.Str.{bytes_eq}
use Rattle.hex.specs.Hex.{decode_of}
use Rattle.fd_core.specs.declared.states.Verdict.{Verdict}
use Rattle.fw_steps.specs.declared.step.Step.{Step}
use Rattle.fw_script.specs.declared.faults.ScriptCause.{ScriptCause}
use Rattle.fw_script.specs.declared.faults.ScriptCause.TheVariants as causes
use Rattle.fw_script.specs.declared.schedule.Directive.{Directive}
use Rattle.fw_script.specs.declared.schedule.Directive.TheVariants as directives
use Rattle.fw_script.specs.Lines.{fields_in, is_skipped, words_of}
use Rattle.fw_script.specs.Schedules.{directive_of, step_of, ticks_of, verdict_of}
use Rattle.fw_script.specs.Values.{decoded_digits}
use Rattle.fw_serve.specs.declared.lines.AgentLine.{AgentLine}
use Rattle.fw_serve.specs.declared.lines.AgentLine.TheVariants as agent_lines
use Rattle.fw_serve.specs.declared.lines.AgentWord.{AgentWord}
use Rattle.fw_serve.specs.declared.lines.AgentWord.TheVariants as agent_words
use Rattle.fw_serve.specs.declared.lines.DeviceLine.{DeviceLine}
use Rattle.fw_serve.specs.declared.lines.DeviceLine.TheVariants as device_lines
use Rattle.fw_serve.specs.declared.lines.DeviceWord.{DeviceWord}
use Rattle.fw_serve.specs.declared.lines.DeviceWord.TheVariants as device_words

-- a line to a device
pub data DeviceLineOf : Type 0 where
  Packet : (bytes : List ℕ) → DeviceLineOf
  Ticks : (count : ℕ) → DeviceLineOf
  Judges : (verdict : Verdict) → DeviceLineOf
  Restarts : DeviceLineOf
  Reports : DeviceLineOf

-- a line to the agent; a call is a step of the operator
pub data AgentLineOf : Type 0 where
  Packet : (bytes : List ℕ) → AgentLineOf
  Ticks : (count : ℕ) → AgentLineOf
  Calls : (step : Step) → AgentLineOf
  Restarts : AgentLineOf
  Reports : AgentLineOf

-- from the code's types
abbrev pub device_line_seen : DeviceLine → DeviceLineOf
device_line_seen (device_lines.Packet bytes) = DeviceLineOf.Packet bytes.items
device_line_seen (device_lines.Ticks count) = DeviceLineOf.Ticks count
device_line_seen (device_lines.Verdict verdict) = DeviceLineOf.Judges verdict
device_line_seen device_lines.Restart = DeviceLineOf.Restarts
device_line_seen device_lines.Report = DeviceLineOf.Reports

abbrev pub agent_line_seen : AgentLine → AgentLineOf
agent_line_seen (agent_lines.Packet bytes) = AgentLineOf.Packet bytes.items
agent_line_seen (agent_lines.Ticks count) = AgentLineOf.Ticks count
agent_line_seen (agent_lines.Call step) = AgentLineOf.Calls step
agent_line_seen agent_lines.Restart = AgentLineOf.Restarts
agent_line_seen agent_lines.Report = AgentLineOf.Reports

abbrev pub mapped : {A B : Type 0} → (A → B) → Result A ScriptCause → Result B ScriptCause
mapped f (Ok a) = Ok (f a)
mapped f (Err cause) = Err cause

-- A line of hexadecimal digits is a packet. Any other line that begins with no word of the format
-- has no directive.
unfoldable pub packet_of_line : List ℕ → Result (List ℕ) ScriptCause
packet_of_line line = if list_all is_ascii_hexdigit line then decoded_digits (decode_of line) else Err causes.Directive

-- a line without fields
abbrev pub no_fields : {A : Type 0} → A → List (List ℕ) → Result A ScriptCause
no_fields line [] = Ok line
no_fields line (field ∷ fields) = Err causes.Fields

-- A DEVICE

-- the first word of a line: some of those of a schedule, and `report`
abbrev pub report_word : {A : Type 0} → A → List ℕ → Option A
report_word word name = if bytes_eq name (codes "report") then Some word else None

abbrev pub device_word_in : Option Directive → List ℕ → Option DeviceWord
device_word_in (Some directives.Tick) name = Some device_words.Tick
device_word_in (Some directives.Verdict) name = Some device_words.Verdict
device_word_in (Some directives.Restart) name = Some device_words.Restart
device_word_in d name = report_word device_words.Report name

abbrev pub device_word_of : List ℕ → Option DeviceWord
device_word_of name = device_word_in (directive_of name) name

-- the word of a verdict
abbrev pub verdict_line_of : List (List ℕ) → Result Verdict ScriptCause
verdict_line_of (word ∷ []) = verdict_of word
verdict_line_of fields = Err causes.Fields

abbrev pub device_fields_line : DeviceWord → List (List ℕ) → Result DeviceLineOf ScriptCause
device_fields_line device_words.Tick fields = mapped DeviceLineOf.Ticks (ticks_of fields)
device_fields_line device_words.Verdict fields = mapped DeviceLineOf.Judges (verdict_line_of fields)
device_fields_line device_words.Restart fields = no_fields DeviceLineOf.Restarts fields
device_fields_line device_words.Report fields = no_fields DeviceLineOf.Reports fields

abbrev pub device_fields_if : DeviceWord → Option (List (List ℕ)) → Result DeviceLineOf ScriptCause
device_fields_if word None = Err causes.Fields
device_fields_if word (Some fields) = device_fields_line word fields

abbrev pub device_worded : (line : List ℕ) → Option DeviceWord → (fields : List (List ℕ)) → Result DeviceLineOf ScriptCause
device_worded line None fields = mapped DeviceLineOf.Packet (packet_of_line line)
device_worded line (Some word) fields = device_fields_if word (fields_in 6 fields)

abbrev pub device_words_line : (line : List ℕ) → List (List ℕ) → Result DeviceLineOf ScriptCause
device_words_line line [] = Err causes.Directive
device_words_line line (name ∷ fields) = device_worded line (device_word_of name) fields

-- a line to a device, none if it is skipped, or its first fault
unfoldable pub device_line_of : List ℕ → Result (Option DeviceLineOf) ScriptCause
device_line_of line = if is_skipped line then Ok None else mapped Some (device_words_line line (words_of line))

-- THE AGENT

abbrev pub agent_word_in : Option Directive → List ℕ → Option AgentWord
agent_word_in (Some directives.Tick) name = Some agent_words.Tick
agent_word_in (Some directives.Start) name = Some agent_words.Start
agent_word_in (Some directives.Cancel) name = Some agent_words.Cancel
agent_word_in (Some directives.Activate) name = Some agent_words.Activate
agent_word_in (Some directives.Sel) name = Some agent_words.Sel
agent_word_in (Some directives.Restart) name = Some agent_words.Restart
agent_word_in d name = report_word agent_words.Report name

abbrev pub agent_word_of : List ℕ → Option AgentWord
agent_word_of name = agent_word_in (directive_of name) name

-- a call of the operator: a step of a schedule
abbrev pub call_line : Directive → List (List ℕ) → Result AgentLineOf ScriptCause
call_line d fields = mapped AgentLineOf.Calls (step_of d fields)

abbrev pub agent_fields_line : AgentWord → List (List ℕ) → Result AgentLineOf ScriptCause
agent_fields_line agent_words.Tick fields = mapped AgentLineOf.Ticks (ticks_of fields)
agent_fields_line agent_words.Start fields = call_line directives.Start fields
agent_fields_line agent_words.Cancel fields = call_line directives.Cancel fields
agent_fields_line agent_words.Activate fields = call_line directives.Activate fields
agent_fields_line agent_words.Sel fields = call_line directives.Sel fields
agent_fields_line agent_words.Restart fields = no_fields AgentLineOf.Restarts fields
agent_fields_line agent_words.Report fields = no_fields AgentLineOf.Reports fields

abbrev pub agent_fields_if : AgentWord → Option (List (List ℕ)) → Result AgentLineOf ScriptCause
agent_fields_if word None = Err causes.Fields
agent_fields_if word (Some fields) = agent_fields_line word fields

abbrev pub agent_worded : (line : List ℕ) → Option AgentWord → (fields : List (List ℕ)) → Result AgentLineOf ScriptCause
agent_worded line None fields = mapped AgentLineOf.Packet (packet_of_line line)
agent_worded line (Some word) fields = agent_fields_if word (fields_in 6 fields)

abbrev pub agent_words_line : (line : List ℕ) → List (List ℕ) → Result AgentLineOf ScriptCause
agent_words_line line [] = Err causes.Directive
agent_words_line line (name ∷ fields) = agent_worded line (agent_word_of name) fields

-- a line to the agent, none if it is skipped, or its first fault
unfoldable pub agent_line_of : List ℕ → Result (Option AgentLineOf) ScriptCause
agent_line_of line = if is_skipped line then Ok None else mapped Some (agent_words_line line (words_of line))
