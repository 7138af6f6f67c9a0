-- The text of a configuration: the agent, its devices and its packages.
use Rattle.std.specs.Prelude.{ℕ, ◌+◌, ◌==◌, ◌&&◌, ◌||◌, not, nat_lt, Bool, true, false, List, [], ◌∷◌, ◌++◌, Option, None, Some, Result, Ok, Err, codes, if◌then◌else◌, is_some, length, option_to_list}
use Rattle.std.specs.List.{list_any}
use Rattle.std.specs.Str.{bytes_eq, is_utf8}
use Rattle.mctp_wire.specs.declared.unit.Unit.{«Unit»}
use Rattle.mctp_wire.specs.declared.unit.Unit.TheVariants.{U64, U128}
use Rattle.mctp_ctl.specs.declared.answers.Endpoint.{Endpoint}
use Rattle.fwup_wire.specs.Descriptors.{descriptor_size, descriptors_bytes}
use Rattle.fwup_wire.specs.Values.{DeviceDescriptorOf}
use Rattle.fwup_wire.specs.declared.values.Key.{Key}
use Rattle.fd_core.specs.Codes.{longest_image}
use Rattle.fd_core.specs.Images.{LabelOf, label_of, same_key}
use Rattle.fd_core.specs.declared.parts.BankComponent.{BankComponent}
use Rattle.fw_script.specs.declared.faults.ScriptCause.{ScriptCause}
use Rattle.fw_script.specs.declared.faults.ScriptCause.TheVariants as causes
use Rattle.fw_script.specs.declared.faults.ScriptFault.{ScriptFault}
use Rattle.fw_script.specs.declared.config.Numbers.{Numbers}
use Rattle.fw_script.specs.declared.draft.Directive.{Directive}
use Rattle.fw_script.specs.declared.draft.Directive.TheVariants as directives
use Rattle.fw_script.specs.Faults.{both}
use Rattle.fw_script.specs.Lines.{fields_in, is_skipped, lines_of, words_of}
use Rattle.fw_script.specs.Values.{bytes_of, eid_of, kind_of, number_in, text_of, uuid_of}

-- a component, the label of the active image, and the image
pub record ComponentConfigOf : Type 0 where
  pub component : BankComponent
  pub label : LabelOf
  pub image : List ℕ

-- a device: its endpoint, its descriptors and its components, in the order of their lines
pub record DeviceConfigOf : Type 0 where
  pub endpoint : Endpoint
  pub descriptors : List DeviceDescriptorOf
  pub components : List ComponentConfigOf

-- the agent, the transmission unit of its network, its devices, and the paths of its packages
pub record ConfigOf : Type 0 where
  pub agent : Endpoint
  pub unit : «Unit»
  pub devices : List DeviceConfigOf
  pub packages : List (List ℕ)

-- The result of the lines read so far: the devices before the last, and the last, which the
-- following lines describe.
pub record DraftOf : Type 0 where
  pub agent : Option Endpoint
  pub unit : Option «Unit»
  pub done : List DeviceConfigOf
  pub last : Option DeviceConfigOf
  pub packages : List (List ℕ)

abbrev pub empty_draft : DraftOf
empty_draft = record { agent = None; unit = None; done = []; last = None; packages = [] }

abbrev pub devices_of : DraftOf → List DeviceConfigOf
devices_of d = d.done ++ option_to_list d.last

-- the directive of a line's first word
unfoldable pub directive_of : List ℕ → Option Directive
directive_of word =
    if bytes_eq word (codes "agent") then Some directives.Agent
    else if bytes_eq word (codes "unit") then Some directives.Unit
    else if bytes_eq word (codes "device") then Some directives.Device
    else if bytes_eq word (codes "descriptor") then Some directives.Descriptor
    else if bytes_eq word (codes "component") then Some directives.Component
    else if bytes_eq word (codes "package") then Some directives.Package
    else None

abbrev pub mapped_value : {A B : Type 0} → (A → B) → Result A ScriptCause → Result B ScriptCause
mapped_value f (Ok a) = Ok (f a)
mapped_value f (Err cause) = Err cause

-- a node's identifier and its UUID
abbrev pub endpoint_made : ℕ × List ℕ → Endpoint
endpoint_made e = record { eid = e.0; uuid = e.1 }

abbrev pub node_of : List ℕ → List ℕ → Result Endpoint ScriptCause
node_of eid uuid = mapped_value endpoint_made (both (eid_of eid) (uuid_of uuid))

-- the agent's line comes first
abbrev pub with_agent : DraftOf → Result Endpoint ScriptCause → Result DraftOf ScriptCause
with_agent d (Ok agent) = Ok (record d { agent = Some agent })
with_agent d (Err cause) = Err cause

abbrev pub agent_line : DraftOf → List (List ℕ) → Result DraftOf ScriptCause
agent_line d (eid ∷ uuid ∷ []) = if is_some d.agent then Err causes.Order else with_agent d (node_of eid uuid)
agent_line d fields = Err causes.Fields

-- a transmission unit: 64 or 128 bytes
abbrev pub unit_among : Result ℕ ScriptCause → Result «Unit» ScriptCause
unit_among (Ok bytes) = if bytes == 64 then Ok U64 else if bytes == 128 then Ok U128 else Err causes.Range
unit_among (Err cause) = Err cause

abbrev pub unit_of : List ℕ → Result «Unit» ScriptCause
unit_of word = unit_among (number_in 64 128 word)

-- the unit's line directly follows the agent's line, once
abbrev pub has_none : List (List ℕ) → Bool
has_none [] = true
has_none (path ∷ paths) = false

abbrev pub may_choose : DraftOf → Bool
may_choose d = is_some d.agent && (not (is_some d.unit) && (length (devices_of d) == 0 && has_none d.packages))

abbrev pub with_unit : DraftOf → Result «Unit» ScriptCause → Result DraftOf ScriptCause
with_unit d (Ok u) = Ok (record d { unit = Some u })
with_unit d (Err cause) = Err cause

abbrev pub unit_line : DraftOf → List (List ℕ) → Result DraftOf ScriptCause
unit_line d (bytes ∷ []) = if may_choose d then with_unit d (unit_of bytes) else Err causes.Order
unit_line d fields = Err causes.Fields

-- a device's line follows the agent's, and no package's
abbrev pub may_begin : DraftOf → Bool
may_begin d = is_some d.agent && has_none d.packages

abbrev pub is_agent : Option Endpoint → ℕ → Bool
is_agent None eid = false
is_agent (Some agent) eid = agent.eid == eid

abbrev pub is_device : List DeviceConfigOf → ℕ → Bool
is_device devices eid = list_any (λ x. x.endpoint.eid == eid) devices

-- a node of this identifier is there
abbrev pub uses_eid : DraftOf → ℕ → Bool
uses_eid d eid = is_agent d.agent eid || is_device (devices_of d) eid

abbrev pub new_device : Endpoint → DeviceConfigOf
new_device endpoint = record { endpoint = endpoint; descriptors = []; components = [] }

abbrev pub draft_with_device : DraftOf → Endpoint → DraftOf
draft_with_device d endpoint = record d { done = devices_of d; last = Some (new_device endpoint) }

abbrev pub with_device : DraftOf → Result Endpoint ScriptCause → Result DraftOf ScriptCause
with_device d (Err cause) = Err cause
with_device d (Ok endpoint) =
    if uses_eid d endpoint.eid then Err causes.Duplicate
    else if nat_lt 15 (length (devices_of d)) then Err causes.Limit
    else Ok (draft_with_device d endpoint)

abbrev pub device_line : DraftOf → List (List ℕ) → Result DraftOf ScriptCause
device_line d (eid ∷ uuid ∷ []) = if may_begin d then with_device d (node_of eid uuid) else Err causes.Order
device_line d fields = Err causes.Fields

-- a line of the last device, before any package's line
abbrev pub draft_with_last : DraftOf → Result DeviceConfigOf ScriptCause → Result DraftOf ScriptCause
draft_with_last d (Ok device) = Ok (record d { last = Some device })
draft_with_last d (Err cause) = Err cause

abbrev pub of_last : DraftOf → Option DeviceConfigOf → (DeviceConfigOf → Result DeviceConfigOf ScriptCause) → Result DraftOf ScriptCause
of_last d None says = Err causes.Order
of_last d (Some device) says = draft_with_last d (says device)

abbrev pub in_device : DraftOf → (DeviceConfigOf → Result DeviceConfigOf ScriptCause) → Result DraftOf ScriptCause
in_device d says = if has_none d.packages then of_last d d.last says else Err causes.Order

-- a descriptor: the encoded descriptors of a device fit one answer
abbrev pub descriptor_made : ℕ × List ℕ → DeviceDescriptorOf
descriptor_made v = record { kind = v.0; bytes = v.1 }

abbrev pub device_with_descriptor : DeviceConfigOf → DeviceDescriptorOf → Result DeviceConfigOf ScriptCause
device_with_descriptor x d =
    if nat_lt 246 (length (descriptors_bytes x.descriptors) + descriptor_size d) then Err causes.Limit
    else Ok (record x { descriptors = x.descriptors ++ d ∷ [] })

abbrev pub with_descriptor : DeviceConfigOf → Result (ℕ × List ℕ) ScriptCause → Result DeviceConfigOf ScriptCause
with_descriptor x (Ok v) = device_with_descriptor x (descriptor_made v)
with_descriptor x (Err cause) = Err cause

unfoldable pub device_with_descriptor_words : List ℕ → List ℕ → DeviceConfigOf → Result DeviceConfigOf ScriptCause
device_with_descriptor_words kind bytes x = with_descriptor x (both (kind_of kind) (bytes_of bytes))

abbrev pub descriptor_line : DraftOf → List (List ℕ) → Result DraftOf ScriptCause
descriptor_line d (kind ∷ bytes ∷ []) = in_device d (device_with_descriptor_words kind bytes)
descriptor_line d fields = Err causes.Fields

-- the numbers of a component: its classification, identifier and index, and the stamp of its image
abbrev pub key_made : ℕ × ℕ → Key
key_made v = record { classification = v.0; identifier = v.1 }

unfoldable pub key_of : List ℕ → List ℕ → Result Key ScriptCause
key_of class ident = mapped_value key_made (both (number_in 0 65535 class) (number_in 0 65535 ident))

abbrev pub numbers_made : Key × (ℕ × ℕ) → Numbers
numbers_made v = record { component = record { key = v.0; index = v.1.0 }; stamp = v.1.1 }

unfoldable pub numbers_of : List ℕ → List ℕ → List ℕ → List ℕ → Result Numbers ScriptCause
numbers_of class ident index stamp =
    mapped_value numbers_made (both (key_of class ident) (both (number_in 0 255 index) (number_in 0 4294967295 stamp)))

-- a component: the first bytes of its image's text are kept, with text type 1
abbrev pub component_made : List ℕ → Numbers × List ℕ → ComponentConfigOf
component_made text v = record {
  component = v.0.component;
  label = label_of (record { stamp = v.0.stamp; text = record { text_type = 1; bytes = text } });
  image = v.1;
}

-- a device has each component once, at most three of them, and images of at most a MiB
abbrev pub has_key : List ComponentConfigOf → Key → Bool
has_key cs key = list_any (λ c. same_key c.component.key key) cs

abbrev pub device_with_component : DeviceConfigOf → ComponentConfigOf → Result DeviceConfigOf ScriptCause
device_with_component x c =
    if has_key x.components c.component.key then Err causes.Duplicate
    else if nat_lt 2 (length x.components) || nat_lt longest_image (length c.image) then Err causes.Limit
    else Ok (record x { components = x.components ++ c ∷ [] })

abbrev pub with_component : List ℕ → DeviceConfigOf → Result (Numbers × List ℕ) ScriptCause → Result DeviceConfigOf ScriptCause
with_component text x (Ok v) = device_with_component x (component_made text v)
with_component text x (Err cause) = Err cause

unfoldable pub device_with_component_words : Result Numbers ScriptCause → (label image : List ℕ) → DeviceConfigOf → Result DeviceConfigOf ScriptCause
device_with_component_words numbers label image x = with_component (text_of label) x (both numbers (bytes_of image))

abbrev pub component_line : DraftOf → List (List ℕ) → Result DraftOf ScriptCause
component_line d (class ∷ ident ∷ index ∷ stamp ∷ label ∷ image ∷ []) = in_device d (device_with_component_words (numbers_of class ident index stamp) label image)
component_line d fields = Err causes.Fields

-- a package's line follows the agent's, and none but another package's follows it
unfoldable pub path_of : List ℕ → Result (List ℕ) ScriptCause
path_of word = if is_utf8 word then Ok word else Err causes.Number

abbrev pub with_package : DraftOf → Result (List ℕ) ScriptCause → Result DraftOf ScriptCause
with_package d (Ok path) = Ok (record d { packages = d.packages ++ path ∷ [] })
with_package d (Err cause) = Err cause

abbrev pub package_line : DraftOf → List (List ℕ) → Result DraftOf ScriptCause
package_line d (path ∷ []) = if is_some d.agent then with_package d (path_of path) else Err causes.Order
package_line d fields = Err causes.Fields

-- the draft after a directive
abbrev pub draft_after_directive : DraftOf → Directive → List (List ℕ) → Result DraftOf ScriptCause
draft_after_directive d directives.Agent fields = agent_line d fields
draft_after_directive d directives.Unit fields = unit_line d fields
draft_after_directive d directives.Device fields = device_line d fields
draft_after_directive d directives.Descriptor fields = descriptor_line d fields
draft_after_directive d directives.Component fields = component_line d fields
draft_after_directive d directives.Package fields = package_line d fields

abbrev pub line_named : DraftOf → Option Directive → Option (List (List ℕ)) → Result DraftOf ScriptCause
line_named d None fields = Err causes.Directive
line_named d (Some directive) None = Err causes.Fields
line_named d (Some directive) (Some fields) = draft_after_directive d directive fields

abbrev pub draft_after_words : DraftOf → List (List ℕ) → Result DraftOf ScriptCause
draft_after_words d [] = Err causes.Directive
draft_after_words d (name ∷ fields) = line_named d (directive_of name) (fields_in 6 fields)

-- the draft after one more line
unfoldable pub after_line : DraftOf → List ℕ → Result DraftOf ScriptCause
after_line d line = if is_skipped line then Ok d else draft_after_words d (words_of line)

-- After the last line: there are an agent and a device, and no device without a component.
abbrev pub is_bare : DeviceConfigOf → Bool
is_bare x = length x.components == 0

abbrev pub has_missing : List DeviceConfigOf → Bool
has_missing [] = true
has_missing (x ∷ xs) = list_any is_bare (x ∷ xs)

-- the unit of the unit's line, or the baseline without one
abbrev pub unit_or : Option «Unit» → «Unit»
unit_or None = U64
unit_or (Some u) = u

abbrev pub config_of_parts : Option Endpoint → «Unit» → List DeviceConfigOf → List (List ℕ) → Result ConfigOf ScriptCause
config_of_parts None u devices packages = Err causes.Missing
config_of_parts (Some agent) u devices packages =
    if has_missing devices then Err causes.Missing else Ok (record { agent = agent; unit = u; devices = devices; packages = packages })

unfoldable pub config_of_draft : DraftOf → Result ConfigOf ScriptCause
config_of_draft d = config_of_parts d.agent (unit_or d.unit) (devices_of d) d.packages

-- a fault of the line with this number
abbrev pub at_line : {A B : Type 0} → ℕ → (A → Result B ScriptFault) → Result A ScriptCause → Result B ScriptFault
at_line number next (Ok a) = next a
at_line number next (Err cause) = Err (record { line = number; cause = cause })

-- the configuration after the remaining lines, of which the first has number `number`
abbrev pub config_from : List (List ℕ) → ℕ → DraftOf → Result ConfigOf ScriptFault
config_from [] number d = at_line number Ok (config_of_draft d)
config_from (line ∷ lines) number d = at_line number (config_from lines (number + 1)) (after_line d line)

-- the configuration of a text, or its first line with a fault, and the fault
abbrev pub config_of : List ℕ → Result ConfigOf ScriptFault
config_of text = config_from (lines_of text) 1 empty_draft
