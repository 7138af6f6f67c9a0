-- The text of a package description.
use Rattle.std.specs.Prelude.{ℕ, ◌+◌, ◌||◌, not, nat_lt, Bool, true, false, List, [], ◌∷◌, ◌++◌, Option, None, Some, Result, Ok, Err, codes, if◌then◌else◌, is_some, length, map, option_map, option_to_list, string_bytes}
use Rattle.std.specs.List.{list_all, repeat}
use Rattle.std.specs.Str.{bytes_eq}
use Rattle.fw_package.specs.Package.{DescriptorOf}
use Rattle.fwup_wire.specs.declared.values.Key.{Key}
use Rattle.fw_script.specs.declared.faults.ScriptCause.{ScriptCause}
use Rattle.fw_script.specs.declared.faults.ScriptCause.TheVariants as causes
use Rattle.fw_script.specs.declared.faults.ScriptFault.{ScriptFault}
use Rattle.fw_script.specs.declared.package_spec.PackageSpec.{PackageSpec}
use Rattle.fw_script.specs.declared.package_spec.SpecComponent.{SpecComponent}
use Rattle.fw_script.specs.declared.package_spec.SpecDescriptor.{SpecDescriptor}
use Rattle.fw_script.specs.declared.package_spec.SpecNumbers.{SpecNumbers}
use Rattle.fw_script.specs.declared.package_spec.SpecRecord.{SpecRecord}
use Rattle.fw_script.specs.declared.spec_lines.Directive.{Directive}
use Rattle.fw_script.specs.declared.spec_lines.Directive.TheVariants as directives
use Rattle.fw_script.specs.Configs.{key_of, mapped_value}
use Rattle.fw_script.specs.Faults.{both}
use Rattle.fw_script.specs.Lines.{is_skipped, lines_of, words_of}
use Rattle.fw_script.specs.ReleaseTimes.{release_of}
use Rattle.fw_script.specs.SpecFields.{image_path_of, package_text_of, uses_of, whole_fields}
use Rattle.fw_script.specs.Values.{bytes_of, kind_of, number_in}

-- a record: the line that begins it, its option flags, set text and descriptors, and the components
-- that it uses, counted from 0
pub record SpecRecordOf : Type 0 where
  pub line : ℕ
  pub flags : ℕ
  pub set_text : List ℕ
  pub descriptors : List DescriptorOf
  pub uses : List ℕ

-- a component, and the path of its image's file, if it has one
pub record SpecComponentOf : Type 0 where
  pub numbers : SpecNumbers
  pub text : List ℕ
  pub path : Option (List ℕ)

-- the description of a package, and the number of the line after the last
pub record PackageSpecOf : Type 0 where
  pub release : List ℕ
  pub version : List ℕ
  pub records : List SpecRecordOf
  pub components : List SpecComponentOf
  pub next_line : ℕ

-- the description that a value of the program represents
abbrev pub spec_descriptor_of : SpecDescriptor → DescriptorOf
spec_descriptor_of d = record { kind = d.kind; bytes = d.bytes.items }

abbrev pub spec_record_of : SpecRecord → SpecRecordOf
spec_record_of r =
    record {
      line = r.line;
      flags = r.flags;
      set_text = r.set_text.items;
      descriptors = map spec_descriptor_of r.descriptors.items;
      uses = r.uses.items;
    }

abbrev pub spec_component_of : SpecComponent → SpecComponentOf
spec_component_of c = record { numbers = c.numbers; text = c.text.items; path = option_map (λ p. string_bytes p) c.path }

abbrev pub spec_seen : PackageSpec → PackageSpecOf
spec_seen p =
    record {
      release = p.release;
      version = p.version.items;
      records = map spec_record_of p.records.items;
      components = map spec_component_of p.components.items;
      next_line = p.next_line;
    }

-- The result of the lines read so far: the records before the last, and the last, which the
-- following lines describe.
pub record SpecDraftOf : Type 0 where
  pub version : Option (List ℕ)
  pub release : Option (List ℕ)
  pub done : List SpecRecordOf
  pub last : Option SpecRecordOf
  pub components : List SpecComponentOf

abbrev pub empty_spec_draft : SpecDraftOf
empty_spec_draft = record { version = None; release = None; done = []; last = None; components = [] }

abbrev pub records_of : SpecDraftOf → List SpecRecordOf
records_of d = d.done ++ option_to_list d.last

-- the directive of a line's first word
unfoldable pub spec_directive_of : List ℕ → Option Directive
spec_directive_of word =
    if bytes_eq word (codes "version") then Some directives.Version
    else if bytes_eq word (codes "release") then Some directives.Release
    else if bytes_eq word (codes "record") then Some directives.Record
    else if bytes_eq word (codes "descriptor") then Some directives.Descriptor
    else if bytes_eq word (codes "component") then Some directives.Component
    else None

-- there is a component, or a record
abbrev pub has_component : List SpecComponentOf → Bool
has_component [] = false
has_component (c ∷ cs) = true

abbrev pub has_begun : SpecDraftOf → Bool
has_begun d = is_some d.last || has_component d.components

-- the package's version text, and its release time: each once, before all records and components
abbrev pub with_version : SpecDraftOf → Result (List ℕ) ScriptCause → Result SpecDraftOf ScriptCause
with_version d (Ok text) = Ok (record d { version = Some text })
with_version d (Err cause) = Err cause

abbrev pub version_line : SpecDraftOf → List (List ℕ) → Result SpecDraftOf ScriptCause
version_line d (text ∷ []) = if is_some d.version || has_begun d then Err causes.Order else with_version d (package_text_of text)
version_line d fields = Err causes.Fields

abbrev pub with_release : SpecDraftOf → Result (List ℕ) ScriptCause → Result SpecDraftOf ScriptCause
with_release d (Ok bytes) = Ok (record d { release = Some bytes })
with_release d (Err cause) = Err cause

abbrev pub release_line : SpecDraftOf → List (List ℕ) → Result SpecDraftOf ScriptCause
release_line d (bytes ∷ []) = if is_some d.release || has_begun d then Err causes.Order else with_release d (release_of bytes)
release_line d fields = Err causes.Fields

-- a record: before all components, and at most 255 of them
abbrev pub record_made : ℕ → ℕ × (List ℕ × List ℕ) → SpecRecordOf
record_made line v = record { line = line; flags = v.0; set_text = v.1.0; descriptors = []; uses = v.1.1 }

abbrev pub spec_draft_with_record : SpecDraftOf → SpecRecordOf → SpecDraftOf
spec_draft_with_record d r = record d { done = records_of d; last = Some r }

unfoldable pub record_read : ℕ → (flags text : List ℕ) → (uses : List (List ℕ)) → Result SpecRecordOf ScriptCause
record_read line flags text uses = mapped_value (record_made line) (both (number_in 0 4294967295 flags) (both (package_text_of text) (uses_of uses)))

abbrev pub with_record : SpecDraftOf → Result SpecRecordOf ScriptCause → Result SpecDraftOf ScriptCause
with_record d (Ok r) = if nat_lt 254 (length (records_of d)) then Err causes.Limit else Ok (spec_draft_with_record d r)
with_record d (Err cause) = Err cause

abbrev pub record_line : ℕ → SpecDraftOf → List (List ℕ) → Result SpecDraftOf ScriptCause
record_line line d (flags ∷ text ∷ first ∷ others) =
    if has_component d.components then Err causes.Order
    else with_record d (record_read line flags text (first ∷ others))
record_line line d fields = Err causes.Fields

-- a descriptor of the last record, which has at most 255: before all components
abbrev pub descriptor_made : ℕ × List ℕ → DescriptorOf
descriptor_made v = record { kind = v.0; bytes = v.1 }

abbrev pub with_descriptor : SpecRecordOf → Result (ℕ × List ℕ) ScriptCause → Result SpecRecordOf ScriptCause
with_descriptor r (Ok v) =
    if nat_lt 254 (length r.descriptors) then Err causes.Limit
    else Ok (record r { descriptors = r.descriptors ++ descriptor_made v ∷ [] })
with_descriptor r (Err cause) = Err cause

unfoldable pub record_with_descriptor : List ℕ → List ℕ → SpecRecordOf → Result SpecRecordOf ScriptCause
record_with_descriptor kind bytes r = with_descriptor r (both (kind_of kind) (bytes_of bytes))

abbrev pub spec_draft_with_last : SpecDraftOf → Result SpecRecordOf ScriptCause → Result SpecDraftOf ScriptCause
spec_draft_with_last d (Ok r) = Ok (record d { last = Some r })
spec_draft_with_last d (Err cause) = Err cause

abbrev pub of_last : SpecDraftOf → Option SpecRecordOf → (SpecRecordOf → Result SpecRecordOf ScriptCause) → Result SpecDraftOf ScriptCause
of_last d None says = Err causes.Order
of_last d (Some r) says = spec_draft_with_last d (says r)

abbrev pub descriptor_line : SpecDraftOf → List (List ℕ) → Result SpecDraftOf ScriptCause
descriptor_line d (kind ∷ bytes ∷ []) = if has_component d.components then Err causes.Order else of_last d d.last (record_with_descriptor kind bytes)
descriptor_line d fields = Err causes.Fields

-- a component
abbrev pub spec_numbers_made : Key × (ℕ × (ℕ × ℕ)) → SpecNumbers
spec_numbers_made v = record { key = v.0; stamp = v.1.0; options = v.1.1.0; method = v.1.1.1 }

unfoldable pub choices_of : List ℕ → List ℕ → List ℕ → Result (ℕ × (ℕ × ℕ)) ScriptCause
choices_of stamp options method = both (number_in 0 4294967295 stamp) (both (number_in 0 65535 options) (number_in 0 65535 method))

unfoldable pub spec_numbers_of : List ℕ → List ℕ → List ℕ → List ℕ → List ℕ → Result SpecNumbers ScriptCause
spec_numbers_of class ident stamp options method =
    mapped_value spec_numbers_made (both (key_of class ident) (choices_of stamp options method))

abbrev pub component_made : SpecNumbers × (List ℕ × Option (List ℕ)) → SpecComponentOf
component_made v = record { numbers = v.0; text = v.1.0; path = v.1.1 }

abbrev pub with_component : SpecDraftOf → Result (SpecNumbers × (List ℕ × Option (List ℕ))) ScriptCause → Result SpecDraftOf ScriptCause
with_component d (Ok v) = Ok (record d { components = d.components ++ component_made v ∷ [] })
with_component d (Err cause) = Err cause

unfoldable pub spec_draft_with_component : Result SpecNumbers ScriptCause → (text path : List ℕ) → SpecDraftOf → Result SpecDraftOf ScriptCause
spec_draft_with_component numbers text path d = with_component d (both numbers (both (package_text_of text) (image_path_of path)))

abbrev pub component_line : SpecDraftOf → List (List ℕ) → Result SpecDraftOf ScriptCause
component_line d (class ∷ ident ∷ stamp ∷ options ∷ method ∷ text ∷ path ∷ []) = spec_draft_with_component (spec_numbers_of class ident stamp options method) text path d
component_line d fields = Err causes.Fields

-- the draft after a directive
abbrev pub spec_draft_after_directive : ℕ → SpecDraftOf → Directive → List (List ℕ) → Result SpecDraftOf ScriptCause
spec_draft_after_directive line d directives.Version fields = version_line d fields
spec_draft_after_directive line d directives.Release fields = release_line d fields
spec_draft_after_directive line d directives.Record fields = record_line line d fields
spec_draft_after_directive line d directives.Descriptor fields = descriptor_line d fields
spec_draft_after_directive line d directives.Component fields = component_line d fields

abbrev pub line_named : ℕ → SpecDraftOf → Option Directive → Result (List (List ℕ)) ScriptCause → Result SpecDraftOf ScriptCause
line_named line d None fields = Err causes.Directive
line_named line d (Some directive) (Err cause) = Err cause
line_named line d (Some directive) (Ok fields) = spec_draft_after_directive line d directive fields

abbrev pub spec_draft_after_words : ℕ → SpecDraftOf → List (List ℕ) → Result SpecDraftOf ScriptCause
spec_draft_after_words line d [] = Err causes.Directive
spec_draft_after_words line d (name ∷ fields) = line_named line d (spec_directive_of name) (whole_fields fields)

-- the draft after line `number`
unfoldable pub after_spec_line : ℕ → SpecDraftOf → List ℕ → Result SpecDraftOf ScriptCause
after_spec_line number d line = if is_skipped line then Ok d else spec_draft_after_words number d (words_of line)

-- a record uses a component, counted from 0, whose number isn't below `count`
unfoldable pub is_past : ℕ → SpecRecordOf → Bool
is_past count r = not (list_all (λ k. nat_lt k count) r.uses)

-- the line of the first such record
abbrev pub past_line : ℕ → List SpecRecordOf → Option ℕ
past_line count [] = None
past_line count (r ∷ rs) = if is_past count r then Some r.line else past_line count rs

-- After the last line, with the number of the next: a text that isn't given is empty, and a release
-- time that isn't given is zeros.
abbrev pub or_else : List ℕ → Option (List ℕ) → List ℕ
or_else bytes None = bytes
or_else bytes (Some said) = said

abbrev pub spec_of_draft : ℕ → SpecDraftOf → PackageSpecOf
spec_of_draft next d =
    record {
      release = or_else (repeat 13 (0 ∷ [])) d.release;
      version = or_else [] d.version;
      records = records_of d;
      components = d.components;
      next_line = next;
    }

abbrev pub unless_past : Option ℕ → PackageSpecOf → Result PackageSpecOf ScriptFault
unless_past None spec = Ok spec
unless_past (Some line) spec = Err (record { line = line; cause = causes.Range })

unfoldable pub spec_finished : ℕ → SpecDraftOf → Result PackageSpecOf ScriptFault
spec_finished next d = unless_past (past_line (length d.components) (records_of d)) (spec_of_draft next d)

-- a fault of the line with this number
abbrev pub at_spec_line : ℕ → (SpecDraftOf → Result PackageSpecOf ScriptFault) → Result SpecDraftOf ScriptCause → Result PackageSpecOf ScriptFault
at_spec_line number next (Ok d) = next d
at_spec_line number next (Err cause) = Err (record { line = number; cause = cause })

-- the description after the remaining lines; `before` lines were read already
abbrev pub spec_from : List (List ℕ) → ℕ → SpecDraftOf → Result PackageSpecOf ScriptFault
spec_from [] before d = spec_finished (before + 1) d
spec_from (line ∷ lines) before d = at_spec_line (before + 1) (spec_from lines (before + 1)) (after_spec_line (before + 1) d line)

-- The description in a text, or its first line with a fault, and the fault. If no line has a fault,
-- the fault is at the line of the first record that uses a component that doesn't exist.
abbrev pub package_spec_of : List ℕ → Result PackageSpecOf ScriptFault
package_spec_of text = spec_from (lines_of text) 0 empty_spec_draft
