-- The forecast of an update: the record of a package that a session would find for a device, the
-- device's answer to each component, and the resulting stage of the session. It uses the
-- definitions of the session and of the device.
use Rattle.std.specs.Prelude.{ℕ, ◌+◌, ◌==◌, Bool, if◌then◌else◌, List, [], ◌∷◌, ◌++◌, Option, None, Some, Result, Ok, Err, codes, length, map}
use Rattle.std.specs.List.{flat_map, list_any}
use Rattle.mctp_wire.specs.declared.unit.Unit.TheVariants.{U64}
use Rattle.fd_core.specs.Codes.{no_restriction, stamp_identical, stamp_lower}
use Rattle.fd_core.specs.Commands.{restriction}
use Rattle.fd_core.specs.Images.{RowOf, row_of}
use Rattle.fd_core.specs.States.{DeviceState}
use Rattle.fw_package.specs.Choice.{component_at, is_among, plan_of, record_at, record_number}
use Rattle.fw_package.specs.Package.{ComponentOf, DescriptorOf, PackageText, RecordOf}
use Rattle.fw_package.specs.declared.fault.PlanFault.{PlanFault}
use Rattle.fw_package.specs.declared.fault.PlanFault.TheVariants as plans
use Rattle.fw_script.specs.Configs.{DeviceConfigOf}
use Rattle.fw_text.specs.Printing.{data_text, in_eight, in_four, word_and_number, word_and_quoted}
use Rattle.ua_core.specs.Learn.{is_to_do}
use Rattle.ua_core.specs.Lent.{key_of, sent_stamp, package_descriptor}
use Rattle.fw_setup.specs.Nodes.{device_made}

-- the answer of a device with these images to a component that is passed: no restriction, or a
-- restriction
abbrev pub passed : List RowOf → ComponentOf → ℕ
passed rows c = restriction rows (key_of c) (sent_stamp c)

-- whether the session updates the component after that answer
abbrev pub is_updated : List RowOf → ComponentOf → Bool
is_updated rows c = is_to_do c (passed rows c)

-- the outcome of a component: it is updated, or the device declines it and its option forces it, or
-- it is left out
abbrev pub component_word : ComponentOf → (code : ℕ) → List ℕ
component_word c code =
    if code == no_restriction then codes "update"
    else if is_to_do c code then codes "force"
    else if code == stamp_identical then codes "skip identical"
    else if code == stamp_lower then codes "skip lower"
    else codes "skip unsupported"

-- the running image for the component's key: its stamp and its text, or dashes if the device has no
-- such component
abbrev pub active_text : Option RowOf → List ℕ
active_text None = codes " active - -"
active_text (Some row) = in_eight (codes " active ") row.active.label.stamp ++ word_and_quoted (codes " ") row.active.label.text

-- a component's line, with the stamp that is sent: all ones if its options don't use it
unfoldable pub offer_line : List RowOf → ComponentOf → List ℕ
offer_line rows c =
    word_and_number (codes "component ") c.classification ++ word_and_number (codes " ident ") c.identifier ++ word_and_number (codes " size ") (length c.image)
    ++ in_eight (codes " stamp ") (sent_stamp c) ++ word_and_quoted (codes " version ") c.text.bytes ++ active_text (row_of rows (key_of c))
    ++ codes " " ++ component_word c (passed rows c) ++ codes "\n"

-- the lines of these components
abbrev pub offer_lines : PackageText → List RowOf → List ℕ → List ℕ
offer_lines p rows ns = flat_map (λ n. offer_line rows (component_at p n)) ns

-- a device's line begins with its endpoint identifier and the package's number
unfoldable pub device_head : (number eid : ℕ) → List ℕ
device_head number eid = word_and_number (codes "device ") eid ++ word_and_number (codes " package ") number

-- the line of a device that has no record
unfoldable pub no_record_line : (number eid : ℕ) → List ℕ
no_record_line number eid = device_head number eid ++ codes " record - set - NoRecord\n"

-- the first of these descriptors that the device lacks
abbrev pub first_lacked : (device : List DescriptorOf) → List DescriptorOf → Option DescriptorOf
first_lacked device [] = None
first_lacked device (d ∷ ds) = if is_among device d then first_lacked device ds else Some d

-- the reason why a record isn't for the device: the descriptor that it lacks, or that the record
-- has none
unfoldable pub lack_line : (record_number : ℕ) → Option DescriptorOf → List ℕ
lack_line n None = word_and_number (codes "record ") n ++ codes " has none\n"
lack_line n (Some d) =
    word_and_number (codes "record ") n ++ in_four (codes " lacks descriptor ") d.kind ++ codes " " ++ data_text d.bytes ++ codes "\n"

-- the lines of records, from number n on
abbrev pub lack_lines : (device : List DescriptorOf) → ℕ → List RecordOf → List ℕ
lack_lines device n [] = []
lack_lines device n (r ∷ rs) = lack_line n (first_lacked device r.descriptors) ++ lack_lines device (n + 1) rs

-- the line of a device with a record: the record's number from 1, its set text, and the outcome of
-- the update
unfoldable pub chosen_line : (number eid chosen : ℕ) → RecordOf → List ℕ → List ℕ
chosen_line number eid chosen r word =
    device_head number eid ++ word_and_number (codes " record ") (chosen + 1) ++ word_and_quoted (codes " set ") r.set_text.bytes ++ codes " " ++ word ++ codes "\n"

-- the session fails with the cause Plan, for this reason
abbrev pub plan_word : PlanFault → List ℕ
plan_word plans.DuplicateComponent = codes "Plan:DuplicateComponent"
plan_word plans.TooManyComponents = codes "Plan:TooManyComponents"
plan_word plans.ImageTooLarge = codes "Plan:ImageTooLarge"
plan_word plans.TextTooLong = codes "Plan:TextTooLong"

-- whether one of these components is updated
abbrev pub is_any_updated : PackageText → List RowOf → List ℕ → Bool
is_any_updated p rows ns = list_any (λ n. is_updated rows (component_at p n)) ns

-- the session goes on, or fails with the cause NothingToUpdate
abbrev pub update_word : PackageText → List RowOf → List ℕ → List ℕ
update_word p rows ns = if is_any_updated p rows ns then codes "Update" else codes "NothingToUpdate"

-- the lines of a device with this record, and this plan of it
abbrev pub planned_text : (number eid chosen : ℕ) → PackageText → List RowOf → Result (List ℕ) PlanFault → List ℕ
planned_text number eid chosen p rows (Err fault) = chosen_line number eid chosen (record_at p chosen) (plan_word fault)
planned_text number eid chosen p rows (Ok ns) =
    chosen_line number eid chosen (record_at p chosen) (update_word p rows ns) ++ offer_lines p rows ns

-- the lines of a device with this record, or without one
abbrev pub found_text : (number eid : ℕ) → PackageText → DeviceState → Option ℕ → List ℕ
found_text number eid p v None = no_record_line number eid ++ lack_lines (map package_descriptor v.descriptors) 1 p.records
found_text number eid p v (Some chosen) = planned_text number eid chosen p v.rows (plan_of p chosen)

-- the lines of a device, for the package of this number
abbrev pub device_text : (number eid : ℕ) → PackageText → DeviceState → List ℕ
device_text number eid p v = found_text number eid p v (record_number p (map package_descriptor v.descriptors))

-- the text for a configuration's devices, in their order: it depends only on a device's descriptors
-- and images, so any transmission unit gives the same
abbrev pub configured_text : (number : ℕ) → PackageText → DeviceConfigOf → List ℕ
configured_text number p x = device_text number x.endpoint.eid p (device_made U64 x).device

abbrev pub forecast_of : (number : ℕ) → PackageText → List DeviceConfigOf → List ℕ
forecast_of number p devices = flat_map (configured_text number p) devices
