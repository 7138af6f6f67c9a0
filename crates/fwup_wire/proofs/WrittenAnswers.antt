-- An encoded answer reads back.
use Rattle.std.proofs.Common.{List, Some, [], arith, eq-eqb, length, refl, rules, ◌^◌, true, ◌<◌, ◌==◌, ◌≡◌}
use Rattle.std.proofs.lemmas.Bool.{eqb-true}
use Rattle.byteorder.specs.Numbers.{little_number-reads_back}
use Rattle.fwup_wire.proofs.DescriptorLaws.{descriptor_reads_back, descriptor_skips}
use Rattle.fwup_wire.proofs.Items.{items_read_back}
use Rattle.fwup_wire.proofs.ParameterLaws.{parameters_read_back, parameters_skip}
use Rattle.fwup_wire.specs.Answers.{answer_bytes, answer_in, firmware_parameters_in, identifiers_in, success_bytes}
use Rattle.fwup_wire.specs.Descriptors.{HasDescriptorWidths, descriptor_bytes, descriptor_size, descriptors_bytes, first_descriptor}
use Rattle.fwup_wire.specs.Items.{EachItem}
use Rattle.fwup_wire.specs.Laws.{WritesAnswers}
use Rattle.fwup_wire.specs.Parameters.{HasParametersWidths, all_parameters_bytes, first_parameters, parameters_bytes, parameters_in, parameters_size}
use Rattle.fwup_wire.specs.Values.{AnswerOf, DeviceDescriptorOf, ParametersOf}

identifiers_back : (ds : List DeviceDescriptorOf) → EachItem HasDescriptorWidths ds → length (descriptors_bytes ds) < 256 ^ 4
    → identifiers_in (success_bytes (AnswerOf.QueryDeviceIdentifiers ds)) ≡ Some (AnswerOf.QueryDeviceIdentifiers ds)
identifiers_back ds each short =
    let size = little_number-reads_back 4 (length (descriptors_bytes ds)) [] short in
    let whole : (length (descriptors_bytes ds) == length (descriptors_bytes ds)) ≡ true = eq-eqb (length (descriptors_bytes ds)) (length (descriptors_bytes ds)) refl in
    let found = items_read_back first_descriptor descriptor_size descriptor_bytes HasDescriptorWidths descriptor_reads_back descriptor_skips ds each in
    rw (size, whole, found) refl

parameters_back : (ps : List ParametersOf) → EachItem HasParametersWidths ps → length ps < 256 ^ 2
    → firmware_parameters_in (success_bytes (AnswerOf.GetFirmwareParameters ps)) ≡ Some (AnswerOf.GetFirmwareParameters ps)
parameters_back ps each few =
    let count = little_number-reads_back 2 (length ps) [] few in
    let found = items_read_back first_parameters parameters_size parameters_bytes HasParametersWidths parameters_read_back parameters_skip ps each in
    rw (count, found) refl

-- the same if the list is known to be read
pub parameters_known : (ps : List ParametersOf) → length ps < 65536
    → parameters_in (length ps) (all_parameters_bytes ps) ≡ Some ps
    → answer_in 2 (answer_bytes (AnswerOf.GetFirmwareParameters ps)) ≡ Some (AnswerOf.GetFirmwareParameters ps)
parameters_known ps few found =
    let count = little_number-reads_back 2 (length ps) [] few in rw (count, found) refl

pub writes_answers : WritesAnswers
writes_answers command (AnswerOf.QueryDeviceIdentifiers ds) is fits writable =
    rw (eqb-true command 1 is) (identifiers_back ds fits.0 (omega (arith, writable)))
writes_answers command (AnswerOf.GetFirmwareParameters ps) is fits writable =
    rw (eqb-true command 2 is) (parameters_back ps fits.0 fits.1)
writes_answers command a is fits writable = search rules
