-- A device's answers can be decoded, and its pending commands encoded.
use Rattle.std.proofs.Common.{◌≡◌, ◌≢◌, ◌<◌, ◌≤◌, ◌^◌, ◌*◌, ◌==◌, ◌||◌, ◌-◌, not, min, max, ℕ, Bool, true, false, if◌then◌else◌, nat_lt, List, [], ◌∷◌, length, Option, Some, None, IfSome, arith}
use Rattle.std.specs.List.{AllByRecursion}
use Rattle.std.proofs.lemmas.List.{length-append, length-map}
use Rattle.mctp_wire.specs.declared.unit.Unit.{«Unit»}
use Rattle.mctp_wire.specs.declared.unit.Unit.TheVariants.{U64, U128}
use Rattle.pldm_base.specs.Codes.{error, invalid_data, not_ready, unsupported_command}
use Rattle.pldm_base.specs.Limits.{reply_limit}
use Rattle.fwup_wire.specs.Answers.{HasAnswerWidths, IsAnswerWritable, answer_bytes}
use Rattle.fwup_wire.specs.Commands.{CommandRoundTrips, command_code}
use Rattle.fwup_wire.specs.Items.{EachItem}
use Rattle.fwup_wire.specs.Laws.{WritesAnswers}
use Rattle.fwup_wire.specs.Parameters.{HasParametersWidths, all_parameters_bytes, parameters_bytes}
use Rattle.fwup_wire.specs.Transfers.{transfer_size}
use Rattle.fwup_wire.specs.Values.{AnswerOf, CommandOf, TableEntryOf, OfferOf, ParametersOf, UpdateRequestOf, VersionOf}
use Rattle.fwup_wire.specs.declared.transfers.TheConstants.{MIN_TRANSFER}
use Rattle.fwup_wire.specs.declared.values.Key.{Key}
use Rattle.fd_core.specs.Codes.{activation_not_required, already_in_update_mode, incomplete_update, invalid_state_for_command, no_restriction, not_in_update_mode, application_failed, longest_image, transfer_failed, verification_failed}
use Rattle.fd_core.specs.Commands.{OfferRow, RequestRow, SwitchRow, TableRow, flag_at, has_applied, in_table, is_flag, is_odd_request, lacks_listed, offer_restriction, restriction, all_parameters, cancel_by, cancel_row, device_answer, offer_by, offer_row, offer_under, parameters_by, request_by, request_row, return_by, return_row, switch_by, switch_row, table_by, table_row}
use Rattle.fd_core.specs.Images.{ImageOf, RowOf, active_of, applied_of, row_of, same_key, version_at}
use Rattle.fd_core.specs.States.{DeviceState, Phase, UpdateOf}
use Rattle.fd_core.specs.Wishes.{apply_report, device_wish, report_of, report_if, wish_at}
use Rattle.fd_core.specs.declared.parts.BankComponent.{BankComponent}
use Rattle.fd_core.specs.declared.states.Progress.TheVariants as progress
use Rattle.fw_node.specs.Nodes.{AnswerRoundTrips}
use Rattle.fw_steps.specs.Widths.{HasComponentKeyWidths, HasDeviceWidths, HasKeyWidths, HasImageWidths, HasConfigurationWidths, HasPhaseWidths, HasRowWidths}
use Rattle.fd_core.proofs.Answering.{answers_its_command}

-- PARAMETERS

-- a version that fits its fields
record VersionFits (v : VersionOf) : Type 0 where
  stamp : v.stamp < 256 ^ 4
  text : length v.text.bytes ≤ 12

version_tells : (o : Option ImageOf) → IfSome o HasImageWidths → VersionFits (version_at o)
version_tells None h = record { stamp = omega arith; text = omega arith }
version_tells (Some image) h = record { stamp = h.stamp; text = h.text }

row_found : (same : Bool) (row : RowOf) (o : Option RowOf) → HasRowWidths row → IfSome o HasRowWidths → IfSome (if same then Some row else o) HasRowWidths
row_found true row o here there = here
row_found false row o here there = there

row_tells : (rows : List RowOf) (key : Key) → AllByRecursion HasRowWidths rows → IfSome (row_of rows key) HasRowWidths
row_tells [] key h = tt
row_tells (row ∷ rows) key h = row_found (same_key row.key key) row (row_of rows key) h.0 (row_tells rows key h.1)

label_fits : (o : Option RowOf) → IfSome o HasRowWidths → IfSome (active_of o) HasImageWidths
label_fits None h = tt
label_fits (Some row) h = h.active

applied_tells : (o : Option RowOf) → IfSome o HasRowWidths → IfSome (applied_of o) HasImageWidths
applied_tells None h = tt
applied_tells (Some row) h = h.applied

record ParametersFit (p : ParametersOf) : Type 0 where
  key : HasKeyWidths p.key
  active : VersionFits p.active
  pending : VersionFits p.pending

parameters_tell : (rows : List RowOf) (c : BankComponent) → AllByRecursion HasRowWidths rows → HasComponentKeyWidths c → ParametersFit (parameters_by rows c)
parameters_tell rows c h k =
    let row = row_tells rows c.key h in
    record {
      key = k;
      active = version_tells (active_of (row_of rows c.key)) (label_fits (row_of rows c.key) row);
      pending = version_tells (applied_of (row_of rows c.key)) (applied_tells (row_of rows c.key) row);
    }

widths_of : (p : ParametersOf) → ParametersFit p → HasParametersWidths p
widths_of p h = ((h.key.0, h.key.1, h.active.stamp), h.pending.stamp, omega (arith, h.active.text), omega (arith, h.pending.text))

size_of : (p : ParametersOf) → ParametersFit p → length (parameters_bytes p) ≤ 63
size_of p h = rw (length-append p.active.text.bytes p.pending.text.bytes) (omega (arith, h.active.text, h.pending.text))

all_widths : (rows : List RowOf) (cs : List BankComponent) → AllByRecursion HasRowWidths rows → AllByRecursion HasComponentKeyWidths cs → EachItem HasParametersWidths (all_parameters rows cs)
all_widths rows [] h k = tt
all_widths rows (c ∷ cs) h k = (widths_of (parameters_by rows c) (parameters_tell rows c h k.0), all_widths rows cs h k.1)

all_sizes : (rows : List RowOf) (cs : List BankComponent) → AllByRecursion HasRowWidths rows → AllByRecursion HasComponentKeyWidths cs → length (all_parameters_bytes (all_parameters rows cs)) ≤ 63 * length cs
all_sizes rows [] h k = omega arith
all_sizes rows (c ∷ cs) h k =
    rw (length-append (parameters_bytes (parameters_by rows c)) (all_parameters_bytes (all_parameters rows cs)))
    (omega (arith, size_of (parameters_by rows c) (parameters_tell rows c h k.0), all_sizes rows cs h k.1))

-- ANSWERS

-- an answer that is short and whose fields fit
record AnswerFits (a : AnswerOf) : Type 0 where
  widths : HasAnswerWidths a
  writable : IsAnswerWritable a
  fits : length (answer_bytes a) ≤ reply_limit U64

identifiers_say : (v : DeviceState) → HasConfigurationWidths v → AnswerFits (AnswerOf.QueryDeviceIdentifiers v.descriptors)
identifiers_say v h = record { widths = (h.descriptors.widths, h.descriptors.few); writable = omega (arith, h.descriptors.short); fits = omega (arith, h.descriptors.short) }

parameters_say : (v : DeviceState) → HasDeviceWidths v → AnswerFits (AnswerOf.GetFirmwareParameters (all_parameters v.rows v.components))
parameters_say v h =
    let sizes = all_sizes v.rows v.components h.rows h.told.components in
    let count : length (all_parameters v.rows v.components) ≡ length v.components = length-map v.components (parameters_by v.rows) in
    record {
      widths = (all_widths v.rows v.components h.rows h.told.components, omega (arith, count, h.told.few));
      writable = omega (arith, sizes, h.told.few);
      fits = omega (arith, sizes, h.told.few);
    }

refuses : (code : ℕ) → code ≢ 0 → AnswerFits (AnswerOf.Refused code)
refuses code more = record { widths = tt; writable = more; fits = omega arith }

-- one of two answers
either : {R : Type 0} (P : R → Type 0) (b : Bool) (x y : R) → P x → P y → P (if b then x else y)
either P true x y hx hy = hx
either P false x y hx hy = hy

requests : (v : DeviceState) (r : UpdateRequestOf) (p : Phase) (quiet : Bool) → AnswerFits (request_by v r (request_row p r quiet)).answer
requests v r Phase.Idle false = refuses not_ready (λ e. absurd (omega (arith, e)))
requests v r Phase.Idle true =
    either (λ row. AnswerFits (request_by v r row).answer) (is_odd_request r) (RequestRow.RefuseRequest invalid_data) RequestRow.BeginUpdate
    (refuses invalid_data (λ e. absurd (omega (arith, e)))) (record { widths = tt; writable = omega arith; fits = omega arith })
requests v r p quiet = refuses already_in_update_mode (λ e. absurd (omega (arith, e)))

entries : (v : DeviceState) (e : TableEntryOf) (rows : List RowOf) (p : Phase) → AnswerFits (table_by v e (table_row rows p e)).answer
entries v e rows Phase.Idle = refuses not_in_update_mode (λ z. absurd (omega (arith, z)))
entries v e rows (Phase.Learn u) =
    either (λ row. AnswerFits (table_by v e row).answer) (not (is_flag e.flag (flag_at (length u.table) u.components)) || in_table u.table e.key) (TableRow.RefuseEntry invalid_data) (TableRow.AddEntry u (restriction rows e.key e.version.stamp))
    (refuses invalid_data (λ z. absurd (omega (arith, z)))) (record { widths = tt; writable = omega arith; fits = omega arith })
entries v e rows p = refuses invalid_state_for_command (λ z. absurd (omega (arith, z)))

under : (v : DeviceState) (o : OfferOf) (u : UpdateOf) (code : ℕ) (works : Bool) → AnswerFits (offer_by v o (offer_under u code works)).answer
under v o u code works =
    either (λ row. AnswerFits (offer_by v o row).answer) (not (code == no_restriction)) (OfferRow.DeclineOffer code) (if works then OfferRow.BeginWork u else OfferRow.RefuseOffer error)
    (record { widths = omega arith; writable = omega arith; fits = omega arith })
    (either (λ row. AnswerFits (offer_by v o row).answer) works (OfferRow.BeginWork u) (OfferRow.RefuseOffer error) (record { widths = omega arith; writable = omega arith; fits = omega arith }) (refuses error (λ z. absurd (omega (arith, z)))))

offers : (v : DeviceState) (o : OfferOf) (rows : List RowOf) (p : Phase) (quiet works : Bool) → AnswerFits (offer_by v o (offer_row rows p o quiet works)).answer
offers v o rows Phase.Idle quiet works = refuses not_in_update_mode (λ z. absurd (omega (arith, z)))
offers v o rows (Phase.Ready u) false works = refuses not_ready (λ z. absurd (omega (arith, z)))
offers v o rows (Phase.Ready u) true works =
    either (λ row. AnswerFits (offer_by v o row).answer) (nat_lt longest_image o.size) (OfferRow.RefuseOffer invalid_data) (offer_under u (offer_restriction rows u.table o) works)
    (refuses invalid_data (λ z. absurd (omega (arith, z)))) (under v o u (offer_restriction rows u.table o) works)
offers v o rows p quiet works = refuses invalid_state_for_command (λ z. absurd (omega (arith, z)))

returns : (v : DeviceState) (p : Phase) → AnswerFits (return_by v (return_row p)).answer
returns v Phase.Idle = refuses not_in_update_mode (λ z. absurd (omega (arith, z)))
returns v (Phase.Download u w p) = record { widths = tt; writable = omega arith; fits = omega arith }
returns v (Phase.Verify u w p) = record { widths = tt; writable = omega arith; fits = omega arith }
returns v (Phase.Apply u w p) = record { widths = tt; writable = omega arith; fits = omega arith }
returns v p = refuses invalid_state_for_command (λ z. absurd (omega (arith, z)))

switches : (v : DeviceState) (cs : List BankComponent) (rows : List RowOf) (p : Phase) (works : Bool) → AnswerFits (switch_by v (switch_row cs rows p works)).answer
switches v cs rows Phase.Idle works = refuses not_in_update_mode (λ z. absurd (omega (arith, z)))
switches v cs rows (Phase.Ready u) works =
    either (λ row. AnswerFits (switch_by v row).answer) (lacks_listed rows u.table) (SwitchRow.RefuseSwitch incomplete_update) _
    (refuses incomplete_update (λ z. absurd (omega (arith, z))))
    (either (λ row. AnswerFits (switch_by v row).answer) (not (has_applied rows cs)) (SwitchRow.RefuseSwitch activation_not_required) _
    (refuses activation_not_required (λ z. absurd (omega (arith, z))))
    (either (λ row. AnswerFits (switch_by v row).answer) works SwitchRow.Switch (SwitchRow.RefuseSwitch error) (record { widths = omega arith; writable = omega arith; fits = omega arith }) (refuses error (λ z. absurd (omega (arith, z))))))
switches v cs rows p works = refuses invalid_state_for_command (λ z. absurd (omega (arith, z)))

cancels : (v : DeviceState) (p : Phase) → AnswerFits (cancel_by v (cancel_row p)).answer
cancels v Phase.Idle = refuses not_in_update_mode (λ z. absurd (omega (arith, z)))
cancels v Phase.Activated = refuses invalid_state_for_command (λ z. absurd (omega (arith, z)))
cancels v p = record { widths = tt; writable = omega arith; fits = omega arith }

says : (v : DeviceState) (c : CommandOf) (quiet works : Bool) → HasDeviceWidths v → AnswerFits (device_answer v c quiet works)
says v CommandOf.QueryDeviceIdentifiers quiet works h = identifiers_say v h.told
says v CommandOf.GetFirmwareParameters quiet works h = parameters_say v h
says v CommandOf.GetStatus quiet works h = record { widths = tt; writable = omega arith; fits = omega arith }
says v (CommandOf.RequestUpdate r) quiet works h = requests v r v.phase quiet
says v (CommandOf.PassComponentTable e) quiet works h = entries v e v.rows v.phase
says v (CommandOf.UpdateComponent o) quiet works h = offers v o v.rows v.phase quiet works
says v CommandOf.CancelUpdateComponent quiet works h = returns v v.phase
says v (CommandOf.ActivateFirmware s) quiet works h = switches v v.components v.rows v.phase works
says v CommandOf.CancelUpdate quiet works h = cancels v v.phase
says v c quiet works h = refuses unsupported_command (λ z. absurd (omega (arith, z)))

-- Each of its answers can be decoded, and fits a message of either transmission unit.
pub device_heard : WritesAnswers → (v : DeviceState) (c : CommandOf) (quiet works : Bool) → HasDeviceWidths v → AnswerRoundTrips U64 c (device_answer v c quiet works)
device_heard law v c quiet works h =
    let k = says v c quiet works h in
    record { reads = law (command_code c) (device_answer v c quiet works) (answers_its_command v c quiet works) k.widths k.writable; fits = k.fits }

-- PENDING COMMANDS

-- it asks for at most one transfer's bytes
asked_few : (unit : «Unit») (n : ℕ) → max MIN_TRANSFER (min (transfer_size unit) n) < 256 ^ 4
asked_few U64 n = omega arith
asked_few U128 n = omega arith

reported : (command : ℕ → CommandOf) (o : Option ℕ) → ((n : ℕ) → CommandRoundTrips (command n)) → IfSome (report_if command o) CommandRoundTrips
reported command None h = tt
reported command (Some n) h = h n

wishes : (unit : «Unit») (p : Phase) (have : ℕ) → HasPhaseWidths p have → IfSome (wish_at unit p have) CommandRoundTrips
wishes unit (Phase.Download u w progress.InProgress) have h =
    record { writable = omega arith; widths = (omega (arith, h.1, h.2), asked_few unit (min u.transfer_size (w.size - have))) }
wishes unit (Phase.Download u w p) have h = reported CommandOf.TransferComplete (report_of p transfer_failed) (λ n. record { writable = omega arith; widths = tt })
wishes unit (Phase.Verify u w p) have h = reported CommandOf.VerifyComplete (report_of p verification_failed) (λ n. record { writable = omega arith; widths = tt })
wishes unit (Phase.Apply u w p) have h = reported apply_report (report_of p application_failed) (λ n. record { writable = omega arith; widths = omega arith })
wishes unit p have h = tt

-- Its pending command can be encoded.
pub device_spoken : (v : DeviceState) → HasDeviceWidths v → IfSome (device_wish v) CommandRoundTrips
device_spoken v h = wishes v.unit v.phase (length v.stage) h.phase
