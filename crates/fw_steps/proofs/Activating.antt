-- A ready device after a packet: it activated exactly if it is in ACTIVATE then, and else, if it is
-- still ready, its bank is unchanged.
use Rattle.std.proofs.Common.{◌≡◌, ◌==◌, ◌&&◌, ℕ, Bool, true, false, length, if◌then◌else◌, List, [], Option, Result, Ok, Err, refl}
use Rattle.mctp_reasm.specs.Held.{Held}
use Rattle.mctp_reasm.specs.Pieces.{MessageOf}
use Rattle.mctp_ctl.specs.declared.answers.Endpoint.{Endpoint}
use Rattle.pldm_base.specs.declared.header.PldmHead.{PldmHead}
use Rattle.pldm_base.specs.declared.terminus.Role.{Role}
use Rattle.pldm_base.specs.declared.terminus.Role.TheVariants as roles
use Rattle.pldm_exch.specs.Caller.{is_quiet}
use Rattle.pldm_exch.specs.Sides.{AskerRow, TakerRow, asker_row, taker_row}
use Rattle.fwup_wire.specs.Answers.{answer_read}
use Rattle.fwup_wire.specs.Values.{AnswerOf, CommandOf, TableEntryOf, OfferOf, UpdateRequestOf}
use Rattle.fd_core.specs.Commands.{CancelRow, OfferRow, RequestRow, ReturnRow, SwitchRow, TableRow, cancel_by, cancel_row, device_take, device_with_table, offer_by, offer_row, request_by, request_row, return_by, return_row, switch_by, switch_row, table_by, table_row, with_entry}
use Rattle.fd_core.specs.Images.{KeyedImage, RowOf, applied_keyed_images}
use Rattle.fd_core.specs.States.{DeviceState, Phase, UpdateOf, WorkOf}
use Rattle.fd_core.specs.Wishes.{DeviceLearnRow, apply_by, applied_row, asked_length, download_by, download_row, learn_at, report_row, verified_row, verify_by}
use Rattle.fd_core.specs.declared.parts.BankComponent.{BankComponent}
use Rattle.fw_node.specs.Cores.{TimedDevice, answer_or, device_core}
use Rattle.fw_node.specs.Halves.{HalfOutcome, HalfOf, half_on_packet, half_on_rows, half_takes, read_by, takes_if, takes_read}
use Rattle.fw_node.specs.Nodes.{DeviceNodeOf, device_on_packet, node_outcome_of}
use Rattle.fw_steps.specs.Sites.{is_activated, is_ready}
use Rattle.fw_steps.specs.Worlds.{activated_at, activated_when}

-- these images are activated exactly if a ready device is in ACTIVATE then, and else a device that
-- is still ready has these rows
pub record Tells (v w : DeviceState) (images : List KeyedImage) : Type 0 where
  pub activated : images ≡ (if is_ready v.phase && is_activated w.phase then applied_keyed_images v.rows else [])
  pub kept : is_ready v.phase ≡ true → is_ready w.phase ≡ true → w.rows ≡ v.rows

-- the device stays in its phase
never_both : (p : Phase) → (is_ready p && is_activated p) ≡ false
never_both (Phase.Ready u) = refl
never_both p = refl

unmoved : (v w : DeviceState) → w.phase ≡ v.phase → w.rows ≡ v.rows → Tells v w []
unmoved v w phase rows = record { activated = rw (phase, never_both v.phase) refl; kept = λ a b. rows }

-- it goes to a phase that is neither of these, or keeps its rows
and_false : (b : Bool) → (b && false) ≡ false
and_false true = refl
and_false false = refl

moves : (v w : DeviceState) → is_activated w.phase ≡ false → (is_ready w.phase ≡ true → w.rows ≡ v.rows) → Tells v w []
moves v w active rows = record { activated = rw (active, and_false (is_ready v.phase)) refl; kept = λ a b. rows b }

requested : (v : DeviceState) (r : UpdateRequestOf) (row : RequestRow) → Tells v (request_by v r row).after (request_by v r row).activated
requested v r (RequestRow.RefuseRequest code) = unmoved v v refl refl
requested v r RequestRow.BeginUpdate = moves v (request_by v r RequestRow.BeginUpdate).after refl (λ e. absurd (cc))

listed_or : (v : DeviceState) (u : UpdateOf) (b : Bool) → (length u.table == u.components) ≡ b → Tells v (device_with_table v u) []
listed_or v u true e = moves v (device_with_table v u) (rw e refl) (λ k. rw e refl)
listed_or v u false e = moves v (device_with_table v u) (rw e refl) (λ k. rw e refl)

entered : (v : DeviceState) (e : TableEntryOf) (row : TableRow) → Tells v (table_by v e row).after (table_by v e row).activated
entered v e (TableRow.RefuseEntry code) = unmoved v v refl refl
entered v e (TableRow.AddEntry u code) = listed_or v (with_entry u e.key code) _ refl

offered : (v : DeviceState) (o : OfferOf) (row : OfferRow) → Tells v (offer_by v o row).after (offer_by v o row).activated
offered v o (OfferRow.RefuseOffer code) = unmoved v v refl refl
offered v o (OfferRow.DeclineOffer code) = unmoved v (offer_by v o (OfferRow.DeclineOffer code)).after refl refl
offered v o (OfferRow.BeginWork u) = moves v (offer_by v o (OfferRow.BeginWork u)).after refl (λ e. refl)

returned : (v : DeviceState) (row : ReturnRow) → Tells v (return_by v row).after (return_by v row).activated
returned v (ReturnRow.RefuseReturn code) = unmoved v v refl refl
returned v (ReturnRow.ReturnReady u) = moves v (return_by v (ReturnRow.ReturnReady u)).after refl (λ e. refl)

-- a switch is made if the device is ready
when_ready : (components : List BankComponent) (rows : List RowOf) (p : Phase) (works : Bool) → switch_row components rows p works ≡ SwitchRow.Switch → is_ready p ≡ true
when_ready components rows Phase.Idle works e = absurd (cc)
when_ready components rows (Phase.Ready u) works e = refl
when_ready components rows p works e = absurd (cc)

switches : (v : DeviceState) (works : Bool) (row : SwitchRow) → switch_row v.components v.rows v.phase works ≡ row → Tells v (switch_by v row).after (switch_by v row).activated
switches v works (SwitchRow.RefuseSwitch code) e = unmoved v v refl refl
switches v works SwitchRow.Switch e =
    record { activated = rw (when_ready v.components v.rows v.phase works e) refl; kept = λ a b. absurd (cc) }

cancelled : (v : DeviceState) (row : CancelRow) → Tells v (cancel_by v row).after (cancel_by v row).activated
cancelled v (CancelRow.RefuseCancel code) = unmoved v v refl refl
cancelled v CancelRow.Reset = moves v (cancel_by v CancelRow.Reset).after refl (λ e. absurd (cc))

takes : (v : DeviceState) (c : CommandOf) (quiet works : Bool) → Tells v (device_take v c quiet works).after (device_take v c quiet works).activated
takes v (CommandOf.RequestUpdate r) quiet works = requested v r (request_row v.phase r quiet)
takes v (CommandOf.PassComponentTable e) quiet works = entered v e (table_row v.rows v.phase e)
takes v (CommandOf.UpdateComponent o) quiet works = offered v o (offer_row v.rows v.phase o quiet works)
takes v CommandOf.CancelUpdateComponent quiet works = returned v (return_row v.phase)
takes v (CommandOf.ActivateFirmware s) quiet works = switches v works (switch_row v.components v.rows v.phase works) refl
takes v CommandOf.CancelUpdate quiet works = cancelled v (cancel_row v.phase)
takes v c quiet works = unmoved v v refl refl

-- an answer that the device learns
downloads : (v : DeviceState) (u : UpdateOf) (w : WorkOf) (row : DeviceLearnRow) → Tells v (download_by v u w row).after []
downloads v u w DeviceLearnRow.Stay = unmoved v v refl refl
downloads v u w (DeviceLearnRow.PutPiece bytes) = moves v (download_by v u w (DeviceLearnRow.PutPiece bytes)).after refl (λ e. refl)
downloads v u w DeviceLearnRow.PutFails = moves v (download_by v u w DeviceLearnRow.PutFails).after refl (λ e. refl)
downloads v u w DeviceLearnRow.NextState = moves v (download_by v u w DeviceLearnRow.NextState).after refl (λ e. refl)
downloads v u w DeviceLearnRow.Reported = moves v (download_by v u w DeviceLearnRow.Reported).after refl (λ e. refl)

verifies : (v : DeviceState) (u : UpdateOf) (w : WorkOf) (row : DeviceLearnRow) → Tells v (verify_by v u w row).after []
verifies v u w DeviceLearnRow.NextState = moves v (verify_by v u w DeviceLearnRow.NextState).after refl (λ e. refl)
verifies v u w DeviceLearnRow.Reported = moves v (verify_by v u w DeviceLearnRow.Reported).after refl (λ e. refl)
verifies v u w row = unmoved v v refl refl

applies : (v : DeviceState) (u : UpdateOf) (w : WorkOf) (row : DeviceLearnRow) → Tells v (apply_by v u w row).after []
applies v u w DeviceLearnRow.NextState = moves v (apply_by v u w DeviceLearnRow.NextState).after refl (λ e. refl)
applies v u w DeviceLearnRow.Reported = moves v (apply_by v u w DeviceLearnRow.Reported).after refl (λ e. refl)
applies v u w row = unmoved v v refl refl

learns_at : (v : DeviceState) (p : Phase) (a : Option AnswerOf) (works : Bool) → Tells v (learn_at v p a works).after []
learns_at v (Phase.Download u w p) a works = downloads v u w (download_row p (asked_length v.unit u w (length v.stage)) a works)
learns_at v (Phase.Verify u w p) a works = verifies v u w (report_row p (verified_row a))
learns_at v (Phase.Apply u w p) a works = applies v u w (report_row p (applied_row a))
learns_at v p a works = unmoved v v refl refl

-- an outcome of a half
abbrev pub TellsHeard : DeviceState → (quiet works : Bool) → HalfOutcome TimedDevice → Type 0
TellsHeard v quiet works (HalfOutcome.Went half sent) = Tells v half.core.device []
TellsHeard v quiet works (HalfOutcome.Took half sent command answer) =
    Tells v half.core.device (device_take v command quiet works).activated
TellsHeard v quiet works (HalfOutcome.Asks half m head body) = Tells v half.core.device []
TellsHeard v quiet works (HalfOutcome.Strayed half m) = Tells v half.core.device []

read : (quiet works : Bool) (h : HalfOf TimedDevice) (requests : List (Option Held)) (m : MessageOf) (head : PldmHead) (c : Result CommandOf ℕ)
    → TellsHeard h.core.device quiet works (takes_read device_core quiet works h requests m head c)
read quiet works h requests m head (Ok c) = takes h.core.device c quiet works
read quiet works h requests m head (Err code) = unmoved h.core.device h.core.device refl refl

taken : (is_update works : Bool) (h : HalfOf TimedDevice) (requests : List (Option Held)) (m : MessageOf) (head : PldmHead) (body : List ℕ)
    → TellsHeard h.core.device (is_quiet h.asker.caller) works (takes_if is_update device_core works h requests m head body)
taken true works h requests m head body = read (is_quiet h.asker.caller) works h requests m head (read_by device_core head.command body)
taken false works h requests m head body = unmoved h.core.device h.core.device refl refl

served : (works : Bool) (h : HalfOf TimedDevice) (row : TakerRow) → TellsHeard h.core.device (is_quiet h.asker.caller) works (half_takes device_core works h row)
served works h (TakerRow.Silent requests) = unmoved h.core.device h.core.device refl refl
served works h (TakerRow.Repeats requests answer) = unmoved h.core.device h.core.device refl refl
served works h (TakerRow.TakesUp requests m head body) = taken (head.pldm_type == 5) works h requests m head body
served works h (TakerRow.Strays requests m) = unmoved h.core.device h.core.device refl refl

by_rows : (works : Bool) (h : HalfOf TimedDevice) (asked : AskerRow) (asks : TakerRow)
    → TellsHeard h.core.device (is_quiet h.asker.caller) works (half_on_rows device_core works h asked asks)
by_rows works h (AskerRow.Ignores replies) asks = served works (record h { asker = record h.asker { replies = replies } }) asks
by_rows works h (AskerRow.Learns replies caller heard) asks =
    learns_at h.core.device h.core.device.phase (answer_or (answer_read heard.command heard.reply)) works

ends : (v : DeviceState) (quiet works : Bool) (role : Role) (endpoint : Endpoint) (tid : ℕ) (heard : HalfOutcome TimedDevice) → TellsHeard v quiet works heard
    → Tells v (node_outcome_of role endpoint tid heard).half.core.device (activated_when v quiet works heard)
ends v quiet works role endpoint tid (HalfOutcome.Went half sent) k = k
ends v quiet works role endpoint tid (HalfOutcome.Took half sent command answer) k = k
ends v quiet works role endpoint tid (HalfOutcome.Asks half m head body) k = k
ends v quiet works role endpoint tid (HalfOutcome.Strayed half m) k = k

pub hearing_tells : (works : Bool) (n : DeviceNodeOf) (bytes : List ℕ) → Tells n.half.core.device (device_on_packet works n bytes).half.core.device (activated_at works n bytes)
hearing_tells works n bytes =
    ends n.half.core.device (is_quiet n.half.asker.caller) works roles.Device n.endpoint n.tid (half_on_packet device_core works n.half bytes)
    (by_rows works n.half (asker_row n.half.unit n.half.own n.half.peer n.half.asker bytes) (taker_row n.half.unit n.half.own n.half.peer n.half.taker bytes))
