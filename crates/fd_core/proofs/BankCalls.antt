-- The effect of a call on a device depends on whether its bank works exactly if the device calls
-- the bank.
use Rattle.std.proofs.Common.{◌≡◌, ◌≢◌, ◌==◌, ◌∙◌, ap, refl, sym, nat_lt, not, Bool, true, false, ℕ, List, length, Option, Some, None, is_some, if◌then◌else◌}
use Rattle.pldm_base.specs.Codes.{error, invalid_data}
use Rattle.fwup_wire.specs.Answers.{answer_bytes}
use Rattle.fwup_wire.specs.Values.{AnswerOf, CommandOf, TableEntryOf, OfferOf, UpdateRequestOf}
use Rattle.fd_core.specs.BankCalls.{AnswersDependOnCalls, CommandsDependOnCalls, DifferIf, VerdictsDependOnCalls, answer_calls_bank, answer_calls_bank_in, begins_stage, command_calls_bank, puts_piece, verdict_calls_bank, verdict_calls_bank_in}
use Rattle.fd_core.specs.Codes.{activation_not_required, incomplete_update, longest_image, no_restriction}
use Rattle.fd_core.specs.Commands.{OfferRow, RequestRow, SwitchRow, TableRow, bytes_work, cancel_by, cancel_row, device_answer, device_take, download_progress, has_applied, is_odd_request, is_switch, lacks_listed, offer_by, offer_restriction, offer_row, offer_under, request_by, request_row, restriction, return_by, return_row, switch_by, switch_row, table_by, table_row}
use Rattle.fd_core.specs.Images.{RowOf}
use Rattle.fd_core.specs.States.{DeviceState, Phase, UpdateOf, WorkOf}
use Rattle.fd_core.specs.Steps.{VerdictEffect, device_verdict, verdict_at}
use Rattle.fd_core.specs.Wishes.{DeviceLearnRow, applied_row, apply_by, asked_length, device_learn, download_by, download_row, has_failed, is_failure, learn_at, piece_row, report_row, stage_with, verified_row, verify_by}
use Rattle.fd_core.specs.declared.parts.BankComponent.{BankComponent}
use Rattle.fd_core.specs.declared.states.Progress.{Progress}
use Rattle.fd_core.specs.declared.states.Progress.TheVariants as progress
use Rattle.fd_core.specs.declared.states.Verdict.{Verdict}
use Rattle.fd_core.specs.declared.states.Verdict.TheVariants as verdicts

-- the same test on both sides
both : {R S : Type 0} (P : R → S → Type 0) (b : Bool) (x y : R) (s t : S) → P x s → P y t → P (if b then x else y) (if b then s else t)
both P true x y s t hx hy = hx
both P false x y s t hx hy = hy

either : {R : Type 0} (P : R → Type 0) (b : Bool) (x y : R) → P x → P y → P (if b then x else y)
either P true x y hx hy = hx
either P false x y hx hy = hy

-- Two results that differ in a part if the bank is called, and else are the same.
abbrev pub DifferInIf : {R S : Type 0} (part : R → S) → (called : Bool) → (failing working : R) → Type 0
DifferInIf part true failing working = part failing ≢ part working
DifferInIf part false failing working = failing ≡ working

pub differ_if : {R S : Type 0} (part : R → S) (called : Bool) (failing working : R) → DifferInIf part called failing working → DifferIf called failing working
differ_if part true failing working h = λ e. h (ap part e)
differ_if part false failing working h = h

-- What is made of two such results differs likewise, if the part can be read off what is made.
pub differ_through : {R S T : Type 0} (part : R → S) (f : R → T) (read : T → S) (called : Bool) (failing working : R)
    → read (f failing) ≡ part failing → read (f working) ≡ part working → DifferInIf part called failing working → DifferIf called (f failing) (f working)
differ_through part f read true failing working x y h = λ e. h (sym x ∙ ap read e ∙ y)
differ_through part f read false failing working x y h = ap f h

-- COMMANDS

-- a case with a bank that fails, and with one that works
abbrev OffersDiffer : DeviceState → OfferOf → OfferRow → OfferRow → Type 0
OffersDiffer v o failing working = DifferInIf (λ t. t.answer) (begins_stage working) (offer_by v o failing) (offer_by v o working)

under : (v : DeviceState) (o : OfferOf) (u : UpdateOf) (code : ℕ) → OffersDiffer v o (offer_under u code false) (offer_under u code true)
under v o u code =
    both (OffersDiffer v o) (not (code == no_restriction)) (OfferRow.DeclineOffer code) (OfferRow.RefuseOffer error) (OfferRow.DeclineOffer code) (OfferRow.BeginWork u)
    refl (λ e. absurd (cc))

offers : (v : DeviceState) (o : OfferOf) (rows : List RowOf) (p : Phase) (quiet : Bool) → OffersDiffer v o (offer_row rows p o quiet false) (offer_row rows p o quiet true)
offers v o rows Phase.Idle quiet = refl
offers v o rows (Phase.Ready u) false = refl
offers v o rows (Phase.Ready u) true =
    both (OffersDiffer v o) (nat_lt longest_image o.size) (OfferRow.RefuseOffer invalid_data) (offer_under u (offer_restriction rows u.table o) false) (OfferRow.RefuseOffer invalid_data) (offer_under u (offer_restriction rows u.table o) true)
    refl (under v o u (offer_restriction rows u.table o))
offers v o rows p quiet = refl

abbrev SwitchesDiffer : DeviceState → SwitchRow → SwitchRow → Type 0
SwitchesDiffer v failing working = DifferInIf (λ t. t.answer) (is_switch working) (switch_by v failing) (switch_by v working)

switches : (v : DeviceState) (cs : List BankComponent) (rows : List RowOf) (p : Phase) → SwitchesDiffer v (switch_row cs rows p false) (switch_row cs rows p true)
switches v cs rows Phase.Idle = refl
switches v cs rows (Phase.Ready u) =
    both (SwitchesDiffer v) (lacks_listed rows u.table) (SwitchRow.RefuseSwitch incomplete_update) _ (SwitchRow.RefuseSwitch incomplete_update) _ refl
    (both (SwitchesDiffer v) (not (has_applied rows cs)) (SwitchRow.RefuseSwitch activation_not_required) (SwitchRow.RefuseSwitch error) (SwitchRow.RefuseSwitch activation_not_required) SwitchRow.Switch refl
    (λ e. absurd (cc)))
switches v cs rows p = refl

pub commands_differ : (v : DeviceState) (c : CommandOf) (quiet : Bool) → DifferInIf (λ t. t.answer) (command_calls_bank v c quiet) (device_take v c quiet false) (device_take v c quiet true)
commands_differ v (CommandOf.UpdateComponent o) quiet = offers v o v.rows v.phase quiet
commands_differ v (CommandOf.ActivateFirmware s) quiet = switches v v.components v.rows v.phase
commands_differ v c quiet = refl

pub commands_depend : CommandsDependOnCalls
commands_depend v c quiet = differ_if (λ t. t.answer) (command_calls_bank v c quiet) (device_take v c quiet false) (device_take v c quiet true) (commands_differ v c quiet)

-- ANSWERS

abbrev PiecesDiffer : DeviceState → UpdateOf → WorkOf → DeviceLearnRow → DeviceLearnRow → Type 0
PiecesDiffer v u w failing working = DifferInIf (λ l. has_failed l.after.phase) (puts_piece working) (download_by v u w failing) (download_by v u w working)

no_failure_put : (more : Bool) → is_failure (if more then progress.InProgress else progress.Succeeded) ≡ false
no_failure_put true = refl
no_failure_put false = refl

piece_differs : (v : DeviceState) (u : UpdateOf) (w : WorkOf) (bytes : List ℕ) → PiecesDiffer v u w DeviceLearnRow.PutFails (DeviceLearnRow.PutPiece bytes)
piece_differs v u w bytes e = absurd (let whole = no_failure_put (nat_lt (length (stage_with v w bytes)) w.size) in cc)

pieces : (v : DeviceState) (u : UpdateOf) (w : WorkOf) (n : ℕ) (a : Option AnswerOf) → PiecesDiffer v u w (piece_row n a false) (piece_row n a true)
pieces v u w n (Some (AnswerOf.RequestFirmwareData bytes)) =
    both (PiecesDiffer v u w) (length bytes == n) DeviceLearnRow.PutFails DeviceLearnRow.Stay (DeviceLearnRow.PutPiece bytes) DeviceLearnRow.Stay (piece_differs v u w bytes) refl
pieces v u w n a = refl

-- the case of a report never puts
report_differs : (v : DeviceState) (u : UpdateOf) (w : WorkOf) (p : Progress) (a : Option AnswerOf) (n : ℕ)
    → PiecesDiffer v u w (download_row p n a false) (download_row p n a true)
report_differs v u w progress.InProgress a n = pieces v u w n a
report_differs v u w progress.Succeeded (Some AnswerOf.TransferComplete) n = refl
report_differs v u w progress.Succeeded a n = refl
report_differs v u w (progress.Failed reported) a n = refl

answers_in : (v : DeviceState) (p : Phase) (a : Option AnswerOf) → DifferInIf (λ l. has_failed l.after.phase) (answer_calls_bank_in p v a) (learn_at v p a false) (learn_at v p a true)
answers_in v (Phase.Download u w p) a = report_differs v u w p a (asked_length v.unit u w (length v.stage))
answers_in v (Phase.Verify u w p) a = refl
answers_in v (Phase.Apply u w p) a = refl
answers_in v p a = refl

pub answers_differ : (v : DeviceState) (a : Option AnswerOf) → DifferInIf (λ l. has_failed l.after.phase) (answer_calls_bank v a) (learn_at v v.phase a false) (learn_at v v.phase a true)
answers_differ v a = answers_in v v.phase a

pub answers_depend : AnswersDependOnCalls
answers_depend v a = differ_if (λ l. has_failed l.after.phase) (answer_calls_bank v a) (learn_at v v.phase a false) (learn_at v v.phase a true) (answers_differ v a)

-- VERDICTS

abbrev pub effect_failed : Option VerdictEffect → Bool
effect_failed None = false
effect_failed (Some j) = has_failed j.after.phase

verdicts_in : (v : DeviceState) (p : Phase) (verdict : Verdict) → DifferInIf effect_failed (verdict_calls_bank_in p verdict) (verdict_at v p verdict false) (verdict_at v p verdict true)
verdicts_in v (Phase.Verify u w progress.InProgress) verdicts.VerifyOk = refl
verdicts_in v (Phase.Verify u w progress.InProgress) verdicts.VerifyFail = refl
verdicts_in v (Phase.Apply u w progress.InProgress) verdicts.ApplyOk = λ e. absurd (let same : true ≡ false = e in cc)
verdicts_in v (Phase.Apply u w progress.InProgress) verdicts.ApplyFail = refl
verdicts_in v p verdict = refl

pub verdicts_differ : (v : DeviceState) (verdict : Verdict) → DifferInIf effect_failed (verdict_calls_bank v verdict) (device_verdict v verdict false) (device_verdict v verdict true)
verdicts_differ v verdict = verdicts_in v v.phase verdict

pub verdicts_depend : VerdictsDependOnCalls
verdicts_depend v verdict = differ_if effect_failed (verdict_calls_bank v verdict) (device_verdict v verdict false) (device_verdict v verdict true) (verdicts_differ v verdict)

-- THE BANK ISN'T CALLED

same_if : {R : Type 0} (f : Bool → R) (called works : Bool) → called ≡ false → DifferIf called (f false) (f true) → f works ≡ f true
same_if f false true e h = refl
same_if f false false e h = h
same_if f true works e h = absurd (cc)

pub takes_alike : (v : DeviceState) (c : CommandOf) (quiet works : Bool) → command_calls_bank v c quiet ≡ false → device_take v c quiet works ≡ device_take v c quiet true
takes_alike v c quiet works e = same_if (device_take v c quiet) (command_calls_bank v c quiet) works e (commands_depend v c quiet)

pub learns_alike : (v : DeviceState) (a : Option AnswerOf) (works : Bool) → answer_calls_bank v a ≡ false → device_learn v a works ≡ device_learn v a true
learns_alike v a works e = ap (λ l. l.after) (same_if (learn_at v v.phase a) (answer_calls_bank v a) works e (answers_depend v a))

pub judges_alike : (v : DeviceState) (verdict : Verdict) (works : Bool) → verdict_calls_bank v verdict ≡ false → device_verdict v verdict works ≡ device_verdict v verdict true
judges_alike v verdict works e = same_if (device_verdict v verdict) (verdict_calls_bank v verdict) works e (verdicts_depend v verdict)

-- A CALL FAILED

-- whether a reply shows that the bank worked
abbrev reply_works : AnswerOf → Bool
reply_works a = bytes_work (answer_bytes a)

requests_work : (v : DeviceState) (r : UpdateRequestOf) (p : Phase) (quiet : Bool) → reply_works (request_by v r (request_row p r quiet)).answer ≡ true
requests_work v r Phase.Idle false = refl
requests_work v r Phase.Idle true =
    either (λ row. reply_works (request_by v r row).answer ≡ true) (is_odd_request r) (RequestRow.RefuseRequest invalid_data) RequestRow.BeginUpdate refl refl
requests_work v r p quiet = refl

entries_work : (v : DeviceState) (e : TableEntryOf) (rows : List RowOf) (p : Phase) → reply_works (table_by v e (table_row rows p e)).answer ≡ true
entries_work v e rows Phase.Idle = refl
entries_work v e rows (Phase.Learn u) =
    either (λ row. reply_works (table_by v e row).answer ≡ true) _ (TableRow.RefuseEntry invalid_data) (TableRow.AddEntry u (restriction rows e.key e.version.stamp)) refl refl
entries_work v e rows p = refl

returns_work : (v : DeviceState) (p : Phase) → reply_works (return_by v (return_row p)).answer ≡ true
returns_work v Phase.Idle = refl
returns_work v (Phase.Download u w p) = refl
returns_work v (Phase.Verify u w p) = refl
returns_work v (Phase.Apply u w p) = refl
returns_work v p = refl

cancels_work : (v : DeviceState) (p : Phase) → reply_works (cancel_by v (cancel_row p)).answer ≡ true
cancels_work v Phase.Idle = refl
cancels_work v Phase.Activated = refl
cancels_work v p = refl

-- an offer has this answer only if its case begins a stage
abbrev OfferFails : DeviceState → OfferOf → OfferRow → OfferRow → Type 0
OfferFails v o row working = reply_works (offer_by v o row).answer ≡ false → begins_stage working ≡ true

under_fails : (v : DeviceState) (o : OfferOf) (u : UpdateOf) (code : ℕ) (works : Bool) → OfferFails v o (offer_under u code works) (offer_under u code true)
under_fails v o u code works =
    both (OfferFails v o) (not (code == no_restriction)) (OfferRow.DeclineOffer code) (if works then OfferRow.BeginWork u else OfferRow.RefuseOffer error) (OfferRow.DeclineOffer code) (OfferRow.BeginWork u)
    (λ e. absurd (cc)) (λ e. refl)

offer_fails : (v : DeviceState) (o : OfferOf) (rows : List RowOf) (p : Phase) (quiet works : Bool) → OfferFails v o (offer_row rows p o quiet works) (offer_row rows p o quiet true)
offer_fails v o rows Phase.Idle quiet works = λ e. absurd (cc)
offer_fails v o rows (Phase.Ready u) false works = λ e. absurd (cc)
offer_fails v o rows (Phase.Ready u) true works =
    both (OfferFails v o) (nat_lt longest_image o.size) (OfferRow.RefuseOffer invalid_data) (offer_under u (offer_restriction rows u.table o) works) (OfferRow.RefuseOffer invalid_data) (offer_under u (offer_restriction rows u.table o) true)
    (λ e. absurd (cc)) (under_fails v o u (offer_restriction rows u.table o) works)
offer_fails v o rows p quiet works = λ e. absurd (cc)

abbrev SwitchFails : DeviceState → SwitchRow → SwitchRow → Type 0
SwitchFails v row working = reply_works (switch_by v row).answer ≡ false → is_switch working ≡ true

switch_fails : (v : DeviceState) (cs : List BankComponent) (rows : List RowOf) (p : Phase) (works : Bool) → SwitchFails v (switch_row cs rows p works) (switch_row cs rows p true)
switch_fails v cs rows Phase.Idle works = λ e. absurd (cc)
switch_fails v cs rows (Phase.Ready u) works =
    both (SwitchFails v) (lacks_listed rows u.table) (SwitchRow.RefuseSwitch incomplete_update) _ (SwitchRow.RefuseSwitch incomplete_update) _ (λ e. absurd (cc))
    (both (SwitchFails v) (not (has_applied rows cs)) (SwitchRow.RefuseSwitch activation_not_required) (if works then SwitchRow.Switch else SwitchRow.RefuseSwitch error) (SwitchRow.RefuseSwitch activation_not_required) SwitchRow.Switch
    (λ e. absurd (cc)) (λ e. refl))
switch_fails v cs rows p works = λ e. absurd (cc)

no_failure : (b : Bool) → b ≡ true → b ≡ false → ⊥
no_failure b e f = absurd (cc)

-- A reply shows that the bank failed only if the command calls the bank.
pub take_called : (v : DeviceState) (c : CommandOf) (quiet works : Bool) → bytes_work (answer_bytes (device_answer v c quiet works)) ≡ false → command_calls_bank v c quiet ≡ true
take_called v (CommandOf.RequestUpdate r) quiet works e = absurd (no_failure _ (requests_work v r v.phase quiet) e)
take_called v (CommandOf.PassComponentTable t) quiet works e = absurd (no_failure _ (entries_work v t v.rows v.phase) e)
take_called v (CommandOf.UpdateComponent o) quiet works e = offer_fails v o v.rows v.phase quiet works e
take_called v CommandOf.CancelUpdateComponent quiet works e = absurd (no_failure _ (returns_work v v.phase) e)
take_called v (CommandOf.ActivateFirmware s) quiet works e = switch_fails v v.components v.rows v.phase works e
take_called v CommandOf.CancelUpdate quiet works e = absurd (no_failure _ (cancels_work v v.phase) e)
take_called v c quiet works e = absurd (cc)

-- The work fails at an answer only if the answer calls the bank.
pieces_fail : (v : DeviceState) (u : UpdateOf) (w : WorkOf) (n : ℕ) (a : Option AnswerOf) (works : Bool)
    → has_failed (download_by v u w (piece_row n a works)).after.phase ≡ true → has_failed v.phase ≡ false → puts_piece (piece_row n a true) ≡ true
pieces_fail v u w n (Some (AnswerOf.RequestFirmwareData bytes)) works =
    both (λ (row other : DeviceLearnRow). has_failed (download_by v u w row).after.phase ≡ true → has_failed v.phase ≡ false → puts_piece other ≡ true)
    (length bytes == n) (if works then DeviceLearnRow.PutPiece bytes else DeviceLearnRow.PutFails) DeviceLearnRow.Stay (DeviceLearnRow.PutPiece bytes) DeviceLearnRow.Stay
    (λ e f. refl) (λ e f. absurd (cc))
pieces_fail v u w n a works = λ e f. absurd (cc)

downloads_fail : (v : DeviceState) (u : UpdateOf) (w : WorkOf) (p : Progress) (n : ℕ) (a : Option AnswerOf) (works : Bool) → is_failure p ≡ false
    → has_failed (download_by v u w (download_row p n a works)).after.phase ≡ true → has_failed v.phase ≡ false → puts_piece (download_row p n a true) ≡ true
downloads_fail v u w progress.InProgress n a works k e f = pieces_fail v u w n a works e f
downloads_fail v u w progress.Succeeded n (Some AnswerOf.TransferComplete) works k e f = absurd (cc)
downloads_fail v u w progress.Succeeded n a works k e f = absurd (cc)
downloads_fail v u w (progress.Failed reported) n a works k e f = absurd (cc)

verifies_fail : (v : DeviceState) (u : UpdateOf) (w : WorkOf) (p : Progress) (a : Option AnswerOf) → is_failure p ≡ false
    → has_failed (verify_by v u w (report_row p (verified_row a))).after.phase ≡ true → has_failed v.phase ≡ false → ⊥
verifies_fail v u w progress.InProgress a k e f = absurd (cc)
verifies_fail v u w progress.Succeeded (Some AnswerOf.VerifyComplete) k e f = absurd (cc)
verifies_fail v u w progress.Succeeded a k e f = absurd (cc)
verifies_fail v u w (progress.Failed reported) a k e f = absurd (cc)

applies_fail : (v : DeviceState) (u : UpdateOf) (w : WorkOf) (p : Progress) (a : Option AnswerOf) → is_failure p ≡ false
    → has_failed (apply_by v u w (report_row p (applied_row a))).after.phase ≡ true → has_failed v.phase ≡ false → ⊥
applies_fail v u w progress.InProgress a k e f = absurd (cc)
applies_fail v u w progress.Succeeded (Some AnswerOf.ApplyComplete) k e f = absurd (cc)
applies_fail v u w progress.Succeeded a k e f = absurd (cc)
applies_fail v u w (progress.Failed reported) a k e f = absurd (cc)

learn_fails : (v : DeviceState) (p : Phase) (a : Option AnswerOf) (works : Bool) → has_failed p ≡ false → has_failed v.phase ≡ false
    → has_failed (learn_at v p a works).after.phase ≡ true → answer_calls_bank_in p v a ≡ true
learn_fails v (Phase.Download u w p) a works k f e = downloads_fail v u w p (asked_length v.unit u w (length v.stage)) a works k e f
learn_fails v (Phase.Verify u w p) a works k f e = absurd (verifies_fail v u w p a k e f)
learn_fails v (Phase.Apply u w p) a works k f e = absurd (applies_fail v u w p a k e f)
learn_fails v p a works k f e = absurd (cc)

pub learn_called : (v : DeviceState) (a : Option AnswerOf) (works : Bool) → has_failed v.phase ≡ false → has_failed (device_learn v a works).phase ≡ true → answer_calls_bank v a ≡ true
learn_called v a works f e = learn_fails v v.phase a works f f e

-- ApplyOk calls the bank if it counts.
judges_in : (v : DeviceState) (p : Phase) (works : Bool) → is_some (verdict_at v p verdicts.ApplyOk works) ≡ true → verdict_calls_bank_in p verdicts.ApplyOk ≡ true
judges_in v (Phase.Verify u w progress.InProgress) works e = absurd (cc)
judges_in v (Phase.Apply u w progress.InProgress) works e = refl
judges_in v p works e = absurd (cc)

pub judge_called : (v : DeviceState) (verdict : Verdict) (works : Bool) → verdict ≡ verdicts.ApplyOk → is_some (device_verdict v verdict works) ≡ true → verdict_calls_bank v verdict ≡ true
judge_called v verdict works ok e = rw ok (judges_in v v.phase works (rw ok at e))

-- a reply that shows that the bank failed
pub take_calls : (v : DeviceState) (c : CommandOf) (quiet : Bool) (bytes : List ℕ) → bytes ≡ answer_bytes (device_answer v c quiet (bytes_work bytes))
    → bytes_work bytes ≡ false → command_calls_bank v c quiet ≡ true
take_calls v c quiet bytes e f = take_called v c quiet (bytes_work bytes) (ap bytes_work (sym e) ∙ f)

-- a device whose work failed at an answer
pub learn_calls : (v w : DeviceState) (a : Option AnswerOf) (works : Bool) → w ≡ device_learn v a works → has_failed v.phase ≡ false → has_failed w.phase ≡ true
    → answer_calls_bank v a ≡ true
learn_calls v w a works e before after = learn_called v a works before (ap (λ d. has_failed d.phase) (sym e) ∙ after)

pub ruleset bank_calls = (take_calls, learn_calls, judge_called)
