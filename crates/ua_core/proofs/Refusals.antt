-- A command that is answered by a refusal has a refusing case.
use Rattle.std.proofs.Common.{◌≡◌, ◌==◌, ◌&&◌, ℕ, Bool, true, false, if◌then◌else◌, nat_lt, List, ap}
use Rattle.mctp_wire.specs.declared.unit.Unit.{«Unit»}
use Rattle.fw_package.specs.Choice.{component_at}
use Rattle.fw_package.specs.Package.{PackageText}
use Rattle.fwup_wire.specs.Values.{AnswerOf, CommandOf}
use Rattle.ua_core.specs.Laws.{RefusalsKeepTheSession, RefusalsRecordNothing, RefusalsKeepSessionIdle}
use Rattle.ua_core.specs.Serve.{ServeRow, after_by, answer_by, apply_row, data_of, data_row, idle_after, is_bad_length, is_past_end, recorded_with, refusal_row, serve_row, transfer_row, verify_row, window}
use Rattle.ua_core.specs.Session.{Stage, TaskOf}
use Rattle.ua_core.specs.declared.state.Cause.TheVariants as causes

-- a refusal has no other effect
abbrev IsRefusal : ServeRow → Type 0
IsRefusal r = (code : ℕ) → answer_by r ≡ AnswerOf.Refused code → r ≡ refusal_row code

says : (a : AnswerOf) → IsRefusal (ServeRow.Say a)
says a code e = ap ServeRow.Say e

either : (b : Bool) (x y : ServeRow) → IsRefusal x → IsRefusal y → IsRefusal (if b then x else y)
either true x y hx hy = hx
either false x y hx hy = hy

gives : (bytes : List ℕ) → IsRefusal (ServeRow.Give bytes)
gives bytes code e = absurd (cc)

data_refused : (unit : «Unit») (image : List ℕ) (offset size : ℕ) → IsRefusal (data_of unit image offset size)
data_refused unit image offset size =
    either (is_bad_length unit size) (refusal_row 0x83)
    (if is_past_end image offset size then refusal_row 0x82 else ServeRow.Give (window image offset size))
    (says (AnswerOf.Refused 0x83))
    (either (is_past_end image offset size) (refusal_row 0x82) (ServeRow.Give (window image offset size))
    (says (AnswerOf.Refused 0x82)) (gives (window image offset size)))

pieces : (unit : «Unit») (p : PackageText) (g : Stage) (offset size : ℕ) → IsRefusal (data_row unit p g offset size)
pieces unit p (Stage.Update t) offset size = says (AnswerOf.Refused 0x89)
pieces unit p (Stage.Download t) offset size = data_refused unit (component_at p t.at_hand.component).image offset size
pieces unit p g offset size = says (AnswerOf.Refused 0x88)

told : (b : Bool) (a : AnswerOf) → IsRefusal (if b then ServeRow.Say a else refusal_row 0x88)
told b a = either b (ServeRow.Say a) (refusal_row 0x88) (says a) (says (AnswerOf.Refused 0x88))

transfers : (g : Stage) (result : ℕ) → IsRefusal (transfer_row g result)
transfers (Stage.Download t) result = λ code e. absurd (cc)
transfers (Stage.Verify t) result = told (result == 0) AnswerOf.TransferComplete
transfers g result = says (AnswerOf.Refused 0x88)

verifies : (g : Stage) (result : ℕ) → IsRefusal (verify_row g result)
verifies (Stage.Verify t) result = λ code e. absurd (cc)
verifies (Stage.Apply t) result = told (result == 0) AnswerOf.VerifyComplete
verifies g result = says (AnswerOf.Refused 0x88)

moves : (g : Stage) → IsRefusal (ServeRow.Move g AnswerOf.ApplyComplete)
moves g code e = absurd (cc)

records : (t : TaskOf) → IsRefusal (ServeRow.Record t)
records t code e = absurd (cc)

applies : (g : Stage) (result : ℕ) → IsRefusal (apply_row g result)
applies (Stage.Update t) result = told ((result == 0) && nat_lt 0 t.made) AnswerOf.ApplyComplete
applies (Stage.Apply t) result =
    either (result == 0) (ServeRow.Record t) (ServeRow.Move (Stage.Failed causes.Apply) AnswerOf.ApplyComplete) (records t)
    (moves (Stage.Failed causes.Apply))
applies (Stage.AllApplied j) result = told (result == 0) AnswerOf.ApplyComplete
applies (Stage.Activate j) result = told (result == 0) AnswerOf.ApplyComplete
applies g result = says (AnswerOf.Refused 0x88)

refusals : (unit : «Unit») (p : PackageText) (g : Stage) (c : CommandOf) → IsRefusal (serve_row unit p g c)
refusals unit p g (CommandOf.RequestFirmwareData offset size) = pieces unit p g offset size
refusals unit p g (CommandOf.TransferComplete result) = transfers g result
refusals unit p g (CommandOf.VerifyComplete result) = verifies g result
refusals unit p g (CommandOf.ApplyComplete result methods) = applies g result
refusals unit p g c = says (AnswerOf.Refused 5)

pub refusals_keep : RefusalsKeepTheSession
refusals_keep p s c code e = ap (after_by s) (refusals s.unit p s.stage c code e)

pub refusals_record : RefusalsRecordNothing
refusals_record p s c code e = ap (recorded_with s) (refusals s.unit p s.stage c code e)

pub refusals_stir : RefusalsKeepSessionIdle
refusals_stir p s idle c code e = ap (idle_after idle) (refusals s.unit p s.stage c code e)
