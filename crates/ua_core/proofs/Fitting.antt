-- A session's answers fit a message of its network, case by case.
use Rattle.std.proofs.Common.{◌&&◌, ◌+◌, ◌-◌, ◌==◌, ◌||◌, ◌≡◌, ◌≤◌, ℕ, Bool, List, arith, drop, false, if◌then◌else◌, length, nat_lt, refl, replicate, take, true}
use Rattle.std.proofs.lemmas.Bool.{ltb-false}
use Rattle.std.proofs.lemmas.List.{length-append, length-replicate, length-take}
use Rattle.mctp_wire.specs.declared.unit.Unit.{«Unit»}
use Rattle.fw_package.specs.Choice.{component_at}
use Rattle.fw_package.specs.Package.{PackageText}
use Rattle.pldm_base.specs.Limits.{reply_limit}
use Rattle.fwup_wire.proofs.Limits.{fits_each, piece_fits}
use Rattle.fwup_wire.specs.Answers.{answer_bytes}
use Rattle.fwup_wire.specs.Transfers.{transfer_size}
use Rattle.fwup_wire.specs.Values.{AnswerOf, CommandOf}
use Rattle.fwup_wire.specs.declared.transfers.TheConstants.{MIN_TRANSFER}
use Rattle.ua_core.specs.Serve.{ServeRow, agent_answer, answer_by, apply_row, data_of, data_row, is_bad_length, is_past_end, refusal_row, transfer_row, verify_row, window}
use Rattle.ua_core.specs.Session.{SessionOf, Stage}

-- the answer of a case fits a message
abbrev Fits : «Unit» → ServeRow → Type 0
Fits unit row = length (answer_bytes (answer_by row)) ≤ reply_limit unit

-- a code alone fits
alone : (unit : «Unit») → 1 ≤ reply_limit unit
alone unit = fits_each unit 1 (omega arith)

either : (unit : «Unit») (b : Bool) (x y : ServeRow) → Fits unit x → Fits unit y → Fits unit (if b then x else y)
either unit true x y hx hy = hx
either unit false x y hx hy = hy

taken_few : (n : ℕ) (xs : List ℕ) → length (take n xs) ≤ n
taken_few n xs = rw (length-take n xs) (omega arith)

-- the served piece has the requested length
window_length : (image : List ℕ) (offset size : ℕ) → length (window image offset size) ≡ size
window_length image offset size =
    let few = taken_few size (drop offset image) in
    rw (length-append (take size (drop offset image)) (replicate (size - length (take size (drop offset image))) 0), length-replicate {A = ℕ} (size - length (take size (drop offset image))) 0)
    (omega arith)

short_enough : (low high : Bool) → (low || high) ≡ false → high ≡ false
short_enough true high is = absurd (cc)
short_enough false high is = is

served : (unit : «Unit») (image : List ℕ) (offset size : ℕ) (bad : Bool) → is_bad_length unit size ≡ bad
    → Fits unit (if bad then refusal_row 0x83 else if is_past_end image offset size then refusal_row 0x82 else ServeRow.Give (window image offset size))
served unit image offset size true is = alone unit
served unit image offset size false is =
    either unit (is_past_end image offset size) (refusal_row 0x82) (ServeRow.Give (window image offset size)) (alone unit)
    (omega (
      arith,
      piece_fits unit (length (window image offset size))
          (rw (window_length image offset size) (ltb-false (transfer_size unit) size (short_enough (nat_lt size MIN_TRANSFER) (nat_lt (transfer_size unit) size) is))),
    ))

pieces : (unit : «Unit») (p : PackageText) (g : Stage) (offset size : ℕ) → Fits unit (data_row unit p g offset size)
pieces unit p (Stage.Update t) offset size = alone unit
pieces unit p (Stage.Download t) offset size =
    served unit (component_at p t.at_hand.component).image offset size (is_bad_length unit size) refl
pieces unit p g offset size = alone unit

told : (unit : «Unit») (b : Bool) (a : AnswerOf) → Fits unit (ServeRow.Say a) → Fits unit (if b then ServeRow.Say a else refusal_row 0x88)
told unit b a fits = either unit b (ServeRow.Say a) (refusal_row 0x88) fits (alone unit)

transfers : (unit : «Unit») (g : Stage) (result : ℕ) → Fits unit (transfer_row g result)
transfers unit (Stage.Download t) result = alone unit
transfers unit (Stage.Verify t) result = told unit (result == 0) AnswerOf.TransferComplete (alone unit)
transfers unit g result = alone unit

verifies : (unit : «Unit») (g : Stage) (result : ℕ) → Fits unit (verify_row g result)
verifies unit (Stage.Verify t) result = alone unit
verifies unit (Stage.Apply t) result = told unit (result == 0) AnswerOf.VerifyComplete (alone unit)
verifies unit g result = alone unit

applies : (unit : «Unit») (g : Stage) (result : ℕ) → Fits unit (apply_row g result)
applies unit (Stage.Update t) result = told unit ((result == 0) && nat_lt 0 t.made) AnswerOf.ApplyComplete (alone unit)
applies unit (Stage.Apply t) result = either unit (result == 0) _ _ (alone unit) (alone unit)
applies unit (Stage.AllApplied j) result = told unit (result == 0) AnswerOf.ApplyComplete (alone unit)
applies unit (Stage.Activate j) result = told unit (result == 0) AnswerOf.ApplyComplete (alone unit)
applies unit g result = alone unit

pub answers_fit : (p : PackageText) (s : SessionOf) (c : CommandOf) → length (answer_bytes (agent_answer p s c)) ≤ reply_limit s.unit
answers_fit p s (CommandOf.RequestFirmwareData offset size) = pieces s.unit p s.stage offset size
answers_fit p s (CommandOf.TransferComplete result) = transfers s.unit s.stage result
answers_fit p s (CommandOf.VerifyComplete result) = verifies s.unit s.stage result
answers_fit p s (CommandOf.ApplyComplete result methods) = applies s.unit s.stage result
answers_fit p s c = alone s.unit
