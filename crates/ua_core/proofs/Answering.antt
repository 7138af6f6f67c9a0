-- The reply to each command of a device reads as an answer to it.
use Rattle.std.proofs.Common.{◌≡◌, ◌==◌, ◌&&◌, ℕ, Bool, true, false, if◌then◌else◌, nat_lt, List, Some, refl}
use Rattle.mctp_wire.specs.declared.unit.Unit.{«Unit»}
use Rattle.fw_package.specs.Choice.{component_at}
use Rattle.fw_package.specs.Package.{PackageText}
use Rattle.fwup_wire.specs.Answers.{answer_bytes, answer_in}
use Rattle.fwup_wire.specs.Commands.{command_code}
use Rattle.fwup_wire.specs.Values.{CommandOf}
use Rattle.ua_core.specs.Serve.{ServeRow, agent_answer, answer_by, apply_row, data_of, data_row, is_bad_length, is_past_end, refusal_row, transfer_row, verify_row, window}
use Rattle.ua_core.specs.Session.{SessionOf, Stage}

-- the answer of a case reads as an answer to this command
abbrev Reads : ℕ → ServeRow → Type 0
Reads command row = answer_in command (answer_bytes (answer_by row)) ≡ Some (answer_by row)

either : (command : ℕ) (b : Bool) (x y : ServeRow) → Reads command x → Reads command y → Reads command (if b then x else y)
either command true x y hx hy = hx
either command false x y hx hy = hy

served : (image : List ℕ) (offset size : ℕ) (short past : Bool)
    → Reads 0x15 (if short then refusal_row 0x83 else if past then refusal_row 0x82 else ServeRow.Give (window image offset size))
served image offset size true past = refl
served image offset size false true = refl
served image offset size false false = refl

data_reads : (unit : «Unit») (image : List ℕ) (offset size : ℕ) → Reads 0x15 (data_of unit image offset size)
data_reads unit image offset size =
    served image offset size (is_bad_length unit size) (is_past_end image offset size)

pieces : (unit : «Unit») (p : PackageText) (g : Stage) (offset size : ℕ) → Reads 0x15 (data_row unit p g offset size)
pieces unit p (Stage.Update t) offset size = refl
pieces unit p (Stage.Download t) offset size = data_reads unit (component_at p t.at_hand.component).image offset size
pieces unit p g offset size = refl

transfers : (g : Stage) (result : ℕ) → Reads 0x16 (transfer_row g result)
transfers (Stage.Download t) result = refl
transfers (Stage.Verify t) result = either 0x16 (result == 0) _ _ refl refl
transfers g result = refl

verifies : (g : Stage) (result : ℕ) → Reads 0x17 (verify_row g result)
verifies (Stage.Verify t) result = refl
verifies (Stage.Apply t) result = either 0x17 (result == 0) _ _ refl refl
verifies g result = refl

applies : (g : Stage) (result : ℕ) → Reads 0x18 (apply_row g result)
applies (Stage.Update t) result = either 0x18 ((result == 0) && nat_lt 0 t.made) _ _ refl refl
applies (Stage.Apply t) result = either 0x18 (result == 0) _ _ refl refl
applies (Stage.AllApplied j) result = either 0x18 (result == 0) _ _ refl refl
applies (Stage.Activate j) result = either 0x18 (result == 0) _ _ refl refl
applies g result = refl

pub answers_read : (p : PackageText) (s : SessionOf) (c : CommandOf) → answer_in (command_code c) (answer_bytes (agent_answer p s c)) ≡ Some (agent_answer p s c)
answers_read p s (CommandOf.RequestFirmwareData offset size) = pieces s.unit p s.stage offset size
answers_read p s (CommandOf.TransferComplete result) = transfers s.stage result
answers_read p s (CommandOf.VerifyComplete result) = verifies s.stage result
answers_read p s (CommandOf.ApplyComplete result methods) = applies s.stage result
answers_read p s c = refl
