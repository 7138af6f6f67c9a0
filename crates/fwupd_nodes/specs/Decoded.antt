-- The output of decoding packets.
use Rattle.std.specs.Prelude.{ℕ, ◌≡◌, ◌<◌, ◌⊎◌, ◌^◌, Bool, true, false, List, Option, None, Some, codes, length}
use Rattle.std.specs.Io.KnownBytes.{Consumes, IsAtEnd}
use Rattle.std.specs.Str.{bytes_eq}
use Rattle.mctp_wire.specs.declared.unit.Unit.{«Unit»}
use Rattle.fw_json.specs.Decoded.{decoded_in}
use Rattle.fwupd_base.specs.declared.forms.Form.{Form}
use Rattle.fwupd_base.specs.declared.stream.AnswerFault.TheVariants as answers
use Rattle.fwupd_watch.specs.Outputs.{FailsToWriteOutput, OutputOf, WritesOutput}
use Rattle.fwupd_watch.specs.Files.{FileOf, MayHold}
use Rattle.fwupd_nodes.specs.Setups.{IsUnread}
use Rattle.fwupd_watch.specs.declared.faults.JobFault.{JobFault}
use Rattle.fwupd_watch.specs.declared.faults.JobFault.TheVariants as faults

-- the most bytes that are read of the input
abbrev pub input_limit : ℕ
input_limit = 2 ^ 24

-- the reader gave more bytes
pub record IsOverLimit (read_before read_now : Option (List ℕ)) : Type 0 where
  pub bytes : List ℕ
  pub read : Consumes read_before read_now bytes
  pub over : input_limit < length bytes

-- the reader gives all its bytes
abbrev pub GivesInput : (read_before read_now : Option (List ℕ)) → (bytes : List ℕ) → Type 0
GivesInput read_before read_now bytes = Consumes read_before read_now bytes × IsAtEnd read_now

-- These are the bytes of the file, or of the reader if there is no path or it is a dash.
abbrev pub GivesFrom : (is_dash : Bool) → (files : List ℕ → FileOf) → (path : List ℕ) → (read_before read_now : Option (List ℕ)) → (bytes : List ℕ) → Type 0
GivesFrom true files path read_before read_now bytes = GivesInput read_before read_now bytes
GivesFrom false files path read_before read_now bytes = MayHold (files path) bytes × (read_now ≡ read_before)

abbrev pub GivesPackets : (files : List ℕ → FileOf) → (path : Option (List ℕ)) → (read_before read_now : Option (List ℕ)) → (bytes : List ℕ) → Type 0
GivesPackets files None read_before read_now bytes = GivesInput read_before read_now bytes
GivesPackets files (Some path) read_before read_now bytes = GivesFrom (bytes_eq path (codes "-")) files path read_before read_now bytes

-- They can't be read.
abbrev pub InputFails : JobFault → Type 0
InputFails told = told ≡ faults.Answer answers.Read

abbrev pub FailsFrom : (is_dash : Bool) → (files : List ℕ → FileOf) → (path : List ℕ) → JobFault → Type 0
FailsFrom true files path told = InputFails told
FailsFrom false files path told = IsUnread path (files path) told

abbrev pub HasNoPackets : (files : List ℕ → FileOf) → (path : Option (List ℕ)) → JobFault → Type 0
HasNoPackets files None told = InputFails told
HasNoPackets files (Some path) told = FailsFrom (bytes_eq path (codes "-")) files path told

-- The lines of the packets are written.
pub record Decodes (files : List ℕ → FileOf) (path : Option (List ℕ)) (u : «Unit») (form : Form) (read_before read_now : Option (List ℕ)) (before now : OutputOf) : Type 0 where
  pub bytes : List ℕ
  pub given : GivesPackets files path read_before read_now bytes
  pub written : WritesOutput before now (decoded_in form u bytes)

-- A beginning of the lines is written.
pub record BreaksDecoding (files : List ℕ → FileOf) (path : Option (List ℕ)) (u : «Unit») (form : Form) (read_before read_now : Option (List ℕ)) (told : JobFault) (before now : OutputOf) : Type 0 where
  pub is : told ≡ faults.Output
  pub bytes : List ℕ
  pub given : GivesPackets files path read_before read_now bytes
  pub begun : FailsToWriteOutput before now (decoded_in form u bytes)

-- The result of decoding that failed. If writing didn't fail, nothing is written, and memory was
-- refused, or the packets can't be read.
abbrev pub DecodeEnds : (files : List ℕ → FileOf) → (path : Option (List ℕ)) → «Unit» → Form → (read_before read_now : Option (List ℕ)) → JobFault → (before now : OutputOf) → Type 0
DecodeEnds files path u form read_before read_now told before now =
    BreaksDecoding files path u form read_before read_now told before now
    ⊎ (((told ≡ faults.Memory) ⊎ HasNoPackets files path told) × (now ≡ before))
