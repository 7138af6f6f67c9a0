-- The record of a process: lines that its filter reads.
use Rattle.std.specs.Prelude.{ℕ, ◌≡◌, ◌≢◌, ◌⊎◌, ◌+◌, ◌-◌, ◌^◌, ◌==◌, ◌++◌, Err, IfErr, IfSome, nat_le, if◌then◌else◌, List, [], ◌∷◌, OnOk, Option, None, Result, codes}
use Rattle.std.specs.Io.KnownBytes.{Appends}
use Rattle.exch_lane.specs.Lanes.{Sent}
use Rattle.fw_process.specs.Processes.{Deed, deed_with}
use Rattle.fw_text.specs.Printing.{word_and_number}
use Rattle.fwupd_traces.specs.declared.process_watch.WatchFault.{WatchFault}
use Rattle.fwupd_traces.specs.declared.process_watch.WatchFault.TheVariants as faults
use Rattle.hex.specs.Hex.{encode_upper}

-- LINES

-- ticks, in a line; nothing for none
unfoldable pub ticks_line : ℕ → List ℕ
ticks_line n = if n == 0 then [] else word_and_number (codes "tick ") n ++ codes "\n"

-- a packet
unfoldable pub digits_line : List ℕ → List ℕ
digits_line bytes = encode_upper bytes ++ codes "\n"

-- the start of a device's update with a package
unfoldable pub start_line : (number eid : ℕ) → List ℕ
start_line number eid = word_and_number (codes "start ") eid ++ word_and_number (codes " ") number ++ codes "\n"

abbrev pub starts_text : (number : ℕ) → (eids : List ℕ) → List ℕ
starts_text number [] = []
starts_text number (eid ∷ eids) = start_line number eid ++ starts_text number eids

-- A process begins with a restart. Then an agent's starts updates.
abbrev pub beginning_of : (number : ℕ) → (eids : List ℕ) → List ℕ
beginning_of number eids = codes "restart\n" ++ starts_text number eids

-- UNITS

-- A process counts units: it ticks once for each, or, if they are more than 40, restarts (the rules
-- of `fw_process`). Ticks are held back up to 960.
abbrev pub advanced_text : (held units : ℕ) → List ℕ
advanced_text held units =
    if nat_le units 40 then (if nat_le (held + units) 960 then [] else ticks_line (held + units)) else ticks_line held ++ codes "restart\n"

abbrev pub advanced_held : (held units : ℕ) → ℕ
advanced_held held units = if nat_le units 40 then (if nat_le (held + units) 960 then held + units else 0) else 0

-- PACKETS

-- what is written of what is done with a packet, after the ticks that are held back
abbrev pub deed_text : (held : ℕ) → Deed → List ℕ
deed_text held (Deed.Receives p) = ticks_line held ++ digits_line p.bytes
deed_text held d = []

abbrev pub deed_held : (held : ℕ) → Deed → ℕ
deed_held held (Deed.Receives p) = 0
deed_held held d = held

-- A record: the unit of the process, the ticks that are held back, what its writer has, which of
-- that isn't in its file yet, and its first fault.
pub record NodeRecordOf : Type 0 where
  pub unit : ℕ
  pub held : ℕ
  pub text : Option (List ℕ)
  pub behind : List ℕ
  pub fault : Option WatchFault

-- a stamp is followed
abbrev pub units_to : NodeRecordOf → Sent → ℕ
units_to s p = p.date - s.unit

-- A packet came: the process goes on to the unit of its stamp, if it isn't there, and receives it,
-- if it is timely. A stamp that is too far ahead isn't followed.
abbrev pub came_text : NodeRecordOf → Sent → List ℕ
came_text s p =
    if nat_le p.date (s.unit + 2 ^ 20)
    then advanced_text s.held (units_to s p) ++ deed_text (advanced_held s.held (units_to s p)) (deed_with (s.unit + units_to s p) p)
    else []

abbrev pub came_held : NodeRecordOf → Sent → ℕ
came_held s p =
    if nat_le p.date (s.unit + 2 ^ 20) then deed_held (advanced_held s.held (units_to s p)) (deed_with (s.unit + units_to s p) p) else s.held

abbrev pub came_unit : NodeRecordOf → Sent → ℕ
came_unit s p = if nat_le p.date (s.unit + 2 ^ 20) then s.unit + units_to s p else s.unit

-- RECORDING

-- the units up to one are recorded
pub record HasRecordedUnits (s : NodeRecordOf) (unit : ℕ) (t : NodeRecordOf) : Type 0 where
  pub text : Appends s.text t.text (advanced_text s.held (unit - s.unit))
  pub held : t.held ≡ advanced_held s.held (unit - s.unit)
  pub counted : t.unit ≡ s.unit + (unit - s.unit)

-- a packet is
pub record HasRecordedPacket (s : NodeRecordOf) (p : Sent) (t : NodeRecordOf) : Type 0 where
  pub text : Appends s.text t.text (came_text s p)
  pub held : t.held ≡ came_held s p
  pub counted : t.unit ≡ came_unit s p

-- A fault of a record: memory was refused, and nothing was written; or it can't be written.
abbrev pub IsRecordFault : NodeRecordOf → WatchFault → NodeRecordOf → Type 0
IsRecordFault s e t = ((e ≡ faults.Memory) × (t.text ≡ s.text)) ⊎ (e ≡ faults.Record)

-- They are, unless there is a fault. After the first nothing changes.
pub record RecordsUnits (s : NodeRecordOf) (unit : ℕ) (t : NodeRecordOf) : Type 0 where
  pub whole : t.fault ≡ None → s.fault ≡ None
  pub recorded : t.fault ≡ None → HasRecordedUnits s unit t
  pub fails : s.fault ≡ None → IfSome t.fault (λ e. IsRecordFault s e t)
  pub stopped : s.fault ≢ None → t ≡ s

pub record RecordsPacket (s : NodeRecordOf) (p : Sent) (t : NodeRecordOf) : Type 0 where
  pub whole : t.fault ≡ None → s.fault ≡ None
  pub recorded : t.fault ≡ None → HasRecordedPacket s p t
  pub fails : s.fault ≡ None → IfSome t.fault (λ e. IsRecordFault s e t)
  pub stopped : s.fault ≢ None → t ≡ s

-- The ticks that were held back are written, and all that was written is in the file.
pub record FilesRecord (s t : NodeRecordOf) : Type 0 where
  pub whole : s.fault ≡ None
  pub text : Appends s.text t.text (ticks_line s.held)
  pub filed : t.behind ≡ []

-- It ends so, or its result is a fault: its first one, if there was one before. Then nothing
-- changes.
pub record EndsRecord (s : NodeRecordOf) (result : Result (Prim.Unit {0}) WatchFault) (t : NodeRecordOf) : Type 0 where
  pub ok : OnOk result (FilesRecord s t)
  pub first : IfSome s.fault (λ e. result ≡ Err e)
  pub fails : s.fault ≡ None → IfErr result (λ e. IsRecordFault s e t)
  pub stopped : s.fault ≢ None → t ≡ s
