-- What observes a process: its faults, and its progress.
use Rattle.std.specs.Prelude.{ℕ, ◌≡◌, ◌++◌, List, [], Ok, Option, None, Some, codes}
use Rattle.fw_text.specs.Printing.{word_and_number}
use Rattle.fwupd_traces.specs.Watches.{Ended}
use Rattle.fwupd_traces.specs.declared.process_watch.WatchFault.{WatchFault}
use Rattle.fwupd_traces.specs.declared.process_watch.WatchFault.TheVariants as causes
use Rattle.fwupd_watch.specs.Loads.{load_text}
use Rattle.fwupd_watch.specs.declared.faults.JobFault.{JobFault}
use Rattle.fwupd_watch.specs.declared.faults.JobFault.TheVariants as faults
use Rattle.fwupd_watch.specs.declared.loads.Load.{Load}
use Rattle.fwupd_watch.specs.declared.packet_progress.PacketProgress.{PacketProgress}

abbrev pub fault_of_watch : WatchFault → JobFault
fault_of_watch causes.Trace = faults.Trace
fault_of_watch causes.Record = faults.Record
fault_of_watch causes.Memory = faults.Memory

-- a carriage return; then, for the agent, the number of devices that are done, of all
abbrev pub done_text : Option (ℕ × ℕ) → List ℕ
done_text None = codes "\r"
done_text (Some n) = word_and_number (codes "\r") n.0 ++ word_and_number (codes "/") n.1 ++ codes " done, "

-- The line of a process: that of a device which loads an image, and before it, for the agent, how
-- many of its devices are done. It overwrites the line before it.
abbrev pub load_line : Option (ℕ × ℕ) → Load → List ℕ
load_line done load = done_text done ++ load_text load ++ codes "        "

-- the line of the image that was requested last, if one was requested since the last update
abbrev pub latest_line : Option (ℕ × ℕ) → (latest : Option Load) → List ℕ
latest_line numbers None = []
latest_line numbers (Some load) = load_line numbers load

-- the end of a display: it has no fault, and nothing is shown any more
abbrev pub EndsProgress : PacketProgress → Ended → PacketProgress → Type 0
EndsProgress s result t = (result ≡ Ok tt) × (t.refresh.shown ≡ None)
