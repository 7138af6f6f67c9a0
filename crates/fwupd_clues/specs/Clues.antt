-- The clues to why a job failed.
use Rattle.std.specs.Prelude.{ℕ, List, Option, None, Some, option_map, string_bytes}
use Rattle.fwupd_words.specs.declared.asked.BuildOutput.{BuildOutput}
use Rattle.fwupd_words.specs.declared.asked.BuildOutput.TheVariants as targets
use Rattle.fwupd_words.specs.declared.asked.Job.{Job}
use Rattle.fwupd_words.specs.declared.asked.Job.TheVariants as jobs
use Rattle.fwupd_base.specs.declared.shows.Show.{Show}
use Rattle.fwupd_clues.specs.declared.clues.Clue.{Clue}
use Rattle.fwupd_clues.specs.declared.clues.Clue.TheVariants as clues
use Rattle.fw_script.specs.declared.faults.ScriptFault.{ScriptFault}
use Rattle.fw_store.specs.declared.faults.OpenFault.{OpenFault}
use Rattle.fwupd_watch.specs.declared.faults.JobFault.{JobFault}
use Rattle.fwupd_watch.specs.declared.faults.JobFault.TheVariants as faults

-- A clue, by the paths that it names.
pub data ClueOf : Type 0 where
  Unread : (path : List ℕ) → ClueOf
  NotAPackage : (path : List ℕ) → ClueOf
  NoPackage : (config : List ℕ) → ClueOf
  InText : (path : List ℕ) → ScriptFault → ClueOf
  OfStep : (schedule : List ℕ) → (number : ℕ) → ClueOf
  Unwritten : (path : List ℕ) → ClueOf
  OfHistory : (folder : List ℕ) → ClueOf
  OfStore : (root : List ℕ) → (device : ℕ) → OpenFault → ClueOf
  OfAgentStore : (root : List ℕ) → OpenFault → ClueOf

abbrev pub clue_seen : Clue → ClueOf
clue_seen (clues.Unread path) = ClueOf.Unread path.now
clue_seen (clues.Other path) = ClueOf.NotAPackage path.now
clue_seen (clues.Package config) = ClueOf.NoPackage config.now
clue_seen (clues.Line path fault) = ClueOf.InText path.now fault
clue_seen (clues.Step schedule number) = ClueOf.OfStep schedule.now number
clue_seen (clues.Unwritten path) = ClueOf.Unwritten path.now
clue_seen (clues.History folder) = ClueOf.OfHistory folder.now
clue_seen (clues.Store root device why) = ClueOf.OfStore root.now device why
clue_seen (clues.AgentStore root why) = ClueOf.OfAgentStore root.now why

-- the output that can't be written
abbrev pub clue_to_shown : Show → JobFault → Option ClueOf
clue_to_shown show faults.Trace = option_map (λ path. ClueOf.Unwritten path.now) show.trace
clue_to_shown show faults.Log = option_map (λ path. ClueOf.Unwritten path.now) show.log
clue_to_shown show faults.Record = option_map (λ path. ClueOf.Unwritten path.now) show.record
clue_to_shown show faults.History = option_map (λ folder. ClueOf.OfHistory folder.now) show.history
clue_to_shown show fault = None

-- the store that can't be opened: that of a device, or that of the agent's process
abbrev pub clue_to_store : Job → (device : ℕ) → OpenFault → Option ClueOf
clue_to_store (jobs.Replay r) device why = option_map (λ root. ClueOf.OfStore root.now device why) r.show.store
clue_to_store (jobs.Run u) device why = option_map (λ root. ClueOf.OfStore root.now device why) u.show.store
clue_to_store (jobs.Plan p) device why = option_map (λ root. ClueOf.OfStore root.now device why) p.store
clue_to_store (jobs.Status s) device why = option_map (λ root. ClueOf.OfStore root.now device why) s.store
clue_to_store (jobs.Device d) device why = option_map (λ root. ClueOf.OfStore root.now device why) d.store
clue_to_store (jobs.DeviceProcess d) device why = option_map (λ root. ClueOf.OfStore root.now device why) d.store
clue_to_store (jobs.AgentProcess a) device why = option_map (λ root. ClueOf.OfAgentStore root.now why) a.store
clue_to_store job device why = None

-- a job that reads a package, or those of a configuration
abbrev pub clue_to_package : Job → Option ClueOf
clue_to_package (jobs.Inspect path form digested) = Some (ClueOf.NotAPackage path.now)
clue_to_package (jobs.Replay r) = Some (ClueOf.NoPackage r.config.path.now)
clue_to_package (jobs.Run u) = Some (ClueOf.NoPackage u.config.path.now)
clue_to_package (jobs.Soak s) = Some (ClueOf.NoPackage s.config.path.now)
clue_to_package (jobs.Plan p) = Some (ClueOf.NoPackage p.config.path.now)
clue_to_package job = None

abbrev pub clue_to_step : Job → (number : ℕ) → Option ClueOf
clue_to_step (jobs.Replay r) number = Some (ClueOf.OfStep r.schedule.now number)
clue_to_step job number = None

-- the file of a package that can't be written
abbrev pub clue_to_package_file : BuildOutput → Option ClueOf
clue_to_package_file (targets.File path) = Some (ClueOf.Unwritten path.now)
clue_to_package_file (targets.ToldFile path) = Some (ClueOf.Unwritten path.now)
clue_to_package_file targets.Standard = None

-- the file that a job makes and can't write
abbrev pub clue_to_output : Job → JobFault → Option ClueOf
clue_to_output (jobs.Soak s) faults.Record = option_map (λ p. ClueOf.Unwritten p.now) s.record
clue_to_output (jobs.Build spec output) faults.Output = clue_to_package_file output
clue_to_output (jobs.Replay r) fault = clue_to_shown r.show fault
clue_to_output (jobs.Run u) fault = clue_to_shown u.show fault
clue_to_output job fault = None

-- the clue to why a job ended with a fault
abbrev pub clue_of : Job → JobFault → Option ClueOf
clue_of job (faults.Unreadable path) = Some (ClueOf.Unread (string_bytes path))
clue_of job (faults.Text path fault) = Some (ClueOf.InText (string_bytes path) fault)
clue_of job (faults.Store device why) = clue_to_store job device why
clue_of job (faults.Package fault) = clue_to_package job
clue_of job (faults.Step number fault) = clue_to_step job number
clue_of job fault = clue_to_output job fault
