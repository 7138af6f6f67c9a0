-- The result of each job that arguments request.
use Rattle.std.specs.Prelude.{ℕ, ◌≡◌, ◌≢◌, ◌⊎◌, true, false, Err, List, None, Ok, Option, option_map}
use Rattle.clap.specs.Values.{kind_of}
use Rattle.clap.specs.Words.{App}
use Rattle.clap.specs.declared.error.Error.{Error}
use Rattle.clap.specs.declared.error.kind.ErrorKind.TheVariants as kinds
use Rattle.fwupd_watch.specs.Answering.{AnswerEnds, AnswersAll}
use Rattle.fwupd_nodes.specs.Alone.{AgentEnds, DeviceEnds, ServesAgent, ServesDevice, streams_found, streams_left}
use Rattle.fwupd_nodes.specs.Answered.{AnswersSerial, SerialEnds}
use Rattle.fwupd_jobs.specs.Built.{BuildEnds, Builds, PrintingEnds, PrintsPackage}
use Rattle.fwupd_jobs.specs.Checked.{CheckedEnds, ReportsChecked}
use Rattle.fwupd_nodes.specs.Decoded.{DecodeEnds, Decodes}
use Rattle.fwupd_jobs.specs.Failures.{status_of}
use Rattle.fwupd_jobs.specs.Inspected.{InspectEnds, Inspects, inspection_for}
use Rattle.fwupd_jobs.specs.Logs.{LogEnds, ReportsLog}
use Rattle.fwupd_watch.specs.Outputs.{OutputOf}
use Rattle.fwupd_jobs.specs.Planned.{PlanEnds, Plans}
use Rattle.fwupd_nodes.specs.Processes.{AgentProcessEnds, DeviceProcessEnds, RunsAgent, RunsDevice}
use Rattle.fwupd_jobs.specs.Replayed.{ReplayEnds, ReportsReplay}
use Rattle.fwupd_watch.specs.Running.{ObserverOf, show_of}
use Rattle.fwupd_watch.specs.Files.{any_file}
use Rattle.fwupd_nodes.specs.Hosts.{FoundOf, LeftOf}
use Rattle.fwupd_nodes.specs.Setups.{any_stores, source_of}
use Rattle.fwupd_jobs.specs.Soaked.{SoakEnds, SoaksClean}
use Rattle.fwupd_jobs.specs.Statuses.{PrintsStatus, StatusEnds}
use Rattle.fw_json.specs.Digests.{digested_in}
use Rattle.fwupd_base.specs.ImageFiles.{config_source}
use Rattle.fwupd_base.specs.declared.forms.Form.TheVariants as forms
use Rattle.fwupd_words.specs.CommandLine.{IsCommandLine}
use Rattle.fwupd_words.specs.Reading.{ReadsWords}
use Rattle.fwupd_words.specs.declared.asked.BuildOutput.{BuildOutput}
use Rattle.fwupd_words.specs.declared.asked.BuildOutput.TheVariants as targets
use Rattle.fwupd_words.specs.declared.asked.Job.{Job}
use Rattle.fwupd_words.specs.declared.asked.Job.TheVariants as jobs
use Rattle.fwupd_watch.specs.declared.faults.JobFault.{JobFault}
use Rattle.fwupd_watch.specs.declared.faults.JobFault.TheVariants as faults

-- A package is built: at its place, if it has one; and what its file holds then, as JSON with the
-- SHA-256 of each image, is written if that is asked for.
abbrev pub IsBuildDone : BuildOutput → (spec : List ℕ) → FoundOf → LeftOf → Type 0
IsBuildDone (targets.File file) spec h l = Builds h.files spec h.is_known (l.held file.now) × (l.output ≡ h.output)
IsBuildDone (targets.ToldFile file) spec h l =
    Builds h.files spec h.is_known (l.held file.now) × Inspects (h.files file.now) (digested_in forms.Json) h.output l.output
IsBuildDone targets.Standard spec h l = PrintsPackage h.files spec h.output l.output × (l.held ≡ h.held)

-- It isn't built, and nothing is at a place or written; or it is, and what its file holds isn't
-- written.
abbrev pub IsBuildUndone : BuildOutput → (spec : List ℕ) → JobFault → FoundOf → LeftOf → Type 0
IsBuildUndone (targets.File file) spec told h l = BuildEnds h.files spec told × ((l.held ≡ h.held) × (l.output ≡ h.output))
IsBuildUndone (targets.ToldFile file) spec told h l =
    (BuildEnds h.files spec told × ((l.held ≡ h.held) × (l.output ≡ h.output)))
    ⊎ (Builds h.files spec h.is_known (l.held file.now) × InspectEnds h.files file.now (digested_in forms.Json) told h.output l.output)
IsBuildUndone targets.Standard spec told h l = PrintingEnds h.files spec told h.output l.output × (l.held ≡ h.held)

-- A job is done: its output is written.
abbrev pub IsDone : Job → FoundOf → LeftOf → Type 0
IsDone (jobs.Answer endpoint) h l = AnswersAll endpoint h.input l.input h.output l.output
IsDone (jobs.AnswerSerial endpoint) h l = AnswersSerial endpoint (streams_found h) (streams_left l)
IsDone (jobs.Inspect path form digested) h l = Inspects (h.files path.now) (inspection_for digested form) h.output l.output
IsDone (jobs.Replay r) h l =
    ReportsReplay h.files (source_of h.stores (option_map (λ p. p.now) r.show.store) (config_source r.config)) r.schedule.now (show_of r.show) l.watched h.output l.output
IsDone (jobs.Run u) h l =
    ReportsChecked h.files (source_of h.stores (option_map (λ p. p.now) u.show.store) (config_source u.config)) u.order (show_of u.show) l.watched h.output l.output
IsDone (jobs.Build spec output) h l = IsBuildDone output spec.now h l
IsDone (jobs.Sel path form) h l = ReportsLog (h.files path.now) form h.output l.output
IsDone (jobs.Soak s) h l = SoaksClean h.files (config_source s.config) s.order s.form (option_map (λ p. p.now) s.record) h.output l.output
IsDone (jobs.Device d) h l = ServesDevice d h l
IsDone (jobs.Agent a) h l = ServesAgent a h l
IsDone (jobs.DeviceProcess d) h l = RunsDevice d h.files h.stores h.output l.output
IsDone (jobs.AgentProcess a) h l = RunsAgent a h.files h.agent_store h.output (record { is_known = h.is_known; held = l.held; output = l.output })
IsDone (jobs.Decode file unit form) h l = Decodes h.files (option_map (λ p. p.now) file) unit form h.input l.input h.output l.output
IsDone (jobs.Plan p) h l = Plans h.files (source_of h.stores (option_map (λ q. q.now) p.store) (config_source p.config)) p.number p.form h.output l.output
IsDone (jobs.Status s) h l = PrintsStatus h.files (source_of h.stores (option_map (λ q. q.now) s.store) (config_source s.config)) s.form h.output l.output

-- The result of a job that isn't done.
abbrev pub JobEnds : Job → JobFault → FoundOf → LeftOf → Type 0
JobEnds (jobs.Answer endpoint) told h l = AnswerEnds endpoint h.input l.input told h.output l.output
JobEnds (jobs.AnswerSerial endpoint) told h l = SerialEnds endpoint told (streams_found h) (streams_left l)
JobEnds (jobs.Inspect path form digested) told h l = InspectEnds h.files path.now (inspection_for digested form) told h.output l.output
JobEnds (jobs.Replay r) told h l =
    ReplayEnds h.files (source_of h.stores (option_map (λ p. p.now) r.show.store) (config_source r.config)) r.schedule.now (show_of r.show) h.refuses told l.watched h.output l.output
JobEnds (jobs.Run u) told h l =
    CheckedEnds h.files (source_of h.stores (option_map (λ p. p.now) u.show.store) (config_source u.config)) u.order (show_of u.show) h.refuses (h.lacks u.folder.now) told l.watched h.output l.output
JobEnds (jobs.Build spec output) told h l = IsBuildUndone output spec.now told h l
JobEnds (jobs.Sel path form) told h l = LogEnds h.files path.now form told h.output l.output
JobEnds (jobs.Soak s) told h l =
    SoakEnds h.files (config_source s.config) s.order s.form (option_map (λ p. p.now) s.record) told h.is_known l.held h.output l.output × (told ≢ faults.Violation → l.held ≡ h.held)
JobEnds (jobs.Device d) told h l = DeviceEnds d told h l
JobEnds (jobs.Agent a) told h l = AgentEnds a told h l
JobEnds (jobs.DeviceProcess d) told h l = DeviceProcessEnds d told h.files h.stores h.output l.output
JobEnds (jobs.AgentProcess a) told h l =
    AgentProcessEnds a told h.files h.agent_store h.output (record { is_known = h.is_known; held = l.held; output = l.output })
JobEnds (jobs.Decode file unit form) told h l = DecodeEnds h.files (option_map (λ p. p.now) file) unit form h.input l.input told h.output l.output
JobEnds (jobs.Plan p) told h l =
    PlanEnds h.files (source_of h.stores (option_map (λ q. q.now) p.store) (config_source p.config)) p.number p.form told h.output l.output
JobEnds (jobs.Status s) told h l =
    StatusEnds h.files (source_of h.stores (option_map (λ q. q.now) s.store) (config_source s.config)) s.form told h.output l.output

-- A job isn't done. The exit status is that of its fault, for which this holds.
pub record IsUndone (status : ℕ) (job : Job) (found : FoundOf) (left : LeftOf) : Type 0 where
  pub told : JobFault
  pub status_is : status ≡ status_of told
  pub ends : JobEnds job told found left

-- The exit status is 0 if the job is done.
abbrev pub StatusSays : (status : ℕ) → Job → FoundOf → LeftOf → Type 0
StatusSays status job found left = ((status ≡ 0) × IsDone job found left) ⊎ IsUndone status job found left

-- what is found on the system, of whose files, stores and links nothing is known
abbrev pub found_on_system : (input : Option (List ℕ)) → OutputOf → FoundOf
found_on_system input output =
    record {
      files = λ path. any_file;
      stores = λ root. any_stores;
      agent_store = λ root. None;
      lacks = λ folder device. true;
      refuses = λ trace. true;
      input = input;
      is_known = false;
      held = λ path. None;
      output = output;
    }

-- what is left there
abbrev pub left_on_system : (input : Option (List ℕ)) → ObserverOf → OutputOf → LeftOf
left_on_system input watched output = record { input = input; watched = watched; held = λ path. None; output = output }

-- This holds for a job on the system, with this output.
pub record SystemSays (status : ℕ) (job : Job) (before now : OutputOf) : Type 0 where
  pub found_input : Option (List ℕ)
  pub left_input : Option (List ℕ)
  pub watched : ObserverOf
  pub says : StatusSays status job (found_on_system found_input before) (left_on_system left_input watched now)

-- The arguments give a job, for which this holds on the system.
pub record PerformsJob (words : List (List ℕ)) (status : ℕ) : Type 0 where
  pub line : App
  pub is : IsCommandLine line
  pub job : Job
  pub reads : ReadsWords line words (Ok job)
  pub before : OutputOf
  pub now : OutputOf
  pub says : SystemSays status job before now

-- The arguments give no job: memory was refused, help or the version is asked for, or they have a
-- fault.
pub record LacksJob (words : List (List ℕ)) (status : ℕ) : Type 0 where
  pub line : App
  pub is : IsCommandLine line
  pub error : Error
  pub reads : ReadsWords line words (Err error)
  pub memory : kind_of error ≡ kinds.OutOfMemory → status ≡ 1
  pub shown : (kind_of error ≡ kinds.DisplayHelp) ⊎ (kind_of error ≡ kinds.DisplayVersion) → (status ≡ 0) ⊎ (status ≡ 1)
  pub mistake : kind_of error ≢ kinds.OutOfMemory → kind_of error ≢ kinds.DisplayHelp → kind_of error ≢ kinds.DisplayVersion → status ≡ 2

-- The arguments give a job, and memory for its output was refused.
pub record LacksOutput (words : List (List ℕ)) (status : ℕ) : Type 0 where
  pub line : App
  pub is : IsCommandLine line
  pub job : Job
  pub reads : ReadsWords line words (Ok job)
  pub refused : status ≡ 1

-- the exit status of the program with these arguments
abbrev pub Performs : (words : List (List ℕ)) (status : ℕ) → Type 0
Performs words status = PerformsJob words status ⊎ (LacksJob words status ⊎ LacksOutput words status)
