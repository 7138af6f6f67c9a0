-- The worlds of a run over links, and its observer.
use Rattle.std.specs.Prelude.{ℕ, ◌≡◌, ◌≢◌, ◌≤◌, ◌+◌, ◌-◌, ◌^◌, ◌++◌, ◌⊎◌, Bool, false, true, if◌then◌else◌, List, [], Option, None, Some, IfSome, IsSomeAnd, is_some, length, map, option_map, slice_get, take}
use Rattle.fw_edge.specs.Drives.{AreDriven, all_over, ticks_in}
use Rattle.fw_edge.specs.Ledgers.{OneFailed}
use Rattle.fw_edge.specs.declared.driving.EdgeFault.{EdgeFault}
use Rattle.fw_edge.specs.declared.driving.EdgeFault.TheVariants as edges
use Rattle.fwupd_base.specs.declared.forms.Form.{Form}
use Rattle.fw_steps.specs.Steps.{Run, may_step}
use Rattle.fw_steps.specs.Worlds.{SiteOf, WorldOf}
use Rattle.fw_steps.specs.declared.step.StepFault.{StepFault}
use Rattle.fw_steps.specs.declared.step.StepFault.TheVariants as stops
use Rattle.fw_steps.specs.declared.step.Step.{Step}
use Rattle.fw_steps.specs.declared.step.Step.TheVariants as steps
use Rattle.fwupd_watch.specs.Histories.{HistoryOf}
use Rattle.fwupd_watch.specs.Recordings.{RecordingOf}
use Rattle.fwupd_base.specs.declared.shows.Show.{Show}
use Rattle.fwupd_base.specs.declared.forms.TraceForm.{TraceForm}
use Rattle.fwupd_watch.specs.declared.faults.JobFault.{JobFault}
use Rattle.fwupd_watch.specs.declared.faults.JobFault.TheVariants as faults
use Rattle.fwupd_watch.specs.declared.running.ObserverFault.{ObserverFault}
use Rattle.fwupd_watch.specs.declared.running.ObserverFault.TheVariants as watches

-- the starts of the updates of all devices with package `number`, in configured order
abbrev pub starts_of : (numbers : ℕ → ℕ) → List SiteOf → List Step
starts_of numbers sites = map (λ x. steps.Start x.node.endpoint.eid (numbers x.node.endpoint.eid)) sites

-- Each update is started.
abbrev pub StartsUpdates : (numbers : ℕ → ℕ) → WorldOf → WorldOf → Type 0
StartsUpdates numbers w v = Run w (starts_of numbers w.sites) v

-- All updates are started, and then the run takes steps with `ticks` ticks.
pub record UpdatesDevices (numbers : ℕ → ℕ) (w v : WorldOf) (ticks : ℕ) : Type 0 where
  pub steps : List Step
  pub run : Run w (starts_of numbers w.sites ++ steps) v
  pub driven : AreDriven steps
  pub ticks_are : ticks_in steps ≡ ticks

-- so, with some number of ticks
abbrev pub HasStarted : (numbers : ℕ → ℕ) (w v : WorldOf) → Type 0
HasStarted numbers w v = (ticks : ℕ) × UpdatesDevices numbers w v ticks

-- Each session is Done or Failed, or exactly 80,000 ticks have passed.
pub record UpdateOk (numbers : ℕ → ℕ) (w v : WorldOf) : Type 0 where
  pub ticks : ℕ
  pub updates : UpdatesDevices numbers w v ticks
  pub within : ticks ≤ 80000
  pub ended : (all_over v ≡ true) ⊎ (ticks ≡ 80000)

-- The updates of the first devices are started, and once all are, the run takes steps.
pub record RunsSteps (numbers : ℕ → ℕ) (w v : WorldOf) : Type 0 where
  pub started : ℕ
  pub steps : List Step
  pub run : Run w (starts_of numbers (take started w.sites) ++ steps) v
  pub driven : AreDriven steps
  pub all : (steps ≡ []) ⊎ (started ≡ length w.sites)

-- As `RunsSteps`; the observer saw one turn per tick, and at most one more, whose tick was refused.
pub record RunsStepsSeen (numbers : ℕ → ℕ) (w v : WorldOf) (seen : ℕ) : Type 0 where
  pub lead : RunsSteps numbers w v
  pub each : ticks_in lead.steps ≤ seen
  pub few : seen ≤ ticks_in lead.steps + 1

-- a fault that stops a run, after which its world is reported; lack of memory is reported alone
abbrev pub IsBrokenRun : JobFault → Type 0
IsBrokenRun (faults.Edge edges.Frame) = Prim.Unit {0}
IsBrokenRun (faults.Edge edges.Step) = Prim.Unit {0}
IsBrokenRun faults.Trace = Prim.Unit {0}
IsBrokenRun faults.Log = Prim.Unit {0}
IsBrokenRun faults.Record = Prim.Unit {0}
IsBrokenRun faults.History = Prim.Unit {0}
IsBrokenRun fault = ⊥

-- the fault of a run that stops within a turn
abbrev pub job_fault_of : EdgeFault → JobFault
job_fault_of edges.Memory = faults.Memory
job_fault_of fault = faults.Edge fault

-- and the fault of a run whose observer failed
abbrev pub job_fault_of_observer : ObserverFault → JobFault
job_fault_of_observer watches.Unwritten = faults.Trace
job_fault_of_observer watches.Unlogged = faults.Log
job_fault_of_observer watches.Unrecorded = faults.Record
job_fault_of_observer watches.Unkept = faults.History
job_fault_of_observer watches.Memory = faults.Memory

-- the observer's fault of a run's fault, if only an observer can have it; lack of memory isn't one
abbrev pub observer_fault_of : JobFault → Option ObserverFault
observer_fault_of faults.Trace = Some watches.Unwritten
observer_fault_of faults.Log = Some watches.Unlogged
observer_fault_of faults.Record = Some watches.Unrecorded
observer_fault_of faults.History = Some watches.Unkept
observer_fault_of fault = None

-- If the fault is that an output can't be written, the observer has that fault.
abbrev pub HasObserverFault : JobFault → Option ObserverFault → Type 0
HasObserverFault told fault = IfSome (observer_fault_of told) (λ f. fault ≡ Some f)

-- The fault is that of a link exactly if a link failed.
abbrev pub ReportsLinkFailures : JobFault → List ℕ → List ℕ → Type 0
ReportsLinkFailures told os ns = (told ≡ faults.Edge edges.Frame → OneFailed os ns) × (told ≢ faults.Edge edges.Frame → ns ≡ os)

-- The updates of the devices before one are started, and the start of its update with package
-- `number` is not allowed.
pub record IsRefusedStart (numbers : ℕ → ℕ) (w v : WorldOf) : Type 0 where
  pub place : ℕ
  pub site : SiteOf
  pub at : slice_get w.sites place ≡ Some site
  pub begun : Run w (starts_of numbers (take place w.sites)) v
  pub fault : StepFault
  pub refused : may_step v (steps.Start site.node.endpoint.eid (numbers site.node.endpoint.eid)) ≡ Some fault

-- The updates of the devices before one are started, and the start of its update isn't refused,
-- except for lack of memory.
pub record MayStart (numbers : ℕ → ℕ) (w v : WorldOf) : Type 0 where
  pub place : ℕ
  pub site : SiteOf
  pub at : slice_get w.sites place ≡ Some site
  pub begun : Run w (starts_of numbers (take place w.sites)) v
  pub allowed : (fault : StepFault) → fault ≢ stops.Memory → may_step v (steps.Start site.node.endpoint.eid (numbers site.node.endpoint.eid)) ≢ Some fault

-- such a fault, or lack of memory
abbrev pub MayEnd : JobFault → Type 0
MayEnd fault = (fault ≡ faults.Memory) ⊎ IsBrokenRun fault

-- The requested outputs of a run: whether progress is suppressed; the path and the format of the
-- trace; the paths of the log's records and of the steps; the folder of stores; and the folder of
-- stores whose history is written.
pub record ShowOf : Type 0 where
  pub is_quiet : Bool
  pub trace : Option (List ℕ)
  pub trace_form : TraceForm
  pub log : Option (List ℕ)
  pub record_path : Option (List ℕ)
  pub store : Option (List ℕ)
  pub history : Option (List ℕ)
  pub form : Form

-- the outputs that the arguments request
abbrev pub show_of : Show → ShowOf
show_of s = record {
  is_quiet = s.is_quiet;
  trace = option_map (λ path. path.now) s.trace;
  trace_form = s.trace_form;
  log = option_map (λ path. path.now) s.log;
  record_path = option_map (λ path. path.now) s.record;
  store = option_map (λ path. path.now) s.store;
  history = option_map (λ path. path.now) s.history;
  form = s.form;
}

-- The outputs of an observer: no progress if that is suppressed; and the trace with its format, the
-- log's records, the steps, and the history, if they are requested.
pub record ShownOf : Type 0 where
  pub is_quiet : Bool
  pub traced : Option TraceForm
  pub is_logged : Bool
  pub is_recorded : Bool
  pub has_history : Bool

-- An observer's fault is that of one of its outputs, or lack of memory.
abbrev pub IsOfShown : ShownOf → ObserverFault → Type 0
IsOfShown shows watches.Unwritten = is_some shows.traced ≡ true
IsOfShown shows watches.Unlogged = shows.is_logged ≡ true
IsOfShown shows watches.Unrecorded = shows.is_recorded ≡ true
IsOfShown shows watches.Unkept = shows.has_history ≡ true
IsOfShown shows watches.Memory = Prim.Unit {0}

-- the outputs for which there are a progress, a trace, a log, a recording and a history
abbrev pub shown_by : (has_progress is_quiet : Bool) → (traced : Option TraceForm) → (is_logged is_recorded has_history : Bool) → ShownOf
shown_by has_progress is_quiet traced is_logged is_recorded has_history =
    record { is_quiet = if has_progress then false else is_quiet; traced = traced; is_logged = is_logged; is_recorded = is_recorded; has_history = has_history }

-- the outputs of an observer for this request
abbrev pub shown_of : ShowOf → ShownOf
shown_of show = record {
  is_quiet = show.is_quiet;
  traced = option_map (λ _. show.trace_form) show.trace;
  is_logged = is_some show.log;
  is_recorded = is_some show.record_path;
  has_history = is_some show.history;
}

-- An observer: its first fault, its outputs, whether it has ended, the number of observed turns,
-- the device whose link failed, the recorded steps, and the written history, as far as there are
-- any.
pub record ObserverOf : Type 0 where
  pub fault : Option ObserverFault
  pub shows : ShownOf
  pub has_ended : Bool
  pub seen : ℕ
  pub lost : Option ℕ
  pub recording : Option RecordingOf
  pub history : Option HistoryOf

-- The output of this fault may be refused.
abbrev pub MayRefuse : (refuses : List ℕ → Bool) → ShowOf → JobFault → Type 0
MayRefuse refuses show faults.Trace = IsSomeAnd show.trace (λ path. refuses path ≡ true)
MayRefuse refuses show faults.Log = IsSomeAnd show.log (λ path. refuses path ≡ true)
MayRefuse refuses show faults.Record = IsSomeAnd show.record_path (λ path. refuses path ≡ true)
MayRefuse refuses show faults.History = IsSomeAnd show.history (λ path. refuses path ≡ true)
MayRefuse refuses show told = ⊥

-- The cause of a fault that stops a run: if it is `Step`, a start is refused or the clock is at its
-- last tick; if it is that of an output, the observer has that fault, and all updates are started.
-- The observer has ended.
pub record IsCaused (numbers : ℕ → ℕ) (w v : WorldOf) (told : JobFault) (watched : ObserverOf) : Type 0 where
  pub broken : IsBrokenRun told
  pub stopped : told ≡ faults.Edge edges.Step → IsRefusedStart numbers w v ⊎ (v.now ≡ 2 ^ 32 - 1)
  pub unwritten : HasObserverFault told watched.fault
  pub begun : is_some (observer_fault_of told) ≡ true → HasStarted numbers w v
  pub let_end : watched.has_ended ≡ true
