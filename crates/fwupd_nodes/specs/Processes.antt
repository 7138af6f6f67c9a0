-- A device or the agent of a configuration as a process of its own.
use Rattle.std.specs.Prelude.{ℕ, ◌≡◌, ◌≤◌, ◌⊎◌, ◌+◌, ◌-◌, ◌^◌, Bool, Err, IfSome, List, [], ◌∷◌, None, Ok, Option, Some, if◌then◌else◌, map, nat_le, option_map, true}
use Rattle.fw_json.specs.Alone.{agent_alone_value}
use Rattle.fw_json.specs.Values.{line_of}
use Rattle.fw_node.specs.Nodes.{DeviceNodeOf}
use Rattle.fw_package.specs.Package.{PackageText}
use Rattle.fw_package.specs.Reading.{package_of}
use Rattle.fw_process.specs.Processes.{AroundOf, Deed, ServesRounds, shows}
use Rattle.fw_script.specs.Configs.{ConfigOf, DeviceConfigOf, config_of}
use Rattle.fw_node.specs.Agents.{AgentOf}
use Rattle.fw_serve.specs.Agents.{ServedAgentOf, agent_report, agent_served, new_served_agent, served_agent_of}
use Rattle.fw_serve.specs.Keeping.{DoesKept, IsKept, KeepingAgentOf, keeping_unit}
use Rattle.fw_serve.specs.Processes.{AgentDoes, DeviceDoes, DeviceProcessOf, agent_after_missing, are_over}
use Rattle.fw_setup.specs.Nodes.{node_made}
use Rattle.fw_serve.specs.Serving.{device_report}
use Rattle.fw_setup.specs.Stocks.{StoresOf}
use Rattle.fw_steps.specs.Alone.{AgentCall}
use Rattle.fw_trace.specs.Records.{records_bytes}
use Rattle.fwupd_base.specs.declared.forms.Form.{Form}
use Rattle.fwupd_base.specs.declared.forms.Form.TheVariants as forms
use Rattle.fw_store.specs.Folders.{Files}
use Rattle.fw_store.specs.declared.kept_line.KeptLine.{KeptLine}
use Rattle.fwupd_nodes.specs.AgentStores.{AgentSetupOf, BeginsWithStore, keeps_lines, keeps_nothing}
use Rattle.fwupd_nodes.specs.Alone.{DeviceSetupFails, DeviceSetupOf, IsDeviceSetup}
use Rattle.fwupd_nodes.specs.Sessions.{AreDone, TellsUndone, undone_of}
use Rattle.fwupd_nodes.specs.Setups.{AreDevices, ArePacked, PackagesFail, Says, TextFails}
use Rattle.fwupd_traces.specs.Watches.{Ended}
use Rattle.fwupd_watch.specs.Apart.{IsApart, IsOverRead}
use Rattle.fwupd_watch.specs.Files.{FileOf}
use Rattle.fwupd_watch.specs.Inputs.{inputs_of}
use Rattle.fwupd_watch.specs.Outputs.{FailsToWriteOutput, OutputOf, WritesOutput}
use Rattle.fwupd_watch.specs.Processes.{fault_of_watch}
use Rattle.fwupd_watch.specs.Running.{ShowOf}
use Rattle.fwupd_watch.specs.declared.faults.JobFault.{JobFault}
use Rattle.fwupd_watch.specs.declared.faults.JobFault.TheVariants as faults
use Rattle.fwupd_base.specs.ImageFiles.{config_source}
use Rattle.fwupd_base.specs.declared.alone.DeviceAlone.{DeviceAlone}
use Rattle.fwupd_base.specs.declared.processes.AgentProcess.{AgentProcess}
use Rattle.fwupd_base.specs.declared.processes.DeviceProcess.{DeviceProcess}
use Rattle.fwupd_base.specs.declared.processes.Watching.{Watching}

-- the outputs of a process besides its report, as those of a run
abbrev pub process_shows : Watching → (log store : Option (List ℕ)) → ShowOf
process_shows watching log store = record {
  is_quiet = true;
  trace = option_map (λ p. p.now) watching.trace;
  trace_form = watching.trace_form;
  log = log;
  record_path = option_map (λ p. p.now) watching.record;
  store = store;
  history = None;
  form = forms.Text;
}

-- the unit in which a process ends that begins in one, if it ends after a number of units
abbrev pub end_of : (start : ℕ) → (ticks : Option ℕ) → ℕ
end_of start None = 2 ^ 32 - 1
end_of start (Some ticks) = if nat_le (start + ticks) (2 ^ 32 - 1) then start + ticks else 2 ^ 32 - 1

-- an observer ended with a result, after what it saw
abbrev pub HasEnded : {O : Type 0} → (ends : O → Ended → O → Type 0) → Ended → O → Type 0
HasEnded {O} ends result t = (s : O) × ends s result t

-- an observer that ended with a fault makes the process end with it
abbrev pub TellsEnd : Ended → JobFault → Type 0
TellsEnd (Ok u) told = ⊥
TellsEnd (Err fault) told = told ≡ fault_of_watch fault

-- A DEVICE

-- the same device by itself, without a report
abbrev pub device_alone : DeviceProcess → DeviceAlone
device_alone job = record { config = job.config; eid = job.eid; store = job.store; report = None; is_automatic = true; is_open = job.serving.is_open }

-- its outputs besides its report
abbrev pub device_shows : DeviceProcess → ShowOf
device_shows job = process_shows job.watching None (option_map (λ p. p.now) job.store)

-- A device's node is a process of its own: it begins with a restart, in the unit that the clock
-- shows, and serves rounds, for this number of units if there is one. `opened` is what the clock
-- showed before.
pub record ServesProcess (ticks : Option ℕ) (n : DeviceNodeOf) (last : DeviceProcessOf) : Type 0 where
  pub shown : ℕ
  pub first : DeviceProcessOf
  pub begins : DeviceDoes (record { unit = 0; device = record { node = n; history = [] } }) (Deed.Misses shown) first []
  pub opened : Option (List ℕ)
  pub joined : AroundOf
  pub clock : joined.shown ≡ shows opened (shown ∷ [])
  pub left : AroundOf
  pub serves : ServesRounds DeviceDoes (λ s. s.unit) first joined last left
  pub ends : end_of shown ticks ≤ last.unit

-- It is, and then its report is written.
pub record RunsNode (ticks : Option ℕ) (n : DeviceNodeOf) (before after : OutputOf) : Type 0 where
  pub last : DeviceProcessOf
  pub serves : ServesProcess ticks n last
  pub written : WritesOutput before after (device_report last.device)

-- It is that of a device of a configuration, with the images in its store, if it has one.
pub record RunsSetup (job : DeviceProcess) (s : DeviceSetupOf) (stores : (root : List ℕ) → StoresOf) (before after : OutputOf) : Type 0 where
  pub stocked : DeviceConfigOf
  pub images : AreDevices (option_map stores (option_map (λ p. p.now) job.store)) s.only (stocked ∷ [])
  pub runs : RunsNode job.serving.ticks (node_made s.unit s.agent stocked) before after

-- A device of the configuration in a file is a process of its own. What is written of it besides
-- its report overwrites no input and no other output.
pub record RunsDevice (job : DeviceProcess) (files : List ℕ → FileOf) (stores : (root : List ℕ) → StoresOf) (before after : OutputOf) : Type 0 where
  pub setup : DeviceSetupOf
  pub begins : IsDeviceSetup (device_alone job) files setup
  pub apart : IsApart files (device_shows job) (inputs_of (config_source job.config) [])
  pub runs : RunsSetup job setup stores before after

-- WHY IT FAILS

-- The report of a process isn't written as a whole: memory was refused, or writing failed. Or it
-- is, and what observed the process had a fault.
abbrev pub ReportFails : (report : List ℕ) → Ended → JobFault → (before after : OutputOf) → Type 0
ReportFails report watched told before after =
    ((told ≡ faults.Memory) × (after ≡ before))
    ⊎ (((told ≡ faults.Output) × FailsToWriteOutput before after report) ⊎ (TellsEnd watched told × WritesOutput before after report))

-- A device's node was a process, and writing its report failed, or what observed it did.
pub record NodeBreaks (ticks : Option ℕ) (n : DeviceNodeOf) (told : JobFault) (before after : OutputOf) : Type 0 where
  pub last : DeviceProcessOf
  pub serves : ServesProcess ticks n last
  pub watched : Ended
  pub fails : ReportFails (device_report last.device) watched told before after

-- It was, or nothing is written.
abbrev pub NodeStops : (ticks : Option ℕ) → DeviceNodeOf → JobFault → (before after : OutputOf) → Type 0
NodeStops ticks n told before after = (after ≡ before) ⊎ NodeBreaks ticks n told before after

-- The same of the device of a configuration, with the images in its store, if it has one.
pub record SetupBreaks (job : DeviceProcess) (s : DeviceSetupOf) (stores : (root : List ℕ) → StoresOf) (told : JobFault) (before after : OutputOf) : Type 0 where
  pub stocked : DeviceConfigOf
  pub images : AreDevices (option_map stores (option_map (λ p. p.now) job.store)) s.only (stocked ∷ [])
  pub breaks : NodeBreaks job.serving.ticks (node_made s.unit s.agent stocked) told before after

abbrev pub SetupStops : DeviceProcess → DeviceSetupOf → (stores : (root : List ℕ) → StoresOf) → JobFault → (before after : OutputOf) → Type 0
SetupStops job s stores told before after = (after ≡ before) ⊎ SetupBreaks job s stores told before after

-- An output would overwrite the configuration or another output, or is in a store.
pub record OverwritesDevice (job : DeviceProcess) (told : JobFault) (files : List ℕ → FileOf) : Type 0 where
  pub setup : DeviceSetupOf
  pub begins : IsDeviceSetup (device_alone job) files setup
  pub over : (told ≡ faults.Memory) ⊎ IsOverRead files (device_shows job) (inputs_of (config_source job.config) []) told

-- It is such a device, and its outputs overwrite nothing. It fails later: nothing is written, or
-- the device was a process.
pub record StopsDevice (job : DeviceProcess) (files : List ℕ → FileOf) (stores : (root : List ℕ) → StoresOf) (told : JobFault) (before after : OutputOf) : Type 0 where
  pub setup : DeviceSetupOf
  pub begins : IsDeviceSetup (device_alone job) files setup
  pub apart : IsApart files (device_shows job) (inputs_of (config_source job.config) [])
  pub stops : SetupStops job setup stores told before after

-- The first fault: of the configuration and its device, or of the outputs, and nothing is written;
-- or a later one.
abbrev pub DeviceProcessEnds : DeviceProcess → JobFault → (files : List ℕ → FileOf) → (stores : (root : List ℕ) → StoresOf) → (before after : OutputOf) → Type 0
DeviceProcessEnds job told files stores before after =
    ((DeviceSetupFails (device_alone job) files told ⊎ OverwritesDevice job told files) × (after ≡ before)) ⊎ StopsDevice job files stores told before after

-- THE AGENT

-- its outputs besides its report
abbrev pub agent_shows : AgentProcess → ShowOf
agent_shows job = process_shows job.watching (option_map (λ p. p.now) job.log) (option_map (λ p. p.now) job.store)

-- the agent after updates of devices are started, in order
abbrev pub agent_started : ServedAgentOf → (number : ℕ) → (eids : List ℕ) → ServedAgentOf
agent_started s number [] = s
agent_started s number (eid ∷ eids) = agent_started (agent_served s (AgentCall.Starts s.now eid number)) number eids

-- the report of the agent in a form
abbrev pub agent_report_in : Form → ServedAgentOf → List ℕ
agent_report_in forms.Text s = agent_report s
agent_report_in forms.Json s = line_of (agent_alone_value s.now s.agent s.counts s.answer s.history)

-- An agent is a process of its own: it begins with a restart, in the unit that the clock shows,
-- starts the update of each device, and serves rounds until its sessions are over, or for a number
-- of units if there is one. What it keeps over a restart is kept before the packets of a deed are
-- sent.
pub record ServesStarted {K : Type 0} (keeps : K → List KeptLine → Type 0) (job : AgentProcess) (eids : List ℕ) (new : ServedAgentOf) (last : KeepingAgentOf K) : Type 0 where
  pub shown : ℕ
  pub opened : Option (List ℕ)
  pub joined : AroundOf
  pub clock : joined.shown ≡ shows opened (shown ∷ [])
  pub left : AroundOf
  pub serves : ServesRounds AgentDoes (λ s. s.now) (agent_started (agent_after_missing new shown) job.number eids) joined last.agent left
  pub ends : (are_over last.agent.agent last.agent.counts ≡ true) ⊎ (end_of shown job.serving.ticks ≤ last.agent.now)
  pub first : KeepingAgentOf K
  pub begins : first.agent ≡ agent_started (agent_after_missing new shown) job.number eids
  pub is_kept : IsKept keeps first
  pub keeping : ServesRounds (DoesKept keeps) keeping_unit first joined last left

-- What it leaves: whether the files made at places are known, which these are, and the output.
pub record AgentLeftOf : Type 0 where
  pub is_known : Bool
  pub held : (path : List ℕ) → Option (List ℕ)
  pub output : OutputOf

-- At the end its report is written, and the records of its log, if they are requested.
pub record ReportsServed (job : AgentProcess) (s : ServedAgentOf) (before : OutputOf) (after : AgentLeftOf) : Type 0 where
  pub written : WritesOutput before after.output (agent_report_in job.form s)
  pub logged : after.is_known ≡ true → IfSome job.log (λ p. after.held p.now ≡ Some (records_bytes s.agent.log.records))

-- If the sessions are checked, each is Done.
pub record EndsServed (job : AgentProcess) (s : ServedAgentOf) (before : OutputOf) (after : AgentLeftOf) : Type 0 where
  pub reports : ReportsServed job s before after
  pub checked : job.is_checked ≡ true → AreDone s.agent (map (λ c. c.device) s.counts)

-- It is one, and ends so.
pub record RunsServed {K : Type 0} (keeps : K → List KeptLine → Type 0) (job : AgentProcess) (new : ServedAgentOf) (eids : List ℕ) (before : OutputOf) (after : AgentLeftOf) : Type 0 where
  pub last : KeepingAgentOf K
  pub serves : ServesStarted keeps job eids new last
  pub ends : EndsServed job last.agent before after

-- It begins with the node that goes on with what a folder keeps, and keeps what it keeps there.
pub record RunsKept (job : AgentProcess) (kept : Option Files) (setup : AgentSetupOf) (packages : List PackageText) (before : OutputOf) (after : AgentLeftOf) : Type 0 where
  pub node : AgentOf
  pub begins : IfSome kept (λ files. BeginsWithStore files setup node)
  pub runs : RunsServed keeps_lines job (served_agent_of node packages) setup.eids before after

-- It is a new agent, of which nothing is kept, or that of its folder of stores, if one is given.
abbrev RunsIf : AgentProcess → (kept : (root : List ℕ) → Option Files) → (root : Option (List ℕ)) → AgentSetupOf → List PackageText → OutputOf → AgentLeftOf → Type 0
RunsIf job kept None setup packages before after =
    RunsServed keeps_nothing job (new_served_agent setup.unit setup.endpoint setup.eids packages) setup.eids before after
RunsIf job kept (Some root) setup packages before after = RunsKept job (kept root) setup packages before after

abbrev pub RunsAgentSetup : AgentProcess → (kept : (root : List ℕ) → Option Files) → AgentSetupOf → List PackageText → OutputOf → AgentLeftOf → Type 0
RunsAgentSetup job kept setup packages before after = RunsIf job kept (option_map (λ p. p.now) job.store) setup packages before after

-- the setup of a configuration with packages in these bytes
abbrev pub agent_setup_of : ConfigOf → (contents : List (List ℕ)) → AgentSetupOf
agent_setup_of config contents = record { unit = config.unit; endpoint = config.agent; eids = map (λ d. d.endpoint.eid) config.devices; contents = contents }

-- It is that of a configuration, with the packages in these bytes.
pub record RunsPackages (job : AgentProcess) (kept : (root : List ℕ) → Option Files) (config : ConfigOf) (contents : List (List ℕ)) (before : OutputOf) (after : AgentLeftOf) : Type 0 where
  pub packages : List PackageText
  pub are : map (λ p. Ok p) packages ≡ map package_of contents
  pub runs : RunsAgentSetup job kept (agent_setup_of config contents) packages before after

-- The agent of the configuration in a file is a process of its own. What is written of it besides
-- its report overwrites no input and no other output.
pub record RunsAgent (job : AgentProcess) (files : List ℕ → FileOf) (kept : (root : List ℕ) → Option Files) (before : OutputOf) (after : AgentLeftOf) : Type 0 where
  pub config : ConfigOf
  pub says : Says config_of (files job.config.now) config
  pub apart : IsApart files (agent_shows job) (job.config.now ∷ config.packages)
  pub contents : List (List ℕ)
  pub packed : ArePacked files config.packages contents
  pub runs : RunsPackages job kept config contents before after

-- WHY IT FAILS

-- the sessions are checked, and this is the fault that names those that aren't Done
abbrev pub IsUndoneServed : AgentProcess → ServedAgentOf → JobFault → Type 0
IsUndoneServed job s told = (job.is_checked ≡ true) × TellsUndone (undone_of s.agent (map (λ c. c.device) s.counts)) told

-- The report isn't written as a whole: memory was refused, or the records of the log or the report
-- can't be written. Or it is, and a session isn't Done.
abbrev pub EndFails : AgentProcess → ServedAgentOf → JobFault → (before : OutputOf) → (after : AgentLeftOf) → Type 0
EndFails job s told before after =
    (((told ≡ faults.Memory) ⊎ (told ≡ faults.Log)) × (after.output ≡ before))
    ⊎ (((told ≡ faults.Output) × FailsToWriteOutput before after.output (agent_report_in job.form s)) ⊎ (IsUndoneServed job s told × ReportsServed job s before after))

-- Or nothing of that, and what observed the process had a fault.
abbrev pub ObservedEndFails : AgentProcess → ServedAgentOf → Ended → JobFault → (before : OutputOf) → (after : AgentLeftOf) → Type 0
ObservedEndFails job s watched told before after = EndFails job s told before after ⊎ (TellsEnd watched told × EndsServed job s before after)

-- An agent was a process, and failed so at its end.
pub record ServedBreaks {K : Type 0} (keeps : K → List KeptLine → Type 0) (job : AgentProcess) (new : ServedAgentOf) (eids : List ℕ) (told : JobFault) (before : OutputOf) (after : AgentLeftOf) : Type 0 where
  pub last : KeepingAgentOf K
  pub serves : ServesStarted keeps job eids new last
  pub watched : Ended
  pub fails : ObservedEndFails job last.agent watched told before after

-- It was, or nothing is written.
abbrev pub ServedStops : {K : Type 0} → (keeps : K → List KeptLine → Type 0) → AgentProcess → ServedAgentOf → (eids : List ℕ) → JobFault → (before : OutputOf) → (after : AgentLeftOf) → Type 0
ServedStops keeps job new eids told before after = (after.output ≡ before) ⊎ ServedBreaks keeps job new eids told before after

-- The same of one that begins with the node that goes on with what a folder keeps.
pub record KeptBreaks (job : AgentProcess) (kept : Option Files) (setup : AgentSetupOf) (packages : List PackageText) (told : JobFault) (before : OutputOf) (after : AgentLeftOf) : Type 0 where
  pub node : AgentOf
  pub begins : IfSome kept (λ files. BeginsWithStore files setup node)
  pub breaks : ServedBreaks keeps_lines job (served_agent_of node packages) setup.eids told before after

abbrev pub KeptStops : AgentProcess → (kept : Option Files) → AgentSetupOf → List PackageText → JobFault → (before : OutputOf) → (after : AgentLeftOf) → Type 0
KeptStops job kept setup packages told before after = (after.output ≡ before) ⊎ KeptBreaks job kept setup packages told before after

-- of a new agent, or of that of its folder of stores, if one is given
abbrev StopsIf : AgentProcess → (kept : (root : List ℕ) → Option Files) → (root : Option (List ℕ)) → AgentSetupOf → List PackageText → JobFault → OutputOf → AgentLeftOf → Type 0
StopsIf job kept None setup packages told before after =
    ServedStops keeps_nothing job (new_served_agent setup.unit setup.endpoint setup.eids packages) setup.eids told before after
StopsIf job kept (Some root) setup packages told before after = KeptStops job (kept root) setup packages told before after

abbrev pub AgentSetupStops : AgentProcess → (kept : (root : List ℕ) → Option Files) → AgentSetupOf → List PackageText → JobFault → (before : OutputOf) → (after : AgentLeftOf) → Type 0
AgentSetupStops job kept setup packages told before after = StopsIf job kept (option_map (λ p. p.now) job.store) setup packages told before after

-- of that of a configuration, with the packages in these bytes
pub record PackagesStop (job : AgentProcess) (kept : (root : List ℕ) → Option Files) (config : ConfigOf) (contents : List (List ℕ)) (told : JobFault) (before : OutputOf) (after : AgentLeftOf) : Type 0 where
  pub packages : List PackageText
  pub are : map (λ p. Ok p) packages ≡ map package_of contents
  pub stops : AgentSetupStops job kept (agent_setup_of config contents) packages told before after

abbrev pub ContentsStop : AgentProcess → (kept : (root : List ℕ) → Option Files) → ConfigOf → (contents : List (List ℕ)) → JobFault → (before : OutputOf) → (after : AgentLeftOf) → Type 0
ContentsStop job kept config contents told before after = (after.output ≡ before) ⊎ PackagesStop job kept config contents told before after

-- An output would overwrite the configuration, a package or another output, or is in a store.
pub record OverwritesAgent (job : AgentProcess) (told : JobFault) (files : List ℕ → FileOf) : Type 0 where
  pub config : ConfigOf
  pub says : Says config_of (files job.config.now) config
  pub over : IsOverRead files (agent_shows job) (job.config.now ∷ config.packages) told

-- A package can't be read, and the outputs overwrite nothing.
pub record LacksAgentPackages (job : AgentProcess) (told : JobFault) (files : List ℕ → FileOf) : Type 0 where
  pub config : ConfigOf
  pub says : Says config_of (files job.config.now) config
  pub apart : IsApart files (agent_shows job) (job.config.now ∷ config.packages)
  pub fail : PackagesFail files config.packages told

-- It is an agent with these packages, and its outputs overwrite nothing. It fails later: nothing is
-- written, or the agent was a process.
pub record StopsAgent (job : AgentProcess) (files : List ℕ → FileOf) (kept : (root : List ℕ) → Option Files) (told : JobFault) (before : OutputOf) (after : AgentLeftOf) : Type 0 where
  pub config : ConfigOf
  pub says : Says config_of (files job.config.now) config
  pub apart : IsApart files (agent_shows job) (job.config.now ∷ config.packages)
  pub contents : List (List ℕ)
  pub packed : ArePacked files config.packages contents
  pub stops : ContentsStop job kept config contents told before after

-- The first fault: of the configuration, of the outputs, or of a package, or memory was refused,
-- and nothing is written; or a later one.
abbrev pub AgentProcessEnds : AgentProcess → JobFault → (files : List ℕ → FileOf) → (kept : (root : List ℕ) → Option Files) → (before : OutputOf) → (after : AgentLeftOf) → Type 0
AgentProcessEnds job told files kept before after =
    (((told ≡ faults.Memory) ⊎ (TextFails config_of files job.config.now told ⊎ (OverwritesAgent job told files ⊎ LacksAgentPackages job told files)))
    × (after.output ≡ before))
    ⊎ StopsAgent job files kept told before after
