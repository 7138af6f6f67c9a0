-- A device or the agent of a configuration by itself: the node before its first packet, what its
-- lines print, and what is left at the end of the input.
use Rattle.std.specs.Prelude.{ℕ, ◌≡◌, ◌⊎◌, ◌==◌, Bool, true, false, List, [], ◌∷◌, IfSome, IsSome, IsSomeAnd, None, Ok, Option, Some, map, option_map, slice_get}
use Rattle.std.specs.List.{AllByRecursion, position}
use Rattle.fw_node.specs.Nodes.{DeviceNodeOf}
use Rattle.fw_package.specs.Package.{PackageText}
use Rattle.fw_package.specs.Reading.{package_of}
use Rattle.fw_script.specs.Configs.{ConfigOf, DeviceConfigOf, config_of}
use Rattle.fw_script.specs.Seen.{device_of}
use Rattle.fw_serve.specs.Agents.{AgentFilterOf, ServedAgentOf, ServesAgentLine, agent_report, new_served_agent, turn_ended}
use Rattle.fw_serve.specs.Serving.{AreDue, DeviceFilterOf, ServedDeviceOf, ServesDeviceLine, TakesSuch, device_report, due_verdict}
use Rattle.fw_serve.specs.declared.fronts.Front.{Front}
use Rattle.mctp_ctl.specs.declared.answers.Endpoint.{Endpoint}
use Rattle.fw_setup.specs.Nodes.{node_made}
use Rattle.fw_trace.specs.Records.{records_bytes}
use Rattle.fwupd_nodes.specs.declared.alone.DeviceSetup.{DeviceSetup}
use Rattle.mctp_wire.specs.declared.unit.Unit.{«Unit»}
use Rattle.fwupd_nodes.specs.Hosts.{FoundOf, LeftOf}
use Rattle.fwupd_nodes.specs.Setups.{AreDevices, ArePackages, ConfigFails, IsConfigured, PackagesFail, Says, SourceOf, TellsUnopened, TextFails, source_of}
use Rattle.fwupd_base.specs.ImageFiles.{config_source}
use Rattle.fwupd_base.specs.declared.stream.AnswerFault.{AnswerFault}
use Rattle.fwupd_watch.specs.Files.{FileOf, IsApartFrom, IsOverOne}
use Rattle.fwupd_watch.specs.Inputs.{inputs_of}
use Rattle.fwupd_watch.specs.Serving.{ServesAll, ServingEnds, StreamsOf}
use Rattle.fwupd_watch.specs.declared.faults.JobFault.{JobFault}
use Rattle.fwupd_watch.specs.declared.faults.JobFault.TheVariants as faults
use Rattle.fwupd_base.specs.declared.alone.AgentAlone.{AgentAlone}
use Rattle.fwupd_base.specs.declared.alone.DeviceAlone.{DeviceAlone}

-- the input and the output that a job finds, and those that it leaves
abbrev pub streams_found : FoundOf → StreamsOf
streams_found h = record { input = h.input; output = h.output }

abbrev pub streams_left : LeftOf → StreamsOf
streams_left l = record { input = l.input; output = l.output }

-- nothing is read or written
abbrev pub IsUnserved : FoundOf → LeftOf → Type 0
IsUnserved h l = (l.input ≡ h.input) × (l.output ≡ h.output) × (l.held ≡ h.held)

-- Reading or writing failed, or memory was refused, before the end of the input. No file is made.
pub record StopsServing {S : Type 0} (serves : S → List ℕ → S → List ℕ → Type 0) (s t : S) (told : JobFault) (found : FoundOf) (left : LeftOf) : Type 0 where
  pub fault : AnswerFault
  pub is : told ≡ faults.Answer fault
  pub ends : ServingEnds serves true s t fault (streams_found found) (streams_left left)
  pub unmade : left.held ≡ found.held

-- A DEVICE

-- the place of the device with this identifier
abbrev pub place_named : List DeviceConfigOf → (eid : ℕ) → Option ℕ
place_named devices eid = position (λ d. d.endpoint.eid == eid) devices

-- the device with this identifier, in a list of its own
abbrev pub IsOnly : List DeviceConfigOf → (eid : ℕ) → (only : List DeviceConfigOf) → Type 0
IsOnly devices eid only = IsSomeAnd (place_named devices eid) (λ place. IsSomeAnd (slice_get devices place) (λ d. only ≡ d ∷ []))

-- no device has this identifier
abbrev pub LacksDevice : List DeviceConfigOf → (eid : ℕ) → Type 0
LacksDevice devices eid = place_named devices eid ≡ None

-- the front of a node with this endpoint, if it is open
abbrev pub front_if : (is_open : Bool) → «Unit» → Endpoint → Option Front
front_if true u endpoint = Some (record { unit = u; endpoint = endpoint })
front_if false u endpoint = None

-- the server of a device before its first line
abbrev pub device_filter : DeviceAlone → DeviceNodeOf → DeviceFilterOf
device_filter job n =
    record {
      options = record { auto = job.is_automatic; front = front_if job.is_open n.half.unit n.endpoint };
      device = record { node = n; history = [] };
    }

-- A device is served to the end of the input, and then its report is written, if it is requested.
pub record ServesNode (job : DeviceAlone) (n : DeviceNodeOf) (found : FoundOf) (left : LeftOf) : Type 0 where
  pub last : DeviceFilterOf
  pub end : ServedDeviceOf
  pub served : ServesAll ServesDeviceLine (device_filter job n) last (streams_found found) (streams_left left)
  pub due : TakesSuch last.device (AreDue (due_verdict last.options.auto last.device)) end []
  pub reported : found.is_known ≡ true → IfSome job.report (λ p. left.held p.now ≡ Some (device_report end))

-- A device isn't served to the end of the input, for this fault of reading or writing.
pub record BreaksNode (job : DeviceAlone) (n : DeviceNodeOf) (told : JobFault) (found : FoundOf) (left : LeftOf) : Type 0 where
  pub last : DeviceFilterOf
  pub ends : StopsServing ServesDeviceLine (device_filter job n) last told found left

-- It is, and its report can't be written, or memory was refused. No file is made.
pub record LacksNodeReport (job : DeviceAlone) (n : DeviceNodeOf) (told : JobFault) (found : FoundOf) (left : LeftOf) : Type 0 where
  pub is : (told ≡ faults.Memory) ⊎ ((told ≡ faults.Report) × IsSome job.report)
  pub unmade : left.held ≡ found.held
  pub last : DeviceFilterOf
  pub served : ServesAll ServesDeviceLine (device_filter job n) last (streams_found found) (streams_left left)

-- The result of a device that was served, and of one that was served with a fault; or memory was
-- refused before the first line.
abbrev pub NodeEnds : DeviceAlone → DeviceNodeOf → JobFault → FoundOf → LeftOf → Type 0
NodeEnds job n told found left =
    BreaksNode job n told found left ⊎ (LacksNodeReport job n told found left ⊎ ((told ≡ faults.Memory) × IsUnserved found left))

-- the configuration and the store of a device, with its identifier
abbrev pub device_source : DeviceAlone → FoundOf → SourceOf
device_source job found = source_of found.stores (option_map (λ p. p.now) job.store) (config_source job.config)

-- a device as configured, in a list of its own, and the unit and the agent of its network
pub record DeviceSetupOf : Type 0 where
  pub unit : «Unit»
  pub agent : ℕ
  pub only : List DeviceConfigOf

abbrev pub device_setup_seen : DeviceSetup → DeviceSetupOf
device_setup_seen s = record { unit = s.unit; agent = s.agent; only = map device_of s.only.items }

-- It is that of a configuration, which the report doesn't overwrite.
pub record IsDeviceSetup (job : DeviceAlone) (files : List ℕ → FileOf) (s : DeviceSetupOf) : Type 0 where
  pub config : ConfigOf
  pub says : IsConfigured files (config_source job.config) config
  pub named : IsOnly config.devices job.eid s.only
  pub unit : s.unit ≡ config.unit
  pub agent : s.agent ≡ config.agent.eid
  pub apart : IfSome (option_map (λ p. p.now) job.report) (λ p. AllByRecursion (IsApartFrom files p) (inputs_of (config_source job.config) []))

-- The report would overwrite the configuration, which is read first.
pub record OverwritesConfig (job : DeviceAlone) (told : JobFault) (files : List ℕ → FileOf) : Type 0 where
  pub is : told ≡ faults.Report
  pub config : ConfigOf
  pub says : IsConfigured files (config_source job.config) config
  pub over : IsSomeAnd (option_map (λ p. p.now) job.report) (λ p. IsOverOne files p (inputs_of (config_source job.config) []))

-- The configuration has no such device, and the report doesn't overwrite it.
pub record MissesDevice (job : DeviceAlone) (told : JobFault) (files : List ℕ → FileOf) : Type 0 where
  pub is : told ≡ faults.NoDevice job.eid
  pub config : ConfigOf
  pub says : IsConfigured files (config_source job.config) config
  pub apart : IfSome (option_map (λ p. p.now) job.report) (λ p. AllByRecursion (IsApartFrom files p) (inputs_of (config_source job.config) []))
  pub none : LacksDevice config.devices job.eid

abbrev pub DeviceSetupFails : DeviceAlone → (files : List ℕ → FileOf) → JobFault → Type 0
DeviceSetupFails job files told =
    (told ≡ faults.Memory) ⊎ (ConfigFails files (config_source job.config) told ⊎ (OverwritesConfig job told files ⊎ MissesDevice job told files))

-- The device is served, with the images in its store, if it has one.
pub record ServesSetup (job : DeviceAlone) (s : DeviceSetupOf) (found : FoundOf) (left : LeftOf) : Type 0 where
  pub stocked : DeviceConfigOf
  pub images : AreDevices (device_source job found).stores s.only (stocked ∷ [])
  pub serves : ServesNode job (node_made s.unit s.agent stocked) found left

-- Its serving ends with a fault.
pub record BreaksSetup (job : DeviceAlone) (s : DeviceSetupOf) (told : JobFault) (found : FoundOf) (left : LeftOf) : Type 0 where
  pub stocked : DeviceConfigOf
  pub images : AreDevices (device_source job found).stores s.only (stocked ∷ [])
  pub ends : NodeEnds job (node_made s.unit s.agent stocked) told found left

-- Or it isn't served at all: memory was refused, or its store can't be opened.
abbrev pub SetupEnds : DeviceAlone → DeviceSetupOf → JobFault → FoundOf → LeftOf → Type 0
SetupEnds job s told found left =
    BreaksSetup job s told found left
    ⊎ (((told ≡ faults.Memory) ⊎ IsSomeAnd (device_source job found).stores (λ stores. TellsUnopened stores s.only told)) × IsUnserved found left)

-- A device of the configuration in a file is served.
pub record ServesDevice (job : DeviceAlone) (found : FoundOf) (left : LeftOf) : Type 0 where
  pub setup : DeviceSetupOf
  pub begins : IsDeviceSetup job found.files setup
  pub serves : ServesSetup job setup found left

-- Its serving ends with a fault, or doesn't begin.
pub record BreaksDevice (job : DeviceAlone) (told : JobFault) (found : FoundOf) (left : LeftOf) : Type 0 where
  pub setup : DeviceSetupOf
  pub begins : IsDeviceSetup job found.files setup
  pub ends : SetupEnds job setup told found left

-- The result of a device by itself that failed. If there is no such device, nothing is read or
-- written.
abbrev pub DeviceEnds : DeviceAlone → JobFault → FoundOf → LeftOf → Type 0
DeviceEnds job told found left = BreaksDevice job told found left ⊎ (DeviceSetupFails job found.files told × IsUnserved found left)

-- THE AGENT

-- the agent of a configuration, with these packages, before its first packet
abbrev pub agent_made : ConfigOf → List PackageText → ServedAgentOf
agent_made config packages = new_served_agent config.unit config.agent (map (λ d. d.endpoint.eid) config.devices) packages

-- the server of the agent before its first line
abbrev pub agent_filter : AgentAlone → ConfigOf → List PackageText → AgentFilterOf
agent_filter job config packages =
    record {
      options = record { auto = job.is_automatic; front = front_if job.is_open config.unit config.agent };
      agent = agent_made config packages;
    }

-- the agent at the end of the input
abbrev pub agent_end : AgentFilterOf → ServedAgentOf
agent_end last = turn_ended last.options.auto last.agent

-- The agent is served to the end of the input, and then the records of its event log and its report
-- are written, if they are requested.
pub record ServesFilter (job : AgentAlone) (first : AgentFilterOf) (found : FoundOf) (left : LeftOf) : Type 0 where
  pub last : AgentFilterOf
  pub served : ServesAll ServesAgentLine first last (streams_found found) (streams_left left)
  pub reported : found.is_known ≡ true → IfSome job.report (λ p. left.held p.now ≡ Some (agent_report (agent_end last)))
  pub logged : found.is_known ≡ true → job.report ≡ None → IfSome job.log (λ p. left.held p.now ≡ Some (records_bytes (agent_end last).agent.log.records))

-- The records or the report can't be written, if they are requested, or memory was refused. The
-- records are written before the report.
abbrev pub LacksOutput : AgentAlone → (end : ServedAgentOf) → JobFault → FoundOf → LeftOf → Type 0
LacksOutput job end told found left =
    ((told ≡ faults.Memory) ⊎ (((told ≡ faults.Log) × IsSome job.log) ⊎ ((told ≡ faults.Report) × IsSome job.report)))
    × ((left.held ≡ found.held) ⊎ (found.is_known ≡ true → IfSome job.log (λ p. left.held p.now ≡ Some (records_bytes end.agent.log.records))))

-- Reading or writing failed; or it is served, and the records or the report can't be written.
pub record FilterEnds (job : AgentAlone) (first : AgentFilterOf) (told : JobFault) (found : FoundOf) (left : LeftOf) : Type 0 where
  pub last : AgentFilterOf
  pub ends :
      StopsServing ServesAgentLine first last told found left
      ⊎ (LacksOutput job (agent_end last) told found left × ServesAll ServesAgentLine first last (streams_found found) (streams_left left))

-- The agent of a configuration is served, with the packages in these bytes.
pub record ServesPackages (job : AgentAlone) (config : ConfigOf) (contents : List (List ℕ)) (found : FoundOf) (left : LeftOf) : Type 0 where
  pub packages : List PackageText
  pub are : map (λ p. Ok p) packages ≡ map package_of contents
  pub serves : ServesFilter job (agent_filter job config packages) found left

-- Its serving ends with a fault.
pub record BreaksPackages (job : AgentAlone) (config : ConfigOf) (contents : List (List ℕ)) (told : JobFault) (found : FoundOf) (left : LeftOf) : Type 0 where
  pub packages : List PackageText
  pub are : map (λ p. Ok p) packages ≡ map package_of contents
  pub ends : FilterEnds job (agent_filter job config packages) told found left

-- Or memory was refused before.
abbrev pub PackagesEnd : AgentAlone → ConfigOf → (contents : List (List ℕ)) → JobFault → FoundOf → LeftOf → Type 0
PackagesEnd job config contents told found left = BreaksPackages job config contents told found left ⊎ ((told ≡ faults.Memory) × IsUnserved found left)

-- Neither the records nor the report overwrite the configuration or a package.
pub record AreOutputsApart (job : AgentAlone) (files : List ℕ → FileOf) (packages : List (List ℕ)) : Type 0 where
  pub log : IfSome (option_map (λ p. p.now) job.log) (λ p. AllByRecursion (IsApartFrom files p) (job.config.now ∷ packages))
  pub report : IfSome (option_map (λ p. p.now) job.report) (λ p. AllByRecursion (IsApartFrom files p) (job.config.now ∷ packages))

-- One of them would; the records are looked at first.
abbrev pub IsOutputOver : AgentAlone → (files : List ℕ → FileOf) → (packages : List (List ℕ)) → JobFault → Type 0
IsOutputOver job files packages told =
    ((told ≡ faults.Log) × IsSomeAnd (option_map (λ p. p.now) job.log) (λ p. IsOverOne files p (job.config.now ∷ packages)))
    ⊎ ((told ≡ faults.Report) × IfSome (option_map (λ p. p.now) job.log) (λ p. AllByRecursion (IsApartFrom files p) (job.config.now ∷ packages))
    × IsSomeAnd (option_map (λ p. p.now) job.report) (λ p. IsOverOne files p (job.config.now ∷ packages)))

-- The agent of the configuration in a file is served.
pub record ServesAgent (job : AgentAlone) (found : FoundOf) (left : LeftOf) : Type 0 where
  pub config : ConfigOf
  pub says : Says config_of (found.files job.config.now) config
  pub apart : AreOutputsApart job found.files config.packages
  pub packages : List PackageText
  pub are : ArePackages found.files config.packages packages
  pub serves : ServesFilter job (agent_filter job config packages) found left

-- Its serving ends with a fault.
pub record BreaksAgent (job : AgentAlone) (told : JobFault) (found : FoundOf) (left : LeftOf) : Type 0 where
  pub config : ConfigOf
  pub says : Says config_of (found.files job.config.now) config
  pub apart : AreOutputsApart job found.files config.packages
  pub packages : List PackageText
  pub are : ArePackages found.files config.packages packages
  pub ends : FilterEnds job (agent_filter job config packages) told found left

-- The records or the report would overwrite a file that is read.
pub record OverwritesInput (job : AgentAlone) (told : JobFault) (files : List ℕ → FileOf) : Type 0 where
  pub config : ConfigOf
  pub says : Says config_of (files job.config.now) config
  pub is : IsOutputOver job files config.packages told

-- A package can't be read, and the outputs overwrite none of the files that are read.
pub record LacksPackages (job : AgentAlone) (told : JobFault) (files : List ℕ → FileOf) : Type 0 where
  pub config : ConfigOf
  pub says : Says config_of (files job.config.now) config
  pub apart : AreOutputsApart job files config.packages
  pub fail : PackagesFail files config.packages told

-- The result of the agent by itself that failed. If it isn't served at all, nothing is read or
-- written.
abbrev pub AgentEnds : AgentAlone → JobFault → FoundOf → LeftOf → Type 0
AgentEnds job told found left =
    BreaksAgent job told found left
    ⊎ (((told ≡ faults.Memory) ⊎ (TextFails config_of found.files job.config.now told ⊎ (LacksPackages job told found.files ⊎ OverwritesInput job told found.files)))
    × IsUnserved found left)
