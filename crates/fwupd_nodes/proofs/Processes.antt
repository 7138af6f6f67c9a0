-- A device and the agent of a configuration as processes of their own.
use Rattle.std.proofs.Common.{◌≡◌, ◌≤◌, ◌⊎◌, inl, inr, ◌∙◌, ◌+◌, ◌++◌, ◌<◌, false, true, ℕ, List, get_or, length, [], ◌∷◌, Result, Ok, Err, IfErr, IfSome, OnOk, Option, ap, map, option_map, refl, sym, subst, take}
use Rattle.std.proofs.lemmas.List.{take_more}
use Rattle.fw_node.specs.Nodes.{DeviceNodeOf}
use Rattle.fw_package.specs.Package.{PackageText}
use Rattle.fw_package.specs.Reading.{package_of}
use Rattle.fw_script.specs.Configs.{ConfigOf, DeviceConfigOf, config_of}
use Rattle.fw_node.specs.Agents.{AgentOf}
use Rattle.fw_serve.specs.Agents.{ServedAgentOf, agent_served, served_agent_of}
use Rattle.fw_serve.specs.Keeping.{KeepingAgentOf}
use Rattle.fw_serve.specs.Processes.{DeviceProcessOf}
use Rattle.fw_serve.specs.Serving.{device_report}
use Rattle.fw_setup.specs.Nodes.{node_made}
use Rattle.fw_setup.specs.Stocks.{StoresOf}
use Rattle.fw_steps.specs.Alone.{AgentCall}
use Rattle.fw_store.specs.Folders.{Files}
use Rattle.fw_store.specs.declared.kept_line.KeptLine.{KeptLine}
use Rattle.fwupd_nodes.specs.AgentStores.{AgentSetupOf, BeginsWithStore, keeps_lines}
use Rattle.fwupd_nodes.specs.Alone.{DeviceSetupOf, IsDeviceSetup}
use Rattle.fwupd_nodes.specs.Processes.{AgentLeftOf, AgentProcessEnds, AgentSetupStops, ContentsStop, DeviceProcessEnds, EndsServed, KeptStops, NodeBreaks, NodeStops, ObservedEndFails, ReportFails, RunsAgent, RunsAgentSetup, RunsDevice, RunsKept, RunsNode, RunsPackages, RunsServed, RunsSetup, ServedBreaks, ServedStops, ServesProcess, ServesStarted, SetupStops, agent_shows, agent_started, device_alone, device_shows, end_of}
use Rattle.fwupd_nodes.specs.Setups.{AreDevices, ArePacked, PackagesFail, Says}
use Rattle.fwupd_traces.specs.Watches.{Ended}
use Rattle.fwupd_watch.specs.Apart.{IsApart, IsOverRead}
use Rattle.fwupd_watch.specs.Files.{FileOf}
use Rattle.fwupd_watch.specs.Inputs.{inputs_of}
use Rattle.fwupd_watch.specs.Outputs.{OutputOf, WritesOutput}
use Rattle.fwupd_watch.specs.declared.faults.JobFault.{JobFault}
use Rattle.fwupd_watch.specs.declared.faults.JobFault.TheVariants as faults
use Rattle.fwupd_base.specs.ImageFiles.{config_source}
use Rattle.fwupd_base.specs.declared.processes.AgentProcess.{AgentProcess}
use Rattle.fwupd_base.specs.declared.processes.DeviceProcess.{DeviceProcess}

-- A DEVICE

pub runs_node : (r : Result (Prim.Unit {0}) JobFault) (ticks : Option ℕ) (n : DeviceNodeOf) (last : DeviceProcessOf) (text : List ℕ) (before after : OutputOf) → ServesProcess ticks n last
    → text ≡ device_report last.device → OnOk r (WritesOutput before after text) → OnOk r (RunsNode ticks n before after)
runs_node (Ok u) ticks n last text before after serves is written =
    record { last = last; serves = serves; written = subst (λ t. WritesOutput before after t) is written }
runs_node (Err e) ticks n last text before after serves is written = tt

pub runs_setup : (r : Result (Prim.Unit {0}) JobFault) (job : DeviceProcess) (s : DeviceSetupOf) (stored : (root : List ℕ) → StoresOf) (stocked : DeviceConfigOf) (n : DeviceNodeOf) (before after : OutputOf)
    → n ≡ node_made s.unit s.agent stocked → AreDevices (option_map stored (option_map (λ p. p.now) job.store)) s.only (stocked ∷ [])
    → OnOk r (RunsNode job.serving.ticks n before after) → OnOk r (RunsSetup job s stored before after)
runs_setup (Ok u) job s stored stocked n before after is images runs =
    record { stocked = stocked; images = images; runs = subst (λ (m : DeviceNodeOf). RunsNode job.serving.ticks m before after) is runs }
runs_setup (Err e) job s stored stocked n before after is images runs = tt

pub runs_device : (r : Result (Prim.Unit {0}) JobFault) (job : DeviceProcess) (s : DeviceSetupOf) (files : List ℕ → FileOf) (stored : (root : List ℕ) → StoresOf) (before after : OutputOf)
    → IsDeviceSetup (device_alone job) files s → IsApart files (device_shows job) (inputs_of (config_source job.config) [])
    → OnOk r (RunsSetup job s stored before after) → OnOk r (RunsDevice job files stored before after)
runs_device (Ok u) job s files stored before after begins apart runs = record { setup = s; begins = begins; apart = apart; runs = runs }
runs_device (Err e) job s files stored before after begins apart runs = tt

pub device_overwrites : (job : DeviceProcess) (told : JobFault) (s : DeviceSetupOf) (files : List ℕ → FileOf) (stored : (root : List ℕ) → StoresOf) (before : OutputOf)
    → IsDeviceSetup (device_alone job) files s → (told ≡ faults.Memory) ⊎ IsOverRead files (device_shows job) (inputs_of (config_source job.config) []) told → DeviceProcessEnds job told files stored before before
device_overwrites job told s files stored before begins over = inl (inr (record { setup = s; begins = begins; over = over }), refl)

-- a device's node was a process, and writing its report failed, or what observed it did
pub node_stops : (r : Result (Prim.Unit {0}) JobFault) (ticks : Option ℕ) (n : DeviceNodeOf) (last : DeviceProcessOf) (watched : Ended) (before after : OutputOf) → ServesProcess ticks n last
    → IfErr r (λ e. ReportFails (device_report last.device) watched e before after) → IfErr r (λ e. NodeStops ticks n e before after)
node_stops (Ok u) ticks n last watched before after serves fails = tt
node_stops (Err e) ticks n last watched before after serves fails = inr (record { last = last; serves = serves; watched = watched; fails = fails })

setup_breaks : (told : JobFault) (job : DeviceProcess) (s : DeviceSetupOf) (stored : (root : List ℕ) → StoresOf) (stocked : DeviceConfigOf) (n : DeviceNodeOf) (before after : OutputOf)
    → n ≡ node_made s.unit s.agent stocked → AreDevices (option_map stored (option_map (λ p. p.now) job.store)) s.only (stocked ∷ [])
    → NodeStops job.serving.ticks n told before after → SetupStops job s stored told before after
setup_breaks told job s stored stocked n before after is images (inl same) = inl same
setup_breaks told job s stored stocked n before after is images (inr broken) =
    inr (record { stocked = stocked; images = images; breaks = subst (λ (m : DeviceNodeOf). NodeBreaks job.serving.ticks m told before after) is broken })

pub setup_stops : (r : Result (Prim.Unit {0}) JobFault) (job : DeviceProcess) (s : DeviceSetupOf) (stored : (root : List ℕ) → StoresOf) (stocked : DeviceConfigOf) (n : DeviceNodeOf) (before after : OutputOf)
    → n ≡ node_made s.unit s.agent stocked → AreDevices (option_map stored (option_map (λ p. p.now) job.store)) s.only (stocked ∷ [])
    → IfErr r (λ e. NodeStops job.serving.ticks n e before after) → IfErr r (λ e. SetupStops job s stored e before after)
setup_stops (Ok u) job s stored stocked n before after is images stops = tt
setup_stops (Err e) job s stored stocked n before after is images stops = setup_breaks e job s stored stocked n before after is images stops

-- it is such a device, and fails later
pub device_stops : (r : Result (Prim.Unit {0}) JobFault) (job : DeviceProcess) (s : DeviceSetupOf) (files : List ℕ → FileOf) (stored : (root : List ℕ) → StoresOf) (before after : OutputOf)
    → IsDeviceSetup (device_alone job) files s → IsApart files (device_shows job) (inputs_of (config_source job.config) []) → IfErr r (λ e. SetupStops job s stored e before after)
    → IfErr r (λ e. DeviceProcessEnds job e files stored before after)
device_stops (Ok u) job s files stored before after begins apart stops = tt
device_stops (Err e) job s files stored before after begins apart stops = inr (record { setup = s; begins = begins; apart = apart; stops = stops })

-- a device's process isn't over by itself
pub ends_device : (end shown : ℕ) (ticks : Option ℕ) (now : ℕ) → end ≡ end_of shown ticks → (false ≡ true) ⊎ (end ≤ now) → end_of shown ticks ≤ now
ends_device end shown ticks now is (inl over) = absurd cc
ends_device end shown ticks now is (inr past) = subst (λ n. n ≤ now) is past

-- THE AGENT

pub ends_agent : {Over : Type 0} (end shown : ℕ) (ticks : Option ℕ) (now : ℕ) → end ≡ end_of shown ticks → Over ⊎ (end ≤ now) → Over ⊎ (end_of shown ticks ≤ now)
ends_agent end shown ticks now is (inl over) = inl over
ends_agent end shown ticks now is (inr past) = inr (subst (λ n. n ≤ now) is past)

-- one more update is started
started_on : (s : ServedAgentOf) (number : ℕ) (eids : List ℕ) (eid : ℕ)
    → agent_started s number (eids ++ eid ∷ []) ≡ agent_served (agent_started s number eids) (AgentCall.Starts (agent_started s number eids).now eid number)
started_on s number [] eid = refl
started_on s number (e ∷ eids) eid = started_on (agent_served s (AgentCall.Starts s.now e number)) number eids eid

pub started_more : (s t v : ServedAgentOf) (number : ℕ) (eids : List ℕ) (i d : ℕ) → i < length eids → t ≡ agent_started s number (take i eids)
    → v ≡ agent_served t (AgentCall.Starts t.now (get_or eids i d) number) → v ≡ agent_started s number (take (i + 1) eids)
started_more s t v number eids i d within before started =
    started ∙ ap (λ (x : ServedAgentOf). agent_served x (AgentCall.Starts x.now (get_or eids i d) number)) before ∙ sym (started_on s number (take i eids) (get_or eids i d))
    ∙ ap (agent_started s number) (sym (take_more eids i d within))

pub runs_served : {K : Type 0} (keeps : K → List KeptLine → Type 0) (r : Result (Prim.Unit {0}) JobFault) (job : AgentProcess) (new : ServedAgentOf) (last : KeepingAgentOf K) (eids : List ℕ) (before : OutputOf) (after : AgentLeftOf)
    → ServesStarted keeps job eids new last → OnOk r (EndsServed job last.agent before after) → OnOk r (RunsServed keeps job new eids before after)
runs_served keeps (Ok u) job new last eids before after serves ends = record { last = last; serves = serves; ends = ends }
runs_served keeps (Err e) job new last eids before after serves ends = tt

-- the agent that is served is this one
pub served_as : {K : Type 0} (keeps : K → List KeptLine → Type 0) (r : Result (Prim.Unit {0}) JobFault) (job : AgentProcess) (new other : ServedAgentOf) (eids : List ℕ) (before : OutputOf) (after : AgentLeftOf)
    → new ≡ other → OnOk r (RunsServed keeps job new eids before after) → OnOk r (RunsServed keeps job other eids before after)
served_as keeps r job new other eids before after is runs = subst (λ (a : ServedAgentOf). OnOk r (RunsServed keeps job a eids before after)) is runs

pub runs_kept : (r : Result (Prim.Unit {0}) JobFault) (job : AgentProcess) (kept : Option Files) (setup : AgentSetupOf) (packages : List PackageText) (node : AgentOf) (new : ServedAgentOf) (before : OutputOf) (after : AgentLeftOf)
    → new ≡ served_agent_of node packages → IfSome kept (λ files. BeginsWithStore files setup node) → OnOk r (RunsServed keeps_lines job new setup.eids before after)
    → OnOk r (RunsKept job kept setup packages before after)
runs_kept (Ok u) job kept setup packages node new before after is begins runs =
    record { node = node; begins = begins; runs = subst (λ (a : ServedAgentOf). RunsServed keeps_lines job a setup.eids before after) is runs }
runs_kept (Err e) job kept setup packages node new before after is begins runs = tt

pub runs_packages : (r : Result (Prim.Unit {0}) JobFault) (job : AgentProcess) (kept : (root : List ℕ) → Option Files) (config : ConfigOf) (contents : List (List ℕ)) (packages : List PackageText) (eids : List ℕ) (before : OutputOf) (after : AgentLeftOf)
    → eids ≡ map (λ d. d.endpoint.eid) config.devices → map (λ p. Ok p) packages ≡ map package_of contents
    → OnOk r (RunsAgentSetup job kept (record { unit = config.unit; endpoint = config.agent; eids = eids; contents = contents }) packages before after)
    → OnOk r (RunsPackages job kept config contents before after)
runs_packages (Ok u) job kept config contents packages eids before after same are runs = record {
  packages = packages;
  are = are;
  runs =
      subst (λ (es : List ℕ). RunsAgentSetup job kept (record { unit = config.unit; endpoint = config.agent; eids = es; contents = contents }) packages before after) same runs;
}
runs_packages (Err e) job kept config contents packages eids before after same are runs = tt

pub runs_agent : (r : Result (Prim.Unit {0}) JobFault) (job : AgentProcess) (config : ConfigOf) (files : List ℕ → FileOf) (kept : (root : List ℕ) → Option Files) (contents : List (List ℕ)) (before : OutputOf) (after : AgentLeftOf)
    → Says config_of (files job.config.now) config
    → IsApart files (agent_shows job) (job.config.now ∷ config.packages)
    → ArePacked files config.packages contents → OnOk r (RunsPackages job kept config contents before after)
    → OnOk r (RunsAgent job files kept before after)
runs_agent (Ok u) job config files kept contents before after says apart packed runs =
    record { config = config; says = says; apart = apart; contents = contents; packed = packed; runs = runs }
runs_agent (Err e) job config files kept contents before after says apart packed runs = tt

-- an agent was a process, and failed at its end
pub served_stops : {K : Type 0} (keeps : K → List KeptLine → Type 0) (r : Result (Prim.Unit {0}) JobFault) (job : AgentProcess) (new : ServedAgentOf) (last : KeepingAgentOf K) (served : ServedAgentOf) (watched : Ended) (eids : List ℕ)
    (before : OutputOf) (after : AgentLeftOf) → served ≡ last.agent → ServesStarted keeps job eids new last → IfErr r (λ e. ObservedEndFails job served watched e before after)
    → IfErr r (λ e. ServedStops keeps job new eids e before after)
served_stops keeps (Ok u) job new last served watched eids before after is serves fails = tt
served_stops keeps (Err e) job new last served watched eids before after is serves fails =
    inr (record { last = last; serves = serves; watched = watched; fails = subst (λ (a : ServedAgentOf). ObservedEndFails job a watched e before after) is fails })

-- and is this one
pub stops_as : {K : Type 0} (keeps : K → List KeptLine → Type 0) (r : Result (Prim.Unit {0}) JobFault) (job : AgentProcess) (new other : ServedAgentOf) (eids : List ℕ) (before : OutputOf) (after : AgentLeftOf)
    → new ≡ other → IfErr r (λ e. ServedStops keeps job new eids e before after) → IfErr r (λ e. ServedStops keeps job other eids e before after)
stops_as keeps r job new other eids before after is stops = subst (λ (a : ServedAgentOf). IfErr r (λ e. ServedStops keeps job a eids e before after)) is stops

kept_breaks : (told : JobFault) (job : AgentProcess) (kept : Option Files) (setup : AgentSetupOf) (packages : List PackageText) (node : AgentOf) (new : ServedAgentOf) (before : OutputOf) (after : AgentLeftOf)
    → new ≡ served_agent_of node packages → IfSome kept (λ files. BeginsWithStore files setup node) → ServedStops keeps_lines job new setup.eids told before after
    → KeptStops job kept setup packages told before after
kept_breaks told job kept setup packages node new before after is begins (inl same) = inl same
kept_breaks told job kept setup packages node new before after is begins (inr broken) =
    inr (record { node = node; begins = begins; breaks = subst (λ (a : ServedAgentOf). ServedBreaks keeps_lines job a setup.eids told before after) is broken })

pub kept_stops : (r : Result (Prim.Unit {0}) JobFault) (job : AgentProcess) (kept : Option Files) (setup : AgentSetupOf) (packages : List PackageText) (node : AgentOf) (new : ServedAgentOf) (before : OutputOf) (after : AgentLeftOf)
    → new ≡ served_agent_of node packages → IfSome kept (λ files. BeginsWithStore files setup node) → IfErr r (λ e. ServedStops keeps_lines job new setup.eids e before after)
    → IfErr r (λ e. KeptStops job kept setup packages e before after)
kept_stops (Ok u) job kept setup packages node new before after is begins stops = tt
kept_stops (Err e) job kept setup packages node new before after is begins stops = kept_breaks e job kept setup packages node new before after is begins stops

pub packages_stop : (r : Result (Prim.Unit {0}) JobFault) (job : AgentProcess) (kept : (root : List ℕ) → Option Files) (config : ConfigOf) (contents : List (List ℕ)) (packages : List PackageText) (eids : List ℕ) (before : OutputOf) (after : AgentLeftOf)
    → eids ≡ map (λ d. d.endpoint.eid) config.devices → map (λ p. Ok p) packages ≡ map package_of contents
    → IfErr r (λ e. AgentSetupStops job kept (record { unit = config.unit; endpoint = config.agent; eids = eids; contents = contents }) packages e before after)
    → IfErr r (λ e. ContentsStop job kept config contents e before after)
packages_stop (Ok u) job kept config contents packages eids before after same are stops = tt
packages_stop (Err e) job kept config contents packages eids before after same are stops = inr (record {
  packages = packages;
  are = are;
  stops =
      subst (λ (es : List ℕ). AgentSetupStops job kept (record { unit = config.unit; endpoint = config.agent; eids = es; contents = contents }) packages e before after) same stops;
})

pub agent_overwrites : (job : AgentProcess) (told : JobFault) (config : ConfigOf) (files : List ℕ → FileOf) (kept : (root : List ℕ) → Option Files) (before : OutputOf) (after : AgentLeftOf)
    → Says config_of (files job.config.now) config → (told ≡ faults.Memory) ⊎ IsOverRead files (agent_shows job) (job.config.now ∷ config.packages) told → after.output ≡ before
    → AgentProcessEnds job told files kept before after
agent_overwrites job told config files kept before after says (inl memory) same = inl (inl memory, same)
agent_overwrites job told config files kept before after says (inr over) same = inl (inr (inr (inl (record { config = config; says = says; over = over }))), same)

pub agent_lacks : (job : AgentProcess) (told : JobFault) (config : ConfigOf) (files : List ℕ → FileOf) (kept : (root : List ℕ) → Option Files) (before : OutputOf) (after : AgentLeftOf)
    → Says config_of (files job.config.now) config → IsApart files (agent_shows job) (job.config.now ∷ config.packages) → (told ≡ faults.Memory) ⊎ PackagesFail files config.packages told → after.output ≡ before
    → AgentProcessEnds job told files kept before after
agent_lacks job told config files kept before after says apart (inl memory) same = inl (inl memory, same)
agent_lacks job told config files kept before after says apart (inr fail) same = inl (inr (inr (inr (record { config = config; says = says; apart = apart; fail = fail }))), same)

-- it is such an agent, and fails later
pub agent_stops : (r : Result (Prim.Unit {0}) JobFault) (job : AgentProcess) (config : ConfigOf) (files : List ℕ → FileOf) (kept : (root : List ℕ) → Option Files) (contents : List (List ℕ)) (before : OutputOf) (after : AgentLeftOf)
    → Says config_of (files job.config.now) config → IsApart files (agent_shows job) (job.config.now ∷ config.packages) → ArePacked files config.packages contents
    → IfErr r (λ e. ContentsStop job kept config contents e before after) → IfErr r (λ e. AgentProcessEnds job e files kept before after)
agent_stops (Ok u) job config files kept contents before after says apart packed stops = tt
agent_stops (Err e) job config files kept contents before after says apart packed stops =
    inr (record { config = config; says = says; apart = apart; contents = contents; packed = packed; stops = stops })
