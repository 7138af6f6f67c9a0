-- A device or the agent of a configuration by itself: its setup, and what it served.
use Rattle.std.proofs.Common.{◌≡◌, ◌≢◌, ◌<◌, ◌+◌, ◌∙◌, ◌==◌, ◌∷◌, ◌⊎◌, [], Bool, Err, IfErr, IfSome, List, None, Ok, OnErr, OnOk, Option, Result, Some, ap, arith, cond, false, inl, inr, length, map, nat_lt, not, option_map, refl, slice_get, suc, subst, sym, true, zero, ℕ}
use Rattle.std.specs.Prelude.{All, IsSome, slice_index_or}
use Rattle.std.specs.List.{AllByRecursion, position, position_or_len}
use Rattle.std.proofs.lemmas.List.{length-map}
use Rattle.std.proofs.lemmas.List.Elements.{All-cons, All-head, All-nil, All-tail}
use Rattle.std.proofs.lemmas.List.Recursion.{is_position_or_len}
use Rattle.std.proofs.lemmas.Option.{slice_get-map}
use Rattle.fw_node.specs.Nodes.{DeviceNodeOf}
use Rattle.fw_package.specs.Package.{PackageText}
use Rattle.fw_package.specs.Reading.{package_of}
use Rattle.fw_script.specs.Configs.{ConfigOf, DeviceConfigOf, config_of}
use Rattle.fw_script.specs.Seen.{device_of}
use Rattle.fw_script.specs.Whole.{AreWhole, IsDevice, eids_of}
use Rattle.fw_script.specs.declared.config.DeviceConfig.{DeviceConfig}
use Rattle.fw_serve.specs.Agents.{AgentFilterOf, ServedAgentOf, ServesAgentLine, agent_report}
use Rattle.fw_serve.specs.Serving.{AreDue, DeviceFilterOf, ServedDeviceOf, ServesDeviceLine, TakesSuch, device_report, due_verdict}
use Rattle.fw_setup.specs.Nodes.{node_made}
use Rattle.fw_setup.specs.Stocks.{HaveStoredImages, StoresOf}
use Rattle.fw_trace.specs.Records.{records_bytes}
use Rattle.fwupd_base.specs.declared.stream.AnswerFault.{AnswerFault}
use Rattle.fwupd_nodes.specs.Alone.{AgentEnds, AreOutputsApart, DeviceEnds, DeviceSetupOf, FilterEnds, IsDeviceSetup, IsOnly, NodeEnds, PackagesEnd, ServesAgent, ServesDevice, ServesFilter, ServesNode, ServesPackages, ServesSetup, SetupEnds, agent_end, agent_filter, device_filter, device_source, place_named, streams_found, streams_left}
use Rattle.fwupd_nodes.specs.Hosts.{FoundOf, LeftOf}
use Rattle.fwupd_nodes.specs.Setups.{AreDevices, ArePacked, Says}
use Rattle.fwupd_nodes.proofs.Packed.{none_stocked, packages_so, some_stocked}
use Rattle.fwupd_watch.specs.Serving.{ServesAll, ServingEnds}
use Rattle.fwupd_watch.specs.declared.faults.JobFault.{JobFault}
use Rattle.fwupd_watch.specs.declared.faults.JobFault.TheVariants as faults
use Rattle.fwupd_base.specs.declared.alone.AgentAlone.{AgentAlone}
use Rattle.fwupd_base.specs.declared.alone.DeviceAlone.{DeviceAlone}

-- a device's place among the read ones is that among the configured ones
flip : (b : Bool) (x y : ℕ) → cond (not b) y x ≡ cond b x y
flip true x y = refl
flip false x y = refl

counted_same : (eid : ℕ) (ds : List DeviceConfig) → position_or_len (λ d. d.endpoint.eid == eid) (map device_of ds) ≡ position_or_len (λ d. d.endpoint.eid == eid) ds
counted_same eid = is_position_or_len (λ xs. position_or_len (λ d. d.endpoint.eid == eid) (map device_of xs)) (λ d. d.endpoint.eid == eid) refl
    (λ x xs. flip (x.endpoint.eid == eid) 0 (1 + position_or_len (λ d. d.endpoint.eid == eid) (map device_of xs)))

pub place_same : (eid : ℕ) (ds : List DeviceConfig) → place_named (map device_of ds) eid ≡ position (λ d. d.endpoint.eid == eid) ds
place_same eid ds =
    ap (λ n. cond (nat_lt n (length (map device_of ds))) (Some n) None) (counted_same eid ds)
    ∙ ap (λ m. cond (nat_lt (position_or_len (λ d. d.endpoint.eid == eid) ds) m) (Some (position_or_len (λ d. d.endpoint.eid == eid) ds)) None) (length-map ds device_of)

-- an element of a list is at its place
at_place : (ds : List DeviceConfig) (place : ℕ) (d : DeviceConfig) → place < length ds → d ≡ slice_index_or ds place d → slice_get ds place ≡ Some d
at_place [] place d within is = absurd (omega (arith, within))
at_place (x ∷ ds) zero d within is = ap Some (sym is)
at_place (x ∷ ds) (suc place) d within is = at_place ds place d (omega (arith, within)) is

pub only_one : (eid : ℕ) (ds : List DeviceConfig) (place : ℕ) (d : DeviceConfig) → position (λ x. x.endpoint.eid == eid) ds ≡ Some place → place < length ds → d ≡ slice_index_or ds place d
    → IsOnly (map device_of ds) eid (device_of d ∷ [])
only_one eid ds place d found within is =
    rw (place_same eid ds ∙ found, slice_get-map device_of ds place, at_place ds place d within is) refl

-- what holds of each element holds of the one at a place
each_at : (P : DeviceConfigOf → Type 0) (xs : List DeviceConfigOf) (place : ℕ) (x : DeviceConfigOf) → AllByRecursion P xs → slice_get xs place ≡ Some x → P x
each_at P [] place x h is = cc
each_at P (y ∷ xs) zero x h is =
    let same : y ≡ x = (let e : Some y ≡ Some x = is in cc) in
    subst P same h.0
each_at P (y ∷ xs) (suc place) x h is = each_at P xs place x h.1 is

other_at : (P : ℕ → Type 0) (xs : List DeviceConfigOf) (place : ℕ) (x : DeviceConfigOf) → All P (eids_of xs) → slice_get xs place ≡ Some x → P x.endpoint.eid
other_at P [] place x h is = cc
other_at P (y ∷ xs) zero x h is =
    let same : y ≡ x = (let e : Some y ≡ Some x = is in cc) in
    subst (λ (z : DeviceConfigOf). P z.endpoint.eid) same (All-head P y.endpoint.eid (eids_of xs) h)
other_at P (y ∷ xs) (suc place) x h is = other_at P xs place x (All-tail P y.endpoint.eid (eids_of xs) h) is

-- one device of a whole configuration is one
pub whole_one : (agent : ℕ) (ds : List DeviceConfig) (place : ℕ) (d : DeviceConfig) → place < length ds → d ≡ slice_index_or ds place d → AreWhole agent (map device_of ds)
    → AreWhole agent (device_of d ∷ [])
whole_one agent ds place d within is h =
    let at : slice_get (map device_of ds) place ≡ Some (device_of d) = slice_get-map device_of ds place ∙ ap (option_map device_of) (at_place ds place d within is) in
    record {
      agent_eid = h.agent_eid;
      some = omega arith;
      few = omega arith;
      each = (each_at IsDevice (map device_of ds) place (device_of d) h.each at, tt);
      apart = (
        All-cons (λ y. agent ≢ y) d.endpoint.eid [] (other_at (λ y. agent ≢ y) (map device_of ds) place (device_of d) h.apart.0 at) (All-nil _),
        (All-nil _, tt),
      );
    }

-- a device with its stored images
pub one_stocked : (s : StoresOf) (d : DeviceConfigOf) (ys : List DeviceConfigOf) → HaveStoredImages s (d ∷ []) ys → (y : DeviceConfigOf) × (ys ≡ y ∷ [])
one_stocked s d [] h = absurd h
one_stocked s d (y ∷ []) h = (y, refl)
one_stocked s d (y ∷ (z ∷ ys)) h = absurd h.1

-- a device that was served, whose report is then written or not
pub node_served : (r : Result (Prim.Unit {0}) JobFault) (job : DeviceAlone) (n : DeviceNodeOf) (first last : DeviceFilterOf) (end : ServedDeviceOf) (found : FoundOf) (left : LeftOf)
    → first ≡ device_filter job n → ServesAll ServesDeviceLine first last (streams_found found) (streams_left left)
    → TakesSuch last.device (AreDue (due_verdict last.options.auto last.device)) end []
    → OnOk r (found.is_known ≡ true → IfSome job.report (λ p. left.held p.now ≡ Some (device_report end)))
    → OnOk r (ServesNode job n found left)
node_served (Ok u) job n first last end found left is served due reported = record {
  last = last;
  end = end;
  served = subst (λ (f : DeviceFilterOf). ServesAll ServesDeviceLine f last (streams_found found) (streams_left left)) is served;
  due = due;
  reported = reported;
}
node_served (Err e) job n first last end found left is served due reported = tt

pub node_unreported : (r : Result (Prim.Unit {0}) JobFault) (job : DeviceAlone) (n : DeviceNodeOf) (first last : DeviceFilterOf) (found : FoundOf) (left : LeftOf)
    → first ≡ device_filter job n → ServesAll ServesDeviceLine first last (streams_found found) (streams_left left)
    → IfErr r (λ e. (e ≡ faults.Memory) ⊎ ((e ≡ faults.Report) × IsSome job.report)) → OnErr r (left.held ≡ found.held)
    → IfErr r (λ e. NodeEnds job n e found left)
node_unreported (Ok u) job n first last found left is served fault unmade = tt
node_unreported (Err e) job n first last found left is served fault unmade = inr (inl (record {
  is = fault;
  unmade = unmade;
  last = last;
  served = subst (λ (f : DeviceFilterOf). ServesAll ServesDeviceLine f last (streams_found found) (streams_left left)) is served;
}))

pub node_lacks : (job : DeviceAlone) (n : DeviceNodeOf) (first last : DeviceFilterOf) (found : FoundOf) (left : LeftOf)
    → first ≡ device_filter job n → ServesAll ServesDeviceLine first last (streams_found found) (streams_left left) → left.held ≡ found.held → NodeEnds job n faults.Memory found left
node_lacks job n first last found left is served unmade = inr (inl (record {
  is = inl refl;
  unmade = unmade;
  last = last;
  served = subst (λ (f : DeviceFilterOf). ServesAll ServesDeviceLine f last (streams_found found) (streams_left left)) is served;
}))

pub node_stops : (job : DeviceAlone) (n : DeviceNodeOf) (first last : DeviceFilterOf) (fault : AnswerFault) (found : FoundOf) (left : LeftOf)
    → first ≡ device_filter job n → ServingEnds ServesDeviceLine true first last fault (streams_found found) (streams_left left) → left.held ≡ found.held
    → NodeEnds job n (faults.Answer fault) found left
node_stops job n first last fault found left is ends unmade = inl (record {
  last = last;
  ends = record {
    fault = fault;
    is = refl;
    ends = subst (λ (f : DeviceFilterOf). ServingEnds ServesDeviceLine true f last fault (streams_found found) (streams_left left)) is ends;
    unmade = unmade;
  };
})

-- the one device of a setup
pub one_of : (ds : List DeviceConfig) (d : DeviceConfig) → length ds ≡ 1 → d ≡ slice_index_or ds 0 d → map device_of ds ≡ device_of d ∷ []
one_of [] d one is = absurd (omega (arith, one))
one_of (x ∷ []) d one is = ap (λ (y : DeviceConfig). device_of y ∷ []) (sym is)
one_of (x ∷ (y ∷ ds)) d one is = absurd (omega (arith, one))

pub stored_one : (s : StoresOf) (ds es : List DeviceConfig) → length ds ≡ 1 → HaveStoredImages s (map device_of ds) (map device_of es) → length es ≡ 1
stored_one s [] es one h = absurd (omega (arith, one))
stored_one s (x ∷ []) [] one h = absurd h
stored_one s (x ∷ []) (y ∷ []) one h = refl
stored_one s (x ∷ []) (y ∷ (z ∷ es)) one h = absurd h.1
stored_one s (x ∷ (w ∷ ds)) es one h = absurd (omega (arith, one))

pub stocked_none : (stores : List ℕ → StoresOf) (root : Option (List ℕ)) (ds : List DeviceConfig) (d : DeviceConfig) → root ≡ None → length ds ≡ 1 → d ≡ slice_index_or ds 0 d
    → AreDevices (option_map stores root) (map device_of ds) (device_of d ∷ [])
stocked_none stores root ds d none one is = subst (λ xs. AreDevices (option_map stores root) (map device_of ds) xs) (one_of ds d one is) (none_stocked stores root (map device_of ds) none)

pub stocked_some : (stores : List ℕ → StoresOf) (root : Option (List ℕ)) (folder : List ℕ) (ds es : List DeviceConfig) (d : DeviceConfig) → root ≡ Some folder → length ds ≡ 1
    → HaveStoredImages (stores folder) (map device_of ds) (map device_of es) → d ≡ slice_index_or es 0 d → AreDevices (option_map stores root) (map device_of ds) (device_of d ∷ [])
stocked_some stores root folder ds es d some one h is =
    subst (λ xs. AreDevices (option_map stores root) (map device_of ds) xs) (one_of es d (stored_one (stores folder) ds es one h) is)
    (some_stocked stores root folder (map device_of ds) (map device_of es) some h)

pub device_first : (agent : ℕ) (es : List DeviceConfig) (d : DeviceConfig) → AreWhole agent (map device_of es) → length es ≡ 1 → d ≡ slice_index_or es 0 d → IsDevice (device_of d)
device_first agent es d whole one is = (subst (λ xs. AllByRecursion IsDevice xs) (one_of es d one is) whole.each).0

-- a device of a setup that was served
pub setup_served : (r : Result (Prim.Unit {0}) JobFault) (job : DeviceAlone) (s : DeviceSetupOf) (stocked : DeviceConfigOf) (n : DeviceNodeOf) (found : FoundOf) (left : LeftOf)
    → n ≡ node_made s.unit s.agent stocked → AreDevices (device_source job found).stores s.only (stocked ∷ [])
    → OnOk r (ServesNode job n found left) → OnOk r (ServesSetup job s found left)
setup_served (Ok u) job s stocked n found left is images serves = record {
  stocked = stocked;
  images = images;
  serves = subst (λ (m : DeviceNodeOf). ServesNode job m found left) is serves;
}
setup_served (Err e) job s stocked n found left is images serves = tt

pub setup_ends : (r : Result (Prim.Unit {0}) JobFault) (job : DeviceAlone) (s : DeviceSetupOf) (stocked : DeviceConfigOf) (n : DeviceNodeOf) (found : FoundOf) (left : LeftOf)
    → n ≡ node_made s.unit s.agent stocked → AreDevices (device_source job found).stores s.only (stocked ∷ [])
    → IfErr r (λ e. NodeEnds job n e found left) → IfErr r (λ e. SetupEnds job s e found left)
setup_ends (Ok u) job s stocked n found left is images ends = tt
setup_ends (Err e) job s stocked n found left is images ends = inl (record {
  stocked = stocked;
  images = images;
  ends = subst (λ (m : DeviceNodeOf). NodeEnds job m e found left) is ends;
})

-- a device of a configuration that was served
pub device_served : (r : Result (Prim.Unit {0}) JobFault) (job : DeviceAlone) (s : DeviceSetupOf) (found : FoundOf) (left : LeftOf) → IsDeviceSetup job found.files s
    → OnOk r (ServesSetup job s found left) → OnOk r (ServesDevice job found left)
device_served (Ok u) job s found left begins serves = record { setup = s; begins = begins; serves = serves }
device_served (Err e) job s found left begins serves = tt

pub device_ends : (r : Result (Prim.Unit {0}) JobFault) (job : DeviceAlone) (s : DeviceSetupOf) (found : FoundOf) (left : LeftOf) → IsDeviceSetup job found.files s
    → IfErr r (λ e. SetupEnds job s e found left) → IfErr r (λ e. DeviceEnds job e found left)
device_ends (Ok u) job s found left begins ends = tt
device_ends (Err e) job s found left begins ends = inl (record { setup = s; begins = begins; ends = ends })

-- the agent that was served
pub filter_served : (r : Result (Prim.Unit {0}) JobFault) (job : AgentAlone) (first last : AgentFilterOf) (end : ServedAgentOf) (found : FoundOf) (left : LeftOf)
    → ServesAll ServesAgentLine first last (streams_found found) (streams_left left) → end ≡ agent_end last
    → OnOk r (found.is_known ≡ true → IfSome job.report (λ p. left.held p.now ≡ Some (agent_report end)))
    → OnOk r (found.is_known ≡ true → job.report ≡ None → IfSome job.log (λ p. left.held p.now ≡ Some (records_bytes end.agent.log.records)))
    → OnOk r (ServesFilter job first found left)
filter_served (Ok u) job first last end found left served is reported logged = record {
  last = last;
  served = served;
  reported = subst (λ (a : ServedAgentOf). found.is_known ≡ true → IfSome job.report (λ p. left.held p.now ≡ Some (agent_report a))) is reported;
  logged = subst (λ (a : ServedAgentOf). found.is_known ≡ true → job.report ≡ None → IfSome job.log (λ p. left.held p.now ≡ Some (records_bytes a.agent.log.records))) is logged;
}
filter_served (Err e) job first last end found left served is reported logged = tt

pub filter_unkept : (r : Result (Prim.Unit {0}) JobFault) (job : AgentAlone) (first last : AgentFilterOf) (end : ServedAgentOf) (found : FoundOf) (left : LeftOf)
    → ServesAll ServesAgentLine first last (streams_found found) (streams_left left) → end ≡ agent_end last
    → IfErr r (λ e. (e ≡ faults.Memory) ⊎ (((e ≡ faults.Log) × IsSome job.log) ⊎ ((e ≡ faults.Report) × IsSome job.report)))
    → OnErr r ((left.held ≡ found.held) ⊎ (found.is_known ≡ true → IfSome job.log (λ p. left.held p.now ≡ Some (records_bytes end.agent.log.records))))
    → IfErr r (λ e. FilterEnds job first e found left)
filter_unkept (Ok u) job first last end found left served is fault kept = tt
filter_unkept (Err e) job first last end found left served is fault kept = record {
  last = last;
  ends = inr ((fault, subst (λ (a : ServedAgentOf). (left.held ≡ found.held) ⊎ (found.is_known ≡ true → IfSome job.log (λ p. left.held p.now ≡ Some (records_bytes a.agent.log.records)))) is kept), served);
}

-- the agent with its packages
pub packages_served : (r : Result (Prim.Unit {0}) JobFault) (job : AgentAlone) (config : ConfigOf) (contents : List (List ℕ)) (packages : List PackageText) (first : AgentFilterOf) (found : FoundOf) (left : LeftOf)
    → first ≡ agent_filter job config packages → map (λ p. Ok p) packages ≡ map package_of contents
    → OnOk r (ServesFilter job first found left) → OnOk r (ServesPackages job config contents found left)
packages_served (Ok u) job config contents packages first found left is are serves = record {
  packages = packages;
  are = are;
  serves = subst (λ (f : AgentFilterOf). ServesFilter job f found left) is serves;
}
packages_served (Err e) job config contents packages first found left is are serves = tt

pub packages_end : (r : Result (Prim.Unit {0}) JobFault) (job : AgentAlone) (config : ConfigOf) (contents : List (List ℕ)) (packages : List PackageText) (first : AgentFilterOf) (found : FoundOf) (left : LeftOf)
    → first ≡ agent_filter job config packages → map (λ p. Ok p) packages ≡ map package_of contents
    → IfErr r (λ e. FilterEnds job first e found left) → IfErr r (λ e. PackagesEnd job config contents e found left)
packages_end (Ok u) job config contents packages first found left is are ends = tt
packages_end (Err e) job config contents packages first found left is are ends = inl (record {
  packages = packages;
  are = are;
  ends = subst (λ (f : AgentFilterOf). FilterEnds job f e found left) is ends;
})

-- the agent of a configuration
pub agent_served : (r : Result (Prim.Unit {0}) JobFault) (job : AgentAlone) (config : ConfigOf) (contents : List (List ℕ)) (found : FoundOf) (left : LeftOf)
    → Says config_of (found.files job.config.now) config → AreOutputsApart job found.files config.packages → ArePacked found.files config.packages contents
    → OnOk r (ServesPackages job config contents found left) → OnOk r (ServesAgent job found left)
agent_served (Ok u) job config contents found left says apart packed serves = record {
  config = config;
  says = says;
  apart = apart;
  packages = serves.packages;
  are = packages_so found.files config.packages contents serves.packages packed serves.are;
  serves = serves.serves;
}
agent_served (Err e) job config contents found left says apart packed serves = tt

agent_broken : (e : JobFault) (job : AgentAlone) (config : ConfigOf) (contents : List (List ℕ)) (found : FoundOf) (left : LeftOf)
    → Says config_of (found.files job.config.now) config → AreOutputsApart job found.files config.packages → ArePacked found.files config.packages contents
    → PackagesEnd job config contents e found left → AgentEnds job e found left
agent_broken e job config contents found left says apart packed (inl broken) = inl (record {
  config = config;
  says = says;
  apart = apart;
  packages = broken.packages;
  are = packages_so found.files config.packages contents broken.packages packed broken.are;
  ends = broken.ends;
})
agent_broken e job config contents found left says apart packed (inr none) = inr (inl none.0, none.1)

pub agent_ends : (r : Result (Prim.Unit {0}) JobFault) (job : AgentAlone) (config : ConfigOf) (contents : List (List ℕ)) (found : FoundOf) (left : LeftOf)
    → Says config_of (found.files job.config.now) config → AreOutputsApart job found.files config.packages → ArePacked found.files config.packages contents
    → IfErr r (λ e. PackagesEnd job config contents e found left) → IfErr r (λ e. AgentEnds job e found left)
agent_ends (Ok u) job config contents found left says apart packed ends = tt
agent_ends (Err e) job config contents found left says apart packed ends = agent_broken e job config contents found left says apart packed ends
