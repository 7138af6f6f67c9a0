-- The headline holds for separate processes (`traces_are_safe`): up to a unit their trace is cut,
-- the rest is a play, and a play is safe.
use Rattle.std.proofs.Common.{◌≡◌, ◌==◌, ◌∷◌, ℕ, Bool, true, false, if◌then◌else◌, List, [], Option, Some, None, IfSome, IsSomeAnd, refl, sym, ap, subst}
use Rattle.std.specs.Option.{option_map}
use Rattle.fw_package.specs.Package.{PackageText}
use Rattle.fw_message.specs.Headline.{IsSafeAndTied}
use Rattle.fw_message.specs.Pairs.{PairOf}
use Rattle.fw_message.specs.WorldLaws.{history_of}
use Rattle.fw_steps.specs.Alone.{pair_of_nodes}
use Rattle.fw_message.specs.Laws.{shown_pair}
use Rattle.fw_steps.specs.Promises.{PacketsAreSafe}
use Rattle.fw_steps.specs.Plays.{EndsSafely, DeviceProcess, IsRun, device_process_after}
use Rattle.fw_steps.specs.Traces.{Act, AreSafeProcesses, DeviceAct, IsPlay, ProcessesOf, TracesAreSafe, processes_after_act, processes_after, device_process_after_act, new_process, processes_of, processes_at, acts_until}
use Rattle.fw_steps.specs.Worlds.{SiteOf, WorldOf, pair_for, site_for}
use Rattle.fw_steps.proofs.PlaysAreRuns.Runs.{plays_are_safe}
use Rattle.fw_steps.proofs.TracesAreCut.{traces_are_cut}
use Rattle.fw_steps.proofs.TracesArePlays.Plays.{traces_are_plays}

-- A property of the play's process of a device is a property of the process of the device.
device_by : (o : Option SiteOf) (q : Option DeviceProcess) (P : DeviceProcess → Type 0) (f : SiteOf → DeviceProcess) → IfSome o (λ x. q ≡ Some (f x)) → (o ≡ None → q ≡ None) → IfSome o (λ x. P (f x)) → IfSome q P
device_by None q P f same none h = subst (λ z. IfSome z P) (sym (none refl)) tt
device_by (Some x) q P f same none h = subst (λ z. IfSome z P) (sym same) h

pair_by : (o : Option PairOf) (P Q : PairOf → Type 0) → ((m : PairOf) → P m → Q m) → IfSome o P → IfSome o Q
pair_by None P Q f h = tt
pair_by (Some m) P Q f h = f m h

safe_by : (opening : WorldOf) (ps : ProcessesOf) (p : IsPlay opening ps) (r : IsRun opening p.play) → ((eid : ℕ) → site_for opening.sites eid ≡ None → ps.device eid ≡ None) → EndsSafely opening p.play r.world → AreSafeProcesses opening ps
safe_by opening ps p r none safe = record {
  play = p;
  run = r;
  safe = λ eid. pair_by (pair_for opening eid) _ _
      (λ m h. device_by (site_for opening.sites eid) (ps.device eid)
      (λ q. IsSomeAnd (pair_of_nodes ps.agent.node eid q.node) (λ n. IsSafeAndTied opening.packages (shown_pair m []) (shown_pair n (history_of eid r.world.history))))
      (λ x. device_process_after eid x.node p.play) (p.devices eid) (none eid)
      (subst (λ a. IfSome (site_for opening.sites eid) (λ x. IsSomeAnd (pair_of_nodes a.node eid (device_process_after eid x.node p.play).node)
      (λ n. IsSafeAndTied opening.packages (shown_pair m []) (shown_pair n (history_of eid r.world.history))))) p.agent h)) (safe eid);
}

-- There are no processes of devices that aren't there.
none_if : (mine : Bool) (d : DeviceAct) (o : Option DeviceProcess) → o ≡ None → (if mine then option_map (device_process_after_act d) o else o) ≡ None
none_if true d o e = ap (option_map (device_process_after_act d)) e
none_if false d o e = e

stays_none : (packages : List PackageText) (ps : ProcessesOf) (eid : ℕ) (xs : List Act) → ps.device eid ≡ None → (processes_after packages ps xs).device eid ≡ None
stays_none packages ps eid [] e = e
stays_none packages ps eid (Act.OfAgent d ∷ xs) e = stays_none packages (processes_after_act packages ps (Act.OfAgent d)) eid xs e
stays_none packages ps eid (Act.OfDevice device d ∷ xs) e = stays_none packages (processes_after_act packages ps (Act.OfDevice device d)) eid xs (none_if (device == eid) d (ps.device eid) e)

pub traces_are_safe : PacketsAreSafe → TracesAreSafe
traces_are_safe safe opening trace unit opens may reached =
    let cut = traces_are_cut opening trace unit may reached in
    let p = traces_are_plays opening _ unit cut.may cut.ends in
    let r = plays_are_safe safe opening p.play opens p.may in
    safe_by opening (processes_at opening trace unit) p r.0 (λ eid e. stays_none opening.packages (processes_of opening) eid (acts_until opening.packages unit (processes_of opening) trace) (ap (option_map new_process) e)) r.1
