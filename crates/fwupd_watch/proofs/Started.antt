-- Updates that are started one by one, and the steps after them.
use Rattle.std.proofs.Common.{◌≡◌, ◌≢◌, ◌≤◌, ◌⊎◌, ◌+◌, ◌-◌, ◌^◌, ◌++◌, ◌∙◌, ℕ, zero, suc, List, [], ◌∷◌, Some, None, false, true, Result, Err, inl, inr, append_assoc, append-nil, arith, length, map, refl, sym, ap, subst, take}
use Rattle.std.specs.Prelude.{IfErr, IfSome, Option, is_some, option_map, slice_get}
use Rattle.std.proofs.Math.Seq.{take-length}
use Rattle.std.proofs.lemmas.List.{map-append}
use Rattle.std.proofs.lemmas.List.Sums.{sum_by-append}
use Rattle.fw_edge.specs.Drives.{AreDriven, Drives, tick_in, ticks_in}
use Rattle.fw_edge.proofs.Going.{driven_append, run_append}
use Rattle.fw_edge.proofs.Rising.{map_length}
use Rattle.fw_edge.specs.Ledgers.{OneFailed, packet_counts}
use Rattle.fw_edge.specs.Links.{CountsOne}
use Rattle.fw_node.specs.Nodes.{DeviceNodeOf}
use Rattle.fw_steps.specs.Steps.{StepsTo, Run, may_step}
use Rattle.fw_steps.specs.Replays.{RefusesStep}
use Rattle.fw_steps.specs.Worlds.{SiteOf, WorldOf}
use Rattle.fw_steps.specs.declared.step.StepFault.{StepFault}
use Rattle.fw_steps.specs.declared.step.StepFault.TheVariants as refusals
use Rattle.fw_steps.specs.declared.step.Step.{Step}
use Rattle.fw_steps.specs.declared.step.Step.TheVariants as steps
use Rattle.fw_edge.specs.declared.driving.EdgeFault.{EdgeFault}
use Rattle.fw_edge.specs.declared.driving.EdgeFault.TheVariants as edges
use Rattle.fwupd_watch.specs.Running.{ReportsLinkFailures, IsCaused, IsRefusedStart, HasObserverFault, HasStarted, MayEnd, MayStart, RunsSteps, RunsStepsSeen, UpdatesDevices, ObserverOf, starts_of, job_fault_of_observer, job_fault_of, observer_fault_of}
use Rattle.fwupd_watch.specs.declared.faults.JobFault.{JobFault}
use Rattle.fwupd_watch.specs.declared.faults.JobFault.TheVariants as told
use Rattle.fwupd_watch.specs.declared.running.ObserverFault.{ObserverFault}
use Rattle.fwupd_watch.specs.declared.running.ObserverFault.TheVariants as watches

pub take_next : {A : Type 0} (xs : List A) (i : ℕ) (x : A) → slice_get xs i ≡ Some x → take (suc i) xs ≡ take i xs ++ x ∷ []
take_next [] i x e = absurd cc
take_next (y ∷ ys) zero x e = ap (λ z. z ∷ []) (let same : Some y ≡ Some x = e in cc)
take_next (y ∷ ys) (suc i) x e = ap (λ zs. y ∷ zs) (take_next ys i x e)

-- The updates of the first `place` devices are started. A start changes no device.
pub record Begun (numbers : ℕ → ℕ) (w : WorldOf) (place : ℕ) (v : WorldOf) : Type 0 where
  pub run : Run w (starts_of numbers (take place w.sites)) v
  pub same : v.sites ≡ w.sites
  pub still : v.history ≡ w.history

pub begun_none : (numbers : ℕ → ℕ) (w : WorldOf) → Begun numbers w 0 w
begun_none numbers w = record { run = refl; same = refl; still = refl }

abbrev start_of : (ℕ → ℕ) → SiteOf → Step
start_of numbers x = steps.Start x.node.endpoint.eid (numbers x.node.endpoint.eid)

starts_next : (numbers : ℕ → ℕ) (xs : List SiteOf) (place : ℕ) (x : SiteOf) → slice_get xs place ≡ Some x → starts_of numbers (take (suc place) xs) ≡ starts_of numbers (take place xs) ++ start_of numbers x ∷ []
starts_next numbers xs place x e = ap (starts_of numbers) (take_next xs place x e) ∙ map-append (start_of numbers) (take place xs) (x ∷ [])

pub begun_more : (numbers : ℕ → ℕ) (w v u : WorldOf) (place : ℕ) (x : SiteOf) → Begun numbers w place v → slice_get v.sites place ≡ Some x → StepsTo v (steps.Start x.node.endpoint.eid (numbers x.node.endpoint.eid)) u → Begun numbers w (place + 1) u
begun_more numbers w v u place x h e l = record {
  run =
      let next : suc place ≡ place + 1 = omega arith in
      subst (λ ss. Run w ss u) (sym (starts_next numbers w.sites place x (ap (λ xs. slice_get xs place) (sym h.same) ∙ e)) ∙ ap (λ n. starts_of numbers (take n w.sites)) next)
      (run_append w v u (starts_of numbers (take place w.sites)) (start_of numbers x ∷ []) h.run (u, l, refl));
  same = ap (λ y. y.sites) l.after ∙ h.same;
  still = ap (λ y. y.history) l.after ∙ h.still;
}

-- the device at a place
pub node_there : (o : Option SiteOf) (n : DeviceNodeOf) → option_map (λ x. x.node) o ≡ Some n → (x : SiteOf) × (o ≡ Some x) × (x.node ≡ n)
node_there None n e = absurd cc
node_there (Some x) n e = (x, refl, (let same : Some x.node ≡ Some n = e in cc))

pub begun_by : (numbers : ℕ → ℕ) (w v u : WorldOf) (place device : ℕ) (n : DeviceNodeOf) → Begun numbers w place v → option_map (λ x. x.node) (slice_get v.sites place) ≡ Some n → device ≡ n.endpoint.eid
    → StepsTo v (steps.Start device (numbers device)) u → Begun numbers w (place + 1) u
begun_by numbers w v u place device n h at is l =
    let there = node_there (slice_get v.sites place) n at in
    let own : device ≡ there.0.node.endpoint.eid = is ∙ ap (λ m. m.endpoint.eid) (sym there.2) in
    begun_more numbers w v u place there.0 h there.1 (subst (λ d. StepsTo v (steps.Start d (numbers d)) u) own l)

-- its start isn't allowed
pub refused_at : (numbers : ℕ → ℕ) (w v : WorldOf) (place device : ℕ) (n : DeviceNodeOf) (fault : StepFault) → Begun numbers w place v → option_map (λ x. x.node) (slice_get v.sites place) ≡ Some n → device ≡ n.endpoint.eid
    → may_step v (steps.Start device (numbers device)) ≡ Some fault → IsRefusedStart numbers w v
refused_at numbers w v place device n fault h at is refused =
    let there = node_there (slice_get v.sites place) n at in
    let own : device ≡ there.0.node.endpoint.eid = is ∙ ap (λ m. m.endpoint.eid) (sym there.2) in
    record {
      place = place;
      site = there.0;
      at = ap (λ xs. slice_get xs place) (sym h.same) ∙ there.1;
      begun = h.run;
      fault = fault;
      refused = subst (λ d. may_step v (steps.Start d (numbers d)) ≡ Some fault) own refused;
    }

-- it isn't refused, except for lack of memory
not_other : (o : Option StepFault) (fault : StepFault) → (o ≡ Some refusals.Memory) ⊎ (o ≡ None) → fault ≢ refusals.Memory → o ≡ Some fault → ⊥
not_other o fault (inl memory) other is = other (let same : Some fault ≡ Some refusals.Memory = sym is ∙ memory in cc)
not_other o fault (inr none) other is = absurd (let bad : None ≡ Some fault = sym none ∙ is in cc)

none_other : (v : WorldOf) (s : Step) → RefusesStep v s refusals.Memory → (may_step v s ≡ Some refusals.Memory) ⊎ (may_step v s ≡ None)
none_other v s (inl e) = inl e
none_other v s (inr e) = inr e.2

pub allowed_at : (numbers : ℕ → ℕ) (w v : WorldOf) (place device : ℕ) (n : DeviceNodeOf) → Begun numbers w place v → option_map (λ x. x.node) (slice_get v.sites place) ≡ Some n → device ≡ n.endpoint.eid
    → RefusesStep v (steps.Start device (numbers device)) refusals.Memory → MayStart numbers w v
allowed_at numbers w v place device n h at is refused =
    let there = node_there (slice_get v.sites place) n at in
    let own : device ≡ there.0.node.endpoint.eid = is ∙ ap (λ m. m.endpoint.eid) (sym there.2) in
    record {
      place = place;
      site = there.0;
      at = ap (λ xs. slice_get xs place) (sym h.same) ∙ there.1;
      begun = h.run;
      allowed = λ fault other.
          not_other (may_step v (steps.Start there.0.node.endpoint.eid (numbers there.0.node.endpoint.eid))) fault
          (subst (λ d. (may_step v (steps.Start d (numbers d)) ≡ Some refusals.Memory) ⊎ (may_step v (steps.Start d (numbers d)) ≡ None)) own (none_other v (steps.Start device (numbers device)) refused))
          other;
    }

-- the listed steps lead to the world
pub begun_listed : (numbers : ℕ → ℕ) (w v : WorldOf) (place : ℕ) (ss : List Step) → Begun numbers w place v → ss ≡ starts_of numbers (take place w.sites) → Run w ss v
begun_listed numbers w v place ss h listed = subst (λ xs. Run w xs v) (sym listed) h.run

-- and listed
pub listed_by : (numbers : ℕ → ℕ) (w v : WorldOf) (place device : ℕ) (n : DeviceNodeOf) (before after : List Step) → Begun numbers w place v → option_map (λ x. x.node) (slice_get v.sites place) ≡ Some n
    → device ≡ n.endpoint.eid → before ≡ starts_of numbers (take place w.sites) → after ≡ before ++ steps.Start device (numbers device) ∷ [] → after ≡ starts_of numbers (take (place + 1) w.sites)
listed_by numbers w v place device n before after h at is listed more =
    let there = node_there (slice_get v.sites place) n at in
    let own : device ≡ there.0.node.endpoint.eid = is ∙ ap (λ m. m.endpoint.eid) (sym there.2) in
    let next : suc place ≡ place + 1 = omega arith in
    more ∙ ap (λ d. before ++ steps.Start d (numbers d) ∷ []) own ∙ ap (λ ss. ss ++ start_of numbers there.0 ∷ []) listed
    ∙ sym (starts_next numbers w.sites place there.0 (ap (λ xs. slice_get xs place) (sym h.same) ∙ there.1)) ∙ ap (λ k. starts_of numbers (take k w.sites)) next

pub listed_whole : (numbers : ℕ → ℕ) (w v : WorldOf) (place : ℕ) (ss : List Step) → Begun numbers w place v → place ≡ length v.sites → ss ≡ starts_of numbers (take place w.sites) → ss ≡ starts_of numbers w.sites
listed_whole numbers w v place ss h e listed = listed ∙ ap (starts_of numbers) (ap (λ n. take n w.sites) (e ∙ ap length h.same) ∙ take-length w.sites)

pub begun_all : (numbers : ℕ → ℕ) (w v : WorldOf) (place : ℕ) → Begun numbers w place v → place ≡ length v.sites → Run w (starts_of numbers w.sites) v
begun_all numbers w v place h e =
    subst (λ xs. Run w (starts_of numbers xs) v) (ap (λ n. take n w.sites) (e ∙ ap length h.same) ∙ take-length w.sites) h.run

pub begun_reached : (numbers : ℕ → ℕ) (w v : WorldOf) (place : ℕ) → Begun numbers w place v → RunsSteps numbers w v
begun_reached numbers w v place h = record {
  started = place;
  steps = [];
  run = subst (λ ss. Run w ss v) (sym (append-nil (starts_of numbers (take place w.sites)))) h.run;
  driven = refl;
  all = inl refl;
}

-- steps that are taken when all updates are started
led : (numbers : ℕ → ℕ) (w v : WorldOf) (ss : List Step) → Run w (starts_of numbers w.sites ++ ss) v → AreDriven ss → RunsSteps numbers w v
led numbers w v ss run driven = record {
  started = length w.sites;
  steps = ss;
  run = subst (λ xs. Run w (starts_of numbers xs ++ ss) v) (sym (take-length w.sites)) run;
  driven = driven;
  all = inr refl;
}

-- no tick has passed
pub updates_none : (numbers : ℕ → ℕ) (w v : WorldOf) → Run w (starts_of numbers w.sites) v → UpdatesDevices numbers w v 0
updates_none numbers w v h = record { steps = []; run = subst (λ ss. Run w ss v) (sym (append-nil (starts_of numbers w.sites))) h; driven = refl; ticks_are = refl }

-- steps are taken over links, with `more` ticks
pub updates_more : (numbers : ℕ → ℕ) (w v u : WorldOf) (ticks more : ℕ) (before after : List Step) → UpdatesDevices numbers w v ticks → before ≡ [] → Drives v before u after → ticks_in after ≡ ticks_in before + more → UpdatesDevices numbers w u (ticks + more)
updates_more numbers w v u ticks more before after h none k counts = record {
  steps = h.steps ++ k.steps;
  run =
      subst (λ ss. Run w ss u) (append_assoc (starts_of numbers w.sites) h.steps k.steps)
      (run_append w v u (starts_of numbers w.sites ++ h.steps) k.steps h.run k.run);
  driven = driven_append h.steps k.steps h.driven k.driven;
  ticks_are =
      let a : ticks_in h.steps ≡ ticks = h.ticks_are in
      let all : after ≡ k.steps = k.appended ∙ ap (λ ss. ss ++ k.steps) none in
      let none_before : ticks_in before ≡ 0 = ap ticks_in none in
      let b : ticks_in k.steps ≡ more = ap ticks_in (sym all) ∙ counts ∙ omega arith in
      sum_by-append tick_in h.steps k.steps ∙ omega arith;
}

-- in each case, steps lead to the world
pub updates_reached : (numbers : ℕ → ℕ) (w v : WorldOf) (ticks : ℕ) → UpdatesDevices numbers w v ticks → RunsSteps numbers w v
updates_reached numbers w v ticks h = led numbers w v h.steps h.run h.driven

pub updates_off : (numbers : ℕ → ℕ) (w v u : WorldOf) (ticks : ℕ) (before after : List Step) → UpdatesDevices numbers w v ticks → Drives v before u after → RunsSteps numbers w u
updates_off numbers w v u ticks before after h k =
    led numbers w u (h.steps ++ k.steps)
    (subst (λ ss. Run w ss u) (append_assoc (starts_of numbers w.sites) h.steps k.steps)
    (run_append w v u (starts_of numbers w.sites ++ h.steps) k.steps h.run k.run))
    (driven_append h.steps k.steps h.driven k.driven)

-- the observer saw each tick
pub updates_seen : (numbers : ℕ → ℕ) (w v : WorldOf) (ticks seen : ℕ) → UpdatesDevices numbers w v ticks → seen ≡ ticks → RunsStepsSeen numbers w v seen
unfolding updates_reached led
updates_seen numbers w v ticks seen h is =
    let all : ticks_in (updates_reached numbers w v ticks h).steps ≡ ticks = h.ticks_are in
    record { lead = updates_reached numbers w v ticks h; each = omega arith; few = omega arith }

-- also a turn that stopped, or was over before it began
pub updates_seen_off : (numbers : ℕ → ℕ) (w v u : WorldOf) (ticks seen : ℕ) (before after : List Step) → UpdatesDevices numbers w v ticks → before ≡ [] → Drives v before u after → ticks_in after ≤ ticks_in before + 1
    → seen ≡ ticks + 1 → RunsStepsSeen numbers w u seen
unfolding updates_off led
updates_seen_off numbers w v u ticks seen before after h none k few is =
    let a : ticks_in h.steps ≡ ticks = h.ticks_are in
    let all : after ≡ k.steps = k.appended ∙ ap (λ ss. ss ++ k.steps) none in
    let none_before : ticks_in before ≡ 0 = ap ticks_in none in
    let same : ticks_in after ≡ ticks_in k.steps = ap ticks_in all in
    let sum : ticks_in (updates_off numbers w v u ticks before after h k).steps ≡ ticks_in h.steps + ticks_in k.steps = sum_by-append tick_in h.steps k.steps in
    record { lead = updates_off numbers w v u ticks before after h k; each = omega arith; few = omega arith }

-- no turn was observed before all updates are started
pub begun_seen : (numbers : ℕ → ℕ) (w v : WorldOf) (place : ℕ) → Begun numbers w place v → RunsStepsSeen numbers w v 0
unfolding begun_reached
begun_seen numbers w v place h =
    let none : ticks_in (begun_reached numbers w v place h).steps ≡ 0 = refl in
    record { lead = begun_reached numbers w v place h; each = omega arith; few = omega arith }

-- an observer's fault differs from that of a turn
pub watched_apart : (f : ObserverFault) (e : EdgeFault) → job_fault_of_observer f ≡ told.Edge e → ⊥
watched_apart watches.Unwritten e h = cc
watched_apart watches.Unlogged e h = cc
watched_apart watches.Unrecorded e h = cc
watched_apart watches.Unkept e h = cc
watched_apart watches.Memory e h = cc

pub turned_apart : (e : EdgeFault) (fault : JobFault) (seen : Option ObserverFault) → fault ≡ job_fault_of e → HasObserverFault fault seen
turned_apart edges.Frame fault seen e = rw e tt
turned_apart edges.Step fault seen e = rw e tt
turned_apart edges.Memory fault seen e = rw e tt

pub may_end : (e : EdgeFault) (fault : JobFault) → fault ≡ job_fault_of e → MayEnd fault
may_end edges.Frame fault e = rw e (inr tt)
may_end edges.Step fault e = rw e (inr tt)
may_end edges.Memory fault e = inl e

-- a link's fault is reported as one, after turns in which none failed
pub told_links : (e : EdgeFault) (fault : JobFault) (os ms ns : List ℕ) → fault ≡ job_fault_of e → ms ≡ os
    → (e ≡ edges.Frame → OneFailed ms ns) × (e ≢ edges.Frame → ns ≡ ms) → ReportsLinkFailures fault os ns
told_links edges.Frame fault os ms ns e same h = (λ is. subst (λ xs. OneFailed xs ns) same (h.0 refl), λ other. absurd (other e))
told_links edges.Step fault os ms ns e same h = (λ is. absurd (let no = sym e ∙ is in cc), λ other. h.1 (λ no. cc) ∙ same)
told_links edges.Memory fault os ms ns e same h = (λ is. absurd (let no = sym e ∙ is in cc), λ other. h.1 (λ no. cc) ∙ same)

-- a fault that isn't an observer's
pub none_unwritten : (fault : JobFault) (seen : Option ObserverFault) → observer_fault_of fault ≡ None → HasObserverFault fault seen
none_unwritten fault seen e = rw e tt

pub none_begun : (numbers : ℕ → ℕ) (w v : WorldOf) (fault : JobFault) → observer_fault_of fault ≡ None → is_some (observer_fault_of fault) ≡ true → HasStarted numbers w v
none_begun numbers w v fault none some = absurd (let no : false ≡ true = subst (λ o. is_some o ≡ true) none some in cc)

pub turned_unseen : (e : EdgeFault) (fault : JobFault) → fault ≡ job_fault_of e → observer_fault_of fault ≡ None
turned_unseen edges.Frame fault e = rw e refl
turned_unseen edges.Step fault e = rw e refl
turned_unseen edges.Memory fault e = rw e refl

-- an output of the observer can't be written
pub unwritten_by : (f : ObserverFault) (seen : Option ObserverFault) (fault : JobFault) → fault ≡ job_fault_of_observer f → seen ≡ Some f → HasObserverFault fault seen
unwritten_by watches.Unwritten seen fault e is = rw e is
unwritten_by watches.Unlogged seen fault e is = rw e is
unwritten_by watches.Unrecorded seen fault e is = rw e is
unwritten_by watches.Unkept seen fault e is = rw e is
unwritten_by watches.Memory seen fault e is = rw e tt

-- and its first fault is kept
first_still : (r : Result (Prim.Unit {0}) ObserverFault) (old new : Option ObserverFault) (f : ObserverFault) → old ≡ Some f → IfSome old (λ g. r ≡ Err g) → IfErr r (λ g. new ≡ Some g) → new ≡ Some f
first_still r old new f e first after =
    let is : r ≡ Err f = subst (λ o. IfSome o (λ g. r ≡ Err g)) e first in
    subst (λ q. IfErr q (λ g. new ≡ Some g)) is after

pub unwritten_still : (r : Result (Prim.Unit {0}) ObserverFault) (old new : Option ObserverFault) (fault : JobFault) → HasObserverFault fault old → IfSome old (λ g. r ≡ Err g) → IfErr r (λ g. new ≡ Some g) → HasObserverFault fault new
unwritten_still r old new fault h first after = go (observer_fault_of fault) h
  where
    go : (o : Option ObserverFault) → IfSome o (λ f. old ≡ Some f) → IfSome o (λ f. new ≡ Some f)
    go None is = tt
    go (Some f) is = first_still r old new f is first after

-- the cause of an update's end
pub update_caused : (numbers : ℕ → ℕ) (w v : WorldOf) (fault : JobFault) (watched : ObserverOf) → MayEnd fault → (fault ≡ told.Edge edges.Step → IsRefusedStart numbers w v ⊎ (v.now ≡ 2 ^ 32 - 1))
    → HasObserverFault fault watched.fault → (is_some (observer_fault_of fault) ≡ true → HasStarted numbers w v) → watched.has_ended ≡ true → (fault ≡ told.Memory) ⊎ IsCaused numbers w v fault watched
update_caused numbers w v fault watched (inl e) step unwritten begun ended = inl e
update_caused numbers w v fault watched (inr b) step unwritten begun ended =
    inr (record { broken = b; stopped = step; unwritten = unwritten; begun = begun; let_end = ended })

pub caused_unwritten : (numbers : ℕ → ℕ) (w v : WorldOf) (fault : JobFault) (watched : ObserverOf) → (fault ≡ told.Memory) ⊎ IsCaused numbers w v fault watched → HasObserverFault fault watched.fault
caused_unwritten numbers w v fault watched (inl e) = rw e tt
caused_unwritten numbers w v fault watched (inr h) = h.unwritten

-- as many counts as there are links, one for each pair
pub counted_alike : {A : Type 0} (sites : List SiteOf) (f : A → ℕ) (xs : List A) → length xs ≡ length sites → length (packet_counts sites) ≡ length (map f xs)
counted_alike sites f xs e = map_length (λ x. length x.packets) sites ∙ sym e ∙ sym (map_length f xs)

-- one more turn is observed
pub seen_next : (old new n : ℕ) → n ≤ 80000 → old ≡ n → CountsOne old new → new ≡ n + 1
seen_next old new n few is (inl more) = omega (arith, is, more)
seen_next old new n few is (inr last) = absurd (omega (arith, is, last.0))
