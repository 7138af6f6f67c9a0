-- The state between the agent and a device after a run: it depends on the state before and on the
-- steps that concern the device, so two runs that agree in both give the same state.
use Rattle.std.proofs.Common.{◌≡◌, ◌≢◌, ◌⊎◌, ◌∙◌, ◌≤◌, ◌<◌, ◌-◌, ◌^◌, ◌==◌, ◌&&◌, ◌||◌, ◌+◌, ℕ, Bool, true, false, cond, List, [], ◌∷◌, map, Option, Some, None, inl, inr, refl, sym, ap, subst, arith}
use Rattle.std.specs.List.{filter}
use Rattle.std.specs.Prelude.{IfSome}
use Rattle.std.proofs.lemmas.Bool.{cases_lt}
use Rattle.exch_lane.specs.Laws.{LaneIsACell}
use Rattle.fw_package.specs.Package.{PackageText}
use Rattle.fd_core.specs.Banks.{CountsFailure}
use Rattle.ua_core.specs.Session.{TimedOf}
use Rattle.fw_message.specs.WorldLaws.{history_of}
use Rattle.fw_node.specs.Agents.{half_for}
use Rattle.fw_node.specs.Halves.{HalfOf}
use Rattle.fw_steps.specs.BankCalls.{step_calls_bank}
use Rattle.fw_steps.specs.Counts.{CountsNeedCalls}
use Rattle.fw_steps.specs.Promises.{IsReached}
use Rattle.fw_steps.specs.Steps.{StepsTo, Run}
use Rattle.fw_steps.specs.Isolation.{AgreeIn, ConcernOf, DevicesAreIsolated, IsUnfailed, SharedOf, concern_of, concerns_device, faults_at, shared_by, shared_with, steps_of, node_without_faults}
use Rattle.fw_steps.specs.LinksAreMessages.{LinksAreMessages}
use Rattle.fw_steps.specs.LinksAreLanes.{LinksAreLanes}
use Rattle.fw_steps.specs.Links.{LinkOf, LinkStep}
use Rattle.fw_steps.specs.Worlds.{SiteOf, WorldOf, pair_with, site_for}
use Rattle.fw_steps.specs.declared.step.Step.{Step}
use Rattle.fw_steps.specs.declared.step.Step.TheVariants as steps
use Rattle.fw_steps.proofs.DevicesAreIsolated.Counts.{GoesWell, count_stays, goes_or_fails}
use Rattle.fw_steps.proofs.DevicesAreIsolated.Seen.{IsSeen, SeenOf, seen_after, seen_then}
use Rattle.fw_steps.proofs.LinksAreLanes.Delivered.{IsLinkOf}
use Rattle.fw_steps.proofs.LinksAreLanes.Linked.{linked_world}
use Rattle.fw_steps.proofs.LinksAreLanes.Projected.{comes_as, link_step, restart_as, where_mine}
use Rattle.fw_steps.proofs.LinksAreLanes.Projection.{link_from}
use Rattle.fw_steps.proofs.PacketsAreSafe.KnownDeaf.{agent_stays}
use Rattle.fw_steps.proofs.PacketsAreSafe.Safe.{stand_along}
use Rattle.fw_steps.proofs.PacketsAreSafe.SafeOpening.{opening_stands}
use Rattle.fw_steps.proofs.PacketsAreSafe.SafeStands.{Stand, known_links, stays_absent}
use Rattle.fw_steps.proofs.PacketsAreSafe.SafeSteps.{now_then, packages_stay, stand_on, time_goes, world_follows}

-- THE STEPS THAT CONCERN A DEVICE

-- a step that doesn't concern a device is no step of its link, and no tick
strange_coming : (works : Bool) (number : ℕ) (mine agent here : Bool) → (mine && (agent || here)) ≡ false → where_mine mine (comes_as works number agent here) ≡ None
strange_coming works number true true here e = absurd (cc)
strange_coming works number true false true e = absurd (cc)
strange_coming works number true false false e = refl
strange_coming works number false agent here e = refl

strange_restart : (agent here : Bool) → (agent || here) ≡ false → restart_as agent here ≡ None
strange_restart true here e = absurd (cc)
strange_restart false true e = absurd (cc)
strange_restart false false e = refl

strange_call : (mine : Bool) (s : LinkStep) → mine ≡ false → where_mine mine (Some s) ≡ None
strange_call true s e = absurd (cc)
strange_call false s e = refl

unconcerned : (works : Bool) (agent : ℕ) (s : Step) (eid : ℕ) → concerns_device agent eid s ≡ false → link_step works agent s eid ≡ None
unconcerned works agent (steps.Deliver device number node) eid e = strange_coming works number (device == eid) (node == agent) (node == eid) e
unconcerned works agent (steps.Tick missed) eid e = absurd (cc)
unconcerned works agent (steps.Start device number) eid e = strange_call (device == eid) (LinkStep.Start number) e
unconcerned works agent (steps.Cancel device) eid e = strange_call (device == eid) LinkStep.Cancel e
unconcerned works agent (steps.Activate device) eid e = strange_call (device == eid) LinkStep.Activate e
unconcerned works agent (steps.Verdict device verdict) eid e = strange_call (device == eid) (LinkStep.Judge verdict works) e
unconcerned works agent (steps.Restart node) eid e = strange_restart (node == agent) (node == eid) e
unconcerned works agent (steps.Sel bytes) eid e = refl

no_tick : (agent : ℕ) (s : Step) (eid now : ℕ) → concerns_device agent eid s ≡ false → now_then now s ≡ now
no_tick agent (steps.Deliver device number node) eid now e = refl
no_tick agent (steps.Tick missed) eid now e = absurd (cc)
no_tick agent (steps.Start device number) eid now e = refl
no_tick agent (steps.Cancel device) eid now e = refl
no_tick agent (steps.Activate device) eid now e = refl
no_tick agent (steps.Verdict device verdict) eid now e = refl
no_tick agent (steps.Restart node) eid now e = refl
no_tick agent (steps.Sel bytes) eid now e = refl

-- ALONG STEPS

-- the time after a step and the step of the link, from the part of the step that matters
abbrev concern_time : ℕ → ConcernOf → ℕ
concern_time now (ConcernOf.Passes agent device) = now + 1
concern_time now (ConcernOf.Takes s) = now_then now s

abbrev concern_step : (agent : ℕ) → ConcernOf → (eid : ℕ) → Option LinkStep
concern_step agent (ConcernOf.Passes a d) eid = Some (LinkStep.Tick a d)
concern_step agent (ConcernOf.Takes s) eid = link_step true agent s eid

same_time : (agent eid now : ℕ) (s : Step) → concern_time now (concern_of agent eid s) ≡ now_then now s
same_time agent eid now (steps.Deliver device number node) = refl
same_time agent eid now (steps.Tick missed) = refl
same_time agent eid now (steps.Start device number) = refl
same_time agent eid now (steps.Cancel device) = refl
same_time agent eid now (steps.Activate device) = refl
same_time agent eid now (steps.Verdict device verdict) = refl
same_time agent eid now (steps.Restart node) = refl
same_time agent eid now (steps.Sel bytes) = refl

same_step : (agent eid : ℕ) (s : Step) → concern_step agent (concern_of agent eid s) eid ≡ link_step true agent s eid
same_step agent eid (steps.Deliver device number node) = refl
same_step agent eid (steps.Tick missed) = refl
same_step agent eid (steps.Start device number) = refl
same_step agent eid (steps.Cancel device) = refl
same_step agent eid (steps.Activate device) = refl
same_step agent eid (steps.Verdict device verdict) = refl
same_step agent eid (steps.Restart node) = refl
same_step agent eid (steps.Sel bytes) = refl

-- the time after these steps
abbrev time_after_all : ℕ → List Step → ℕ
time_after_all now [] = now
time_after_all now (s ∷ ss) = time_after_all (now_then now s) ss

abbrev time_along : ℕ → List ConcernOf → ℕ
time_along now [] = now
time_along now (c ∷ cs) = time_along (concern_time now c) cs

-- the state between the agent and a device after these steps, if each call of its bank works
abbrev seen_along : (agent eid : ℕ) → List PackageText → (now : ℕ) → SeenOf → List ConcernOf → SeenOf
seen_along agent eid packages now p [] = p
seen_along agent eid packages now p (c ∷ cs) =
    seen_along agent eid packages (concern_time now c) (seen_then now packages p (concern_step agent c eid)) cs

-- the steps that don't concern the device change nothing for it
time_by : (concerned : Bool) (agent : ℕ) (s : Step) (eid now : ℕ) (rest : List Step) → concerns_device agent eid s ≡ concerned
    → time_along now (map (concern_of agent eid) (cond concerned (s ∷ rest) rest)) ≡ time_along (now_then now s) (map (concern_of agent eid) rest)
time_by true agent s eid now rest e = ap (λ n. time_along n (map (concern_of agent eid) rest)) (same_time agent eid now s)
time_by false agent s eid now rest e = ap (λ n. time_along n (map (concern_of agent eid) rest)) (sym (no_tick agent s eid now e))

time_of : (agent eid now : ℕ) (ss : List Step) → time_along now (map (concern_of agent eid) (filter (concerns_device agent eid) ss)) ≡ time_after_all now ss
time_of agent eid now [] = refl
time_of agent eid now (s ∷ ss) = time_by (concerns_device agent eid s) agent s eid now (filter (concerns_device agent eid) ss) refl ∙ time_of agent eid (now_then now s) ss

seen_if : (concerned : Bool) (agent : ℕ) (s : Step) (eid : ℕ) (packages : List PackageText) (now : ℕ) (p : SeenOf) (rest : List Step) → concerns_device agent eid s ≡ concerned
    → seen_along agent eid packages (now_then now s) (seen_then now packages p (link_step true agent s eid)) (map (concern_of agent eid) rest)
    ≡ seen_along agent eid packages now p (map (concern_of agent eid) (cond concerned (s ∷ rest) rest))
seen_if true agent s eid packages now p rest e =
    ap (λ n. seen_along agent eid packages n (seen_then now packages p (link_step true agent s eid)) (map (concern_of agent eid) rest)) (sym (same_time agent eid now s))
    ∙ ap (λ o. seen_along agent eid packages (concern_time now (concern_of agent eid s)) (seen_then now packages p o) (map (concern_of agent eid) rest)) (sym (same_step agent eid s))
seen_if false agent s eid packages now p rest e =
    ap (λ n. seen_along agent eid packages n (seen_then now packages p (link_step true agent s eid)) (map (concern_of agent eid) rest)) (no_tick agent s eid now e)
    ∙ ap (λ o. seen_along agent eid packages now (seen_then now packages p o) (map (concern_of agent eid) rest)) (unconcerned true agent s eid e)

-- equal states and steps give equal results
same_along : (agent other eid : ℕ) (ps qs : List PackageText) (m n : ℕ) (p : SeenOf) (ss ts : List ConcernOf) → other ≡ agent → qs ≡ ps → n ≡ m → ts ≡ ss
    → seen_along other eid qs n p ts ≡ seen_along agent eid ps m p ss
same_along agent other eid ps qs m n p ss ts e f g h = rw (e, f, g, h) refl

-- ALONG A RUN

packages_along : (w v : WorldOf) (ss : List Step) → Run w ss v → v.packages ≡ w.packages
packages_along w v [] e = ap (λ x. x.packages) e
packages_along w v (s ∷ ss) run =
    let h : StepsTo w s run.0 = run.1 in
    packages_along run.0 v ss run.2 ∙ ap (λ x. x.packages) h.after ∙ packages_stay h.works h.faults w s

now_along : (w v : WorldOf) (ss : List Step) → Run w ss v → v.now ≡ time_after_all w.now ss
now_along w v [] e = ap (λ x. x.now) e
now_along w v (s ∷ ss) run =
    let h : StepsTo w s run.0 = run.1 in
    now_along run.0 v ss run.2 ∙ ap (λ n. time_after_all n ss) (ap (λ x. x.now) h.after ∙ time_goes h.works h.faults w s)

-- a count of failures never falls
risen : (m n : ℕ) → CountsFailure m n → m ≤ n
risen m n (inl e) = omega arith
risen m n (inr e) = let same : n ≡ m = e.1 in omega arith

rises : LaneIsACell → LinksAreLanes → LinksAreMessages → (opening w v : WorldOf) (ss : List Step) (eid : ℕ) (p : SeenOf) → Stand opening w → IsSeen w eid p → Run w ss v → faults_at w eid ≤ faults_at v eid
rises law lanes messages opening w v [] eid p k i e = let same : faults_at v eid ≡ faults_at w eid = ap (λ x. faults_at x eid) e in omega arith
rises law lanes messages opening w v (s ∷ ss) eid p k i run =
    let h : StepsTo w s run.0 = run.1 in
    let linked = linked_world w (known_links opening w k) in
    let f = world_follows law opening w run.0 s k h in
    let next : IsSeen run.0 eid (seen_then w.now w.packages p (link_step h.works w.agent.endpoint.eid s eid)) =
    subst (λ u. IsSeen u eid (seen_then w.now w.packages p (link_step h.works w.agent.endpoint.eid s eid))) (sym h.after) (seen_after h.works h.faults w s eid p linked h.may f i) in
    let rest = rises law lanes messages opening run.0 v ss eid _ (stand_on law lanes messages opening w run.0 s k h) next run.2 in
    elim (goes_or_fails w run.0 s eid p linked h f i) [
      | inl well ↦ let same = well.count in omega arith
      | inr rose ↦ let up = risen (faults_at w eid) (faults_at run.0 eid) rose in omega arith
    ]

-- a call failed
abbrev HasFailed : (old new : ℕ) → Type 0
HasFailed old new = (old < new) ⊎ (new ≡ 2 ^ 64 - 1)

failed_by : (m n k : ℕ) → CountsFailure m n → n ≤ k → HasFailed m k
failed_by m n k (inl e) le = inl (omega arith)
failed_by m n k (inr e) le = elim (cases_lt m k) [
  | inl lt ↦ inl lt
  | inr ge ↦ let at : m ≡ 2 ^ 64 - 1 = e.0 in let same : n ≡ m = e.1 in inr (omega arith)
]

-- a run in which no call fails
pub record RunsWell (w v : WorldOf) (ss : List Step) (eid : ℕ) (p : SeenOf) : Type 0 where
  pub seen : IsSeen v eid (seen_along w.agent.endpoint.eid eid w.packages w.now p (steps_of w eid ss))
  pub count : faults_at v eid ≡ faults_at w eid

same_agent : (w v : WorldOf) (s : Step) → (h : StepsTo w s v) → v.agent.endpoint.eid ≡ w.agent.endpoint.eid
same_agent w v s h = ap (λ x. x.agent.endpoint.eid) h.after ∙ agent_stays h.works h.faults w s

-- one more step in front
well_first : (w u v : WorldOf) (s : Step) (ss : List Step) (eid : ℕ) (p : SeenOf) → (h : StepsTo w s u) → GoesWell w u s eid p
    → RunsWell u v ss eid (seen_then w.now w.packages p (link_step true w.agent.endpoint.eid s eid)) → RunsWell w v (s ∷ ss) eid p
well_first w u v s ss eid p h g r =
    let agent = same_agent w u s h in
    let q = seen_then w.now w.packages p (link_step true w.agent.endpoint.eid s eid) in
    record {
      seen = subst (IsSeen v eid)
          (same_along w.agent.endpoint.eid u.agent.endpoint.eid eid w.packages u.packages (now_then w.now s) u.now q (steps_of w eid ss) (steps_of u eid ss) agent
          (ap (λ x. x.packages) h.after ∙ packages_stay h.works h.faults w s) (ap (λ x. x.now) h.after ∙ time_goes h.works h.faults w s)
          (ap (λ a. map (concern_of a eid) (filter (concerns_device a eid) ss)) agent)
          ∙ seen_if (concerns_device w.agent.endpoint.eid eid s) w.agent.endpoint.eid s eid w.packages w.now p (filter (concerns_device w.agent.endpoint.eid eid) ss) refl) r.seen;
      count = r.count ∙ g.count;
    }

runs_or_fails : LaneIsACell → LinksAreLanes → LinksAreMessages → (opening w v : WorldOf) (ss : List Step) (eid : ℕ) (p : SeenOf) → Stand opening w → IsSeen w eid p → Run w ss v
    → RunsWell w v ss eid p ⊎ HasFailed (faults_at w eid) (faults_at v eid)
runs_or_fails law lanes messages opening w v [] eid p k i e = inl (record { seen = subst (λ u. IsSeen u eid p) (sym e) i; count = ap (λ x. faults_at x eid) e })
runs_or_fails law lanes messages opening w v (s ∷ ss) eid p k i run =
    let h : StepsTo w s run.0 = run.1 in
    let linked = linked_world w (known_links opening w k) in
    let f = world_follows law opening w run.0 s k h in
    let on = stand_on law lanes messages opening w run.0 s k h in
    elim (goes_or_fails w run.0 s eid p linked h f i) [
      | inl well ↦ elim (runs_or_fails law lanes messages opening run.0 v ss eid _ on well.seen run.2) [
        | inl rest ↦ inl (well_first w run.0 v s ss eid p h well rest)
        | inr failed ↦ inr (subst (λ n. HasFailed n (faults_at v eid)) well.count failed)
      ]
      | inr rose ↦
          let next : IsSeen run.0 eid (seen_then w.now w.packages p (link_step h.works w.agent.endpoint.eid s eid)) =
          subst (λ u. IsSeen u eid (seen_then w.now w.packages p (link_step h.works w.agent.endpoint.eid s eid))) (sym h.after) (seen_after h.works h.faults w s eid p linked h.may f i) in
          inr (failed_by (faults_at w eid) (faults_at run.0 eid) (faults_at v eid) rose (rises law lanes messages opening run.0 v ss eid _ on next run.2))
    ]

none_failed : (m n : ℕ) → n ≤ m → n ≢ 2 ^ 64 - 1 → HasFailed m n → ⊥
none_failed m n le differ (inl lt) = absurd (omega arith)
none_failed m n le differ (inr e) = differ e

runs_well : LaneIsACell → LinksAreLanes → LinksAreMessages → (opening w v : WorldOf) (ss : List Step) (eid : ℕ) (p : SeenOf) → Stand opening w → IsSeen w eid p → Run w ss v → IsUnfailed eid w v → RunsWell w v ss eid p
runs_well law lanes messages opening w v ss eid p k i run fine = elim (runs_or_fails law lanes messages opening w v ss eid p k i run) [
  | inl well ↦ well
  | inr failed ↦ absurd (none_failed (faults_at w eid) (faults_at v eid) fine.unrisen fine.counted failed)
]

-- THE SHARED STATE

-- the shared state from its link, and the link from the shared state
abbrev seen_of : SharedOf → SeenOf
seen_of q = record { link = record { agent = q.half; device = q.node.half; packets = q.packets; agent_since_miss = q.agent_since_miss; device_since_miss = q.device_since_miss }; endpoint = q.node.endpoint; tid = q.node.tid; entries = q.history }

abbrev shared_of : SeenOf → SharedOf
shared_of p = record {
  node = record { endpoint = p.endpoint; tid = p.tid; half = p.link.device; faults = 0 };
  half = p.link.agent;
  deaf = p.link.agent.asker.deaf;
  agent_since_miss = p.link.agent_since_miss;
  device_since_miss = p.link.device_since_miss;
  packets = p.link.packets;
  history = p.entries;
}

sees : (w : WorldOf) (eid : ℕ) (o : Option (HalfOf TimedOf)) (s : Option SiteOf) (q : SharedOf) → half_for w.agent eid ≡ o → site_for w.sites eid ≡ s → shared_by w eid o s ≡ Some q → IsSeen w eid (seen_of q)
sees w eid None s q half site e = absurd (cc)
sees w eid (Some h) None q half site e = absurd (cc)
sees w eid (Some h) (Some x) q half site e =
    let same : ◌≡◌ {A = SharedOf} (record { node = record x.node { faults = 0 }; half = h; deaf = w.agent.deaf; agent_since_miss = w.since_miss; device_since_miss = x.since_miss; packets = x.packets; history = history_of eid w.history }) q = cc in
    record {
      link = ap (λ a. link_from w.since_miss a (site_for w.sites eid)) half ∙ ap (link_from w.since_miss (Some h)) site
          ∙ ap (λ z. Some (record { agent = z.half; device = z.node.half; packets = z.packets; agent_since_miss = z.agent_since_miss; device_since_miss = z.device_since_miss })) same;
      site = x;
      there = site;
      endpoint = ap (λ z. z.node.endpoint) same;
      tid = ap (λ z. z.node.tid) same;
      entries = ap (λ z. z.history) same;
    }

shares_by : (w : WorldOf) (eid : ℕ) (o : Option (HalfOf TimedOf)) (s : Option SiteOf) (p : SeenOf) (x : SiteOf) → link_from w.since_miss o s ≡ Some p.link → s ≡ Some x → x.node.endpoint ≡ p.endpoint
    → x.node.tid ≡ p.tid → history_of eid w.history ≡ p.entries → p.link.agent.asker.deaf ≡ w.agent.deaf → shared_by w eid o s ≡ Some (shared_of p)
shares_by w eid None s p x link site endpoint tid entries deaf = absurd (cc)
shares_by w eid (Some h) None p x link site endpoint tid entries deaf = absurd (cc)
shares_by w eid (Some h) (Some y) p x link site endpoint tid entries deaf =
    let same : y ≡ x = cc in
    let is : ◌≡◌ {A = LinkOf} (record { agent = h; device = y.node.half; packets = y.packets; agent_since_miss = w.since_miss; device_since_miss = y.since_miss }) p.link = cc in
    let device : y.node.half ≡ p.link.device = ap (λ z. z.device) is in
    let agent : h ≡ p.link.agent = ap (λ z. z.agent) is in
    let packets : y.packets ≡ p.link.packets = ap (λ z. z.packets) is in
    let agent_misses : w.since_miss ≡ p.link.agent_since_miss = ap (λ z. z.agent_since_miss) is in
    let device_misses : y.since_miss ≡ p.link.device_since_miss = ap (λ z. z.device_since_miss) is in
    let point : y.node.endpoint ≡ p.endpoint = ap (λ z. z.node.endpoint) same ∙ endpoint in
    let terminus : y.node.tid ≡ p.tid = ap (λ z. z.node.tid) same ∙ tid in
    rw (agent_misses, device_misses, device, packets, point, terminus, entries, sym deaf, agent) refl

shares : (opening w : WorldOf) (eid : ℕ) (p : SeenOf) → Stand opening w → IsSeen w eid p → shared_with w eid ≡ Some (shared_of p)
shares opening w eid p k i =
    let known : IsLinkOf w eid p.link = (linked_world w (known_links opening w k)).links eid p.link i.link in
    shares_by w eid (half_for w.agent eid) (site_for w.sites eid) p i.site i.link i.there i.endpoint i.tid i.entries known.asking

-- nothing is shared if there is no such device
unshared : (w : WorldOf) (eid : ℕ) (o : Option (HalfOf TimedOf)) (s : Option SiteOf) → shared_by w eid o s ≡ None → link_from w.since_miss o s ≡ None
unshared w eid None s e = refl
unshared w eid (Some h) None e = refl
unshared w eid (Some h) (Some x) e = absurd (cc)

unlinked : (w : WorldOf) (eid : ℕ) (o : Option (HalfOf TimedOf)) (s : Option SiteOf) → link_from w.since_miss o s ≡ None → shared_by w eid o s ≡ None
unlinked w eid None s e = refl
unlinked w eid (Some h) None e = refl
unlinked w eid (Some h) (Some x) e = absurd (cc)

stays_unshared : (opening w v : WorldOf) (eid : ℕ) → Stand opening w → Stand opening v → shared_with w eid ≡ None → shared_with v eid ≡ None
stays_unshared opening w v eid k m none =
    unlinked v eid (half_for v.agent eid) (site_for v.sites eid)
    (stays_absent w v eid (known_links opening w k) (m.devices ∙ sym k.devices) (unshared w eid (half_for w.agent eid) (site_for w.sites eid) none))

-- TWO RUNS

stands_there : LaneIsACell → LinksAreLanes → LinksAreMessages → (w : WorldOf) → (r : IsReached w) → Stand r.opening w
stands_there law lanes messages w r = stand_along law lanes messages r.opening r.opening w r.before (opening_stands law r.opening r.opens) r.run

-- both agents have the same identifier
agents_agree : (opening other w v : WorldOf) (eid : ℕ) (p : SeenOf) → Stand opening w → Stand other v → IsSeen w eid p → IsSeen v eid p → v.agent.endpoint.eid ≡ w.agent.endpoint.eid
agents_agree opening other w v eid p k m i j =
    let first : IsLinkOf w eid p.link = (linked_world w (known_links opening w k)).links eid p.link i.link in
    let second : IsLinkOf v eid p.link = (linked_world v (known_links other v m)).links eid p.link j.link in
    sym second.agent ∙ first.agent

two_share : LaneIsACell → LinksAreLanes → LinksAreMessages → (opening other w v first second : WorldOf) (ss ts : List Step) (eid : ℕ) (o : Option SharedOf) → Stand opening w → Stand other v
    → Run w ss first → Run v ts second → AgreeIn eid w v → steps_of w eid ss ≡ steps_of v eid ts → IsUnfailed eid w first → IsUnfailed eid v second
    → shared_with w eid ≡ o → shared_with second eid ≡ shared_with first eid
two_share law lanes messages opening other w v first second ss ts eid None k m run_w run_v agree same fine_w fine_v none =
    stays_unshared other v second eid m (stand_along law lanes messages other v second ts m run_v) (agree.shared ∙ none)
    ∙ sym (stays_unshared opening w first eid k (stand_along law lanes messages opening w first ss k run_w) none)
two_share law lanes messages opening other w v first second ss ts eid (Some q) k m run_w run_v agree same fine_w fine_v some =
    let i = sees w eid (half_for w.agent eid) (site_for w.sites eid) q refl refl some in
    let j = sees v eid (half_for v.agent eid) (site_for v.sites eid) q refl refl (agree.shared ∙ some) in
    let one = runs_well law lanes messages opening w first ss eid (seen_of q) k i run_w fine_w in
    let two = runs_well law lanes messages other v second ts eid (seen_of q) m j run_v fine_v in
    shares other second eid _ (stand_along law lanes messages other v second ts m run_v) two.seen
    ∙ ap (λ p. Some (shared_of p))
    (same_along w.agent.endpoint.eid v.agent.endpoint.eid eid w.packages v.packages w.now v.now (seen_of q) (steps_of w eid ss) (steps_of v eid ts)
    (agents_agree opening other w v eid (seen_of q) k m i j) agree.packages agree.now (sym same))
    ∙ sym (shares opening first eid _ (stand_along law lanes messages opening w first ss k run_w) one.seen)

-- Two runs of which the same steps concern the device give the same shared state.
pub devices_isolated : LaneIsACell → LinksAreLanes → LinksAreMessages → DevicesAreIsolated
devices_isolated law lanes messages = λ device w v first second ss ts reached_w reached_v run_w run_v agree same fine_w fine_v.
    record {
      packages = packages_along v second ts run_v ∙ agree.packages ∙ sym (packages_along w first ss run_w);
      now = now_along v second ts run_v ∙ sym (time_of v.agent.endpoint.eid device v.now ts) ∙ ap (λ n. time_along n (steps_of v device ts)) agree.now
          ∙ ap (time_along w.now) (sym same) ∙ time_of w.agent.endpoint.eid device w.now ss ∙ sym (now_along w first ss run_w);
      shared = two_share law lanes messages reached_w.opening reached_v.opening w v first second ss ts device (shared_with w device)
          (stands_there law lanes messages w reached_w) (stands_there law lanes messages v reached_v) run_w run_v agree same fine_w fine_v refl;
    }

-- COUNTS

-- a device of the world has a state
count_by : LaneIsACell → (opening w v : WorldOf) (s : Step) (eid : ℕ) (o : Option (HalfOf TimedOf)) (x : Option SiteOf) → Stand opening w → StepsTo w s v → step_calls_bank w s ≡ false
    → half_for w.agent eid ≡ o → site_for w.sites eid ≡ x → IfSome (pair_with o x) (λ m. faults_at v eid ≡ faults_at w eid)
count_by law opening w v s eid None x k h none half site = tt
count_by law opening w v s eid (Some one) None k h none half site = tt
count_by law opening w v s eid (Some one) (Some x) k h none half site =
    let q : SharedOf = record { node = node_without_faults x.node; half = one; deaf = w.agent.deaf; agent_since_miss = w.since_miss; device_since_miss = x.since_miss; packets = x.packets; history = history_of eid w.history } in
    count_stays w v s eid (seen_of q) (linked_world w (known_links opening w k)) h (world_follows law opening w v s k h) (sees w eid (Some one) (Some x) q half site refl) none

-- A count of failures changes only if a bank is called.
pub counts_need_calls : LaneIsACell → LinksAreLanes → LinksAreMessages → CountsNeedCalls
counts_need_calls law lanes messages w v s reached h none device =
    count_by law reached.opening w v s device (half_for w.agent device) (site_for w.sites device) (stands_there law lanes messages w reached) h none refl refl
