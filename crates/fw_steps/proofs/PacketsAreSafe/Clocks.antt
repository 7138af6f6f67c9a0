-- Each node keeps time along a run: it misses a tick only if it has counted eight since the last
-- one it missed.
use Rattle.std.proofs.Common.{◌≡◌, ◌∙◌, ◌≤◌, ◌+◌, ◌==◌, ◌&&◌, ◌||◌, ◌++◌, ◌-◌, ◌^◌, ℕ, Bool, true, false, if◌then◌else◌, is_some, length, List, [], ◌∷◌, map, nat_lt, Option, Some, None, IfSome, inl, inr, refl, sym, ap, subst, arith}
use Rattle.std.specs.List.{AllByRecursion}
use Rattle.std.proofs.lemmas.Bool.{ltb-true}
use Rattle.std.proofs.lemmas.Bool.Decides.{eqb_tells}
use Rattle.exch_lane.specs.Clocks.{AreAllowed, TicksAreLate, counted_ticks as counted_of, late, may_beat, since_after, since_all}
use Rattle.exch_lane.specs.Lanes.{Sent, lives_until, item_numbered}
use Rattle.exch_lane.specs.Laws.{LaneIsACell}
use Rattle.fw_package.specs.Package.{PackageText}
use Rattle.fd_core.specs.Steps.{VerdictEffect, device_verdict}
use Rattle.ua_core.specs.Calls.{agent_activated}
use Rattle.ua_core.specs.Session.{SessionOf, TimedOf}
use Rattle.fw_message.specs.Pairs.{may_start}
use Rattle.fw_message.specs.declared.side.Side.{Side}
use Rattle.fw_message.specs.declared.side.Side.TheVariants as sides
use Rattle.fw_node.specs.Agents.{half_for, half_after_start}
use Rattle.fw_node.specs.Cores.{TimedDevice, device_core, session_core}
use Rattle.fw_node.specs.Halves.{HalfOutcome, HalfOf, half_on_packet}
use Rattle.fw_node.specs.Nodes.{DeviceNodeOf}
use Rattle.fw_steps.specs.Clocks.{KeepsTime, RunsKeepTime, ticks_counted_by, units_passed, ticks_in, units_of}
use Rattle.fw_steps.specs.Opening.{IsOpeningWorld, new_site}
use Rattle.fw_steps.specs.Steps.{StepsTo, Run, is_device, may_step, world_after}
use Rattle.fw_steps.specs.LinksAreMessages.{LinksAreMessages}
use Rattle.fw_steps.specs.LinksAreLanes.{LinksAreLanes}
use Rattle.fw_steps.specs.Links.{LinkOf, LinkStep, LinkStepped, activates_on as link_activates, link_step_of_agent, delivers_on, link_step_of_device, link_step_of_packet, link_step_of_verdict, link_after, link_ticks, link_step_without_entries}
use Rattle.fw_steps.specs.Worlds.{SiteOf, WorldOf, counts, site_for}
use Rattle.fw_steps.specs.declared.step.Step.{Step}
use Rattle.fw_steps.specs.declared.step.Step.TheVariants as steps
use Rattle.fw_steps.proofs.LinksAreLanes.Beats.{agent_may, device_may}
use Rattle.fw_steps.proofs.LinksAreLanes.Firsts.{first_fact}
use Rattle.fw_steps.proofs.LinksAreLanes.Linked.{linked_world}
use Rattle.fw_steps.proofs.LinksAreLanes.Posting.{site_eid, site_is_first}
use Rattle.fw_steps.proofs.LinksAreLanes.Projected.{LinkStepsTo, comes_as, link_step, restart_as, where_mine}
use Rattle.fw_steps.proofs.LinksAreLanes.Projection.{link_at, link_from}
use Rattle.fw_steps.proofs.PacketsAreSafe.KnownDeaf.{agent_stays, became, became_if}
use Rattle.fw_steps.proofs.PacketsAreSafe.KnownSteps.{gone_to}
use Rattle.fw_steps.proofs.PacketsAreSafe.Safe.{stand_along}
use Rattle.fw_steps.proofs.PacketsAreSafe.SafeOpening.{opening_stands}
use Rattle.fw_steps.proofs.PacketsAreSafe.SafeStands.{Stand, known_links, stays_absent}
use Rattle.fw_steps.proofs.PacketsAreSafe.SafeSteps.{since_goes, stand_on, world_follows}

-- TICKS FROM THE STEPS

-- the ticks among steps, in order: whether a node counts each
abbrev pub beat_in : (eid : ℕ) → Step → List Bool
beat_in eid (steps.Tick missed) = counts missed.items eid ∷ []
beat_in eid s = []

abbrev pub beats_in : (eid : ℕ) → List Step → List Bool
beats_in eid [] = []
beats_in eid (s ∷ ss) = beat_in eid s ++ beats_in eid ss

count_one : (c : Bool) (bs : List Bool) → counted_of (c ∷ bs) ≡ (if c then 1 else 0) + counted_of bs
count_one true bs = omega arith
count_one false bs = omega arith

count_more : (eid : ℕ) (s : Step) (bs : List Bool) → counted_of (beat_in eid s ++ bs) ≡ ticks_in eid s + counted_of bs
count_more eid (steps.Deliver device number node) bs = omega arith
count_more eid (steps.Tick missed) bs = count_one (counts missed.items eid) bs
count_more eid (steps.Start device number) bs = omega arith
count_more eid (steps.Cancel device) bs = omega arith
count_more eid (steps.Activate device) bs = omega arith
count_more eid (steps.Verdict device verdict) bs = omega arith
count_more eid (steps.Restart node) bs = omega arith
count_more eid (steps.Sel bytes) bs = omega arith

counts_are : (eid : ℕ) (ss : List Step) → counted_of (beats_in eid ss) ≡ ticks_counted_by eid ss
counts_are eid [] = refl
counts_are eid (s ∷ ss) = count_more eid s (beats_in eid ss) ∙ ap (λ n. ticks_in eid s + n) (counts_are eid ss)

units_more : (eid : ℕ) (s : Step) (bs : List Bool) → length (beat_in eid s ++ bs) ≡ units_of s + length bs
units_more eid (steps.Deliver device number node) bs = omega arith
units_more eid (steps.Tick missed) bs = omega arith
units_more eid (steps.Start device number) bs = omega arith
units_more eid (steps.Cancel device) bs = omega arith
units_more eid (steps.Activate device) bs = omega arith
units_more eid (steps.Verdict device verdict) bs = omega arith
units_more eid (steps.Restart node) bs = omega arith
units_more eid (steps.Sel bytes) bs = omega arith

units_are : (eid : ℕ) (ss : List Step) → length (beats_in eid ss) ≡ units_passed ss
units_are eid [] = refl
units_are eid (s ∷ ss) = units_more eid s (beats_in eid ss) ∙ ap (λ n. units_of s + n) (units_are eid ss)

-- ALLOWED TICKS

allowed_more : (bs cs : List Bool) (n : ℕ) → AreAllowed bs n → AreAllowed cs (since_all bs n) → AreAllowed (bs ++ cs) n
allowed_more [] cs n h k = k
allowed_more (b ∷ bs) cs n h k = (h.0, allowed_more bs cs (since_after b n) h.1 k)

since_more : (bs cs : List Bool) (n : ℕ) → since_all (bs ++ cs) n ≡ since_all cs (since_all bs n)
since_more [] cs n = refl
since_more (b ∷ bs) cs n = since_more bs cs (since_after b n)

risen_small : (soon : Bool) (n : ℕ) → (soon ≡ true → n + 1 ≤ 8) → (if soon then n + 1 else 8) ≤ 8
risen_small true n k = k refl
risen_small false n k = omega arith

after_small : (b : Bool) (n : ℕ) → n ≤ 8 → since_after b n ≤ 8
after_small true n h = risen_small (nat_lt n 8) n (λ e. let lt = ltb-true n 8 e in omega arith)
after_small false n h = omega arith

all_small : (bs : List Bool) (n : ℕ) → n ≤ 8 → since_all bs n ≤ 8
all_small [] n h = h
all_small (b ∷ bs) n h = all_small bs (since_after b n) (after_small b n h)

-- A node's clock along steps: from count `n` on each tick was allowed, and `m` is its count
-- afterwards.
pub record Beats (eid n m : ℕ) (ss : List Step) : Type 0 where
  pub allowed : AreAllowed (beats_in eid ss) n
  pub since : m ≡ since_all (beats_in eid ss) n

-- THE AGENT

agent_beats : (w : WorldOf) (s : Step) → may_step w s ≡ None → AreAllowed (beat_in w.agent.endpoint.eid s) w.since_miss
agent_beats w (steps.Deliver device number node) may = tt
agent_beats w (steps.Tick missed) may = (agent_may missed w may, tt)
agent_beats w (steps.Start device number) may = tt
agent_beats w (steps.Cancel device) may = tt
agent_beats w (steps.Activate device) may = tt
agent_beats w (steps.Verdict device verdict) may = tt
agent_beats w (steps.Restart node) may = tt
agent_beats w (steps.Sel bytes) may = tt

agent_since : (works : Bool) (faults : ℕ) (w : WorldOf) (s : Step) → (world_after works faults w s).since_miss ≡ since_all (beat_in w.agent.endpoint.eid s) w.since_miss
agent_since works faults w (steps.Deliver device number node) = since_goes works faults w (steps.Deliver device number node) refl
agent_since works faults w (steps.Tick missed) = refl
agent_since works faults w (steps.Start device number) = refl
agent_since works faults w (steps.Cancel device) = refl
agent_since works faults w (steps.Activate device) = since_goes works faults w (steps.Activate device) refl
agent_since works faults w (steps.Verdict device verdict) = since_goes works faults w (steps.Verdict device verdict) refl
agent_since works faults w (steps.Restart node) = since_goes works faults w (steps.Restart node) refl
agent_since works faults w (steps.Sel bytes) = since_goes works faults w (steps.Sel bytes) refl

agent_along : (w v : WorldOf) (ss : List Step) (eid : ℕ) → w.agent.endpoint.eid ≡ eid → Run w ss v → Beats eid w.since_miss v.since_miss ss
agent_along w v [] eid is e = record { allowed = tt; since = ap (λ x. x.since_miss) e }
agent_along w v (s ∷ ss) eid is run =
    let h : StepsTo w s run.0 = run.1 in
    let rest = agent_along run.0 v ss eid (ap (λ x. x.agent.endpoint.eid) h.after ∙ agent_stays h.works h.faults w s ∙ is) run.2 in
    let since : run.0.since_miss ≡ since_all (beat_in eid s) w.since_miss =
    ap (λ x. x.since_miss) h.after ∙ agent_since h.works h.faults w s ∙ ap (λ e. since_all (beat_in e s) w.since_miss) is in
    record {
      allowed = allowed_more (beat_in eid s) (beats_in eid ss) w.since_miss (subst (λ e. AreAllowed (beat_in e s) w.since_miss) is (agent_beats w s h.may))
          (subst (AreAllowed (beats_in eid ss)) since rest.allowed);
      since = rest.since ∙ ap (since_all (beats_in eid ss)) since ∙ sym (since_more (beat_in eid s) (beats_in eid ss) w.since_miss);
    }

-- A DEVICE, ON ITS LINK

abbrev device_count : LinkOf → ℕ
device_count l = l.device_since_miss

abbrev since_then : LinkStep → ℕ → ℕ
since_then (LinkStep.Tick agent device) n = since_after device n
since_then s n = n

agent_heard_since : (now : ℕ) (packages : List PackageText) (l : LinkOf) (heard : HalfOutcome TimedOf) (t : LinkStepped) → link_step_of_agent now packages l heard ≡ Some t → device_count t.after ≡ device_count l
agent_heard_since now packages l (HalfOutcome.Went h sent) t e = became device_count _ t _ e refl
agent_heard_since now packages l (HalfOutcome.Took h sent c answer) t e = became device_count _ t _ e refl
agent_heard_since now packages l (HalfOutcome.Asks h m head body) t e = absurd (cc)
agent_heard_since now packages l (HalfOutcome.Strayed h m) t e = absurd (cc)

device_heard_since : (now : ℕ) (works : Bool) (l : LinkOf) (heard : HalfOutcome TimedDevice) (t : LinkStepped) → link_step_of_device now works l heard ≡ Some t → device_count t.after ≡ device_count l
device_heard_since now works l (HalfOutcome.Went h sent) t e = became device_count _ t _ e refl
device_heard_since now works l (HalfOutcome.Took h sent c answer) t e = became device_count _ t _ e refl
device_heard_since now works l (HalfOutcome.Asks h m head body) t e = absurd (cc)
device_heard_since now works l (HalfOutcome.Strayed h m) t e = absurd (cc)

heard_since : (now : ℕ) (packages : List PackageText) (l : LinkOf) (to : Side) (works : Bool) (bytes : List ℕ) (t : LinkStepped) → link_step_of_packet now packages l to works bytes ≡ Some t → device_count t.after ≡ device_count l
heard_since now packages l sides.Agent works bytes t e = agent_heard_since now packages l (half_on_packet (session_core packages) true l.agent bytes) t e
heard_since now packages l sides.Device works bytes t e = device_heard_since now works l (half_on_packet device_core works l.device bytes) t e

heard_since_if : (dead : Bool) (now : ℕ) (packages : List PackageText) (l : LinkOf) (to : Side) (works : Bool) (bytes : List ℕ) (t : LinkStepped)
    → (if dead then None else link_step_of_packet now packages l to works bytes) ≡ Some t → device_count t.after ≡ device_count l
heard_since_if true now packages l to works bytes t e = absurd (cc)
heard_since_if false now packages l to works bytes t e = heard_since now packages l to works bytes t e

comes_since : (now : ℕ) (packages : List PackageText) (l : LinkOf) (to : Side) (works : Bool) (o : Option Sent) (t : LinkStepped) → delivers_on now packages l to works o ≡ Some t → device_count t.after ≡ device_count l
comes_since now packages l to works None t e = absurd (cc)
comes_since now packages l to works (Some p) t e = heard_since_if (nat_lt (lives_until p) now) now packages l to works p.bytes t e

activated_since : (packages : List PackageText) (l : LinkOf) (o : Option SessionOf) (t : LinkStepped) → link_activates packages l o ≡ Some t → device_count t.after ≡ device_count l
activated_since packages l None t e = absurd (cc)
activated_since packages l (Some s) t e = became device_count _ t _ e refl

judged_since : (l : LinkOf) (o : Option VerdictEffect) (t : LinkStepped) → link_step_of_verdict l o ≡ Some t → device_count t.after ≡ device_count l
judged_since l None t e = absurd (cc)
judged_since l (Some j) t e = became device_count _ t _ e refl

since_on_link : (now : ℕ) (packages : List PackageText) (l : LinkOf) (s : LinkStep) (t : LinkStepped) → link_after now packages l s ≡ Some t → device_count t.after ≡ since_then s (device_count l)
since_on_link now packages l (LinkStep.Deliver number to works) t e = comes_since now packages l to works (item_numbered l.packets number) t e
since_on_link now packages l (LinkStep.Tick agent device) t e =
    became_if device_count (nat_lt now (2 ^ 32 - 1) && (may_beat agent l.agent_since_miss && may_beat device l.device_since_miss)) (link_step_without_entries (link_ticks now packages l agent device)) t _ e refl
since_on_link now packages l (LinkStep.Start number) t e =
    became_if device_count (may_start packages l.agent.core.session number) (link_step_without_entries (record l { agent = half_after_start packages l.agent number })) t _ e refl
since_on_link now packages l LinkStep.Cancel t e = became device_count _ t _ e refl
since_on_link now packages l LinkStep.Activate t e = activated_since packages l (agent_activated l.agent.core.session) t e
since_on_link now packages l (LinkStep.Judge verdict works) t e = judged_since l (device_verdict l.device.core.device verdict works) t e
since_on_link now packages l (LinkStep.Restart sides.Agent) t e = became device_count _ t _ e refl
since_on_link now packages l (LinkStep.Restart sides.Device) t e = became device_count _ t _ e refl

-- its count after the step of its link
abbrev SinceAs : Option LinkStep → (before after : ℕ) → Type 0
SinceAs None before after = after ≡ before
SinceAs (Some s) before after = after ≡ since_then s before

since_comes : (works : Bool) (number : ℕ) (mine agent device : Bool) (n : ℕ) → SinceAs (where_mine mine (comes_as works number agent device)) n n
since_comes works number true true device n = refl
since_comes works number true false true n = refl
since_comes works number true false false n = refl
since_comes works number false agent device n = refl

since_mine : (mine : Bool) (s : LinkStep) (n : ℕ) → since_then s n ≡ n → SinceAs (where_mine mine (Some s)) n n
since_mine true s n e = sym e
since_mine false s n e = refl

since_restart : (agent device : Bool) (n : ℕ) → SinceAs (restart_as agent device) n n
since_restart true device n = refl
since_restart false true n = refl
since_restart false false n = refl

since_by : (works : Bool) (agent : ℕ) (s : Step) (eid n : ℕ) → SinceAs (link_step works agent s eid) n (since_all (beat_in eid s) n)
since_by works agent (steps.Deliver device number node) eid n = since_comes works number (device == eid) (node == agent) (node == eid) n
since_by works agent (steps.Tick missed) eid n = refl
since_by works agent (steps.Start device number) eid n = since_mine (device == eid) (LinkStep.Start number) n refl
since_by works agent (steps.Cancel device) eid n = since_mine (device == eid) LinkStep.Cancel n refl
since_by works agent (steps.Activate device) eid n = since_mine (device == eid) LinkStep.Activate n refl
since_by works agent (steps.Verdict device verdict) eid n = since_mine (device == eid) (LinkStep.Judge verdict works) n refl
since_by works agent (steps.Restart node) eid n = since_restart (node == agent) (node == eid) n
since_by works agent (steps.Sel bytes) eid n = refl

device_beats : (w : WorldOf) (s : Step) (eid : ℕ) (l : LinkOf) → may_step w s ≡ None → link_at w eid ≡ Some l → AreAllowed (beat_in eid s) l.device_since_miss
device_beats w (steps.Deliver device number node) eid l may is = tt
device_beats w (steps.Tick missed) eid l may is = (device_may missed w eid l may is, tt)
device_beats w (steps.Start device number) eid l may is = tt
device_beats w (steps.Cancel device) eid l may is = tt
device_beats w (steps.Activate device) eid l may is = tt
device_beats w (steps.Verdict device verdict) eid l may is = tt
device_beats w (steps.Restart node) eid l may is = tt
device_beats w (steps.Sel bytes) eid l may is = tt

-- the link after a step
record Counted (v : WorldOf) (eid n : ℕ) : Type 0 where
  pub link : LinkOf
  pub there : link_at v eid ≡ Some link
  pub since : link.device_since_miss ≡ n

counted_then : (v : WorldOf) (now : ℕ) (packages : List PackageText) (l : LinkOf) (eid m : ℕ) (o : Option LinkStep) → LinkStepsTo now packages l o (link_at v eid) → SinceAs o l.device_since_miss m → Counted v eid m
counted_then v now packages l eid m None goes is = record { link = l; there = goes; since = sym is }
counted_then v now packages l eid m (Some s) goes is =
    let g = gone_to now packages l s (link_at v eid) goes in
    record { link = g.stepped.after; there = g.is; since = since_on_link now packages l s g.stepped g.goes ∙ sym is }

device_step : LaneIsACell → (opening w v : WorldOf) (s : Step) (eid : ℕ) (l : LinkOf) → Stand opening w → StepsTo w s v → link_at w eid ≡ Some l → Counted v eid (since_all (beat_in eid s) l.device_since_miss)
device_step law opening w v s eid l k h is =
    let f = world_follows law opening w v s k h in
    subst (λ u. Counted u eid (since_all (beat_in eid s) l.device_since_miss)) (sym h.after)
    (counted_then (world_after h.works h.faults w s) w.now w.packages l eid (since_all (beat_in eid s) l.device_since_miss) (link_step h.works w.agent.endpoint.eid s eid)
    (f.goes eid l is) (since_by h.works w.agent.endpoint.eid s eid l.device_since_miss))

record DeviceBeats (v : WorldOf) (eid n : ℕ) (ss : List Step) : Type 0 where
  pub link : LinkOf
  pub there : link_at v eid ≡ Some link
  pub beats : Beats eid n link.device_since_miss ss

device_along : LaneIsACell → LinksAreLanes → LinksAreMessages → (opening w v : WorldOf) (ss : List Step) (eid : ℕ) (l : LinkOf) → Stand opening w → link_at w eid ≡ Some l → Run w ss v
    → DeviceBeats v eid l.device_since_miss ss
device_along law lanes messages opening w v [] eid l k is e = record { link = l; there = ap (λ x. link_at x eid) e ∙ is; beats = record { allowed = tt; since = refl } }
device_along law lanes messages opening w v (s ∷ ss) eid l k is run =
    let h : StepsTo w s run.0 = run.1 in
    let c = device_step law opening w run.0 s eid l k h is in
    let rest = device_along law lanes messages opening run.0 v ss eid c.link (stand_on law lanes messages opening w run.0 s k h) c.there run.2 in
    record {
      link = rest.link;
      there = rest.there;
      beats = record {
        allowed = allowed_more (beat_in eid s) (beats_in eid ss) l.device_since_miss (device_beats w s eid l h.may is)
            (subst (AreAllowed (beats_in eid ss)) c.since rest.beats.allowed);
        since = rest.beats.since ∙ ap (since_all (beats_in eid ss)) c.since ∙ sym (since_more (beat_in eid s) (beats_in eid ss) l.device_since_miss);
      };
    }

-- FROM THE OPENING ON

new_sites_unmissed : (ns : List DeviceNodeOf) → AllByRecursion (λ x. x.since_miss ≡ 8) (map new_site ns)
new_sites_unmissed [] = tt
new_sites_unmissed (n ∷ ns) = (refl, new_sites_unmissed ns)

link_unmissed : (since : ℕ) (o : Option (HalfOf TimedOf)) (s : Option SiteOf) (l : LinkOf) → link_from since o s ≡ Some l → IfSome s (λ x. x.since_miss ≡ 8) → l.device_since_miss ≡ 8
link_unmissed since None s l e k = absurd (cc)
link_unmissed since (Some h) None l e k = absurd (cc)
link_unmissed since (Some h) (Some x) l e k =
    let is : ◌≡◌ {A = LinkOf} (record { agent = h; device = x.node.half; packets = x.packets; agent_since_miss = since; device_since_miss = x.since_miss }) l = cc in
    ap (λ z. z.device_since_miss) (sym is) ∙ k

opening_unmissed : (w : WorldOf) (eid : ℕ) (l : LinkOf) → IsOpeningWorld w → link_at w eid ≡ Some l → l.device_since_miss ≡ 8
opening_unmissed w eid l k is =
    link_unmissed w.since_miss (half_for w.agent eid) (site_for w.sites eid) l is
    (subst (λ u. IfSome (site_for u.sites eid) (λ x. x.since_miss ≡ 8)) (sym k.is)
    (subst (λ o. IfSome o (λ x. x.since_miss ≡ 8)) (sym (site_is_first (map new_site k.nodes) eid))
    (first_fact site_eid (λ x. x.since_miss ≡ 8) (map new_site k.nodes) eid (new_sites_unmissed k.nodes))))

-- so a node keeps time
keeps : TicksAreLate → (eid first n m : ℕ) (before ss : List Step) → first ≡ 8 → Beats eid first n before → Beats eid n m ss → KeepsTime eid ss
keeps late_law eid first n m before ss eight h k =
    let small : n ≤ 8 = subst (λ x. x ≤ 8) (sym h.since) (all_small (beats_in eid before) first (omega (arith, eight))) in
    let law = late_law (beats_in eid ss) n small k.allowed in (
      subst (λ x. x ≤ units_passed ss) (counts_are eid ss) (subst (λ x. counted_of (beats_in eid ss) ≤ x) (units_are eid ss) law.0),
      subst (λ x. x ≤ late (ticks_counted_by eid ss)) (units_are eid ss) (subst (λ x. length (beats_in eid ss) ≤ late x) (counts_are eid ss) law.1),
    )

agent_keeps : TicksAreLate → (opening w v : WorldOf) (before ss : List Step) (eid : ℕ) → IsOpeningWorld opening → Run opening before w → Run w ss v → w.agent.endpoint.eid ≡ eid → opening.agent.endpoint.eid ≡ eid → KeepsTime eid ss
agent_keeps late_law opening w v before ss eid opens first run is was =
    keeps late_law eid opening.since_miss w.since_miss v.since_miss before ss (ap (λ x. x.since_miss) opens.is) (agent_along opening w before eid was first) (agent_along w v ss eid is run)

device_keeps : LaneIsACell → LinksAreLanes → LinksAreMessages → TicksAreLate → (opening w v : WorldOf) (before ss : List Step) (eid : ℕ) (o : Option LinkOf) → IsOpeningWorld opening → Stand opening opening
    → Run opening before w → Run w ss v → link_at opening eid ≡ o → is_some (link_at w eid) ≡ true → KeepsTime eid ss
device_keeps law lanes messages late_law opening w v before ss eid None opens k first run none there =
    let m = stand_along law lanes messages opening opening w before k first in
    let gone : link_at w eid ≡ None = stays_absent opening w eid (known_links opening opening k) (m.devices ∙ sym k.devices) none in
    absurd (let no : is_some (link_at w eid) ≡ false = ap is_some gone in cc)
device_keeps law lanes messages late_law opening w v before ss eid (Some l) opens k first run is there =
    let a = device_along law lanes messages opening opening w before eid l k is first in
    let b = device_along law lanes messages opening w v ss eid a.link (stand_along law lanes messages opening opening w before k first) a.there run in
    keeps late_law eid l.device_since_miss a.link.device_since_miss b.link.device_since_miss before ss (opening_unmissed opening eid l opens is) a.beats b.beats

agent_eid_along : (w v : WorldOf) (ss : List Step) → Run w ss v → v.agent.endpoint.eid ≡ w.agent.endpoint.eid
agent_eid_along w v [] e = ap (λ x. x.agent.endpoint.eid) e
agent_eid_along w v (s ∷ ss) run =
    let h : StepsTo w s run.0 = run.1 in
    agent_eid_along run.0 v ss run.2 ∙ ap (λ x. x.agent.endpoint.eid) h.after ∙ agent_stays h.works h.faults w s

known_device : (agent device : Bool) → agent ≡ false → (agent || device) ≡ true → device ≡ true
known_device true device e k = absurd (cc)
known_device false device e k = k

-- Each node keeps time between any two moments.
pub runs_keep_time : LaneIsACell → LinksAreLanes → LinksAreMessages → TicksAreLate → RunsKeepTime
runs_keep_time law lanes messages late_law = λ opening w v before ss opens first run eid known.
    let k = opening_stands law opening opens in
    let m = stand_along law lanes messages opening opening w before k first in
    elim (eqb_tells eid w.agent.endpoint.eid) [
      | inl same ↦ agent_keeps late_law opening w v before ss eid opens first run (sym same.1) (sym (agent_eid_along opening w before first) ∙ sym same.1)
      | inr other ↦
          device_keeps law lanes messages late_law opening w v before ss eid (link_at opening eid) opens k first run refl
          ((linked_world w (known_links opening w m)).known eid (known_device (eid == w.agent.endpoint.eid) (is_device w eid) other.0 known))
    ]
