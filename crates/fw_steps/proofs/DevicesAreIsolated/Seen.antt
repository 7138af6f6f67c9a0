-- The state between the agent and a device after a step of the world: it depends on the state
-- before, on the time, on the packages, and on the step of their link.
use Rattle.std.proofs.Common.{◌≡◌, ◌∙◌, ◌==◌, ◌&&◌, ◌++◌, ℕ, Bool, true, false, is_some, append-nil, List, [], ◌∷◌, map, Option, Some, None, IsSomeAnd, inl, inr, refl, sym, ap, subst}
use Rattle.std.proofs.lemmas.Bool.{eq-eqb}
use Rattle.std.proofs.lemmas.Bool.Decides.{eqb_tells}
use Rattle.mctp_ctl.specs.declared.answers.Endpoint.{Endpoint}
use Rattle.exch_lane.specs.Lanes.{item_numbered}
use Rattle.fw_package.specs.Package.{PackageText}
use Rattle.fd_core.specs.declared.states.Verdict.{Verdict}
use Rattle.fw_message.specs.Headline.{EntryOf}
use Rattle.fw_message.specs.WorldLaws.{history_of}
use Rattle.fw_message.specs.Worlds.{NotedOf, noted_of}
use Rattle.fw_message.proofs.Safety.Worlds.{history_more}
use Rattle.fw_steps.specs.Steps.{faults_of, is_device, is_node, may_step, packet_fault, verdict_fault, world_after}
use Rattle.fw_steps.specs.Isolation.{faults_at}
use Rattle.fw_steps.specs.Links.{LinkOf, LinkStep, LinkStepped, link_after}
use Rattle.fw_steps.specs.Worlds.{SiteOf, WorldOf, packets_of, site_for}
use Rattle.fw_steps.specs.declared.step.Step.{Step}
use Rattle.fw_steps.specs.declared.step.Step.TheVariants as steps
use Rattle.fw_steps.proofs.DevicesAreIsolated.Nodes.{NodeIs, SiteIs, calls_bank, count_if, node_goes, tid_on, tid_then}
use Rattle.fw_steps.proofs.LinksAreLanes.Projected.{LinkStepsTo, comes_as, link_step, where_mine}
use Rattle.fw_steps.proofs.LinksAreLanes.Projection.{link_at}
use Rattle.fw_steps.proofs.LinksAreLanes.Routes.{both_hold}
use Rattle.fw_steps.proofs.LinksAreLanes.WorldSteps.{AreLinked, known_both}
use Rattle.fw_steps.proofs.PacketsAreSafe.HistoryGrows.{quiet_history}
use Rattle.fw_steps.proofs.PacketsAreSafe.KnownSteps.{gone_to}
use Rattle.fw_steps.proofs.PacketsAreSafe.SafeStands.{Follows}

-- the state between the agent and a device: their link, the device's endpoint and terminus
-- identifier, and its history
pub record SeenOf : Type 0 where
  pub link : LinkOf
  pub endpoint : Endpoint
  pub tid : ℕ
  pub entries : List EntryOf

-- the world has this state between them
pub record IsSeen (w : WorldOf) (eid : ℕ) (p : SeenOf) : Type 0 where
  pub link : link_at w eid ≡ Some p.link
  pub site : SiteOf
  pub there : site_for w.sites eid ≡ Some site
  pub endpoint : site.node.endpoint ≡ p.endpoint
  pub tid : site.node.tid ≡ p.tid
  pub entries : history_of eid w.history ≡ p.entries

-- after a step of their link
abbrev pub seen_by : SeenOf → LinkStep → Option LinkStepped → SeenOf
seen_by p s None = p
seen_by p s (Some t) = record { link = t.after; endpoint = p.endpoint; tid = tid_on s p.tid; entries = p.entries ++ t.noted }

abbrev pub seen_then : (now : ℕ) → List PackageText → SeenOf → Option LinkStep → SeenOf
seen_then now packages p None = p
seen_then now packages p (Some s) = seen_by p s (link_after now packages p.link s)

-- THE HISTORY

pub history_own : (eid : ℕ) (es : List EntryOf) → history_of eid (map (noted_of eid) es) ≡ es
history_own eid [] = refl
history_own eid (e ∷ es) = rw (eq-eqb eid eid refl) (ap (λ xs. e ∷ xs) (history_own eid es))

pub history_other : (device eid : ℕ) (es : List EntryOf) → (device == eid) ≡ false → history_of eid (map (noted_of device) es) ≡ []
history_other device eid [] e = refl
history_other device eid (x ∷ es) e = rw e (history_other device eid es e)

own_more : (eid : ℕ) (history : List NotedOf) (es : List EntryOf) → history_of eid (history ++ map (noted_of eid) es) ≡ history_of eid history ++ es
own_more eid history es = history_more eid history (map (noted_of eid) es) ∙ ap (λ xs. history_of eid history ++ xs) (history_own eid es)

other_more : (device eid : ℕ) (history : List NotedOf) (es : List EntryOf) → (device == eid) ≡ false → history_of eid (history ++ map (noted_of device) es) ≡ history_of eid history
other_more device eid history es e =
    history_more eid history (map (noted_of device) es) ∙ ap (λ xs. history_of eid history ++ xs) (history_other device eid es e) ∙ append-nil (history_of eid history)

-- the entries of one device's link are of that device
noted_there : (works : Bool) (s : Step) (w v : WorldOf) (own eid : ℕ) (step : LinkStep) (o : Option LinkOf) → Follows works s w v → link_at w own ≡ o → is_some o ≡ true
    → link_step works w.agent.endpoint.eid s own ≡ Some step → (own == eid) ≡ false → history_of eid v.history ≡ history_of eid w.history
noted_there works s w v own eid step None f there some mine far = absurd (cc)
noted_there works s w v own eid step (Some d) f there some mine far =
    let g = gone_to w.now w.packages d step (link_at v own) (subst (λ o. LinkStepsTo w.now w.packages d o (link_at v own)) mine (f.goes own d there)) in
    ap (history_of eid) (f.taken own d step g.stepped there mine g.goes) ∙ other_more own eid w.history g.stepped.noted far

-- A step of the world is a step of at most one link, and not of this one.
noted_elsewhere : (works : Bool) (s : Step) (w v : WorldOf) (own eid : ℕ) (o : Option LinkStep) → Follows works s w v → is_some (link_at w own) ≡ true
    → link_step works w.agent.endpoint.eid s own ≡ o → ((e : ℕ) → (own == e) ≡ false → link_step works w.agent.endpoint.eid s e ≡ None)
    → link_step works w.agent.endpoint.eid s eid ≡ None → history_of eid v.history ≡ history_of eid w.history
noted_elsewhere works s w v own eid None f there is others none =
    ap (history_of eid) (f.untaken (λ e l at. elim (eqb_tells own e) [
      | inl same ↦ ap (link_step works w.agent.endpoint.eid s) (sym same.1) ∙ is
      | inr other ↦ others e other.0
    ]))
noted_elsewhere works s w v own eid (Some step) f there is others none = elim (eqb_tells own eid) [
  | inl same ↦ absurd (let no : Some step ≡ None = sym is ∙ ap (link_step works w.agent.endpoint.eid s) same.1 ∙ none in cc)
  | inr other ↦ noted_there works s w v own eid step (link_at w own) f refl there is other.0
]

site_judged : (verdict : Verdict) (s : Option SiteOf) → verdict_fault verdict s ≡ None → is_some s ≡ true
site_judged verdict None e = absurd (cc)
site_judged verdict (Some x) e = refl

-- If its link takes no step, the device's history is unchanged.
unnoted : (works : Bool) (faults : ℕ) (w : WorldOf) (s : Step) (eid : ℕ) → AreLinked w → may_step w s ≡ None → Follows works s w (world_after works faults w s)
    → link_step works w.agent.endpoint.eid s eid ≡ None → history_of eid (world_after works faults w s).history ≡ history_of eid w.history
unnoted works faults w (steps.Deliver device number node) eid k may f none =
    let known = both_hold (is_device w device) (is_node w node) (known_both (is_device w device && is_node w node) (packet_fault w.now (item_numbered (packets_of w device) number)) may) in
    noted_elsewhere works (steps.Deliver device number node) w (world_after works faults w (steps.Deliver device number node)) device eid
    (link_step works w.agent.endpoint.eid (steps.Deliver device number node) device) f (k.known device known.0) refl
    (λ e far. ap (λ b. where_mine b (comes_as works number (node == w.agent.endpoint.eid) (node == e))) far) none
unnoted works faults w (steps.Verdict device verdict) eid k may f none =
    noted_elsewhere works (steps.Verdict device verdict) w (world_after works faults w (steps.Verdict device verdict)) device eid
    (link_step works w.agent.endpoint.eid (steps.Verdict device verdict) device) f (k.known device (site_judged verdict (site_for w.sites device) may)) refl
    (λ e far. ap (λ b. where_mine b (Some (LinkStep.Judge verdict works))) far) none
unnoted works faults w s eid k may f none = ap (history_of eid) (quiet_history works faults w s tt)

-- THE STEP

-- the value of an option
pub record FoundIn {A : Type 0} (o : Option A) (P : A → Type 0) : Type 0 where
  pub value : A
  pub is : o ≡ Some value
  pub fact : P value

pub found_in : {A : Type 0} (P : A → Type 0) (o : Option A) → IsSomeAnd o P → FoundIn o P
found_in P None k = absurd k
found_in P (Some x) k = record { value = x; is = refl; fact = k }

-- the facts about the device's node
seen_node : (works : Bool) (faults : ℕ) (w : WorldOf) (s : Step) (eid : ℕ) (p : SeenOf) → AreLinked w → may_step w s ≡ None → Follows works s w (world_after works faults w s) → (i : IsSeen w eid p)
    → SiteIs i.site.node.endpoint (tid_then (link_step works w.agent.endpoint.eid s eid) i.site.node.tid) (count_if (calls_bank w.agent.endpoint.eid s eid) faults i.site.node.faults)
    (site_for (world_after works faults w s).sites eid)
seen_node works faults w s eid p k may f i = node_goes works faults w s eid p.link i.site k may i.link i.there (f.goes eid p.link i.link)

seen_link : (works : Bool) (faults : ℕ) (w : WorldOf) (s : Step) (eid : ℕ) (p : SeenOf) (o : Option LinkStep) → AreLinked w → may_step w s ≡ None → Follows works s w (world_after works faults w s)
    → IsSeen w eid p → link_step works w.agent.endpoint.eid s eid ≡ o → IsSeen (world_after works faults w s) eid (seen_then w.now w.packages p o)
seen_link works faults w s eid p None k may f i is =
    let node = found_in (λ y. NodeIs i.site.node.endpoint (tid_then (link_step works w.agent.endpoint.eid s eid) i.site.node.tid) (count_if (calls_bank w.agent.endpoint.eid s eid) faults i.site.node.faults) y.node)
    (site_for (world_after works faults w s).sites eid) (seen_node works faults w s eid p k may f i) in
    record {
      link = subst (λ o. LinkStepsTo w.now w.packages p.link o (link_at (world_after works faults w s) eid)) is (f.goes eid p.link i.link);
      site = node.value;
      there = node.is;
      endpoint = node.fact.endpoint ∙ i.endpoint;
      tid = node.fact.tid ∙ ap (λ o. tid_then o i.site.node.tid) is ∙ i.tid;
      entries = unnoted works faults w s eid k may f is ∙ i.entries;
    }
seen_link works faults w s eid p (Some step) k may f i is =
    let v = world_after works faults w s in
    let node = found_in (λ y. NodeIs i.site.node.endpoint (tid_then (link_step works w.agent.endpoint.eid s eid) i.site.node.tid) (count_if (calls_bank w.agent.endpoint.eid s eid) faults i.site.node.faults) y.node)
    (site_for v.sites eid) (seen_node works faults w s eid p k may f i) in
    let g = gone_to w.now w.packages p.link step (link_at v eid) (subst (λ o. LinkStepsTo w.now w.packages p.link o (link_at v eid)) is (f.goes eid p.link i.link)) in
    subst (λ z. IsSeen v eid (seen_by p step z)) (sym g.goes) (record {
      link = g.is;
      site = node.value;
      there = node.is;
      endpoint = node.fact.endpoint ∙ i.endpoint;
      tid = node.fact.tid ∙ ap (λ o. tid_then o i.site.node.tid) is ∙ ap (tid_on step) i.tid;
      entries = ap (history_of eid) (f.taken eid p.link step g.stepped i.link is g.goes) ∙ own_more eid w.history g.stepped.noted ∙ ap (λ xs. xs ++ g.stepped.noted) i.entries;
    })

-- The state between them changes with the link.
pub seen_after : (works : Bool) (faults : ℕ) (w : WorldOf) (s : Step) (eid : ℕ) (p : SeenOf) → AreLinked w → may_step w s ≡ None → Follows works s w (world_after works faults w s)
    → IsSeen w eid p → IsSeen (world_after works faults w s) eid (seen_then w.now w.packages p (link_step works w.agent.endpoint.eid s eid))
seen_after works faults w s eid p k may f i = seen_link works faults w s eid p (link_step works w.agent.endpoint.eid s eid) k may f i refl

-- the bank's count of failures
count_in : (e : Endpoint) (t c : ℕ) (s : Option SiteOf) → SiteIs e t c s → faults_of s ≡ c
count_in e t c None k = absurd k
count_in e t c (Some x) k = k.faults

pub count_after : (works : Bool) (faults : ℕ) (w : WorldOf) (s : Step) (eid : ℕ) (p : SeenOf) → AreLinked w → may_step w s ≡ None → Follows works s w (world_after works faults w s)
    → IsSeen w eid p → faults_at (world_after works faults w s) eid ≡ count_if (calls_bank w.agent.endpoint.eid s eid) faults (faults_at w eid)
count_after works faults w s eid p k may f i =
    count_in _ _ _ (site_for (world_after works faults w s).sites eid) (seen_node works faults w s eid p k may f i)
    ∙ ap (count_if (calls_bank w.agent.endpoint.eid s eid) faults) (sym (ap faults_of i.there))
