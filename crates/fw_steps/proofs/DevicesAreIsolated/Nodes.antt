-- A device's node after a step of the world, without its half.
use Rattle.std.proofs.Common.{◌≡◌, ◌≢◌, ◌∙◌, ◌+◌, ◌==◌, ◌&&◌, ◌≤◌, ℕ, Bool, true, false, not, if◌then◌else◌, is_some, nat_lt, List, [], ◌∷◌, Option, Some, None, IsSomeAnd, inl, inr, refl, sym, ap, subst}
use Rattle.std.specs.List.{filter}
use Rattle.std.specs.Option.{option_map}
use Rattle.std.proofs.lemmas.Bool.{eq-eqb, eqb-true}
use Rattle.std.proofs.lemmas.Bool.Decides.{eqb_tells}
use Rattle.mctp_ctl.specs.declared.answers.Endpoint.{Endpoint}
use Rattle.pldm_base.specs.declared.terminus.Role.{Role}
use Rattle.pldm_base.specs.declared.terminus.Role.TheVariants as roles
use Rattle.exch_lane.specs.Lanes.{Sent, item_numbered}
use Rattle.fw_package.specs.Package.{PackageText}
use Rattle.fd_core.specs.declared.states.Verdict.{Verdict}
use Rattle.ua_core.specs.Session.{SessionOf}
use Rattle.fw_message.specs.declared.side.Side.TheVariants as sides
use Rattle.fw_node.specs.Agents.{agent_on_packet, half_for, ready_for}
use Rattle.fw_node.specs.Cores.{TimedDevice, device_core}
use Rattle.fw_node.specs.Halves.{HalfOutcome, half_on_packet}
use Rattle.fw_node.specs.Nodes.{DeviceNodeOf, device_restarts, node_outcome_of}
use Rattle.fw_steps.specs.Steps.{is_device, is_node, may_step, packet_fault, world_after}
use Rattle.fw_steps.specs.Links.{LinkOf, LinkStep, LinkStepped, delivers_on, link_step_of_device, link_after}
use Rattle.fw_steps.specs.Worlds.{SiteOf, WorldOf, activates_on, agent_pass_sends, world_after_log_request, at_agent, at_device, world_after_packet, counts, world_after_deliver, world_after_verdict, packets_of, place_of, posts, world_after_restart, site_for, site_after_tick, site_passes, site_restarts, world_after_tick}
use Rattle.fw_steps.specs.declared.step.Step.{Step}
use Rattle.fw_steps.specs.declared.step.Step.TheVariants as steps
use Rattle.fw_steps.proofs.LinksAreLanes.Arrivals.{device_put, heard_site}
use Rattle.fw_steps.proofs.LinksAreLanes.Delivered.{IsLinkOf, packets_on, strange_packet}
use Rattle.fw_steps.proofs.LinksAreLanes.Hears.{IsPassed}
use Rattle.fw_steps.proofs.LinksAreLanes.Misses.{link_packet_between}
use Rattle.fw_steps.proofs.LinksAreLanes.Posting.{posts_at, site_changed, site_put, with_packets, is_to}
use Rattle.fw_steps.proofs.LinksAreLanes.Projected.{LinkStepsTo, comes_as, known_if, link_site, link_step, restart_as, where_mine}
use Rattle.fw_steps.proofs.LinksAreLanes.Projection.{goes_on_eid, judged_site, judges_put, link_at, restarts_put}
use Rattle.fw_steps.proofs.LinksAreLanes.Routes.{both_hold}
use Rattle.fw_steps.proofs.LinksAreLanes.WorldSteps.{AreLinked, known_both, still_living}

-- the step calls the bank of this device
abbrev pub calls_bank : (agent : ℕ) → Step → (eid : ℕ) → Bool
calls_bank agent (steps.Deliver device number node) eid = not (node == agent) && (node == eid)
calls_bank agent (steps.Verdict device verdict) eid = device == eid
calls_bank agent s eid = false

-- a count of failures after a step that leaves that bank's count at this value
abbrev pub count_if : Bool → (faults before : ℕ) → ℕ
count_if true faults before = faults
count_if false faults before = before

-- a device's terminus identifier after a step of its link
abbrev pub tid_on : LinkStep → ℕ → ℕ
tid_on (LinkStep.Restart sides.Device) tid = 0
tid_on s tid = tid

abbrev pub tid_then : Option LinkStep → ℕ → ℕ
tid_then None tid = tid
tid_then (Some s) tid = tid_on s tid

-- a node has this endpoint, this terminus identifier and this count of failures
pub record NodeIs (e : Endpoint) (t c : ℕ) (n : DeviceNodeOf) : Type 0 where
  pub endpoint : n.endpoint ≡ e
  pub tid : n.tid ≡ t
  pub faults : n.faults ≡ c

abbrev pub SiteIs : Endpoint → (t c : ℕ) → Option SiteOf → Type 0
SiteIs e t c s = IsSomeAnd s (λ y. NodeIs e t c y.node)

site_is : (e : Endpoint) (t c : ℕ) (s : Option SiteOf) (y : SiteOf) → s ≡ Some y → NodeIs e t c y.node → SiteIs e t c s
site_is e t c s y is k = subst (SiteIs e t c) (sym is) k

-- the node is unchanged
same_site : (t c : ℕ) (s : Option SiteOf) (x : SiteOf) → s ≡ Some x → t ≡ x.node.tid → c ≡ x.node.faults → SiteIs x.node.endpoint t c s
same_site t c s x is tid count = site_is x.node.endpoint t c s x is (record { endpoint = refl; tid = sym tid; faults = sym count })

-- a node that `g` changes, or that stays
put_is : (here : Bool) (g : SiteOf → SiteOf) (s o : Option SiteOf) (x : SiteOf) (e : Endpoint) (t c : Bool → ℕ) → s ≡ (if here then option_map g o else o) → o ≡ Some x
    → (here ≡ true → NodeIs e (t true) (c true) (g x).node) → NodeIs e (t false) (c false) x.node → SiteIs e (t here) (c here) s
put_is true g s o x e t c put is k same = site_is e (t true) (c true) s (g x) (put ∙ ap (option_map g) is) (k refl)
put_is false g s o x e t c put is k same = site_is e (t false) (c false) s x (put ∙ is) same

-- every step but a restart of the device keeps its terminus identifier
tid_mine : (mine : Bool) (s : LinkStep) (tid : ℕ) → tid_on s tid ≡ tid → tid_then (where_mine mine (Some s)) tid ≡ tid
tid_mine true s tid e = e
tid_mine false s tid e = refl

tid_comes : (works : Bool) (number : ℕ) (mine agent here : Bool) (tid : ℕ) → tid_then (where_mine mine (comes_as works number agent here)) tid ≡ tid
tid_comes works number true true here tid = refl
tid_comes works number true false true tid = refl
tid_comes works number true false false tid = refl
tid_comes works number false agent here tid = refl

-- A PACKET

-- every outcome but a request of another PLDM type keeps it too
heard_tid : {C : Type 0} (role : Role) (endpoint : Endpoint) (tid : ℕ) (heard : HalfOutcome C) → IsPassed heard → (node_outcome_of role endpoint tid heard).tid ≡ tid
heard_tid role endpoint tid (HalfOutcome.Went h sent) k = refl
heard_tid role endpoint tid (HalfOutcome.Took h sent c answer) k = refl
heard_tid role endpoint tid (HalfOutcome.Asks h m head body) k = absurd k
heard_tid role endpoint tid (HalfOutcome.Strayed h m) k = absurd k

-- no outcome that a link takes is such a request
passed_on : (now : ℕ) (works : Bool) (l : LinkOf) (heard : HalfOutcome TimedDevice) (P : LinkStepped → Type 0) → IsSomeAnd (link_step_of_device now works l heard) P → IsPassed heard
passed_on now works l (HalfOutcome.Went h sent) P k = tt
passed_on now works l (HalfOutcome.Took h sent c answer) P k = tt
passed_on now works l (HalfOutcome.Asks h m head body) P k = absurd k
passed_on now works l (HalfOutcome.Strayed h m) P k = absurd k

passed_if : (dead : Bool) (now : ℕ) (works : Bool) (l : LinkOf) (heard : HalfOutcome TimedDevice) (P : LinkStepped → Type 0)
    → IsSomeAnd (if dead then None else link_step_of_device now works l heard) P → IsPassed heard
passed_if true now works l heard P k = absurd k
passed_if false now works l heard P k = passed_on now works l heard P k

came_passed : (now : ℕ) (packages : List PackageText) (l : LinkOf) (number : ℕ) (works : Bool) (p : Sent) (P : LinkStepped → Type 0) → item_numbered l.packets number ≡ Some p
    → IsSomeAnd (link_after now packages l (LinkStep.Deliver number sides.Device works)) P → IsPassed (half_on_packet device_core works l.device p.bytes)
came_passed now packages l number works p P at k =
    let there : IsSomeAnd (delivers_on now packages l sides.Device works (Some p)) P = subst (λ o. IsSomeAnd (delivers_on now packages l sides.Device works o) P) at k in
    passed_if (nat_lt (p.date + 8) now) now works l (half_on_packet device_core works l.device p.bytes) P there

device_passes : (works : Bool) (w : WorldOf) (device number node eid : ℕ) (d l : LinkOf) (p : Sent) (after : Option LinkOf) → IsLinkOf w device d → IsLinkOf w eid l
    → link_at w device ≡ Some d → link_at w eid ≡ Some l → item_numbered d.packets number ≡ Some p → w.now ≤ p.date + 8 → node ≢ w.agent.endpoint.eid → node ≡ eid
    → LinkStepsTo w.now w.packages l (where_mine (device == eid) (comes_as works number false true)) after → IsPassed (half_on_packet device_core works l.device p.bytes)
device_passes works w device number node eid d l p after kd kl there is at soon other here goes = elim (eqb_tells device eid) [
  | inl mine ↦
      let same : d ≡ l = (let both : Some d ≡ Some l = sym there ∙ ap (link_at w) mine.1 ∙ is in cc) in
      came_passed w.now w.packages l number works p (λ t. after ≡ Some t.after) (subst (λ x. item_numbered x.packets number ≡ Some p) same at)
      (subst (λ b. LinkStepsTo w.now w.packages l (where_mine b (comes_as works number false true)) after) mine.0 goes)
  | inr strange ↦
      subst IsPassed
      (sym (strange_packet works l d p.bytes (link_packet_between w.now d number p kd.explained at soon)
      (λ z. other (here ∙ sym kl.device ∙ z ∙ kd.agent)) (λ z. strange.1 (sym kd.device ∙ sym z ∙ kl.device)))) tt
]

heard_node : (works : Bool) (faults : ℕ) (now : ℕ) (bytes : List ℕ) (x : SiteOf) → IsPassed (half_on_packet device_core works x.node.half bytes)
    → NodeIs x.node.endpoint x.node.tid faults (heard_site works faults now bytes x).node
heard_node works faults now bytes x k =
    record { endpoint = refl; tid = heard_tid roles.Device x.node.endpoint x.node.tid (half_on_packet device_core works x.node.half bytes) k; faults = refl }

-- the half of a device's node is that of its link
half_of_site : (w : WorldOf) (eid : ℕ) (l : LinkOf) (x : SiteOf) → link_at w eid ≡ Some l → site_for w.sites eid ≡ Some x → x.node.half ≡ l.device
half_of_site w eid l x is site =
    let both : IsSomeAnd (site_for w.sites eid) (λ y. (y.node.half ≡ l.device) × (y.packets ≡ l.packets)) = link_site _ (half_for w.agent eid) (site_for w.sites eid) l is in
    let here : (x.node.half ≡ l.device) × (x.packets ≡ l.packets) = subst (λ o. IsSomeAnd o (λ y. (y.node.half ≡ l.device) × (y.packets ≡ l.packets))) site both in
    here.0

at_device_node : (works : Bool) (faults : ℕ) (w : WorldOf) (bytes : List ℕ) (node eid : ℕ) (x : SiteOf) → site_for w.sites eid ≡ Some x
    → (node ≡ eid → IsPassed (half_on_packet device_core works x.node.half bytes))
    → SiteIs x.node.endpoint x.node.tid (count_if (node == eid) faults x.node.faults) (site_for (at_device works faults w bytes (place_of w.sites node) (site_for w.sites node)).sites eid)
at_device_node works faults w bytes node eid x site passes =
    put_is (node == eid) (heard_site works faults w.now bytes) (site_for (at_device works faults w bytes (place_of w.sites node) (site_for w.sites node)).sites eid) (site_for w.sites eid) x
    x.node.endpoint (λ b. x.node.tid) (λ b. count_if b faults x.node.faults)
    (ap (λ xs. site_for xs eid) (device_put works faults w bytes (place_of w.sites node) (site_for w.sites node))
    ∙ site_put (heard_site works faults w.now bytes) (λ y. refl) w.sites node eid)
    site (λ here. heard_node works faults w.now bytes x (passes (eqb-true node eid here))) (record { endpoint = refl; tid = refl; faults = refl })

at_agent_node : (w : WorldOf) (bytes : List ℕ) (eid : ℕ) (x : SiteOf) → site_for w.sites eid ≡ Some x → SiteIs x.node.endpoint x.node.tid x.node.faults (site_for (at_agent w bytes).sites eid)
at_agent_node w bytes eid x site =
    let sent = (agent_on_packet w.packages w.agent bytes w.now).sent in
    site_is x.node.endpoint x.node.tid x.node.faults _ (with_packets w.now (filter (is_to eid) sent) x)
    (posts_at w.now sent w.sites eid ∙ ap (option_map (with_packets w.now (filter (is_to eid) sent))) site)
    (record { endpoint = refl; tid = refl; faults = refl })

comes_node : (works : Bool) (faults : ℕ) (w : WorldOf) (bytes : List ℕ) (node eid : ℕ) (x : SiteOf) → site_for w.sites eid ≡ Some x
    → ((node == w.agent.endpoint.eid) ≡ false → node ≢ w.agent.endpoint.eid → node ≡ eid → IsPassed (half_on_packet device_core works x.node.half bytes))
    → SiteIs x.node.endpoint x.node.tid (count_if (not (node == w.agent.endpoint.eid) && (node == eid)) faults x.node.faults) (site_for (world_after_packet works faults w node bytes).sites eid)
comes_node works faults w bytes node eid x site passes = elim (eqb_tells node w.agent.endpoint.eid) [
  | inl agent ↦ rw agent.0 (at_agent_node w bytes eid x site)
  | inr other ↦ rw other.0 (at_device_node works faults w bytes node eid x site (λ here. passes other.0 other.1 here))
]

packet_node : (works : Bool) (faults : ℕ) (w : WorldOf) (device number node eid : ℕ) (l : LinkOf) (x : SiteOf) (d : Option LinkOf) (q : Option Sent) → AreLinked w
    → link_at w device ≡ d → is_some d ≡ true → item_numbered (packets_of w device) number ≡ q → packet_fault w.now q ≡ None → link_at w eid ≡ Some l → site_for w.sites eid ≡ Some x
    → LinkStepsTo w.now w.packages l (where_mine (device == eid) (comes_as works number (node == w.agent.endpoint.eid) (node == eid))) (link_at (world_after_deliver works faults w node q) eid)
    → SiteIs x.node.endpoint x.node.tid (count_if (not (node == w.agent.endpoint.eid) && (node == eid)) faults x.node.faults) (site_for (world_after_deliver works faults w node q).sites eid)
packet_node works faults w device number node eid l x None q k there some at may is site goes = absurd (cc)
packet_node works faults w device number node eid l x (Some d) None k there some at may is site goes = absurd (cc)
packet_node works faults w device number node eid l x (Some d) (Some p) k there some at may is site goes =
    comes_node works faults w p.bytes node eid x site
    (λ mine other here.
    let half = half_of_site w eid l x is site in
    let to_agent = subst (λ b. LinkStepsTo w.now w.packages l (where_mine (device == eid) (comes_as works number b (node == eid))) (link_at (world_after_packet works faults w node p.bytes) eid)) mine goes in
    let to_device = subst (λ b. LinkStepsTo w.now w.packages l (where_mine (device == eid) (comes_as works number false b)) (link_at (world_after_packet works faults w node p.bytes) eid)) (eq-eqb node eid here) to_agent in
    subst (λ h. IsPassed (half_on_packet device_core works h p.bytes)) (sym half)
    (device_passes works w device number node eid d l p (link_at (world_after_packet works faults w node p.bytes) eid) (k.links device d there) (k.links eid l is) there is
    (sym (ap (λ ps. item_numbered ps number) (packets_on w device d there)) ∙ at) (still_living w.now p may) other here to_device))

-- A TICK

passed_node : (counts : Bool) (now : ℕ) (x : SiteOf) → NodeIs x.node.endpoint x.node.tid x.node.faults (site_passes counts now x).node
passed_node true now x = record { endpoint = refl; tid = refl; faults = refl }
passed_node false now x = record { endpoint = refl; tid = refl; faults = refl }

tick_node : (missed : List ℕ) (w : WorldOf) (eid : ℕ) (x : SiteOf) → site_for w.sites eid ≡ Some x → SiteIs x.node.endpoint x.node.tid x.node.faults (site_for (world_after_tick missed w).sites eid)
tick_node missed w eid x site =
    let sent = agent_pass_sends (counts missed w.agent.endpoint.eid) w.packages w.agent in
    let put = with_packets (w.now + 1) (filter (is_to eid) sent) in
    site_is x.node.endpoint x.node.tid x.node.faults _ (site_after_tick missed (w.now + 1) (put x))
    (site_changed (site_after_tick missed (w.now + 1)) (goes_on_eid missed (w.now + 1)) (posts (w.now + 1) w.sites sent) eid
    ∙ ap (option_map (site_after_tick missed (w.now + 1))) (posts_at (w.now + 1) sent w.sites eid ∙ ap (option_map put) site))
    (passed_node (counts missed x.node.endpoint.eid) (w.now + 1) (put x))

-- THE OPERATOR, A VERDICT, A RESTART, THE LOG

pub activates_sites : (w : WorldOf) (device : ℕ) (o : Option SessionOf) → (activates_on w device o).sites ≡ w.sites
activates_sites w device None = refl
activates_sites w device (Some s) = refl

pub log_sites : (w : WorldOf) (bytes : List ℕ) → (world_after_log_request w bytes).sites ≡ w.sites
log_sites w [] = refl
log_sites w (command ∷ bytes) = refl

judged_node : (works : Bool) (faults : ℕ) (w : WorldOf) (verdict : Verdict) (device eid : ℕ) (x : SiteOf) → site_for w.sites eid ≡ Some x
    → SiteIs x.node.endpoint x.node.tid (count_if (device == eid) faults x.node.faults) (site_for (world_after_verdict works faults w verdict (place_of w.sites device) (site_for w.sites device)).sites eid)
judged_node works faults w verdict device eid x site =
    put_is (device == eid) (judged_site works faults verdict) (site_for (world_after_verdict works faults w verdict (place_of w.sites device) (site_for w.sites device)).sites eid) (site_for w.sites eid) x
    x.node.endpoint (λ b. x.node.tid) (λ b. count_if b faults x.node.faults)
    (ap (λ xs. site_for xs eid) (judges_put works faults w verdict (place_of w.sites device) (site_for w.sites device))
    ∙ site_put (judged_site works faults verdict) (λ y. refl) w.sites device eid)
    site (λ here. record { endpoint = refl; tid = refl; faults = refl }) (record { endpoint = refl; tid = refl; faults = refl })

-- a device that restarts
abbrev anew : SiteOf → SiteOf
anew x = record x { node = device_restarts x.node }

restarted_at : (w : WorldOf) (node eid : ℕ) (x : SiteOf) → site_for w.sites eid ≡ Some x
    → SiteIs x.node.endpoint (tid_then (restart_as false (node == eid)) x.node.tid) x.node.faults (site_for (site_restarts w.sites (place_of w.sites node) (site_for w.sites node)) eid)
restarted_at w node eid x site =
    put_is (node == eid) anew (site_for (site_restarts w.sites (place_of w.sites node) (site_for w.sites node)) eid) (site_for w.sites eid) x
    x.node.endpoint (λ b. tid_then (restart_as false b) x.node.tid) (λ b. x.node.faults)
    (ap (λ xs. site_for xs eid) (restarts_put w.sites (place_of w.sites node) (site_for w.sites node)) ∙ site_put anew (λ y. refl) w.sites node eid)
    site (λ here. record { endpoint = refl; tid = refl; faults = refl }) (record { endpoint = refl; tid = refl; faults = refl })

restarted_node : (w : WorldOf) (node eid : ℕ) (x : SiteOf) → site_for w.sites eid ≡ Some x
    → SiteIs x.node.endpoint (tid_then (restart_as (node == w.agent.endpoint.eid) (node == eid)) x.node.tid) x.node.faults (site_for (world_after_restart w node).sites eid)
restarted_node w node eid x site = elim (eqb_tells node w.agent.endpoint.eid) [
  | inl agent ↦ rw agent.0 (same_site x.node.tid x.node.faults _ x site refl refl)
  | inr other ↦ rw other.0 (restarted_at w node eid x site)
]

-- ANY STEP

-- A device keeps its endpoint. Its terminus identifier is 0 after its restart, and stays in every
-- other step. Its bank's count of failures stays if the bank isn't called.
pub node_goes : (works : Bool) (faults : ℕ) (w : WorldOf) (s : Step) (eid : ℕ) (l : LinkOf) (x : SiteOf) → AreLinked w → may_step w s ≡ None → link_at w eid ≡ Some l → site_for w.sites eid ≡ Some x
    → LinkStepsTo w.now w.packages l (link_step works w.agent.endpoint.eid s eid) (link_at (world_after works faults w s) eid)
    → SiteIs x.node.endpoint (tid_then (link_step works w.agent.endpoint.eid s eid) x.node.tid) (count_if (calls_bank w.agent.endpoint.eid s eid) faults x.node.faults)
    (site_for (world_after works faults w s).sites eid)
node_goes works faults w (steps.Deliver device number node) eid l x k may is site goes =
    let fault = packet_fault w.now (item_numbered (packets_of w device) number) in
    let known = both_hold (is_device w device) (is_node w node) (known_both (is_device w device && is_node w node) fault may) in
    subst (λ t. SiteIs x.node.endpoint t (count_if (not (node == w.agent.endpoint.eid) && (node == eid)) faults x.node.faults) (site_for (world_after works faults w (steps.Deliver device number node)).sites eid))
    (sym (tid_comes works number (device == eid) (node == w.agent.endpoint.eid) (node == eid) x.node.tid))
    (packet_node works faults w device number node eid l x (link_at w device) (item_numbered (packets_of w device) number) k refl (k.known device known.0) refl
    (known_if (is_device w device && is_node w node) fault may) is site goes)
node_goes works faults w (steps.Tick missed) eid l x k may is site goes = tick_node missed.items w eid x site
node_goes works faults w (steps.Start device number) eid l x k may is site goes = same_site _ _ _ x site (tid_mine (device == eid) (LinkStep.Start number) x.node.tid refl) refl
node_goes works faults w (steps.Cancel device) eid l x k may is site goes = same_site _ _ _ x site (tid_mine (device == eid) LinkStep.Cancel x.node.tid refl) refl
node_goes works faults w (steps.Activate device) eid l x k may is site goes =
    same_site _ _ _ x (ap (λ xs. site_for xs eid) (activates_sites w device (ready_for w.agent device)) ∙ site) (tid_mine (device == eid) LinkStep.Activate x.node.tid refl) refl
node_goes works faults w (steps.Verdict device verdict) eid l x k may is site goes =
    subst (λ t. SiteIs x.node.endpoint t (count_if (device == eid) faults x.node.faults) (site_for (world_after works faults w (steps.Verdict device verdict)).sites eid))
    (sym (tid_mine (device == eid) (LinkStep.Judge verdict works) x.node.tid refl)) (judged_node works faults w verdict device eid x site)
node_goes works faults w (steps.Restart node) eid l x k may is site goes = restarted_node w node eid x site
node_goes works faults w (steps.Sel bytes) eid l x k may is site goes = same_site _ _ _ x (ap (λ xs. site_for xs eid) (log_sites w bytes.items) ∙ site) refl refl
