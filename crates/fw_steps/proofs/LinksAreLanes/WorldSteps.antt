-- Each step of the world is a step of the link of each device, or no step of it.
use Rattle.std.proofs.Common.{◌≡◌, ◌∙◌, ◌+◌, ◌==◌, ◌&&◌, ◌≤◌, ℕ, Bool, true, false, is_some, Option, Some, None, IfSome, inl, inr, refl, sym, ap, subst}
use Rattle.std.specs.List.{AllByRecursion}
use Rattle.std.proofs.lemmas.Bool.{cases_lt, eq-eqb, lt-ltb}
use Rattle.std.proofs.lemmas.Bool.Decides.{eqb_tells}
use Rattle.exch_lane.specs.Lanes.{Sent, item_numbered}
use Rattle.exch_lane.specs.Laws.{LaneIsACell}
use Rattle.fw_message.specs.declared.side.Side.TheVariants as sides
use Rattle.fw_node.specs.Agents.{half_for}
use Rattle.fw_steps.specs.Steps.{has_session, is_device, is_node, may_step, packet_fault, where_known, world_after}
use Rattle.fw_steps.specs.LinksAreLanes.{LinkStepRoundTrips, AnswerRoundTripsOn}
use Rattle.fw_steps.specs.Links.{LinkOf}
use Rattle.fw_steps.specs.Worlds.{WorldOf, world_after_deliver, packets_of, site_for}
use Rattle.fw_steps.specs.declared.step.Step.{Step}
use Rattle.fw_steps.specs.declared.step.Step.TheVariants as steps
use Rattle.fw_steps.specs.declared.step.StepFault.{StepFault}
use Rattle.fw_steps.specs.declared.step.StepFault.TheVariants as faults
use Rattle.fw_steps.proofs.LinksAreLanes.AgentTicks.{AreApart, IsHalfOf}
use Rattle.fw_steps.proofs.LinksAreLanes.Delivered.{IsLinkOf, agent_comes, device_gets, packets_on}
use Rattle.fw_steps.proofs.LinksAreLanes.Projected.{LinkStepsTo, activate_projects, cancel_projects, comes_as, known_if, link_step, restart_projects, sel_at, start_projects, tick_projects, verdict_projects, where_mine}
use Rattle.fw_steps.proofs.LinksAreLanes.Projection.{link_at}
use Rattle.fw_steps.proofs.LinksAreLanes.Routes.{both_hold}

-- The links of a world: each device has one, all are explained, and no two halves of the agent are
-- for one device.
pub record AreLinked (w : WorldOf) : Type 0 where
  pub halves : AllByRecursion (IsHalfOf w.agent.deaf) w.agent.halves
  pub apart : AreApart w.agent.halves
  pub known : (eid : ℕ) → is_some (site_for w.sites eid) ≡ true → is_some (link_at w eid) ≡ true
  pub own : half_for w.agent w.agent.endpoint.eid ≡ None
  pub links : (eid : ℕ) (l : LinkOf) → link_at w eid ≡ Some l → IsLinkOf w eid l

-- the packet lives
pub still_living : (now : ℕ) (p : Sent) → packet_fault now (Some p) ≡ None → now ≤ p.date + 8
still_living now p e = elim (cases_lt (p.date + 8) now) [
  | inl dead ↦ let no : Some faults.Dead ≡ None = rw (lt-ltb (p.date + 8) now dead) at e in absurd (cc)
  | inr lives ↦ lives
]

-- the facts about its answer
abbrev Said : WorldOf → (works : Bool) → (number : ℕ) → LinkOf → (mine agent device : Bool) → Type 0
Said w works number d mine agent device = IfSome (where_mine mine (comes_as works number agent device)) (LinkStepRoundTrips w.packages d)

told_agent : (w : WorldOf) (works : Bool) (number device : ℕ) (agent here : Bool) (d : LinkOf) (p : Sent) → agent ≡ true → item_numbered d.packets number ≡ Some p
    → Said w works number d (device == device) agent here → AnswerRoundTripsOn w.packages d sides.Agent true p.bytes
told_agent w works number device agent here d p e at said =
    let mine = subst (λ b. Said w works number d b agent here) (eq-eqb device device refl) said in
    let mine_agent = subst (λ b. Said w works number d true b here) e mine in
    subst (λ o. IfSome o (λ q. AnswerRoundTripsOn w.packages d sides.Agent true q.bytes)) at mine_agent

told_device : (w : WorldOf) (works : Bool) (number device : ℕ) (agent here : Bool) (d : LinkOf) (p : Sent) → agent ≡ false → here ≡ true → item_numbered d.packets number ≡ Some p
    → Said w works number d (device == device) agent here → AnswerRoundTripsOn w.packages d sides.Device works p.bytes
told_device w works number device agent here d p e f at said =
    let mine = subst (λ b. Said w works number d b agent here) (eq-eqb device device refl) said in
    let mine_agent = subst (λ b. Said w works number d true b here) e mine in
    let mine_here = subst (λ b. Said w works number d true false b) f mine_agent in
    subst (λ o. IfSome o (λ q. AnswerRoundTripsOn w.packages d sides.Device works q.bytes)) at mine_here

-- a packet
packet_projects : (law : LaneIsACell) (works : Bool) (faults : ℕ) (w : WorldOf) (device number node eid : ℕ) (d l : LinkOf) (q : Option Sent) → AreLinked w
    → link_at w device ≡ Some d → link_at w eid ≡ Some l → item_numbered d.packets number ≡ q → packet_fault w.now q ≡ None
    → Said w works number d (device == device) (node == w.agent.endpoint.eid) (node == device)
    → LinkStepsTo w.now w.packages l (where_mine (device == eid) (comes_as works number (node == w.agent.endpoint.eid) (node == eid))) (link_at (world_after_deliver works faults w node q) eid)
packet_projects law works faults w device number node eid d l None k there is at may said = absurd (cc)
packet_projects law works faults w device number node eid d l (Some p) k there is at may said = elim (eqb_tells node w.agent.endpoint.eid) [
  | inl agent ↦
      let told = told_agent w works number device (node == w.agent.endpoint.eid) (node == device) d p agent.0 at said in
      rw agent.0 (agent_comes law works w device number eid (node == eid) d l p (k.links device d there) k.own there is at (still_living w.now p may) told)
  | inr other ↦
      rw other.0
      (device_gets law works faults w device number node eid d l p (k.links device d there) (k.links eid l is) there is at (still_living w.now p may) other.1
      (λ here. told_device w works number device (node == w.agent.endpoint.eid) (node == device) d p other.0 (eq-eqb node device here) at said))
]

linked_by : (law : LaneIsACell) (works : Bool) (faults : ℕ) (w : WorldOf) (device number node eid : ℕ) (l : LinkOf) (o : Option LinkOf) → AreLinked w
    → link_at w device ≡ o → is_some o ≡ true → link_at w eid ≡ Some l → packet_fault w.now (item_numbered (packets_of w device) number) ≡ None
    → ((d : LinkOf) → link_at w device ≡ Some d → Said w works number d (device == device) (node == w.agent.endpoint.eid) (node == device))
    → LinkStepsTo w.now w.packages l (where_mine (device == eid) (comes_as works number (node == w.agent.endpoint.eid) (node == eid)))
    (link_at (world_after_deliver works faults w node (item_numbered (packets_of w device) number)) eid)
linked_by law works faults w device number node eid l None k there some is may said = absurd (cc)
linked_by law works faults w device number node eid l (Some d) k there some is may said =
    packet_projects law works faults w device number node eid d l (item_numbered (packets_of w device) number) k there is
    (ap (λ ps. item_numbered ps number) (sym (packets_on w device d there))) may (said d there)

pub known_both : (known : Bool) (fault : Option StepFault) → where_known known fault ≡ None → known ≡ true
known_both true fault e = refl
known_both false fault e = absurd (cc)

-- A step of the world is a step of the link of each device, which then is the link after that step,
-- or no step of it.
pub projection : (law : LaneIsACell) (works : Bool) (faults : ℕ) (w : WorldOf) (s : Step) (eid : ℕ) (l : LinkOf) → AreLinked w → may_step w s ≡ None
    → ((device : ℕ) (d : LinkOf) → link_at w device ≡ Some d → IfSome (link_step works w.agent.endpoint.eid s device) (LinkStepRoundTrips w.packages d))
    → link_at w eid ≡ Some l
    → LinkStepsTo w.now w.packages l (link_step works w.agent.endpoint.eid s eid) (link_at (world_after works faults w s) eid)
projection law works faults w (steps.Deliver device number node) eid l k may said is =
    let known = both_hold (is_device w device) (is_node w node) (known_both (is_device w device && is_node w node) (packet_fault w.now (item_numbered (packets_of w device) number)) may) in
    linked_by law works faults w device number node eid l (link_at w device) k refl (k.known device known.0) is
    (known_if (is_device w device && is_node w node) (packet_fault w.now (item_numbered (packets_of w device) number)) may) (said device)
projection law works faults w (steps.Tick missed) eid l k may said is = tick_projects missed w eid l k.halves k.apart may is
projection law works faults w (steps.Start device number) eid l k may said is = start_projects w device number eid l may is
projection law works faults w (steps.Cancel device) eid l k may said is = cancel_projects w device eid l is
projection law works faults w (steps.Activate device) eid l k may said is = activate_projects w device eid l (has_session w device) may is
projection law works faults w (steps.Verdict device verdict) eid l k may said is = verdict_projects works faults w device eid verdict l may is
projection law works faults w (steps.Restart node) eid l k may said is = restart_projects w node eid l is
projection law works faults w (steps.Sel bytes) eid l k may said is = sel_at w bytes.items eid ∙ is
