-- A world that matches one over whole messages still does after any step.
use Rattle.std.proofs.Common.{◌≡◌, ◌&&◌, ◌≢◌, ◌∙◌, ◌+◌, ◌-◌, ◌^◌, ◌==◌, ℕ, Bool, true, false, if◌then◌else◌, nat_lt, List, [], ◌∷◌, Option, Some, None, inl, inr, refl, sym, ap, subst, arith}
use Rattle.std.proofs.lemmas.Bool.{eq-eqb, ne_eqb}
use Rattle.std.proofs.lemmas.Bool.Decides.{eqb_tells}
use Rattle.arrayvec.specs.declared.array_vec.ArrayVec.{ArrayVec}
use Rattle.exch_lane.specs.Clocks.{may_beat}
use Rattle.exch_lane.specs.Lanes.{Sent, item_numbered}
use Rattle.exch_lane.specs.Laws.{LaneIsACell}
use Rattle.fw_package.specs.Package.{PackageText}
use Rattle.fd_core.specs.declared.states.Verdict.{Verdict}
use Rattle.ua_core.specs.Session.{SessionOf}
use Rattle.fw_message.specs.declared.side.Side.TheVariants as sides
use Rattle.fw_node.specs.Agents.{ready_for}
use Rattle.fw_node.specs.Cores.{session_core}
use Rattle.fw_node.specs.Halves.{half_restarts}
use Rattle.fw_steps.specs.Steps.{StepsTo, may_step, world_after}
use Rattle.fw_steps.specs.LinksAreMessages.{LinksAreMessages}
use Rattle.fw_steps.specs.LinksAreLanes.{LinksAreLanes}
use Rattle.fw_steps.specs.Links.{LinkOf, LinkStep, LinkStepped, link_after, link_ticks, time_after, link_step_without_entries}
use Rattle.fw_steps.specs.Worlds.{SiteOf, WorldOf, activates_on, world_after_log_request, at_agent, at_device, counts, world_after_deliver, world_after_verdict, packets_of, place_of, site_for}
use Rattle.fw_steps.specs.declared.step.Step.{Step}
use Rattle.fw_steps.specs.declared.step.Step.TheVariants as steps
use Rattle.fw_steps.proofs.LinksAreMessages.Each.{IsAlone}
use Rattle.fw_steps.proofs.LinksAreLanes.Beats.{tick_may}
use Rattle.fw_steps.proofs.LinksAreLanes.Delivered.{IsLinkOf}
use Rattle.fw_steps.proofs.LinksAreLanes.Keys.{eids_stay, peers_stay}
use Rattle.fw_steps.proofs.LinksAreLanes.Linked.{linked_world}
use Rattle.fw_steps.proofs.LinksAreLanes.Projected.{comes_as, link_step, restart_as, where_mine}
use Rattle.fw_steps.proofs.LinksAreLanes.Projection.{link_at, on_agent}
use Rattle.fw_steps.proofs.LinksAreLanes.WorldSteps.{AreLinked, projection}
use Rattle.fw_steps.proofs.PacketsAreSafe.HistoryGrows.{history_grows}
use Rattle.fw_steps.proofs.PacketsAreSafe.KnownDeaf.{agent_stays, deaf_goes}
use Rattle.fw_steps.proofs.PacketsAreSafe.SafeStands.{Follows, Stand, known_links, stand_none, stand_one}
use Rattle.fw_steps.proofs.PacketsAreSafe.SafeTicks.{stand_all, stand_anew}
use Rattle.fw_steps.proofs.ReadingBack.WorldRoundTrips.{links_say}

-- THE PACKAGES AND THE TIME

-- the same packages at the same time, and the agent has missed no tick
pub record SameMoment (w v : WorldOf) : Type 0 where
  pub packages : v.packages ≡ w.packages
  pub now : v.now ≡ w.now
  pub since : v.since_miss ≡ w.since_miss

same_moment : (w v : WorldOf) → v ≡ w → SameMoment w v
same_moment w v e = record { packages = ap (λ x. x.packages) e; now = ap (λ x. x.now) e; since = ap (λ x. x.since_miss) e }

moment_if : (agent : Bool) (w u v : WorldOf) → SameMoment w u → SameMoment w v → SameMoment w (if agent then u else v)
moment_if true w u v h k = h
moment_if false w u v h k = k

device_moment : (works : Bool) (faults : ℕ) (w : WorldOf) (bytes : List ℕ) (o : Option ℕ) (s : Option SiteOf) → SameMoment w (at_device works faults w bytes o s)
device_moment works faults w bytes None s = same_moment w w refl
device_moment works faults w bytes (Some p) None = same_moment w w refl
device_moment works faults w bytes (Some p) (Some x) = record { packages = refl; now = refl; since = refl }

delivered_moment : (works : Bool) (faults : ℕ) (w : WorldOf) (node : ℕ) (o : Option Sent) → SameMoment w (world_after_deliver works faults w node o)
delivered_moment works faults w node None = same_moment w w refl
delivered_moment works faults w node (Some p) =
    moment_if (node == w.agent.endpoint.eid) w (at_agent w p.bytes) (at_device works faults w p.bytes (place_of w.sites node) (site_for w.sites node))
    (record { packages = refl; now = refl; since = refl }) (device_moment works faults w p.bytes (place_of w.sites node) (site_for w.sites node))

activated_moment : (w : WorldOf) (device : ℕ) (o : Option SessionOf) → SameMoment w (activates_on w device o)
activated_moment w device None = same_moment w w refl
activated_moment w device (Some s) = record { packages = refl; now = refl; since = refl }

judged_moment : (works : Bool) (faults : ℕ) (w : WorldOf) (verdict : Verdict) (o : Option ℕ) (s : Option SiteOf) → SameMoment w (world_after_verdict works faults w verdict o s)
judged_moment works faults w verdict None s = same_moment w w refl
judged_moment works faults w verdict (Some p) None = same_moment w w refl
judged_moment works faults w verdict (Some p) (Some x) = record { packages = refl; now = refl; since = refl }

log_moment : (w : WorldOf) (bytes : List ℕ) → SameMoment w (world_after_log_request w bytes)
log_moment w [] = record { packages = refl; now = refl; since = refl }
log_moment w (command ∷ bytes) = record { packages = refl; now = refl; since = refl }

restart_moment : (works : Bool) (faults : ℕ) (w : WorldOf) (node : ℕ) → SameMoment w (world_after works faults w (steps.Restart node))
restart_moment works faults w node = moment_if (node == w.agent.endpoint.eid) w _ _ (record { packages = refl; now = refl; since = refl }) (record { packages = refl; now = refl; since = refl })

pub packages_stay : (works : Bool) (faults : ℕ) (w : WorldOf) (s : Step) → (world_after works faults w s).packages ≡ w.packages
packages_stay works faults w (steps.Deliver device number node) = (delivered_moment works faults w node (item_numbered (packets_of w device) number)).packages
packages_stay works faults w (steps.Tick missed) = refl
packages_stay works faults w (steps.Start device number) = refl
packages_stay works faults w (steps.Cancel device) = refl
packages_stay works faults w (steps.Activate device) = (activated_moment w device (ready_for w.agent device)).packages
packages_stay works faults w (steps.Verdict device verdict) = (judged_moment works faults w verdict (place_of w.sites device) (site_for w.sites device)).packages
packages_stay works faults w (steps.Restart node) = (restart_moment works faults w node).packages
packages_stay works faults w (steps.Sel bytes) = (log_moment w bytes.items).packages

-- the time after a step
abbrev pub now_then : ℕ → Step → ℕ
now_then now (steps.Tick missed) = now + 1
now_then now s = now

pub time_goes : (works : Bool) (faults : ℕ) (w : WorldOf) (s : Step) → (world_after works faults w s).now ≡ now_then w.now s
time_goes works faults w (steps.Deliver device number node) = (delivered_moment works faults w node (item_numbered (packets_of w device) number)).now
time_goes works faults w (steps.Tick missed) = refl
time_goes works faults w (steps.Start device number) = refl
time_goes works faults w (steps.Cancel device) = refl
time_goes works faults w (steps.Activate device) = (activated_moment w device (ready_for w.agent device)).now
time_goes works faults w (steps.Verdict device verdict) = (judged_moment works faults w verdict (place_of w.sites device) (site_for w.sites device)).now
time_goes works faults w (steps.Restart node) = (restart_moment works faults w node).now
time_goes works faults w (steps.Sel bytes) = (log_moment w bytes.items).now

-- Only a tick is one that the agent may miss.
pub since_goes : (works : Bool) (faults : ℕ) (w : WorldOf) (s : Step) → now_then w.now s ≡ w.now → (world_after works faults w s).since_miss ≡ w.since_miss
since_goes works faults w (steps.Deliver device number node) e = (delivered_moment works faults w node (item_numbered (packets_of w device) number)).since
since_goes works faults w (steps.Tick missed) e = absurd (omega (arith, e))
since_goes works faults w (steps.Start device number) e = refl
since_goes works faults w (steps.Cancel device) e = refl
since_goes works faults w (steps.Activate device) e = (activated_moment w device (ready_for w.agent device)).since
since_goes works faults w (steps.Verdict device verdict) e = (judged_moment works faults w verdict (place_of w.sites device) (site_for w.sites device)).since
since_goes works faults w (steps.Restart node) e = (restart_moment works faults w node).since
since_goes works faults w (steps.Sel bytes) e = (log_moment w bytes.items).since

-- FACTS AFTER A STEP

pub world_follows : LaneIsACell → (opening w v : WorldOf) (s : Step) → Stand opening w → (h : StepsTo w s v) → Follows h.works s w (world_after h.works h.faults w s)
world_follows law opening w v s k h =
    let linked : AreLinked w = linked_world w (known_links opening w k) in
    let notes = history_grows h.works h.faults w s linked h.may in
    record {
      packages = packages_stay h.works h.faults w s;
      peers = peers_stay h.works h.faults w s linked.halves;
      eids = eids_stay h.works h.faults w s;
      agent = agent_stays h.works h.faults w s;
      deaf = λ eid. deaf_goes h.works h.faults w s eid;
      goes = λ eid l is. projection law h.works h.faults w s eid l linked h.may (λ device d there. links_say opening w device d (link_step h.works w.agent.endpoint.eid s device) k there) is;
      said = λ eid l is. links_say opening w eid l (link_step h.works w.agent.endpoint.eid s eid) k is;
      taken = λ eid l step t is mine after. notes.taken eid l step t is mine after;
      untaken = λ none. notes.untaken none;
    }

-- THE LINKS THAT TAKE A STEP

-- one device's
mine_only : (own : ℕ) (o : Option LinkStep) (eid : ℕ) → eid ≢ own → where_mine (own == eid) o ≡ None
mine_only own o eid far = ap (λ b. where_mine b o) (ne_eqb own eid (λ z. far (sym z)))

mine_itself : (own : ℕ) (o : Option LinkStep) → where_mine (own == own) o ≡ o
mine_itself own o = ap (λ b. where_mine b o) (eq-eqb own own refl)

stand_own : LinksAreLanes → LinksAreMessages → (opening w v : WorldOf) (works : Bool) (s : Step) (own : ℕ) (step : LinkStep) (o : Option LinkOf) → Stand opening w → Follows works s w v → v.now ≡ w.now
    → link_at w own ≡ o → link_step works w.agent.endpoint.eid s own ≡ Some step → time_after w.now step ≡ w.now → IsAlone step
    → ((eid : ℕ) → eid ≢ own → link_step works w.agent.endpoint.eid s eid ≡ None) → Stand opening v
stand_own lanes messages opening w v works s own step None k f time is mine soon alone others =
    stand_none lanes opening w v works s k f time
    (λ eid l there. others eid (λ z. absurd (let no : Some l ≡ None = sym there ∙ ap (link_at w) z ∙ is in cc)))
stand_own lanes messages opening w v works s own step (Some l) k f time is mine soon alone others = stand_one lanes messages opening w v works s own l step k f time is mine soon alone others

stand_mine : LinksAreLanes → LinksAreMessages → (opening w v : WorldOf) (works : Bool) (s : Step) (own : ℕ) (step : LinkStep) → Stand opening w → Follows works s w v → v.now ≡ w.now
    → ((eid : ℕ) → link_step works w.agent.endpoint.eid s eid ≡ where_mine (own == eid) (Some step)) → time_after w.now step ≡ w.now → IsAlone step → Stand opening v
stand_mine lanes messages opening w v works s own step k f time is soon alone =
    stand_own lanes messages opening w v works s own step (link_at w own) k f time refl (is own ∙ mine_itself own (Some step)) soon alone (λ eid far. is eid ∙ mine_only own (Some step) eid far)

-- A packet is delivered.
comes_none : (works : Bool) (number : ℕ) (mine : Bool) → where_mine mine (comes_as works number false false) ≡ None
comes_none works number true = refl
comes_none works number false = refl

stand_comes : LinksAreLanes → LinksAreMessages → (opening w v : WorldOf) (works : Bool) (device number node : ℕ) → Stand opening w → Follows works (steps.Deliver device number node) w v → v.now ≡ w.now → Stand opening v
stand_comes lanes messages opening w v works device number node k f time = elim (eqb_tells node w.agent.endpoint.eid) [
  | inl agent ↦
      stand_mine lanes messages opening w v works (steps.Deliver device number node) device (LinkStep.Deliver number sides.Agent works) k f time
      (λ eid. ap (λ b. where_mine (device == eid) (comes_as works number b (node == eid))) agent.0) refl tt
  | inr other ↦ elim (eqb_tells node device) [
    | inl here ↦
        stand_own lanes messages opening w v works (steps.Deliver device number node) device (LinkStep.Deliver number sides.Device works) (link_at w device) k f time refl
        (mine_itself device (comes_as works number (node == w.agent.endpoint.eid) (node == device)) ∙ ap (λ b. comes_as works number b (node == device)) other.0 ∙ ap (λ b. comes_as works number false b) here.0)
        refl tt (λ eid far. mine_only device (comes_as works number (node == w.agent.endpoint.eid) (node == eid)) eid far)
    | inr elsewhere ↦
        stand_none lanes opening w v works (steps.Deliver device number node) k f time
        (λ eid l there. elim (eqb_tells device eid) [
          | inl mine ↦
              let nobody : (node == eid) ≡ false = ap (λ d. node == d) (sym mine.1) ∙ elsewhere.0 in
              ap (λ b. where_mine (device == eid) (comes_as works number b (node == eid))) other.0
              ∙ ap (λ b. where_mine (device == eid) (comes_as works number false b)) nobody
              ∙ comes_none works number (device == eid)
          | inr strange ↦ ap (λ b. where_mine b (comes_as works number (node == w.agent.endpoint.eid) (node == eid))) strange.0
        ])
  ]
]

-- A node restarts.
restarted_only : (node eid : ℕ) → eid ≢ node → restart_as false (node == eid) ≡ None
restarted_only node eid far = ap (λ b. restart_as false b) (ne_eqb node eid (λ z. far (sym z)))

restart_leaves : (agent : Bool) (w u v : WorldOf) → u.history ≡ w.history → v.history ≡ w.history → (if agent then u else v).history ≡ w.history
restart_leaves true w u v h k = h
restart_leaves false w u v h k = k

stand_restarts : LinksAreLanes → LinksAreMessages → (opening w v : WorldOf) (works : Bool) (node : ℕ) → Stand opening w → Follows works (steps.Restart node) w v → v.now ≡ w.now → v.history ≡ w.history → Stand opening v
stand_restarts lanes messages opening w v works node k f time noted = elim (eqb_tells node w.agent.endpoint.eid) [
  | inl agent ↦
      stand_anew lanes messages opening w v works (steps.Restart node) (on_agent (half_restarts (session_core w.packages))) k f time
      (λ eid. ap (λ b. restart_as b (node == eid)) agent.0) (λ l. refl) noted
  | inr other ↦
      stand_own lanes messages opening w v works (steps.Restart node) node (LinkStep.Restart sides.Device) (link_at w node) k f time refl
      (ap (λ b. restart_as b (node == node)) other.0 ∙ ap (λ b. restart_as false b) (eq-eqb node node refl)) refl tt
      (λ eid far. ap (λ b. restart_as b (node == eid)) other.0 ∙ restarted_only node eid far)
]

-- Time passes. The two nodes of a link count the tick, or miss it, by their identifiers.
abbrev tick_of : List ℕ → LinkOf → LinkStep
tick_of missed l = LinkStep.Tick (counts missed l.agent.own) (counts missed l.device.own)

abbrev ticked : List ℕ → (now : ℕ) → List PackageText → LinkOf → LinkOf
ticked missed now packages l = link_ticks now packages l (counts missed l.agent.own) (counts missed l.device.own)

tick_mine : (missed : List ℕ) (w : WorldOf) (eid : ℕ) (l : LinkOf) → IsLinkOf w eid l → ◌≡◌ {A = Option LinkStep} (Some (LinkStep.Tick (counts missed w.agent.endpoint.eid) (counts missed eid))) (Some (tick_of missed l))
tick_mine missed w eid l k = rw (k.agent, k.device) refl

if_may : (may : Bool) (t : LinkStepped) → may ≡ true → (if may then Some t else None) ≡ Some t
if_may may t e = rw e refl

tick_leads : (missed : ArrayVec ℕ 17 (Unit {0})) (w : WorldOf) (eid : ℕ) (l : LinkOf) → IsLinkOf w eid l → may_step w (steps.Tick missed) ≡ None → link_at w eid ≡ Some l
    → link_after w.now w.packages l (tick_of missed.items l) ≡ Some (link_step_without_entries (ticked missed.items w.now w.packages l))
tick_leads missed w eid l k may is =
    if_may (nat_lt w.now (2 ^ 32 - 1) && (may_beat (counts missed.items l.agent.own) l.agent_since_miss && may_beat (counts missed.items l.device.own) l.device_since_miss)) (link_step_without_entries (ticked missed.items w.now w.packages l))
    (rw (k.agent, k.device) (tick_may missed w eid l may is))

stand_by : LinksAreLanes → LinksAreMessages → (opening w : WorldOf) (works : Bool) (faults : ℕ) (s : Step) → Stand opening w → may_step w s ≡ None → Follows works s w (world_after works faults w s) → Stand opening (world_after works faults w s)
stand_by lanes messages opening w works faults (steps.Deliver device number node) k may f =
    stand_comes lanes messages opening w (world_after works faults w (steps.Deliver device number node)) works device number node k f (delivered_moment works faults w node (item_numbered (packets_of w device) number)).now
stand_by lanes messages opening w works faults (steps.Tick missed) k may f =
    let linked : AreLinked w = linked_world w (known_links opening w k) in
    stand_all lanes messages (w.now + 1) opening w (world_after works faults w (steps.Tick missed)) works (steps.Tick missed) (tick_of missed.items) (ticked missed.items w.now w.packages) (λ l. tt) (λ l. refl) k f refl
    (λ eid l e. tick_mine missed.items w eid l (linked.links eid l e)) (λ eid l e. tick_leads missed w eid l (linked.links eid l e) may e) refl
stand_by lanes messages opening w works faults (steps.Start device number) k may f =
    stand_mine lanes messages opening w (world_after works faults w (steps.Start device number)) works (steps.Start device number) device (LinkStep.Start number) k f refl (λ eid. refl) refl tt
stand_by lanes messages opening w works faults (steps.Cancel device) k may f =
    stand_mine lanes messages opening w (world_after works faults w (steps.Cancel device)) works (steps.Cancel device) device LinkStep.Cancel k f refl (λ eid. refl) refl tt
stand_by lanes messages opening w works faults (steps.Activate device) k may f =
    stand_mine lanes messages opening w (world_after works faults w (steps.Activate device)) works (steps.Activate device) device LinkStep.Activate k f
    (activated_moment w device (ready_for w.agent device)).now (λ eid. refl) refl tt
stand_by lanes messages opening w works faults (steps.Verdict device verdict) k may f =
    stand_mine lanes messages opening w (world_after works faults w (steps.Verdict device verdict)) works (steps.Verdict device verdict) device (LinkStep.Judge verdict works) k f
    (judged_moment works faults w verdict (place_of w.sites device) (site_for w.sites device)).now (λ eid. refl) refl tt
stand_by lanes messages opening w works faults (steps.Restart node) k may f =
    stand_restarts lanes messages opening w (world_after works faults w (steps.Restart node)) works node k f (restart_moment works faults w node).now
    (restart_leaves (node == w.agent.endpoint.eid) w _ _ refl refl)
stand_by lanes messages opening w works faults (steps.Sel bytes) k may f =
    stand_none lanes opening w (world_after works faults w (steps.Sel bytes)) works (steps.Sel bytes) k f (log_moment w bytes.items).now (λ eid l there. refl)

-- After any step, a world that matches one over whole messages still does.
pub stand_on : LaneIsACell → LinksAreLanes → LinksAreMessages → (opening w v : WorldOf) (s : Step) → Stand opening w → StepsTo w s v → Stand opening v
stand_on law lanes messages opening w v s k h =
    subst (Stand opening) (sym h.after) (stand_by lanes messages opening w h.works h.faults s k h.may (world_follows law opening w v s k h))
