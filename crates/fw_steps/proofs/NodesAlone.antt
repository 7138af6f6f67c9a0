-- At the end of every run each node is as its own calls leave it (`agent_is_alone`,
-- `devices_are_alone`). For each kind of step, a node after the step is as its calls in the step
-- leave it (`agent_steps`, `device_steps`).
use Rattle.std.proofs.Common.{◌≡◌, ◌∙◌, ◌+◌, ◌==◌, ◌&&◌, ◌++◌, ℕ, Bool, true, false, not, if◌then◌else◌, List, [], ◌∷◌, Option, Some, None, IfSome, IsSomeAnd, refl, sym, ap, subst}
use Rattle.std.specs.List.{filter}
use Rattle.std.specs.Option.{option_map}
use Rattle.exch_lane.specs.Lanes.{Sent, item_numbered}
use Rattle.fw_package.specs.Package.{PackageText}
use Rattle.ua_core.specs.Session.{SessionOf}
use Rattle.fw_node.specs.Agents.{AgentOf, agent_on_packet, ready_for}
use Rattle.fw_node.specs.Nodes.{DeviceNodeOf, device_restarts}
use Rattle.fw_steps.specs.Alone.{AgentCall, AgentIsAlone, DeviceCall, DevicesAreAlone, agent_after_activation, agent_after_call, agent_after_calls, agent_after_log_request, agent_step_calls, agent_run_calls, agent_receipt, device_after_call, device_after_calls, device_step_calls, device_run_calls, device_receipt}
use Rattle.fw_steps.specs.Steps.{StepsTo, Run, world_after}
use Rattle.fw_steps.specs.Worlds.{SiteOf, WorldOf, activates_on, agent_pass_sends, agent_passes, world_after_log_request, at_agent, at_device, counts, world_after_deliver, packets_of, place_of, posts, site_for, site_after_tick, site_passes, world_after_tick}
use Rattle.fw_steps.specs.declared.step.Step.{Step}
use Rattle.fw_steps.specs.declared.step.Step.TheVariants as steps
use Rattle.fw_steps.proofs.DevicesAreIsolated.Nodes.{activates_sites, log_sites}
use Rattle.fw_steps.proofs.LinksAreLanes.Arrivals.{device_agent, device_put, heard_site}
use Rattle.fw_steps.proofs.LinksAreLanes.Posting.{is_to, posts_at, site_changed, site_found, site_put, with_packets}
use Rattle.fw_steps.proofs.LinksAreLanes.Projection.{goes_on_eid, judged_site, judges_agent, judges_put, restarts_put}
use Rattle.fw_steps.proofs.PacketsAreSafe.SafeSteps.{packages_stay}

-- THE AGENT

agent_then : (packages : List PackageText) (n : AgentOf) (cs ds : List AgentCall) → agent_after_calls packages n (cs ++ ds) ≡ agent_after_calls packages (agent_after_calls packages n cs) ds
agent_then packages n [] ds = refl
agent_then packages n (c ∷ cs) ds = agent_then packages (agent_after_call packages n c) cs ds

agent_comes : (mine : Bool) (w v : WorldOf) (p : Sent) → v.agent ≡ w.agent → (if mine then at_agent w p.bytes else v).agent ≡ agent_after_calls w.packages w.agent (agent_receipt mine w.now (Some p))
agent_comes true w v p e = refl
agent_comes false w v p e = e

agent_nothing : (mine : Bool) (w : WorldOf) → w.agent ≡ agent_after_calls w.packages w.agent (agent_receipt mine w.now None)
agent_nothing true w = refl
agent_nothing false w = refl

agent_receives : (works : Bool) (faults : ℕ) (w : WorldOf) (node : ℕ) (o : Option Sent)
    → (world_after_deliver works faults w node o).agent ≡ agent_after_calls w.packages w.agent (agent_receipt (node == w.agent.endpoint.eid) w.now o)
agent_receives works faults w node None = agent_nothing (node == w.agent.endpoint.eid) w
agent_receives works faults w node (Some p) =
    agent_comes (node == w.agent.endpoint.eid) w (at_device works faults w p.bytes (place_of w.sites node) (site_for w.sites node)) p
    (device_agent works faults w p.bytes (place_of w.sites node) (site_for w.sites node))

agent_passing : (counts : Bool) (packages : List PackageText) (now : ℕ) (n : AgentOf) → agent_passes counts packages now n ≡ agent_after_calls packages n (if counts then AgentCall.Ticks now ∷ [] else [])
agent_passing true packages now n = refl
agent_passing false packages now n = refl

agent_activating : (w : WorldOf) (device : ℕ) (o : Option SessionOf) → (activates_on w device o).agent ≡ agent_after_activation w.packages w.now device w.agent o
agent_activating w device None = refl
agent_activating w device (Some s) = refl

agent_anew : (mine : Bool) (w u v : WorldOf) (n : AgentOf) → u.agent ≡ agent_after_call w.packages w.agent AgentCall.Restarts → v.agent ≡ w.agent
    → (if mine then u else v).agent ≡ agent_after_calls w.packages w.agent (if mine then AgentCall.Restarts ∷ [] else [])
agent_anew true w u v n e f = e
agent_anew false w u v n e f = f

agent_log_request : (w : WorldOf) (bytes : List ℕ) → (world_after_log_request w bytes).agent ≡ agent_after_log_request w.now bytes w.agent
agent_log_request w [] = refl
agent_log_request w (command ∷ bytes) = refl

pub agent_steps : (works : Bool) (faults : ℕ) (w : WorldOf) (s : Step) → (world_after works faults w s).agent ≡ agent_after_calls w.packages w.agent (agent_step_calls w s)
agent_steps works faults w (steps.Deliver device number node) = agent_receives works faults w node (item_numbered (packets_of w device) number)
agent_steps works faults w (steps.Tick missed) = agent_passing (counts missed.items w.agent.endpoint.eid) w.packages (w.now + 1) w.agent
agent_steps works faults w (steps.Start device number) = refl
agent_steps works faults w (steps.Cancel device) = refl
agent_steps works faults w (steps.Activate device) = agent_activating w device (ready_for w.agent device)
agent_steps works faults w (steps.Verdict device verdict) = judges_agent works faults w verdict (place_of w.sites device) (site_for w.sites device)
agent_steps works faults w (steps.Restart node) = agent_anew (node == w.agent.endpoint.eid) w _ _ w.agent refl refl
agent_steps works faults w (steps.Sel bytes) = agent_log_request w bytes.items

pub agent_is_alone : AgentIsAlone
agent_is_alone w v [] run = ap (λ (x : WorldOf). x.agent) run
agent_is_alone w v (s ∷ ss) run =
    let l : StepsTo w s run.0 = run.1 in
    let packages : run.0.packages ≡ w.packages = ap (λ (x : WorldOf). x.packages) l.after ∙ packages_stay l.works l.faults w s in
    let stepped : run.0.agent ≡ agent_after_calls w.packages w.agent (agent_step_calls w s) = ap (λ (x : WorldOf). x.agent) l.after ∙ agent_steps l.works l.faults w s in
    agent_is_alone run.0 v ss run.2
    ∙ ap (λ (ps : List PackageText). agent_after_calls ps run.0.agent (agent_run_calls run.0 ss v run.2)) packages
    ∙ ap (λ (n : AgentOf). agent_after_calls w.packages n (agent_run_calls run.0 ss v run.2)) stepped
    ∙ sym (agent_then w.packages w.agent (agent_step_calls w s) (agent_run_calls run.0 ss v run.2))

-- A DEVICE

device_then : (n : DeviceNodeOf) (cs ds : List DeviceCall) → device_after_calls n (cs ++ ds) ≡ device_after_calls (device_after_calls n cs) ds
device_then n [] ds = refl
device_then n (c ∷ cs) ds = device_then (device_after_call n c) cs ds

-- A site is there, and has this node.
abbrev NodeThen : DeviceNodeOf → Option SiteOf → Type 0
NodeThen n o = IsSomeAnd o (λ y. y.node ≡ n)

node_then : (o : Option SiteOf) (y : SiteOf) (n : DeviceNodeOf) → o ≡ Some y → y.node ≡ n → NodeThen n o
node_then o y n e f = subst (NodeThen n) (sym e) f

-- If the step is for this device its node has the call, else it stays.
node_if : (mine : Bool) (g : SiteOf → SiteOf) (o : Option SiteOf) (x : SiteOf) (c : DeviceCall) → o ≡ (if mine then Some (g x) else Some x) → (g x).node ≡ device_after_call x.node c
    → NodeThen (device_after_calls x.node (if mine then c ∷ [] else [])) o
node_if true g o x c e f = node_then o (g x) (device_after_call x.node c) e f
node_if false g o x c e f = node_then o x x.node e refl

pub put_if : (mine : Bool) (g : SiteOf → SiteOf) (o q : Option SiteOf) (x : SiteOf) → o ≡ (if mine then option_map g q else q) → q ≡ Some x → o ≡ (if mine then Some (g x) else Some x)
put_if true g o q x e f = e ∙ ap (option_map g) f
put_if false g o q x e f = e ∙ f

-- a packet is delivered
device_nothing : (mine works : Bool) (faults : ℕ) (o : Option SiteOf) (x : SiteOf) → o ≡ Some x → NodeThen (device_after_calls x.node (device_receipt mine works faults None)) o
device_nothing true works faults o x e = node_then o x x.node e refl
device_nothing false works faults o x e = node_then o x x.node e refl

pub receipt_if : (mine works : Bool) (faults : ℕ) (p : Sent) → device_receipt mine works faults (Some p) ≡ (if mine then DeviceCall.Receives works faults p.bytes ∷ [] else [])
receipt_if true works faults p = refl
receipt_if false works faults p = refl

agent_receipt_site : (w : WorldOf) (bytes : List ℕ) (eid : ℕ) (x : SiteOf) → site_for w.sites eid ≡ Some x → NodeThen x.node (site_for (at_agent w bytes).sites eid)
agent_receipt_site w bytes eid x e =
    let sent = (agent_on_packet w.packages w.agent bytes w.now).sent in
    node_then _ (with_packets w.now (filter (is_to eid) sent) x) x.node
    (posts_at w.now sent w.sites eid ∙ ap (option_map (with_packets w.now (filter (is_to eid) sent))) e) refl

device_comes : (agent here works : Bool) (faults : ℕ) (w u : WorldOf) (p : Sent) (eid : ℕ) (x : SiteOf) → site_for w.sites eid ≡ Some x
    → site_for u.sites eid ≡ (if here then Some (heard_site works faults w.now p.bytes x) else Some x)
    → NodeThen (device_after_calls x.node (device_receipt (not agent && here) works faults (Some p))) (site_for (if agent then at_agent w p.bytes else u).sites eid)
device_comes true here works faults w u p eid x e f = agent_receipt_site w p.bytes eid x e
device_comes false here works faults w u p eid x e f =
    rw (receipt_if here works faults p) (node_if here (heard_site works faults w.now p.bytes) (site_for u.sites eid) x (DeviceCall.Receives works faults p.bytes) f refl)

device_receives : (works : Bool) (faults : ℕ) (w : WorldOf) (node eid : ℕ) (x : SiteOf) (o : Option Sent) → site_for w.sites eid ≡ Some x
    → NodeThen (device_after_calls x.node (device_receipt (not (node == w.agent.endpoint.eid) && (node == eid)) works faults o)) (site_for (world_after_deliver works faults w node o).sites eid)
device_receives works faults w node eid x None e = device_nothing (not (node == w.agent.endpoint.eid) && (node == eid)) works faults (site_for w.sites eid) x e
device_receives works faults w node eid x (Some p) e =
    device_comes (node == w.agent.endpoint.eid) (node == eid) works faults w (at_device works faults w p.bytes (place_of w.sites node) (site_for w.sites node)) p eid x e
    (put_if (node == eid) (heard_site works faults w.now p.bytes) _ (site_for w.sites eid) x
    (ap (λ xs. site_for xs eid) (device_put works faults w p.bytes (place_of w.sites node) (site_for w.sites node))
    ∙ site_put (heard_site works faults w.now p.bytes) (λ y. refl) w.sites node eid) e)

-- a tick
device_passes : (counts : Bool) (now : ℕ) (x : SiteOf) → (site_passes counts now x).node ≡ device_after_calls x.node (if counts then DeviceCall.Ticks ∷ [] else [])
device_passes true now x = refl
device_passes false now x = refl

device_ticks : (missed : List ℕ) (w : WorldOf) (eid : ℕ) (x : SiteOf) → site_for w.sites eid ≡ Some x
    → NodeThen (device_after_calls x.node (if counts missed eid then DeviceCall.Ticks ∷ [] else [])) (site_for (world_after_tick missed w).sites eid)
device_ticks missed w eid x e =
    let sent = agent_pass_sends (counts missed w.agent.endpoint.eid) w.packages w.agent in
    let put = with_packets (w.now + 1) (filter (is_to eid) sent) in
    node_then _ (site_after_tick missed (w.now + 1) (put x)) _
    (site_changed (site_after_tick missed (w.now + 1)) (goes_on_eid missed (w.now + 1)) (posts (w.now + 1) w.sites sent) eid
    ∙ ap (option_map (site_after_tick missed (w.now + 1))) (posts_at (w.now + 1) sent w.sites eid ∙ ap (option_map put) e))
    (device_passes (counts missed x.node.endpoint.eid) (w.now + 1) (put x)
    ∙ ap (λ (k : ℕ). device_after_calls x.node (if counts missed k then DeviceCall.Ticks ∷ [] else [])) (site_found w.sites eid x e))

-- a restart
device_anew : (agent here : Bool) (w u v : WorldOf) (eid : ℕ) (x : SiteOf) → site_for u.sites eid ≡ Some x
    → site_for v.sites eid ≡ (if here then Some (record x { node = device_restarts x.node }) else Some x)
    → NodeThen (device_after_calls x.node (if not agent && here then DeviceCall.Restarts ∷ [] else [])) (site_for (if agent then u else v).sites eid)
device_anew true here w u v eid x e f = node_then (site_for u.sites eid) x x.node e refl
device_anew false here w u v eid x e f = node_if here (λ y. record y { node = device_restarts y.node }) (site_for v.sites eid) x DeviceCall.Restarts f refl

-- the other steps
pub device_steps : (works : Bool) (faults : ℕ) (w : WorldOf) (s : Step) (eid : ℕ) (x : SiteOf) → site_for w.sites eid ≡ Some x
    → NodeThen (device_after_calls x.node (device_step_calls eid works faults w s)) (site_for (world_after works faults w s).sites eid)
device_steps works faults w (steps.Deliver device number node) eid x e = device_receives works faults w node eid x (item_numbered (packets_of w device) number) e
device_steps works faults w (steps.Tick missed) eid x e = device_ticks missed.items w eid x e
device_steps works faults w (steps.Start device number) eid x e = node_then (site_for w.sites eid) x x.node e refl
device_steps works faults w (steps.Cancel device) eid x e = node_then (site_for w.sites eid) x x.node e refl
device_steps works faults w (steps.Activate device) eid x e =
    node_then _ x x.node (ap (λ xs. site_for xs eid) (activates_sites w device (ready_for w.agent device)) ∙ e) refl
device_steps works faults w (steps.Verdict device verdict) eid x e =
    node_if (device == eid) (judged_site works faults verdict) _ x (DeviceCall.Judges works faults verdict)
    (put_if (device == eid) (judged_site works faults verdict) _ (site_for w.sites eid) x
    (ap (λ xs. site_for xs eid) (judges_put works faults w verdict (place_of w.sites device) (site_for w.sites device))
    ∙ site_put (judged_site works faults verdict) (λ y. refl) w.sites device eid) e) refl
device_steps works faults w (steps.Restart node) eid x e =
    device_anew (node == w.agent.endpoint.eid) (node == eid) w _ _ eid x e
    (put_if (node == eid) (λ y. record y { node = device_restarts y.node }) _ (site_for w.sites eid) x
    (ap (λ xs. site_for xs eid) (restarts_put w.sites (place_of w.sites node) (site_for w.sites node))
    ∙ site_put (λ y. record y { node = device_restarts y.node }) (λ y. refl) w.sites node eid) e)
device_steps works faults w (steps.Sel bytes) eid x e = node_then _ x x.node (ap (λ xs. site_for xs eid) (log_sites w bytes.items) ∙ e) refl

-- a run after a step
device_on : (u v : WorldOf) (eid : ℕ) (n : DeviceNodeOf) (cs ds : List DeviceCall) (o : Option SiteOf) → site_for u.sites eid ≡ o → NodeThen (device_after_calls n cs) o
    → ((y : SiteOf) → site_for u.sites eid ≡ Some y → NodeThen (device_after_calls y.node ds) (site_for v.sites eid))
    → NodeThen (device_after_calls n (cs ++ ds)) (site_for v.sites eid)
device_on u v eid n cs ds None e stepped onwards = absurd stepped
device_on u v eid n cs ds (Some y) e stepped onwards =
    subst (λ (m : DeviceNodeOf). NodeThen m (site_for v.sites eid))
    (ap (λ (m : DeviceNodeOf). device_after_calls m ds) stepped ∙ sym (device_then n cs ds)) (onwards y e)

device_runs : (eid : ℕ) (w v : WorldOf) (ss : List Step) (run : Run w ss v) (x : SiteOf) → site_for w.sites eid ≡ Some x
    → NodeThen (device_after_calls x.node (device_run_calls eid w ss v run)) (site_for v.sites eid)
device_runs eid w v [] run x e = node_then (site_for v.sites eid) x x.node (ap (λ (u : WorldOf). site_for u.sites eid) run ∙ e) refl
device_runs eid w v (s ∷ ss) run x e =
    let l : StepsTo w s run.0 = run.1 in
    device_on run.0 v eid x.node (device_step_calls eid l.works l.faults w s) (device_run_calls eid run.0 ss v run.2) (site_for run.0.sites eid) refl
    (subst (λ (u : WorldOf). NodeThen (device_after_calls x.node (device_step_calls eid l.works l.faults w s)) (site_for u.sites eid)) (sym l.after) (device_steps l.works l.faults w s eid x e))
    (λ y f. device_runs eid run.0 v ss run.2 y f)

alone_if : (eid : ℕ) (w v : WorldOf) (ss : List Step) (run : Run w ss v) (o : Option SiteOf) → site_for w.sites eid ≡ o
    → IfSome o (λ x. IsSomeAnd (site_for v.sites eid) (λ y. y.node ≡ device_after_calls x.node (device_run_calls eid w ss v run)))
alone_if eid w v ss run None e = tt
alone_if eid w v ss run (Some x) e = device_runs eid w v ss run x e

pub devices_are_alone : DevicesAreAlone
devices_are_alone eid w v ss run = alone_if eid w v ss run (site_for w.sites eid) refl
