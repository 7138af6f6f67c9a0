-- The history of a world only grows.
use Rattle.std.proofs.Common.{◌≡◌, ◌∙◌, ◌==◌, ◌++◌, ℕ, Bool, true, false, if◌then◌else◌, append-nil, drop, length, map, List, [], ◌∷◌, Option, Some, None, refl, sym, ap, subst}
use Rattle.std.proofs.Math.Seq.{drop-append_seam}
use Rattle.std.proofs.lemmas.List.{append_assoc}
use Rattle.exch_lane.specs.Lanes.{Sent, item_numbered}
use Rattle.fd_core.specs.Steps.{applied_by}
use Rattle.fd_core.specs.declared.states.Verdict.{Verdict}
use Rattle.fw_message.specs.Headline.{EntryOf}
use Rattle.fw_message.specs.Worlds.{NotedOf, noted_of}
use Rattle.fw_node.specs.Agents.{any_packet, agent_on_packet}
use Rattle.fw_steps.specs.Promises.{RunsGrow}
use Rattle.fw_steps.specs.Steps.{StepsTo, Run, world_after}
use Rattle.fw_steps.specs.Moments.{entries_between}
use Rattle.fw_steps.specs.Worlds.{SiteOf, WorldOf, activated_at, at_agent, at_device, world_after_deliver, world_after_verdict, packets_of, place_of, recorded_from, sender_of, site_for}
use Rattle.fw_steps.specs.declared.step.Step.{Step}
use Rattle.fw_steps.specs.declared.step.Step.TheVariants as steps
use Rattle.fw_steps.proofs.PacketsAreSafe.HistoryGrows.{quiet_history}

-- the later history has the earlier one as a prefix
pub record Grows (w v : WorldOf) : Type 0 where
  pub more : List NotedOf
  pub history : v.history ≡ w.history ++ more

grows_none : (w v : WorldOf) → v.history ≡ w.history → Grows w v
grows_none w v e = record { more = []; history = e ∙ sym (append-nil w.history) }

grows_on : (w v u : WorldOf) → Grows w v → Grows v u → Grows w u
grows_on w v u g h = record {
  more = g.more ++ h.more;
  history = h.history ∙ ap (λ xs. xs ++ h.more) g.history ∙ append_assoc w.history g.more h.more;
}

-- a packet is delivered
device_grows : (works : Bool) (faults : ℕ) (w : WorldOf) (bytes : List ℕ) (place : Option ℕ) (x : Option SiteOf) → Grows w (at_device works faults w bytes place x)
device_grows works faults w bytes (Some place) (Some x) =
    record { more = map (λ p. noted_of x.node.endpoint.eid (EntryOf.Activated p)) (activated_at works x.node bytes); history = refl }
device_grows works faults w bytes None x = grows_none w w refl
device_grows works faults w bytes (Some place) None = grows_none w w refl

comes_grow : (agent : Bool) (w u v : WorldOf) → Grows w u → Grows w v → Grows w (if agent then u else v)
comes_grow true w u v g h = g
comes_grow false w u v g h = h

packet_grows : (works : Bool) (faults : ℕ) (w : WorldOf) (node : ℕ) (o : Option Sent) → Grows w (world_after_deliver works faults w node o)
packet_grows works faults w node None = grows_none w w refl
packet_grows works faults w node (Some p) =
    comes_grow (node == w.agent.endpoint.eid) w (at_agent w p.bytes) (at_device works faults w p.bytes (place_of w.sites node) (site_for w.sites node))
    (record { more = recorded_from w.agent (agent_on_packet w.packages w.agent p.bytes w.now).agent (sender_of (any_packet p.bytes)); history = refl })
    (device_grows works faults w p.bytes (place_of w.sites node) (site_for w.sites node))

-- a verdict
verdict_grows : (works : Bool) (faults : ℕ) (w : WorldOf) (verdict : Verdict) (place : Option ℕ) (x : Option SiteOf) → Grows w (world_after_verdict works faults w verdict place x)
verdict_grows works faults w verdict (Some place) (Some x) =
    record { more = map (λ p. noted_of x.node.endpoint.eid (EntryOf.Applied p)) (applied_by x.node.half.core.device verdict works); history = refl }
verdict_grows works faults w verdict None x = grows_none w w refl
verdict_grows works faults w verdict (Some place) None = grows_none w w refl

step_grows : (works : Bool) (faults : ℕ) (w : WorldOf) (s : Step) → Grows w (world_after works faults w s)
step_grows works faults w (steps.Deliver device number node) = packet_grows works faults w node (item_numbered (packets_of w device) number)
step_grows works faults w (steps.Verdict device verdict) = verdict_grows works faults w verdict (place_of w.sites device) (site_for w.sites device)
step_grows works faults w s = grows_none w (world_after works faults w s) (quiet_history works faults w s tt)

run_grows : (w v : WorldOf) (ss : List Step) → Run w ss v → Grows w v
run_grows w v [] e = grows_none w v (ap (λ x. x.history) e)
run_grows w v (s ∷ ss) h =
    let l : StepsTo w s h.0 = h.1 in
    grows_on w h.0 v (subst (Grows w) (sym l.after) (step_grows l.works l.faults w s)) (run_grows h.0 v ss h.2)

pub runs_grow : RunsGrow
runs_grow old new steps h =
    let g = run_grows old new steps h in
    let rest : entries_between old new ≡ g.more = ap (λ xs. drop (length old.history) xs) g.history ∙ drop-append_seam old.history g.more in
    g.history ∙ ap (λ xs. old.history ++ xs) (sym rest)
