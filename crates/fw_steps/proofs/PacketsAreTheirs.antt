-- The packets between the agent and a device are those that the two sent in their own calls
-- (`packets_are_theirs`), step by step (`packets_steps`).
use Rattle.std.proofs.Common.{◌≡◌, ◌∙◌, ◌+◌, ◌==◌, ◌&&◌, ◌++◌, ℕ, Bool, true, false, not, if◌then◌else◌, List, [], ◌∷◌, Option, Some, None, IfSome, IsSomeAnd, refl, sym, ap, subst, append_assoc, append-nil}
use Rattle.std.specs.List.{filter}
use Rattle.std.specs.Option.{option_map}
use Rattle.exch_lane.specs.Lanes.{Sent, item_numbered}
use Rattle.fw_package.specs.Package.{PackageText}
use Rattle.fd_core.specs.declared.states.Verdict.{Verdict}
use Rattle.fw_node.specs.Agents.{AgentOf, agent_on_packet, ready_for}
use Rattle.fw_node.specs.Nodes.{device_restarts}
use Rattle.fw_steps.specs.Alone.{AgentCall, DeviceCall, PacketsAreTheirs, agent_step_calls, agent_receipt, agent_step_packets, device_step_calls, device_receipt, device_call_packets, site_step_packets, is_for, pair_step_packets, pair_run_packets, step_date}
use Rattle.fw_steps.specs.Steps.{StepsTo, Run, world_after}
use Rattle.fw_steps.specs.Worlds.{SiteOf, WorldOf, agent_pass_sends, at_agent, at_device, counts, world_after_deliver, packets_of, place_of, posts, sent_now, site_for, site_after_tick, site_passes, world_after_tick}
use Rattle.fw_steps.specs.declared.step.Step.{Step}
use Rattle.fw_steps.specs.declared.step.Step.TheVariants as steps
use Rattle.fw_steps.proofs.DevicesAreIsolated.Nodes.{activates_sites, log_sites}
use Rattle.fw_steps.proofs.LinksAreLanes.Arrivals.{device_put, heard_site}
use Rattle.fw_steps.proofs.LinksAreLanes.Posting.{is_to, posts_at, site_changed, site_found, site_put, with_packets}
use Rattle.fw_steps.proofs.LinksAreLanes.Projection.{goes_on_eid, judged_site, judges_put, restarts_put}
use Rattle.fw_steps.proofs.NodesAlone.{put_if}

-- `is_to`, by which a world lists a packet, and `is_for` are the same.
is_same : (eid : ℕ) (p : List ℕ) → is_to eid p ≡ is_for eid p
is_same eid [] = refl
is_same eid (version ∷ []) = refl
is_same eid (version ∷ dest ∷ rest) = refl

for_same : (eid : ℕ) (ps : List (List ℕ)) → filter (is_to eid) ps ≡ filter (is_for eid) ps
for_same eid [] = refl
for_same eid (p ∷ ps) = rw (is_same eid p, for_same eid ps) refl

-- A site is there, and has these packets.
abbrev HasNow : List Sent → Option SiteOf → Type 0
HasNow ps o = IsSomeAnd o (λ y. y.packets ≡ ps)

has_now : (o : Option SiteOf) (y : SiteOf) (ps : List Sent) → o ≡ Some y → y.packets ≡ ps → HasNow ps o
has_now o y ps e f = subst (HasNow ps) (sym e) f

none_more : (o : Option SiteOf) (x : SiteOf) (ps : List Sent) → o ≡ Some x → ps ≡ [] → HasNow (x.packets ++ ps) o
none_more o x ps e f = has_now o x (x.packets ++ ps) e (rw f (sym (append-nil x.packets)))

-- a packet is delivered
nothing_received : (agent here works : Bool) (faults now : ℕ) (w : WorldOf) (eid : ℕ) (x : SiteOf)
    → (sent_now now (filter (is_for eid) (agent_step_packets w.packages w.agent (agent_receipt agent w.now None))) ++ sent_now now (site_step_packets (Some x) (device_receipt here works faults None))) ≡ []
nothing_received true true works faults now w eid x = refl
nothing_received true false works faults now w eid x = refl
nothing_received false true works faults now w eid x = refl
nothing_received false false works faults now w eid x = refl

packets_come : (agent here works : Bool) (faults : ℕ) (w u : WorldOf) (p : Sent) (eid : ℕ) (x : SiteOf) → site_for w.sites eid ≡ Some x
    → site_for u.sites eid ≡ (if here then Some (heard_site works faults w.now p.bytes x) else Some x)
    → HasNow (x.packets ++ (sent_now w.now (filter (is_for eid) (agent_step_packets w.packages w.agent (agent_receipt agent w.now (Some p))))
    ++ sent_now w.now (site_step_packets (Some x) (device_receipt (not agent && here) works faults (Some p)))))
    (site_for (if agent then at_agent w p.bytes else u).sites eid)
packets_come true here works faults w u p eid x e f =
    let sent = (agent_on_packet w.packages w.agent p.bytes w.now).sent in
    has_now _ (with_packets w.now (filter (is_to eid) sent) x) _ (posts_at w.now sent w.sites eid ∙ ap (option_map (with_packets w.now (filter (is_to eid) sent))) e)
    (rw (for_same eid sent, append-nil (sent_now w.now (filter (is_for eid) sent))) refl)
packets_come false true works faults w u p eid x e f = has_now _ (heard_site works faults w.now p.bytes x) _ f refl
packets_come false false works faults w u p eid x e f = none_more _ x _ f refl

packets_received : (works : Bool) (faults : ℕ) (w : WorldOf) (node eid : ℕ) (x : SiteOf) (o : Option Sent) → site_for w.sites eid ≡ Some x
    → HasNow (x.packets ++ (sent_now w.now (filter (is_for eid) (agent_step_packets w.packages w.agent (agent_receipt (node == w.agent.endpoint.eid) w.now o)))
    ++ sent_now w.now (site_step_packets (Some x) (device_receipt (not (node == w.agent.endpoint.eid) && (node == eid)) works faults o))))
    (site_for (world_after_deliver works faults w node o).sites eid)
packets_received works faults w node eid x None e =
    none_more (site_for w.sites eid) x _ e (nothing_received (node == w.agent.endpoint.eid) (not (node == w.agent.endpoint.eid) && (node == eid)) works faults w.now w eid x)
packets_received works faults w node eid x (Some p) e =
    packets_come (node == w.agent.endpoint.eid) (node == eid) works faults w (at_device works faults w p.bytes (place_of w.sites node) (site_for w.sites node)) p eid x e
    (put_if (node == eid) (heard_site works faults w.now p.bytes) _ (site_for w.sites eid) x
    (ap (λ xs. site_for xs eid) (device_put works faults w p.bytes (place_of w.sites node) (site_for w.sites node))
    ∙ site_put (heard_site works faults w.now p.bytes) (λ y. refl) w.sites node eid) e)

-- a tick
agent_ticking : (b : Bool) (packages : List PackageText) (now : ℕ) (n : AgentOf) → agent_pass_sends b packages n ≡ agent_step_packets packages n (if b then AgentCall.Ticks now ∷ [] else [])
agent_ticking true packages now n = refl
agent_ticking false packages now n = refl

passes_packets : (c : Bool) (t : ℕ) (ps : List (List ℕ)) (x : SiteOf)
    → (site_passes c t (with_packets t ps x)).packets ≡ x.packets ++ (sent_now t ps ++ sent_now t (site_step_packets (Some x) (if c then DeviceCall.Ticks ∷ [] else [])))
passes_packets true t ps x = append_assoc x.packets (sent_now t ps) (sent_now t (device_call_packets x.node DeviceCall.Ticks))
passes_packets false t ps x = rw (append-nil (sent_now t ps)) refl

packets_ticked : (missed : List ℕ) (w : WorldOf) (eid : ℕ) (x : SiteOf) → site_for w.sites eid ≡ Some x
    → HasNow (x.packets ++ (sent_now (w.now + 1) (filter (is_for eid) (agent_step_packets w.packages w.agent (if counts missed w.agent.endpoint.eid then AgentCall.Ticks (w.now + 1) ∷ [] else [])))
    ++ sent_now (w.now + 1) (site_step_packets (Some x) (if counts missed eid then DeviceCall.Ticks ∷ [] else []))))
    (site_for (world_after_tick missed w).sites eid)
packets_ticked missed w eid x e =
    let t = w.now + 1 in
    let agent = counts missed w.agent.endpoint.eid in
    let sent = agent_pass_sends agent w.packages w.agent in
    let put = with_packets t (filter (is_to eid) sent) in
    let own = counts missed x.node.endpoint.eid in
    has_now _ (site_after_tick missed t (put x)) _
    (site_changed (site_after_tick missed t) (goes_on_eid missed t) (posts t w.sites sent) eid
    ∙ ap (option_map (site_after_tick missed t)) (posts_at t sent w.sites eid ∙ ap (option_map put) e))
    (passes_packets own t (filter (is_to eid) sent) x
    ∙ ap (λ (ps : List (List ℕ)). x.packets ++ (sent_now t ps ++ sent_now t (site_step_packets (Some x) (if own then DeviceCall.Ticks ∷ [] else []))))
    (for_same eid sent ∙ ap (filter (is_for eid)) (agent_ticking agent w.packages t w.agent))
    ∙ ap (λ (k : ℕ). x.packets ++ (sent_now t (filter (is_for eid) (agent_step_packets w.packages w.agent (if agent then AgentCall.Ticks t ∷ [] else [])))
    ++ sent_now t (site_step_packets (Some x) (if counts missed k then DeviceCall.Ticks ∷ [] else [])))) (site_found w.sites eid x e))

-- steps in which no packet is sent
changed_quietly : (mine : Bool) (g : SiteOf → SiteOf) (o : Option SiteOf) (x : SiteOf) (ps : List Sent) → o ≡ (if mine then Some (g x) else Some x) → (g x).packets ≡ x.packets → ps ≡ []
    → HasNow (x.packets ++ ps) o
changed_quietly true g o x ps e f q = has_now o (g x) (x.packets ++ ps) e (f ∙ rw q (sym (append-nil x.packets)))
changed_quietly false g o x ps e f q = none_more o x ps e q

verdict_quiet : (mine works : Bool) (faults now : ℕ) (verdict : Verdict) (x : SiteOf) → sent_now now (site_step_packets (Some x) (if mine then DeviceCall.Judges works faults verdict ∷ [] else [])) ≡ []
verdict_quiet true works faults now verdict x = refl
verdict_quiet false works faults now verdict x = refl

restart_quiet : (agent here : Bool) (packages : List PackageText) (n : AgentOf) (now eid : ℕ) (x : SiteOf)
    → (sent_now now (filter (is_for eid) (agent_step_packets packages n (if agent then AgentCall.Restarts ∷ [] else [])))
    ++ sent_now now (site_step_packets (Some x) (if not agent && here then DeviceCall.Restarts ∷ [] else []))) ≡ []
restart_quiet true here packages n now eid x = refl
restart_quiet false true packages n now eid x = refl
restart_quiet false false packages n now eid x = refl

restart_packets : (agent here : Bool) (u v : WorldOf) (eid : ℕ) (x : SiteOf) (ps : List Sent) → site_for u.sites eid ≡ Some x
    → site_for v.sites eid ≡ (if here then Some (record x { node = device_restarts x.node }) else Some x) → ps ≡ []
    → HasNow (x.packets ++ ps) (site_for (if agent then u else v).sites eid)
restart_packets true here u v eid x ps e f q = none_more _ x ps e q
restart_packets false here u v eid x ps e f q = changed_quietly here (λ y. record y { node = device_restarts y.node }) _ x ps f refl q

packets_cases : (works : Bool) (faults : ℕ) (w : WorldOf) (s : Step) (eid : ℕ) (x : SiteOf) → site_for w.sites eid ≡ Some x
    → HasNow (x.packets ++ (sent_now (step_date w.now s) (filter (is_for eid) (agent_step_packets w.packages w.agent (agent_step_calls w s)))
    ++ sent_now (step_date w.now s) (site_step_packets (Some x) (device_step_calls eid works faults w s)))) (site_for (world_after works faults w s).sites eid)
packets_cases works faults w (steps.Deliver device number node) eid x e = packets_received works faults w node eid x (item_numbered (packets_of w device) number) e
packets_cases works faults w (steps.Tick missed) eid x e = packets_ticked missed.items w eid x e
packets_cases works faults w (steps.Start device number) eid x e = none_more _ x _ e refl
packets_cases works faults w (steps.Cancel device) eid x e = none_more _ x _ e refl
packets_cases works faults w (steps.Activate device) eid x e =
    none_more _ x _ (ap (λ xs. site_for xs eid) (activates_sites w device (ready_for w.agent device)) ∙ e) refl
packets_cases works faults w (steps.Verdict device verdict) eid x e =
    changed_quietly (device == eid) (judged_site works faults verdict) _ x _
    (put_if (device == eid) (judged_site works faults verdict) _ (site_for w.sites eid) x
    (ap (λ xs. site_for xs eid) (judges_put works faults w verdict (place_of w.sites device) (site_for w.sites device))
    ∙ site_put (judged_site works faults verdict) (λ y. refl) w.sites device eid) e) refl (verdict_quiet (device == eid) works faults w.now verdict x)
packets_cases works faults w (steps.Restart node) eid x e =
    restart_packets (node == w.agent.endpoint.eid) (node == eid) _ _ eid x _ e
    (put_if (node == eid) (λ y. record y { node = device_restarts y.node }) _ (site_for w.sites eid) x
    (ap (λ xs. site_for xs eid) (restarts_put w.sites (place_of w.sites node) (site_for w.sites node))
    ∙ site_put (λ y. record y { node = device_restarts y.node }) (λ y. refl) w.sites node eid) e)
    (restart_quiet (node == w.agent.endpoint.eid) (node == eid) w.packages w.agent w.now eid x)
packets_cases works faults w (steps.Sel bytes) eid x e = none_more _ x _ (ap (λ xs. site_for xs eid) (log_sites w bytes.items) ∙ e) refl

pub packets_steps : (works : Bool) (faults : ℕ) (w : WorldOf) (s : Step) (eid : ℕ) (x : SiteOf) → site_for w.sites eid ≡ Some x
    → HasNow (x.packets ++ pair_step_packets eid works faults w s) (site_for (world_after works faults w s).sites eid)
packets_steps works faults w s eid x e =
    subst (λ (o : Option SiteOf). HasNow (x.packets ++ (sent_now (step_date w.now s) (filter (is_for eid) (agent_step_packets w.packages w.agent (agent_step_calls w s)))
    ++ sent_now (step_date w.now s) (site_step_packets o (device_step_calls eid works faults w s)))) (site_for (world_after works faults w s).sites eid)) (sym e)
    (packets_cases works faults w s eid x e)

-- A RUN

theirs_on : (u v : WorldOf) (eid : ℕ) (before now later : List Sent) (o : Option SiteOf) → site_for u.sites eid ≡ o → HasNow (before ++ now) o
    → ((y : SiteOf) → site_for u.sites eid ≡ Some y → HasNow (y.packets ++ later) (site_for v.sites eid))
    → HasNow (before ++ (now ++ later)) (site_for v.sites eid)
theirs_on u v eid before now later None e stepped onwards = absurd stepped
theirs_on u v eid before now later (Some y) e stepped onwards =
    subst (λ (ps : List Sent). HasNow ps (site_for v.sites eid)) (ap (λ (ps : List Sent). ps ++ later) stepped ∙ append_assoc before now later) (onwards y e)

theirs_along : (eid : ℕ) (w v : WorldOf) (ss : List Step) (run : Run w ss v) (x : SiteOf) → site_for w.sites eid ≡ Some x
    → HasNow (x.packets ++ pair_run_packets eid w ss v run) (site_for v.sites eid)
theirs_along eid w v [] run x e = none_more (site_for v.sites eid) x [] (ap (λ (u : WorldOf). site_for u.sites eid) run ∙ e) refl
theirs_along eid w v (s ∷ ss) run x e =
    let l : StepsTo w s run.0 = run.1 in
    theirs_on run.0 v eid x.packets (pair_step_packets eid l.works l.faults w s) (pair_run_packets eid run.0 ss v run.2) (site_for run.0.sites eid) refl
    (subst (λ (u : WorldOf). HasNow (x.packets ++ pair_step_packets eid l.works l.faults w s) (site_for u.sites eid)) (sym l.after) (packets_steps l.works l.faults w s eid x e))
    (λ y f. theirs_along eid run.0 v ss run.2 y f)

theirs_if : (eid : ℕ) (w v : WorldOf) (ss : List Step) (run : Run w ss v) (o : Option SiteOf) → site_for w.sites eid ≡ o
    → IfSome o (λ x. IsSomeAnd (site_for v.sites eid) (λ y. y.packets ≡ x.packets ++ pair_run_packets eid w ss v run))
theirs_if eid w v ss run None e = tt
theirs_if eid w v ss run (Some x) e = theirs_along eid w v ss run x e

pub packets_are_theirs : PacketsAreTheirs
packets_are_theirs eid w v ss run = theirs_if eid w v ss run (site_for w.sites eid) refl
