-- Packets that pairs gain.
use Rattle.std.proofs.Common.{◌≡◌, ◌≤◌, ◌+◌, ◌++◌, ◌==◌, ◌∙◌, ℕ, zero, suc, List, [], ◌∷◌, Bool, true, false, if◌then◌else◌, Option, Some, None, length, map, slice_get, slice_set, refl, ap, subst, sym, arith}
use Rattle.std.proofs.lemmas.List.{length-append}
use Rattle.exch_lane.specs.Lanes.{Sent, item_numbered}
use Rattle.exch_lane.specs.Steps.{sent_at}
use Rattle.fd_core.specs.declared.states.Verdict.{Verdict}
use Rattle.fw_node.specs.Agents.{agent_on_packet, agent_restarts, ready_for}
use Rattle.fw_node.specs.Cores.{device_core}
use Rattle.fw_node.specs.Halves.{half_ticks}
use Rattle.fw_node.specs.Nodes.{device_on_packet, device_on_verdict, device_restarts}
use Rattle.fw_node.specs.Packets.{all_packets}
use Rattle.ua_core.specs.Session.{SessionOf}
use Rattle.fw_steps.specs.Steps.{StepsTo, Run, world_after}
use Rattle.fw_steps.specs.Worlds.{SiteOf, WorldOf, activates_on, agent_pass_sends, world_after_log_request, at_agent, at_device, counts, world_after_deliver, world_after_verdict, node_becomes, packets_of, place_for, place_of, post, post_at, posts, world_after_restart, sent_now, site_at, site_for, site_after_tick, site_passes, site_restarts, world_after_tick}
use Rattle.fw_steps.specs.declared.step.Step.{Step}
use Rattle.fw_steps.specs.declared.step.Step.TheVariants as steps
use Rattle.fw_edge.specs.Drives.{Drives}
use Rattle.fw_edge.specs.Ledgers.{NoCountFalls, packet_counts}
use Rattle.fw_edge.proofs.Rising.{map_length}

-- no count decreases if nothing happens, nor in two steps of which neither decreases it
pub fell_none : (os : List ℕ) → NoCountFalls os os
fell_none [] = tt
fell_none (o ∷ os) = (omega arith, fell_none os)

pub fell_on : (os ms ns : List ℕ) → NoCountFalls os ms → NoCountFalls ms ns → NoCountFalls os ns
fell_on [] [] [] h g = tt
fell_on [] [] (n ∷ ns) h g = absurd g
fell_on [] (m ∷ ms) ns h g = absurd h
fell_on (o ∷ os) [] ns h g = absurd h
fell_on (o ∷ os) (m ∷ ms) [] h g = absurd g
fell_on (o ∷ os) (m ∷ ms) (n ∷ ns) h g = (let first : o ≤ m = h.0 in let second : m ≤ n = g.0 in omega arith, fell_on os ms ns h.1 g.1)

pub fell_length : (os ns : List ℕ) → NoCountFalls os ns → length ns ≡ length os
fell_length [] [] h = refl
fell_length [] (n ∷ ns) h = absurd h
fell_length (o ∷ os) [] h = absurd h
fell_length (o ∷ os) (n ∷ ns) h = let rest = fell_length os ns h.1 in omega arith

-- a pair is replaced by the pair with more packets
put_gains : (xs : List SiteOf) (i : ℕ) (x y : SiteOf) → slice_get xs i ≡ Some x → length x.packets ≤ length y.packets → NoCountFalls (packet_counts xs) (packet_counts (slice_set xs i y))
put_gains [] i x y there le = tt
put_gains (s ∷ xs) zero x y there le = let same : s ≡ x = cc in (subst (λ z. length z.packets ≤ length y.packets) (sym same) le, fell_none (packet_counts xs))
put_gains (s ∷ xs) (suc i) x y there le = (omega arith, put_gains xs i x y there le)

-- or with the same number of packets
put_keeps : (xs : List SiteOf) (i : ℕ) (x y : SiteOf) → slice_get xs i ≡ Some x → y.packets ≡ x.packets → packet_counts (slice_set xs i y) ≡ packet_counts xs
put_keeps [] i x y there e = refl
put_keeps (s ∷ xs) zero x y there e = let same : s ≡ x = cc in ap (λ ps. length ps ∷ packet_counts xs) (subst (λ z. y.packets ≡ z.packets) (sym same) e)
put_keeps (s ∷ xs) (suc i) x y there e = ap (λ ns. length s.packets ∷ ns) (put_keeps xs i x y there e)

gains_same : (xs ys : List SiteOf) → packet_counts ys ≡ packet_counts xs → NoCountFalls (packet_counts xs) (packet_counts ys)
gains_same xs ys e = subst (NoCountFalls (packet_counts xs)) (sym e) (fell_none (packet_counts xs))

more_sent : (ps qs : List Sent) → length ps ≤ length (ps ++ qs)
more_sent ps qs = rw (length-append ps qs) (omega arith)

-- a packet that the agent sends
posted_gains : (now : ℕ) (xs : List SiteOf) (packet : List ℕ) (place : Option ℕ) (x : Option SiteOf) → site_at xs place ≡ x → NoCountFalls (packet_counts xs) (packet_counts (post_at now xs packet place x))
posted_gains now xs packet (Some i) (Some x) is = put_gains xs i x (record x { packets = x.packets ++ sent_at now packet ∷ [] }) is (more_sent x.packets (sent_at now packet ∷ []))
posted_gains now xs packet (Some i) None is = fell_none (packet_counts xs)
posted_gains now xs packet None x is = fell_none (packet_counts xs)

posts_gain : (now : ℕ) (xs : List SiteOf) (packets : List (List ℕ)) → NoCountFalls (packet_counts xs) (packet_counts (posts now xs packets))
posts_gain now xs [] = fell_none (packet_counts xs)
posts_gain now xs (p ∷ packets) =
    fell_on (packet_counts xs) (packet_counts (post now xs p)) (packet_counts (posts now (post now xs p) packets))
    (posted_gains now xs p (place_for xs p) (site_at xs (place_for xs p)) refl) (posts_gain now (post now xs p) packets)

-- a tick of the devices
passed_gains : (counts : Bool) (now : ℕ) (x : SiteOf) → length x.packets ≤ length (site_passes counts now x).packets
passed_gains true now x = more_sent x.packets (sent_now now (all_packets x.node.half.unit (half_ticks device_core true x.node.half).sent))
passed_gains false now x = omega arith

ticks_gain : (missed : List ℕ) (now : ℕ) (xs : List SiteOf) → NoCountFalls (packet_counts xs) (packet_counts (map (site_after_tick missed now) xs))
ticks_gain missed now [] = tt
ticks_gain missed now (x ∷ xs) = (passed_gains (counts missed x.node.endpoint.eid) now x, ticks_gain missed now xs)

tick_gains : (missed : List ℕ) (w : WorldOf) → NoCountFalls (packet_counts w.sites) (packet_counts (world_after_tick missed w).sites)
tick_gains missed w =
    let sent = agent_pass_sends (counts missed w.agent.endpoint.eid) w.packages w.agent in
    fell_on (packet_counts w.sites) (packet_counts (posts (w.now + 1) w.sites sent)) (packet_counts (world_after_tick missed w).sites)
    (posts_gain (w.now + 1) w.sites sent) (ticks_gain missed (w.now + 1) (posts (w.now + 1) w.sites sent))

-- a delivered packet
device_gains : (works : Bool) (faults : ℕ) (w : WorldOf) (bytes : List ℕ) (place : Option ℕ) (x : Option SiteOf) → site_at w.sites place ≡ x
    → NoCountFalls (packet_counts w.sites) (packet_counts (at_device works faults w bytes place x).sites)
device_gains works faults w bytes (Some i) (Some x) is =
    put_gains w.sites i x
    (record x { node = node_becomes x.node faults (device_on_packet works x.node bytes).tid (device_on_packet works x.node bytes).half; packets = x.packets ++ sent_now w.now (all_packets x.node.half.unit (device_on_packet works x.node bytes).sent) })
    is (more_sent x.packets (sent_now w.now (all_packets x.node.half.unit (device_on_packet works x.node bytes).sent)))
device_gains works faults w bytes (Some i) None is = fell_none (packet_counts w.sites)
device_gains works faults w bytes None x is = fell_none (packet_counts w.sites)

comes_gain : (agent : Bool) (w u v : WorldOf) → NoCountFalls (packet_counts w.sites) (packet_counts u.sites) → NoCountFalls (packet_counts w.sites) (packet_counts v.sites)
    → NoCountFalls (packet_counts w.sites) (packet_counts (if agent then u else v).sites)
comes_gain true w u v g h = g
comes_gain false w u v g h = h

packet_gains : (works : Bool) (faults : ℕ) (w : WorldOf) (node : ℕ) (o : Option Sent) → NoCountFalls (packet_counts w.sites) (packet_counts (world_after_deliver works faults w node o).sites)
packet_gains works faults w node None = fell_none (packet_counts w.sites)
packet_gains works faults w node (Some p) =
    comes_gain (node == w.agent.endpoint.eid) w (at_agent w p.bytes) (at_device works faults w p.bytes (place_of w.sites node) (site_for w.sites node))
    (posts_gain w.now w.sites (agent_on_packet w.packages w.agent p.bytes w.now).sent)
    (device_gains works faults w p.bytes (place_of w.sites node) (site_for w.sites node) refl)

-- a verdict
verdict_keeps : (works : Bool) (faults : ℕ) (w : WorldOf) (verdict : Verdict) (place : Option ℕ) (x : Option SiteOf) → site_at w.sites place ≡ x
    → packet_counts (world_after_verdict works faults w verdict place x).sites ≡ packet_counts w.sites
verdict_keeps works faults w verdict (Some i) (Some x) is = put_keeps w.sites i x (record x { node = node_becomes x.node faults x.node.tid (device_on_verdict works x.node verdict) }) is refl
verdict_keeps works faults w verdict (Some i) None is = refl
verdict_keeps works faults w verdict None x is = refl

-- an activation
activation_keeps : (works : Bool) (faults : ℕ) (w : WorldOf) (device : ℕ) → (world_after works faults w (steps.Activate device)).sites ≡ w.sites
activation_keeps works faults w device = by_session (ready_for w.agent device)
  where
    by_session : (s : Option SessionOf) → (activates_on w device s).sites ≡ w.sites
    by_session None = refl
    by_session (Some s) = refl

-- a node restarts
restarted_keeps : (xs : List SiteOf) (place : Option ℕ) (x : Option SiteOf) → site_at xs place ≡ x → packet_counts (site_restarts xs place x) ≡ packet_counts xs
restarted_keeps xs (Some i) (Some x) is = put_keeps xs i x (record x { node = device_restarts x.node }) is refl
restarted_keeps xs (Some i) None is = refl
restarted_keeps xs None x is = refl

restart_keeps : (w : WorldOf) (agent : Bool) (u v : WorldOf) → u.sites ≡ w.sites → packet_counts v.sites ≡ packet_counts w.sites → packet_counts (if agent then u else v).sites ≡ packet_counts w.sites
restart_keeps w true u v e k = ap packet_counts e
restart_keeps w false u v e k = k

-- an event log request
log_keeps : (w : WorldOf) (bytes : List ℕ) → (world_after_log_request w bytes).sites ≡ w.sites
log_keeps w [] = refl
log_keeps w (command ∷ bytes) = refl

step_gains : (works : Bool) (faults : ℕ) (w : WorldOf) (s : Step) → NoCountFalls (packet_counts w.sites) (packet_counts (world_after works faults w s).sites)
step_gains works faults w (steps.Deliver device number node) = packet_gains works faults w node (item_numbered (packets_of w device) number)
step_gains works faults w (steps.Tick missed) = tick_gains missed.items w
step_gains works faults w (steps.Start device number) = fell_none (packet_counts w.sites)
step_gains works faults w (steps.Cancel device) = fell_none (packet_counts w.sites)
step_gains works faults w (steps.Activate device) = gains_same w.sites (world_after works faults w (steps.Activate device)).sites (ap packet_counts (activation_keeps works faults w device))
step_gains works faults w (steps.Verdict device verdict) =
    gains_same w.sites (world_after_verdict works faults w verdict (place_of w.sites device) (site_for w.sites device)).sites
    (verdict_keeps works faults w verdict (place_of w.sites device) (site_for w.sites device) refl)
step_gains works faults w (steps.Restart node) =
    gains_same w.sites (world_after_restart w node).sites
    (restart_keeps w (node == w.agent.endpoint.eid) (record w { agent = agent_restarts w.packages w.agent }) (record w { sites = site_restarts w.sites (place_of w.sites node) (site_for w.sites node) })
    refl (restarted_keeps w.sites (place_of w.sites node) (site_for w.sites node) refl))
step_gains works faults w (steps.Sel bytes) = gains_same w.sites (world_after_log_request w bytes.items).sites (ap packet_counts (log_keeps w bytes.items))

run_gains : (w v : WorldOf) (ss : List Step) → Run w ss v → NoCountFalls (packet_counts w.sites) (packet_counts v.sites)
run_gains w v [] e = gains_same w.sites v.sites (ap (λ x. packet_counts x.sites) e)
run_gains w v (s ∷ ss) h =
    let l : StepsTo w s h.0 = h.1 in
    fell_on (packet_counts w.sites) (packet_counts h.0.sites) (packet_counts v.sites)
    (subst (λ x. NoCountFalls (packet_counts w.sites) (packet_counts x.sites)) (sym l.after) (step_gains l.works l.faults w s)) (run_gains h.0 v ss h.2)

-- steps are taken
pub drives_gain : (w : WorldOf) (before : List Step) (v : WorldOf) (after : List Step) → Drives w before v after → NoCountFalls (packet_counts w.sites) (packet_counts v.sites)
drives_gain w before v after h = run_gains w v h.steps h.run

-- and the number of pairs is unchanged
pub as_many_sites : (w : WorldOf) (before : List Step) (v : WorldOf) (after : List Step) → Drives w before v after → length v.sites ≡ length w.sites
as_many_sites w before v after h =
    sym (map_length (λ x. length x.packets) v.sites) ∙ fell_length (packet_counts w.sites) (packet_counts v.sites) (drives_gain w before v after h)
    ∙ map_length (λ x. length x.packets) w.sites

-- a verdict and an activation send nothing
pub verdict_sends_none : (w : WorldOf) (device : ℕ) (verdict : Verdict) (v : WorldOf) → StepsTo w (steps.Verdict device verdict) v → packet_counts v.sites ≡ packet_counts w.sites
verdict_sends_none w device verdict v l =
    subst (λ x. packet_counts x.sites ≡ packet_counts w.sites) (sym l.after) (verdict_keeps l.works l.faults w verdict (place_of w.sites device) (site_for w.sites device) refl)

pub activation_sends_none : (w : WorldOf) (device : ℕ) (v : WorldOf) → StepsTo w (steps.Activate device) v → packet_counts v.sites ≡ packet_counts w.sites
activation_sends_none w device v l = subst (λ x. packet_counts x.sites ≡ packet_counts w.sites) (sym l.after) (ap packet_counts (activation_keeps l.works l.faults w device))
