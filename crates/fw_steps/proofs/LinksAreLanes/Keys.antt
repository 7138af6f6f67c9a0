-- The devices of a world, and the agent's halves for them, stay the same.
use Rattle.std.proofs.Common.{◌≡◌, ◌∙◌, ◌+◌, ◌==◌, ℕ, Bool, true, false, if◌then◌else◌, List, [], ◌∷◌, map, Option, Some, None, refl, sym, ap}
use Rattle.std.specs.List.{AllByRecursion}
use Rattle.exch_lane.specs.Lanes.{Sent, item_numbered}
use Rattle.ua_core.specs.Session.{SessionOf, TimedOf}
use Rattle.fw_node.specs.Agents.{any_packet, agent_on_packet, agent_unmoved, half_after_activate, half_after_cancel, half_at, half_for, agent_on_packet_at, place_of_sender, place_of as half_place, ready_for, half_after_start}
use Rattle.fw_node.specs.Cores.{session_core}
use Rattle.fw_node.specs.Halves.{HalfOf, half_restarts}
use Rattle.fw_node.specs.Nodes.{device_restarts}
use Rattle.fw_steps.specs.Steps.{world_after}
use Rattle.fw_steps.specs.Worlds.{SiteOf, WorldOf, activates_on, agent_pass_sends, agent_passes, world_after_log_request, at_agent, at_device, world_after_call, counts, world_after_deliver, packets_of, place_of, post, post_at, posts, world_after_restart, site_for, site_after_tick}
use Rattle.fw_steps.specs.declared.step.Step.{Step}
use Rattle.fw_steps.specs.declared.step.Step.TheVariants as steps
use Rattle.fw_steps.proofs.LinksAreLanes.AgentArrivals.{heard_half, heard_half_peer, hears_put}
use Rattle.fw_steps.proofs.LinksAreLanes.AgentTicks.{IsHalfOf, half_after_tick, half_peer, halves_after_tick, same_half}
use Rattle.fw_steps.proofs.LinksAreLanes.Arrivals.{device_agent, device_put, heard_site}
use Rattle.fw_steps.proofs.LinksAreLanes.Firsts.{put_at}
use Rattle.fw_steps.proofs.LinksAreLanes.Listed.{map_keys, put_keys}
use Rattle.fw_steps.proofs.LinksAreLanes.Posting.{same_site, site_eid, with_packet}
use Rattle.fw_steps.proofs.LinksAreLanes.Projection.{becomes_put, goes_on_eid, judged_site, judges_agent, judges_put, restarts_put}
use Rattle.fw_steps.proofs.LinksAreLanes.Ticks.{same_ticked}

-- the identifiers of the devices, and of the agent's halves
abbrev pub eids_of : WorldOf → List ℕ
eids_of w = map site_eid w.sites

abbrev pub peers_of : WorldOf → List ℕ
peers_of w = map half_peer w.agent.halves

-- one device changes
put_site : (g : SiteOf → SiteOf) → ((x : SiteOf) → site_eid (g x) ≡ site_eid x) → (xs : List SiteOf) (own : ℕ)
    → map site_eid (put_at g xs (place_of xs own) (site_for xs own)) ≡ map site_eid xs
put_site g same xs own = put_keys site_eid g same xs (place_of xs own) (site_for xs own) (sym (same_site xs (place_of xs own)))

-- packets are sent
post_as_put : (now : ℕ) (xs : List SiteOf) (packet : List ℕ) (o : Option ℕ) (s : Option SiteOf) → post_at now xs packet o s ≡ put_at (with_packet now packet) xs o s
post_as_put now xs packet None s = refl
post_as_put now xs packet (Some p) None = refl
post_as_put now xs packet (Some p) (Some x) = refl

post_keeps : (now : ℕ) (xs : List SiteOf) (packet : List ℕ) → map site_eid (post now xs packet) ≡ map site_eid xs
post_keeps now xs [] = refl
post_keeps now xs (version ∷ []) = refl
post_keeps now xs (version ∷ dest ∷ rest) =
    ap (map site_eid) (post_as_put now xs (version ∷ dest ∷ rest) (place_of xs dest) (site_for xs dest))
    ∙ put_site (with_packet now (version ∷ dest ∷ rest)) (λ x. refl) xs dest

posts_keep : (now : ℕ) (packets : List (List ℕ)) (xs : List SiteOf) → map site_eid (posts now xs packets) ≡ map site_eid xs
posts_keep now [] xs = refl
posts_keep now (p ∷ ps) xs = posts_keep now ps (post now xs p) ∙ post_keeps now xs p

-- the devices
device_keeps : (works : Bool) (faults : ℕ) (w : WorldOf) (bytes : List ℕ) (node : ℕ) → eids_of (at_device works faults w bytes (place_of w.sites node) (site_for w.sites node)) ≡ eids_of w
device_keeps works faults w bytes node =
    ap (map site_eid) (device_put works faults w bytes (place_of w.sites node) (site_for w.sites node))
    ∙ put_site (heard_site works faults w.now bytes) (λ x. refl) w.sites node

comes_if : (agent : Bool) (w u v : WorldOf) → eids_of u ≡ eids_of w → eids_of v ≡ eids_of w → eids_of (if agent then u else v) ≡ eids_of w
comes_if true w u v h k = h
comes_if false w u v h k = k

comes_keeps : (works : Bool) (faults : ℕ) (w : WorldOf) (node : ℕ) (o : Option Sent) → eids_of (world_after_deliver works faults w node o) ≡ eids_of w
comes_keeps works faults w node None = refl
comes_keeps works faults w node (Some p) =
    comes_if (node == w.agent.endpoint.eid) w (at_agent w p.bytes) (at_device works faults w p.bytes (place_of w.sites node) (site_for w.sites node))
    (posts_keep w.now (agent_on_packet w.packages w.agent p.bytes w.now).sent w.sites) (device_keeps works faults w p.bytes node)

activates_keeps : (w : WorldOf) (device : ℕ) (o : Option SessionOf) → eids_of (activates_on w device o) ≡ eids_of w
activates_keeps w device None = refl
activates_keeps w device (Some s) = refl

log_keeps : (w : WorldOf) (bytes : List ℕ) → eids_of (world_after_log_request w bytes) ≡ eids_of w
log_keeps w [] = refl
log_keeps w (command ∷ bytes) = refl

restarts_keep : (w : WorldOf) (node : ℕ) → eids_of (world_after_restart w node) ≡ eids_of w
restarts_keep w node =
    comes_if (node == w.agent.endpoint.eid) w _ _ refl
    (ap (map site_eid) (restarts_put w.sites (place_of w.sites node) (site_for w.sites node)) ∙ put_site (λ x. record x { node = device_restarts x.node }) (λ x. refl) w.sites node)

pub eids_stay : (works : Bool) (faults : ℕ) (w : WorldOf) (s : Step) → eids_of (world_after works faults w s) ≡ eids_of w
eids_stay works faults w (steps.Deliver device number node) = comes_keeps works faults w node (item_numbered (packets_of w device) number)
eids_stay works faults w (steps.Tick missed) =
    map_keys site_eid (site_after_tick missed.items (w.now + 1)) (goes_on_eid missed.items (w.now + 1)) _
    ∙ posts_keep (w.now + 1) (agent_pass_sends (counts missed.items w.agent.endpoint.eid) w.packages w.agent) w.sites
eids_stay works faults w (steps.Start device number) = refl
eids_stay works faults w (steps.Cancel device) = refl
eids_stay works faults w (steps.Activate device) = activates_keeps w device (ready_for w.agent device)
eids_stay works faults w (steps.Verdict device verdict) =
    ap (map site_eid) (judges_put works faults w verdict (place_of w.sites device) (site_for w.sites device)) ∙ put_site (judged_site works faults verdict) (λ x. refl) w.sites device
eids_stay works faults w (steps.Restart node) = restarts_keep w node
eids_stay works faults w (steps.Sel bytes) = log_keeps w bytes.items

-- the agent's halves
put_half : (g : HalfOf TimedOf → HalfOf TimedOf) → ((h : HalfOf TimedOf) → (g h).peer ≡ h.peer) → (hs : List (HalfOf TimedOf)) (o : Option ℕ)
    → map half_peer (put_at g hs o (half_at hs o)) ≡ map half_peer hs
put_half g same hs o = put_keys half_peer g same hs o (half_at hs o) (sym (same_half hs o))

agent_hears_if : (hears : Bool) (w : WorldOf) (bytes : List ℕ)
    → map half_peer (if hears then agent_on_packet_at w.packages w.agent bytes w.now (place_of_sender w.agent.halves (any_packet bytes)) (half_at w.agent.halves (place_of_sender w.agent.halves (any_packet bytes))) else agent_unmoved w.agent).agent.halves
    ≡ peers_of w
agent_hears_if true w bytes =
    ap (map half_peer) (hears_put w bytes (place_of_sender w.agent.halves (any_packet bytes)) (half_at w.agent.halves (place_of_sender w.agent.halves (any_packet bytes))))
    ∙ put_half (heard_half w bytes) (heard_half_peer w bytes) w.agent.halves (place_of_sender w.agent.halves (any_packet bytes))
agent_hears_if false w bytes = refl

peers_if : (agent : Bool) (w u v : WorldOf) → peers_of u ≡ peers_of w → peers_of v ≡ peers_of w → peers_of (if agent then u else v) ≡ peers_of w
peers_if true w u v h k = h
peers_if false w u v h k = k

delivers_stay : (works : Bool) (faults : ℕ) (w : WorldOf) (node : ℕ) (o : Option Sent) → peers_of (world_after_deliver works faults w node o) ≡ peers_of w
delivers_stay works faults w node None = refl
delivers_stay works faults w node (Some p) =
    peers_if (node == w.agent.endpoint.eid) w (at_agent w p.bytes) (at_device works faults w p.bytes (place_of w.sites node) (site_for w.sites node))
    (agent_hears_if (w.agent.deaf == 0) w p.bytes) (ap (λ n. map half_peer n.halves) (device_agent works faults w p.bytes (place_of w.sites node) (site_for w.sites node)))

calls_stay : (w : WorldOf) (device : ℕ) (g : HalfOf TimedOf → HalfOf TimedOf) → ((h : HalfOf TimedOf) → (g h).peer ≡ h.peer) → peers_of (world_after_call w device g) ≡ peers_of w
calls_stay w device g same =
    ap (map half_peer) (becomes_put w.agent w.now g (half_place w.agent.halves device) (half_for w.agent device)) ∙ put_half g same w.agent.halves (half_place w.agent.halves device)

activates_stay : (w : WorldOf) (device : ℕ) (o : Option SessionOf) → peers_of (activates_on w device o) ≡ peers_of w
activates_stay w device None = refl
activates_stay w device (Some s) = calls_stay w device (λ h. half_after_activate w.packages h s) (λ h. refl)

log_stays : (w : WorldOf) (bytes : List ℕ) → peers_of (world_after_log_request w bytes) ≡ peers_of w
log_stays w [] = refl
log_stays w (command ∷ bytes) = refl

passes_stay : (counts : Bool) (w : WorldOf) → AllByRecursion (IsHalfOf w.agent.deaf) w.agent.halves → map half_peer (agent_passes counts w.packages (w.now + 1) w.agent).halves ≡ peers_of w
passes_stay true w k =
    ap (map half_peer) (halves_after_tick w.packages (w.now + 1) w.agent k) ∙ map_keys half_peer (half_after_tick w.packages) (λ h. (same_ticked (session_core w.packages) h).2) w.agent.halves
passes_stay false w k = refl

pub peers_stay : (works : Bool) (faults : ℕ) (w : WorldOf) (s : Step) → AllByRecursion (IsHalfOf w.agent.deaf) w.agent.halves → peers_of (world_after works faults w s) ≡ peers_of w
peers_stay works faults w (steps.Deliver device number node) k = delivers_stay works faults w node (item_numbered (packets_of w device) number)
peers_stay works faults w (steps.Tick missed) k = passes_stay (counts missed.items w.agent.endpoint.eid) w k
peers_stay works faults w (steps.Start device number) k = calls_stay w device (λ h. half_after_start w.packages h number) (λ h. refl)
peers_stay works faults w (steps.Cancel device) k = calls_stay w device (half_after_cancel w.packages) (λ h. refl)
peers_stay works faults w (steps.Activate device) k = activates_stay w device (ready_for w.agent device)
peers_stay works faults w (steps.Verdict device verdict) k = ap (λ n. map half_peer n.halves) (judges_agent works faults w verdict (place_of w.sites device) (site_for w.sites device))
peers_stay works faults w (steps.Restart node) k =
    peers_if (node == w.agent.endpoint.eid) w _ _ (map_keys half_peer (half_restarts (session_core w.packages)) (λ h. refl) w.agent.halves) refl
peers_stay works faults w (steps.Sel bytes) k = log_stays w bytes.items
