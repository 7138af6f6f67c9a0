-- The step of one device's link in a step of the world.
use Rattle.std.proofs.Common.{◌≡◌, ◌∙◌, ◌+◌, ◌==◌, ℕ, Bool, true, false, if◌then◌else◌, List, ◌++◌, [], Option, Some, None, IfSome, refl, sym, ap}
use Rattle.std.specs.List.{AllByRecursion, filter}
use Rattle.std.specs.Option.{option_map}
use Rattle.exch_lane.specs.Clocks.{since_after}
use Rattle.fw_package.specs.Package.{PackageText}
use Rattle.ua_core.specs.Session.{TimedOf}
use Rattle.fd_core.specs.Steps.{verdict_after}
use Rattle.fd_core.specs.declared.states.Verdict.{Verdict}
use Rattle.fw_node.specs.Agents.{AgentOf, agent_restarts, becomes_at, half_at, half_for, place_of as half_place}
use Rattle.fw_node.specs.Cores.{TimedDevice, device_core, session_core}
use Rattle.fw_node.specs.Halves.{HalfOf, half_restarts, half_ticks, half_with_core}
use Rattle.fw_node.specs.Nodes.{device_on_verdict, device_restarts}
use Rattle.fw_node.specs.Packets.{all_packets}
use Rattle.fw_steps.specs.Links.{LinkOf, link_ticks, packets_with_messages}
use Rattle.fw_steps.specs.Worlds.{SiteOf, WorldOf, world_after_call, world_after_verdict, node_becomes, place_of, sent_now, agent_pass_sends, agent_passes, counts, site_for, site_after_tick, site_passes, site_restarts, ticks_by}
use Rattle.fw_steps.proofs.LinksAreLanes.AgentTicks.{AreApart, IsHalfOf, agent_tick_sends_at, agent_ticks_at, half_changed, half_put, sent_for}
use Rattle.fw_steps.proofs.LinksAreLanes.Firsts.{put_at}
use Rattle.fw_steps.proofs.LinksAreLanes.Posting.{is_to, posts_at, site_changed, site_eid, site_of, site_put, with_packets}
use Rattle.fw_steps.proofs.LinksAreLanes.Sorted.{posted_behind}

-- the link of a device: the agent's half for it, and the device's half with their packets
abbrev pub link_from : (since : ℕ) → Option (HalfOf TimedOf) → Option SiteOf → Option LinkOf
link_from since None x = None
link_from since (Some h) None = None
link_from since (Some h) (Some x) = Some (record { agent = h; device = x.node.half; packets = x.packets; agent_since_miss = since; device_since_miss = x.since_miss })

abbrev pub link_at : WorldOf → ℕ → Option LinkOf
link_at w eid = link_from w.since_miss (half_for w.agent eid) (site_for w.sites eid)

-- A tick, which each of the two counts or misses. The agent's half after it, and the packets that
-- it sends:
abbrev half_after : Bool → List PackageText → HalfOf TimedOf → HalfOf TimedOf
half_after counts packages h = (half_ticks (session_core packages) counts h).half

abbrev half_packets : Bool → List PackageText → HalfOf TimedOf → List (List ℕ)
half_packets counts packages h = all_packets h.unit (half_ticks (session_core packages) counts h).sent

-- the packets of a link, for any nodes that count the tick
tick_packets : (agent device : Bool) (packages : List PackageText) (now : ℕ) (h : HalfOf TimedOf) (x : SiteOf)
    → (x.packets ++ sent_now (now + 1) (half_packets agent packages h)) ++ sent_now (now + 1) (all_packets x.node.half.unit (half_ticks device_core device x.node.half).sent)
    ≡ packets_with_messages x.node.half.unit (now + 1) (packets_with_messages h.unit (now + 1) x.packets (half_ticks (session_core packages) agent h).sent) (half_ticks device_core device x.node.half).sent
tick_packets agent device packages now h x =
    sym (posted_behind x.node.half.unit (now + 1) (packets_with_messages h.unit (now + 1) x.packets (half_ticks (session_core packages) agent h).sent) (half_ticks device_core device x.node.half).sent
    ∙ ap (λ ps. ps ++ sent_now (now + 1) (all_packets x.node.half.unit (half_ticks device_core device x.node.half).sent)) (posted_behind h.unit (now + 1) x.packets (half_ticks (session_core packages) agent h).sent))

-- the link of a device that counts it, or misses it
abbrev pub ticked_link : (agent device : Bool) → (since : ℕ) → List PackageText → (now : ℕ) → HalfOf TimedOf → SiteOf → LinkOf
ticked_link agent device since packages now h x =
    link_ticks now packages (record { agent = h; device = x.node.half; packets = x.packets; agent_since_miss = since; device_since_miss = x.since_miss }) agent device

tick_link : (agent device : Bool) (since : ℕ) (packages : List PackageText) (now : ℕ) (h : HalfOf TimedOf) (x : SiteOf)
    → link_from (since_after agent since) (Some (half_after agent packages h)) (Some (site_passes device (now + 1) (with_packets (now + 1) (half_packets agent packages h) x)))
    ≡ Some (ticked_link agent device since packages now h x)
tick_link agent true since packages now h x =
    ap (λ ps. Some (record { agent = half_after agent packages h; device = (half_ticks device_core true x.node.half).half; packets = ps; agent_since_miss = since_after agent since; device_since_miss = since_after true x.since_miss }))
    (tick_packets agent true packages now h x)
tick_link agent false since packages now h x =
    ap (λ ps. Some (record { agent = half_after agent packages h; device = x.node.half; packets = ps; agent_since_miss = since_after agent since; device_since_miss = since_after false x.since_miss }))
    (sym (posted_behind h.unit (now + 1) x.packets (half_ticks (session_core packages) agent h).sent))

tick_links : (agent device : Bool) (since : ℕ) (packages : List PackageText) (now : ℕ) (o : Option (HalfOf TimedOf)) (s : Option SiteOf)
    → link_from (since_after agent since) (option_map (half_after agent packages) o) (option_map (site_passes device (now + 1)) (option_map (with_packets (now + 1) (sent_for (half_packets agent packages) o)) s))
    ≡ option_map (λ l. link_ticks now packages l agent device) (link_from since o s)
tick_links agent device since packages now None s = refl
tick_links agent device since packages now (Some h) None = refl
tick_links agent device since packages now (Some h) (Some x) = tick_link agent device since packages now h x

-- the device stays the same
pub passes_eid : (counts : Bool) (now : ℕ) (x : SiteOf) → (site_passes counts now x).node.endpoint ≡ x.node.endpoint
passes_eid true now x = refl
passes_eid false now x = refl

pub goes_on_eid : (missed : List ℕ) (now : ℕ) (x : SiteOf) → site_eid (site_after_tick missed now x) ≡ site_eid x
goes_on_eid missed now x = ap (λ e. e.eid) (passes_eid (counts missed x.node.endpoint.eid) now x)

-- a device counts the tick if its identifier isn't among those that miss it
goes_on_here : (missed : List ℕ) (now eid : ℕ) (packets : List (List ℕ)) (s : Option SiteOf) → IfSome s (λ x. site_eid x ≡ eid)
    → option_map (site_after_tick missed now) (option_map (with_packets now packets) s) ≡ option_map (site_passes (counts missed eid) now) (option_map (with_packets now packets) s)
goes_on_here missed now eid packets None is = refl
goes_on_here missed now eid packets (Some x) is = ap (λ e. Some (site_passes (counts missed e) now (with_packets now packets x))) is

-- the agent's half for a device
unchanged : {A : Type 0} (o : Option A) → o ≡ option_map (λ x. x) o
unchanged None = refl
unchanged (Some x) = refl

none_sent : (packages : List PackageText) (o : Option (HalfOf TimedOf)) → [] ≡ sent_for (half_packets false packages) o
none_sent packages None = refl
none_sent packages (Some h) = refl

half_passes : (agent : Bool) (packages : List PackageText) (now : ℕ) (n : AgentOf) (eid : ℕ) → AllByRecursion (IsHalfOf n.deaf) n.halves
    → half_for (agent_passes agent packages now n) eid ≡ option_map (half_after agent packages) (half_for n eid)
half_passes true packages now n eid k = agent_ticks_at packages now n eid k
half_passes false packages now n eid k = unchanged (half_for n eid)

half_sends : (agent : Bool) (packages : List PackageText) (n : AgentOf) (eid : ℕ) → AllByRecursion (IsHalfOf n.deaf) n.halves → AreApart n.halves
    → filter (is_to eid) (agent_pass_sends agent packages n) ≡ sent_for (half_packets agent packages) (half_for n eid)
half_sends true packages n eid k apart = agent_tick_sends_at packages n eid k apart
half_sends false packages n eid k apart = none_sent packages (half_for n eid)

pub tick_at : (agent : Bool) (missed : List ℕ) (w : WorldOf) (eid : ℕ) → AllByRecursion (IsHalfOf w.agent.deaf) w.agent.halves → AreApart w.agent.halves
    → link_at (ticks_by agent missed w) eid ≡ option_map (λ l. link_ticks w.now w.packages l agent (counts missed eid)) (link_at w eid)
tick_at agent missed w eid k apart =
    let device = counts missed eid in
    let sent = sent_for (half_packets agent w.packages) (half_for w.agent eid) in
    let sites : site_for (ticks_by agent missed w).sites eid ≡ option_map (site_passes device (w.now + 1)) (option_map (with_packets (w.now + 1) sent) (site_for w.sites eid)) =
    site_changed (site_after_tick missed (w.now + 1)) (goes_on_eid missed (w.now + 1)) _ eid
    ∙ ap (option_map (site_after_tick missed (w.now + 1))) (posts_at (w.now + 1) (agent_pass_sends agent w.packages w.agent) w.sites eid)
    ∙ ap (λ ps. option_map (site_after_tick missed (w.now + 1)) (option_map (with_packets (w.now + 1) ps) (site_for w.sites eid))) (half_sends agent w.packages w.agent eid k apart)
    ∙ goes_on_here missed (w.now + 1) eid sent (site_for w.sites eid) (site_of w.sites eid) in
    ap (λ o. link_from (since_after agent w.since_miss) o (site_for (ticks_by agent missed w).sites eid)) (half_passes agent w.packages (w.now + 1) w.agent eid k)
    ∙ ap (link_from (since_after agent w.since_miss) (option_map (half_after agent w.packages) (half_for w.agent eid))) sites
    ∙ tick_links agent device _ w.packages w.now (half_for w.agent eid) (site_for w.sites eid)

-- A change of the agent's half, or of the device and its packets, on a link.
abbrev pub on_agent : (HalfOf TimedOf → HalfOf TimedOf) → LinkOf → LinkOf
on_agent g l = record l { agent = g l.agent }

agent_link : (since : ℕ) (g : HalfOf TimedOf → HalfOf TimedOf) (o : Option (HalfOf TimedOf)) (s : Option SiteOf) → link_from since (option_map g o) s ≡ option_map (on_agent g) (link_from since o s)
agent_link since g None s = refl
agent_link since g (Some h) None = refl
agent_link since g (Some h) (Some x) = refl

agent_link_if : (since : ℕ) (here : Bool) (g : HalfOf TimedOf → HalfOf TimedOf) (o : Option (HalfOf TimedOf)) (s : Option SiteOf)
    → link_from since (if here then option_map g o else o) s ≡ (if here then option_map (on_agent g) (link_from since o s) else link_from since o s)
agent_link_if since true g o s = agent_link _ g o s
agent_link_if since false g o s = refl

pub becomes_put : (n : AgentOf) (now : ℕ) (g : HalfOf TimedOf → HalfOf TimedOf) (o : Option ℕ) (s : Option (HalfOf TimedOf)) → (becomes_at n now g o s).halves ≡ put_at g n.halves o s
becomes_put n now g None s = refl
becomes_put n now g (Some p) None = refl
becomes_put n now g (Some p) (Some h) = refl

-- A call of the operator is a call on the device's link.
pub call_at : (w : WorldOf) (device eid : ℕ) (g : HalfOf TimedOf → HalfOf TimedOf) → ((h : HalfOf TimedOf) → (g h).peer ≡ h.peer)
    → link_at (world_after_call w device g) eid ≡ (if device == eid then option_map (on_agent g) (link_at w eid) else link_at w eid)
call_at w device eid g same =
    ap (λ hs. link_from w.since_miss (half_at hs (half_place hs eid)) (site_for w.sites eid)) (becomes_put w.agent w.now g (half_place w.agent.halves device) (half_for w.agent device))
    ∙ ap (λ o. link_from w.since_miss o (site_for w.sites eid)) (half_put g same w.agent.halves device eid)
    ∙ agent_link_if _ (device == eid) g (half_for w.agent eid) (site_for w.sites eid)

-- A restart of the agent is a restart on all links.
pub agent_restart_at : (w : WorldOf) (eid : ℕ)
    → link_at (record w { agent = agent_restarts w.packages w.agent }) eid ≡ option_map (on_agent (half_restarts (session_core w.packages))) (link_at w eid)
agent_restart_at w eid =
    ap (λ o. link_from w.since_miss o (site_for w.sites eid)) (half_changed (half_restarts (session_core w.packages)) (λ h. refl) w.agent.halves eid)
    ∙ agent_link _ (half_restarts (session_core w.packages)) (half_for w.agent eid) (site_for w.sites eid)

-- a change of a device
abbrev pub on_device : (HalfOf TimedDevice → HalfOf TimedDevice) → LinkOf → LinkOf
on_device g l = record l { device = g l.device }

abbrev pub ActsOn : (SiteOf → SiteOf) → (HalfOf TimedDevice → HalfOf TimedDevice) → Type 0
ActsOn f g = (x : SiteOf) → ((f x).node.half ≡ g x.node.half) × ((f x).packets ≡ x.packets) × ((f x).since_miss ≡ x.since_miss)

device_link : (since : ℕ) (f : SiteOf → SiteOf) (g : HalfOf TimedDevice → HalfOf TimedDevice) → ActsOn f g → (o : Option (HalfOf TimedOf)) (s : Option SiteOf)
    → link_from since o (option_map f s) ≡ option_map (on_device g) (link_from since o s)
device_link since f g acts None s = refl
device_link since f g acts (Some h) None = refl
device_link since f g acts (Some h) (Some x) = rw ((acts x).0, (acts x).1, (acts x).2) refl

device_link_if : (since : ℕ) (here : Bool) (f : SiteOf → SiteOf) (g : HalfOf TimedDevice → HalfOf TimedDevice) → ActsOn f g → (o : Option (HalfOf TimedOf)) (s : Option SiteOf)
    → link_from since o (if here then option_map f s else s) ≡ (if here then option_map (on_device g) (link_from since o s) else link_from since o s)
device_link_if since true f g acts o s = device_link _ f g acts o s
device_link_if since false f g acts o s = refl

pub restarts_put : (xs : List SiteOf) (o : Option ℕ) (s : Option SiteOf) → site_restarts xs o s ≡ put_at (λ x. record x { node = device_restarts x.node }) xs o s
restarts_put xs None s = refl
restarts_put xs (Some p) None = refl
restarts_put xs (Some p) (Some x) = refl

-- A restart of a device is a restart on its link.
pub device_restart_at : (w : WorldOf) (node eid : ℕ)
    → link_at (record w { sites = site_restarts w.sites (place_of w.sites node) (site_for w.sites node) }) eid
    ≡ (if node == eid then option_map (on_device (half_restarts device_core)) (link_at w eid) else link_at w eid)
device_restart_at w node eid =
    ap (λ xs. link_from w.since_miss (half_for w.agent eid) (site_for xs eid)) (restarts_put w.sites (place_of w.sites node) (site_for w.sites node))
    ∙ ap (link_from w.since_miss (half_for w.agent eid)) (site_put (λ x. record x { node = device_restarts x.node }) (λ x. refl) w.sites node eid)
    ∙ device_link_if _ (node == eid) (λ x. record x { node = device_restarts x.node }) (half_restarts device_core) (λ x. (refl, refl, refl)) (half_for w.agent eid) (site_for w.sites eid)

-- a verdict on the image that a device has written
abbrev pub judged_by : Verdict → Bool → HalfOf TimedDevice → HalfOf TimedDevice
judged_by verdict works h = half_with_core device_core h (record { device = verdict_after h.core.device verdict works; idle = 0 })

abbrev pub judged_site : Bool → (faults : ℕ) → Verdict → SiteOf → SiteOf
judged_site works faults verdict x = record x { node = node_becomes x.node faults x.node.tid (device_on_verdict works x.node verdict) }

pub judges_put : (works : Bool) (faults : ℕ) (w : WorldOf) (verdict : Verdict) (o : Option ℕ) (s : Option SiteOf)
    → (world_after_verdict works faults w verdict o s).sites ≡ put_at (judged_site works faults verdict) w.sites o s
judges_put works faults w verdict None s = refl
judges_put works faults w verdict (Some p) None = refl
judges_put works faults w verdict (Some p) (Some x) = refl

pub judges_agent : (works : Bool) (faults : ℕ) (w : WorldOf) (verdict : Verdict) (o : Option ℕ) (s : Option SiteOf) → (world_after_verdict works faults w verdict o s).agent ≡ w.agent
judges_agent works faults w verdict None s = refl
judges_agent works faults w verdict (Some p) None = refl
judges_agent works faults w verdict (Some p) (Some x) = refl

judges_since : (works : Bool) (faults : ℕ) (w : WorldOf) (verdict : Verdict) (o : Option ℕ) (s : Option SiteOf) → (world_after_verdict works faults w verdict o s).since_miss ≡ w.since_miss
judges_since works faults w verdict None s = refl
judges_since works faults w verdict (Some p) None = refl
judges_since works faults w verdict (Some p) (Some x) = refl

-- A verdict is a verdict on the device's link.
pub verdict_at : (works : Bool) (faults : ℕ) (w : WorldOf) (device eid : ℕ) (verdict : Verdict)
    → link_at (world_after_verdict works faults w verdict (place_of w.sites device) (site_for w.sites device)) eid
    ≡ (if device == eid then option_map (on_device (judged_by verdict works)) (link_at w eid) else link_at w eid)
verdict_at works faults w device eid verdict =
    ap (λ k. link_from k (half_for (world_after_verdict works faults w verdict (place_of w.sites device) (site_for w.sites device)).agent eid) (site_for (world_after_verdict works faults w verdict (place_of w.sites device) (site_for w.sites device)).sites eid))
    (judges_since works faults w verdict (place_of w.sites device) (site_for w.sites device))
    ∙ ap (λ n. link_from w.since_miss (half_for n eid) (site_for (world_after_verdict works faults w verdict (place_of w.sites device) (site_for w.sites device)).sites eid))
    (judges_agent works faults w verdict (place_of w.sites device) (site_for w.sites device))
    ∙ ap (λ xs. link_from w.since_miss (half_for w.agent eid) (site_for xs eid)) (judges_put works faults w verdict (place_of w.sites device) (site_for w.sites device))
    ∙ ap (link_from w.since_miss (half_for w.agent eid)) (site_put (judged_site works faults verdict) (λ x. refl) w.sites device eid)
    ∙ device_link_if _ (device == eid) (judged_site works faults verdict) (judged_by verdict works) (λ x. (refl, refl, refl)) (half_for w.agent eid) (site_for w.sites eid)
