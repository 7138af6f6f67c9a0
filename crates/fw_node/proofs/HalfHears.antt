-- The agent after a packet, from one of its halves after it.
use Rattle.std.proofs.Common.{◌≡◌, ◌∙◌, ℕ, true, List, Some, map, slice_set, refl, ap}
use Rattle.std.proofs.lemmas.List.{map-set}
use Rattle.mctp_ctl.specs.declared.answers.Endpoint.{Endpoint}
use Rattle.pldm_base.specs.declared.terminus.Role.TheVariants as roles
use Rattle.fw_package.specs.Package.{PackageText}
use Rattle.sel_core.specs.Log.{LogOf}
use Rattle.ua_core.specs.Session.{TimedOf}
use Rattle.fw_node.specs.Agents.{AgentOf, agent_on_packet_at}
use Rattle.fw_node.specs.AgentViews.{agent_of, half_in}
use Rattle.fw_node.specs.Cores.{session_core}
use Rattle.fw_node.specs.Halves.{HalfOf, half_on_packet}
use Rattle.fw_node.specs.Nodes.{node_outcome_of}
use Rattle.fw_node.specs.Notes.{log_with_event}
use Rattle.fw_node.specs.declared.identity.Identity.{Identity}
use Rattle.fw_node.specs.declared.half.Half.{Half}

made : (e f : Endpoint) (t u : ℕ) (hs gs : List (HalfOf TimedOf)) (l m : LogOf) → e ≡ f → t ≡ u → hs ≡ gs → l ≡ m
    → ◌≡◌ {A = AgentOf} (record { endpoint = e; tid = t; deaf = 0; halves = hs; log = l }) (record { endpoint = f; tid = u; deaf = 0; halves = gs; log = m })
made e f t u hs gs l m p q r s = rw (p, q, r, s) refl

pub heard_agent : (packages : List PackageText) (d new : Identity) (l log : LogOf) (ps : List (Half TimedOf)) (place : ℕ) (x y : Half TimedOf) (bytes : List ℕ) (now : ℕ)
    → new.endpoint ≡ d.endpoint
    → new.tid ≡ (node_outcome_of roles.Agent d.endpoint d.tid (half_on_packet (session_core packages) true (half_in 0 x) bytes)).tid
    → half_in 0 y ≡ (node_outcome_of roles.Agent d.endpoint d.tid (half_on_packet (session_core packages) true (half_in 0 x) bytes)).half
    → log ≡ log_with_event l now x.ends.asking.peer x.core y.core
    → agent_of 0 new log (slice_set ps place y) ≡ (agent_on_packet_at packages (agent_of 0 d l ps) bytes now (Some place) (Some (half_in 0 x))).agent
heard_agent packages d new l log ps place x y bytes now e t h notes =
    let F = node_outcome_of roles.Agent d.endpoint d.tid (half_on_packet (session_core packages) true (half_in 0 x) bytes) in
    made new.endpoint d.endpoint new.tid F.tid (map (half_in 0) (slice_set ps place y)) (slice_set (map (half_in 0) ps) place F.half) log (log_with_event l now x.ends.asking.peer x.core F.half.core)
    e t
    (map-set (half_in 0) ps place y ∙ ap (slice_set (map (half_in 0) ps) place) h)
    (notes ∙ ap (λ g. log_with_event l now x.ends.asking.peer x.core g.core) h)
