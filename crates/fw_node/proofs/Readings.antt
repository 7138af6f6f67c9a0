-- A node's outcome depends only on the packet that the bytes decode to.
use Rattle.std.proofs.Common.{◌≡◌, ◌∙◌, ◌==◌, ℕ, Bool, true, false, if◌then◌else◌, List, [], Option, Some, None, Result, Ok, Err, refl, sym, ap}
use Rattle.mctp_wire.specs.Packet as wire
use Rattle.mctp_wire.specs.Packet.{IsRead, spelling}
use Rattle.mctp_wire.specs.declared.fault.WireFault.{WireFault}
use Rattle.mctp_wire.specs.declared.layout.Head.{Head}
use Rattle.mctp_wire.specs.declared.layout.Packet.{Packet}
use Rattle.mctp_wire.specs.declared.unit.Unit.{«Unit»}
use Rattle.mctp_wire.specs.declared.unit.Unit.TheVariants.{U128}
use Rattle.mctp_wire.proofs.Spelled.{spelling_fits}
use Rattle.mctp_reasm.specs.Held.{Held}
use Rattle.mctp_reasm.specs.Inboxes.{for_end}
use Rattle.pldm_base.specs.declared.terminus.Role.TheVariants as roles
use Rattle.pldm_exch.specs.Sides.{AskerRow, TakerRow, asker_packet, taker_packet}
use Rattle.fw_package.specs.Package.{PackageText}
use Rattle.ua_core.specs.Session.{TimedOf}
use Rattle.fw_node.specs.Agents.{AgentOf, agent_on_packet, agent_unmoved, any_packet, half_at, agent_outcome_of, agent_on_packet_at, place_of_sender}
use Rattle.fw_node.specs.BankCalls.{incoming_calls_bank, packet_calls_bank}
use Rattle.fw_node.specs.Cores.{device_core, session_core}
use Rattle.fw_node.specs.Halves.{CoreOf, HalfOutcome, HalfOf, half_on_packet, half_on_rows, half_takes, incoming}
use Rattle.fw_node.specs.Nodes.{DeviceNodeOf, device_on_packet, node_outcome_of}

-- both byte strings decode alike at each unit
abbrev pub ReadAlike : List ℕ → List ℕ → Type 0
ReadAlike a b = (u : «Unit») → wire.packet_of u a ≡ wire.packet_of u b

-- a decoded packet decodes at the greater unit too, whichever unit it was decoded at
pub spelling_reads : (p : Packet) → IsRead p → any_packet (spelling p) ≡ Ok (p.head, p.body.now)
spelling_reads p r = spelling_fits U128 p r r.few

-- a half's outcome, from the rows of its ends for a decoded packet
abbrev half_reads : {C : Type 0} → CoreOf C → (works : Bool) → HalfOf C → Result (Head × List ℕ) WireFault → HalfOutcome C
half_reads core works h r =
    half_on_rows core works h
    (if h.asker.deaf == 0 then asker_packet h.unit h.asker (for_end h.own h.peer false r) else AskerRow.Ignores h.asker.replies)
    (if h.taker.deaf == 0 then taker_packet h.unit h.taker (for_end h.own h.peer true r) else TakerRow.Silent h.taker.requests)

pub half_alike : {C : Type 0} (core : CoreOf C) (works : Bool) (h : HalfOf C) (a b : List ℕ) → ReadAlike a b → half_on_packet core works h a ≡ half_on_packet core works h b
half_alike core works h a b alike = ap (half_reads core works h) (alike h.unit)

-- whether it calls its bank, likewise
abbrev calls_read : {C : Type 0} → CoreOf C → HalfOf C → Result (Head × List ℕ) WireFault → Bool
calls_read core h r =
    incoming_calls_bank core h (incoming
    (if h.asker.deaf == 0 then asker_packet h.unit h.asker (for_end h.own h.peer false r) else AskerRow.Ignores h.asker.replies)
    (if h.taker.deaf == 0 then taker_packet h.unit h.taker (for_end h.own h.peer true r) else TakerRow.Silent h.taker.requests))

pub calls_alike : {C : Type 0} (core : CoreOf C) (h : HalfOf C) (a b : List ℕ) → ReadAlike a b → packet_calls_bank core h a ≡ packet_calls_bank core h b
calls_alike core h a b alike = ap (calls_read core h) (alike h.unit)

-- bytes that decode to no packet change nothing
asker_unread : (b : Bool) (replies : List (Option Held)) → (if b then AskerRow.Ignores replies else AskerRow.Ignores replies) ≡ AskerRow.Ignores replies
asker_unread true replies = refl
asker_unread false replies = refl

taker_unread : (b : Bool) (requests : List (Option Held)) → (if b then TakerRow.Silent requests else TakerRow.Silent requests) ≡ TakerRow.Silent requests
taker_unread true requests = refl
taker_unread false requests = refl

pub half_unread : {C : Type 0} (core : CoreOf C) (works : Bool) (h : HalfOf C) (bytes : List ℕ) (e : WireFault) → Err e ≡ wire.packet_of h.unit bytes → half_on_packet core works h bytes ≡ HalfOutcome.Went h []
half_unread core works h bytes e unread =
    ap (half_reads core works h) (sym unread)
    ∙ ap (λ row. half_on_rows core works h row (if h.taker.deaf == 0 then TakerRow.Silent h.taker.requests else TakerRow.Silent h.taker.requests)) (asker_unread (h.asker.deaf == 0) h.asker.replies)
    ∙ ap (half_takes core works h) (taker_unread (h.taker.deaf == 0) h.taker.requests)

-- a device's node
pub device_alike : (works : Bool) (n : DeviceNodeOf) (a b : List ℕ) → ReadAlike a b → device_on_packet works n a ≡ device_on_packet works n b
device_alike works n a b alike = ap (node_outcome_of roles.Device n.endpoint n.tid) (half_alike device_core works n.half a b alike)

pub device_unread : (works : Bool) (n : DeviceNodeOf) (bytes : List ℕ) (e : WireFault) → Err e ≡ wire.packet_of n.half.unit bytes
    → device_on_packet works n bytes ≡ record { half = n.half; tid = n.tid; sent = [] }
device_unread works n bytes e unread = ap (node_outcome_of roles.Device n.endpoint n.tid) (half_unread device_core works n.half bytes e unread)

-- the agent
hears_alike : (packages : List PackageText) (n : AgentOf) (a b : List ℕ) (now : ℕ) (place : Option ℕ) (h : Option (HalfOf TimedOf)) → ReadAlike a b → agent_on_packet_at packages n a now place h ≡ agent_on_packet_at packages n b now place h
hears_alike packages n a b now None h alike = refl
hears_alike packages n a b now (Some place) None alike = refl
hears_alike packages n a b now (Some place) (Some h) alike =
    ap (λ heard. agent_outcome_of n now place h (node_outcome_of roles.Agent n.endpoint n.tid heard)) (half_alike (session_core packages) true h a b alike)

pub agent_alike : (packages : List PackageText) (n : AgentOf) (a b : List ℕ) (now : ℕ) → ReadAlike a b → agent_on_packet packages n a now ≡ agent_on_packet packages n b now
agent_alike packages n a b now alike =
    ap (λ r. if n.deaf == 0 then agent_on_packet_at packages n a now (place_of_sender n.halves r) (half_at n.halves (place_of_sender n.halves r)) else agent_unmoved n) (alike U128)
    ∙ ap (λ x. if n.deaf == 0 then x else agent_unmoved n) (hears_alike packages n a b now (place_of_sender n.halves (any_packet b)) (half_at n.halves (place_of_sender n.halves (any_packet b))) alike)

agent_deaf : (b : Bool) (n : AgentOf) → (if b then agent_unmoved n else agent_unmoved n) ≡ agent_unmoved n
agent_deaf true n = refl
agent_deaf false n = refl

pub agent_unread : (packages : List PackageText) (n : AgentOf) (bytes : List ℕ) (now : ℕ) (e : WireFault) → Err e ≡ wire.packet_of U128 bytes → agent_on_packet packages n bytes now ≡ agent_unmoved n
agent_unread packages n bytes now e unread =
    ap (λ r. if n.deaf == 0 then agent_on_packet_at packages n bytes now (place_of_sender n.halves r) (half_at n.halves (place_of_sender n.halves r)) else agent_unmoved n) (sym unread)
    ∙ agent_deaf (n.deaf == 0) n

pub ruleset readings = (spelling_reads)
