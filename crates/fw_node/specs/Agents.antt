-- The agent's node: a half for each device that it updates, in configured order, and the event log.
use Rattle.std.specs.Prelude.{ℕ, ◌≡◌, ◌-◌, ◌+◌, ◌==◌, nat_le, true, if◌then◌else◌, List, [], ◌∷◌, ◌++◌, flat_map, map, slice_get, slice_set, Option, Some, None, Result, Ok, Err, Bool}
use Rattle.std.specs.List.{AllByRecursion}
use Rattle.mctp_ctl.specs.declared.answers.Endpoint.{Endpoint}
use Rattle.mctp_reasm.specs.Pieces.{MessageOf}
use Rattle.mctp_wire.specs.declared.unit.Unit.{«Unit»}
use Rattle.mctp_wire.specs.declared.unit.Unit.TheVariants.{U128}
use Rattle.mctp_wire.specs.Packet as wire
use Rattle.mctp_wire.specs.declared.fault.WireFault.{WireFault}
use Rattle.mctp_wire.specs.declared.layout.Head.{Head}
use Rattle.pldm_base.specs.declared.terminus.Role.TheVariants as roles
use Rattle.pldm_exch.specs.Caller.{CallTickOf, caller_tick}
use Rattle.fw_package.specs.Package.{PackageText}
use Rattle.sel_core.specs.Log.{LogOf, new_log, sel_restart}
use Rattle.ua_core.specs.Calls.{agent_activated, agent_cancelled, agent_started, is_free, may_cancel, new_session}
use Rattle.ua_core.specs.Session.{SessionOf, TimedOf}
use Rattle.fw_node.specs.BothEnds.{ends_new}
use Rattle.fw_node.specs.Cores.{session_core}
use Rattle.fw_node.specs.Halves.{HalfOf, half_grows, half_on_packet, half_restarts, half_ticks, half_waits, half_with_ticked_core, half_with_core, core_after_give_up}
use Rattle.fw_node.specs.Nodes.{NodeOutcome, node_outcome_of, half_of}
use Rattle.fw_node.specs.Notes.{log_with_event}
use Rattle.fw_node.specs.Packets.{all_packets, sent_by}

-- The agent: its endpoint, its terminus identifier, the ticks for which it is still deaf, its
-- halves, and the event log.
pub record AgentOf : Type 0 where
  pub endpoint : Endpoint
  pub tid : ℕ
  pub deaf : ℕ
  pub halves : List (HalfOf TimedOf)
  pub log : LogOf

-- a half is deaf for as long as its node
pub record IsDeafFor (deaf : ℕ) (h : HalfOf TimedOf) : Type 0 where
  pub asker : h.asker.deaf ≡ deaf
  pub taker : h.taker.deaf ≡ deaf

-- a new half and a new agent for the devices with these endpoint identifiers, in a network with
-- this transmission unit
abbrev pub new_half : «Unit» → (own device : ℕ) → HalfOf TimedOf
new_half u own device = half_of 0 (new_session u) (ends_new u own device)

abbrev pub new_agent : «Unit» → Endpoint → List ℕ → AgentOf
new_agent u endpoint devices =
    record { endpoint = endpoint; tid = 0; deaf = 0; halves = map (new_half u endpoint.eid) devices; log = new_log }

-- the place of a device among the agent's halves, with places counted from `n`
abbrev pub place_from : ℕ → List (HalfOf TimedOf) → ℕ → Option ℕ
place_from n [] eid = None
place_from n (h ∷ hs) eid = if h.peer == eid then Some n else place_from (n + 1) hs eid

abbrev pub place_of : List (HalfOf TimedOf) → ℕ → Option ℕ
place_of hs eid = place_from 0 hs eid

-- the half at a place, if there is one
abbrev pub half_at : List (HalfOf TimedOf) → Option ℕ → Option (HalfOf TimedOf)
half_at hs None = None
half_at hs (Some place) = slice_get hs place

-- the half for a device
abbrev pub half_for : AgentOf → ℕ → Option (HalfOf TimedOf)
half_for n eid = half_at n.halves (place_of n.halves eid)

-- an agent with the half at a place replaced by `after`; the event of its session is noted
abbrev pub half_becomes : AgentOf → (now place : ℕ) → (before after : HalfOf TimedOf) → AgentOf
half_becomes n now place before after =
    record n { halves = slice_set n.halves place after; log = log_with_event n.log now before.peer before.core after.core }

-- an agent after a call, and the packets that it sends
pub record AgentOutcome : Type 0 where
  pub agent : AgentOf
  pub sent : List (List ℕ)

abbrev pub agent_unmoved : AgentOf → AgentOutcome
agent_unmoved n = record { agent = n; sent = [] }

abbrev pub agent_outcome_of : AgentOf → (now place : ℕ) → HalfOf TimedOf → NodeOutcome TimedOf → AgentOutcome
agent_outcome_of n now place h heard =
    record { agent = record (half_becomes n now place h heard.half) { tid = heard.tid }; sent = all_packets h.unit heard.sent }

abbrev pub agent_on_packet_at : List PackageText → AgentOf → List ℕ → (now : ℕ) → Option ℕ → Option (HalfOf TimedOf) → AgentOutcome
agent_on_packet_at packages n bytes now (Some place) (Some h) =
    agent_outcome_of n now place h (node_outcome_of roles.Agent n.endpoint n.tid (half_on_packet (session_core packages) true h bytes))
agent_on_packet_at packages n bytes now place h = agent_unmoved n

-- a packet of either transmission unit: its source can be read in both, and the half for that
-- device drops a packet that is too long
abbrev pub any_packet : List ℕ → Result (Head × List ℕ) WireFault
any_packet bytes = wire.packet_of U128 bytes

-- the place of the half that handles a packet: that of the device that sent it
abbrev pub place_of_sender : List (HalfOf TimedOf) → Result (Head × List ℕ) WireFault → Option ℕ
place_of_sender hs (Ok p) = place_of hs p.0.source
place_of_sender hs (Err fault) = None

-- that half
abbrev pub receiving_half : AgentOf → List ℕ → Option (HalfOf TimedOf)
receiving_half n bytes = half_at n.halves (place_of_sender n.halves (any_packet bytes))

-- The agent after a packet: the half of the device that sent it handles it. A deaf agent drops
-- every packet.
abbrev pub agent_on_packet : List PackageText → AgentOf → List ℕ → (now : ℕ) → AgentOutcome
agent_on_packet packages n bytes now =
    if n.deaf == 0 then
    agent_on_packet_at packages n bytes now (place_of_sender n.halves (any_packet bytes)) (half_at n.halves (place_of_sender n.halves (any_packet bytes)))
    else agent_unmoved n

-- the parts of a tick of one half, with the general definitions of a half
abbrev pub silent_by : CallTickOf → TimedOf → List PackageText → TimedOf
silent_by call s packages = core_after_give_up (session_core packages) call s

abbrev pub session_half_aged : List PackageText → HalfOf TimedOf → HalfOf TimedOf
session_half_aged packages h = half_grows (session_core packages) h

abbrev pub session_half_idle : List PackageText → HalfOf TimedOf → HalfOf TimedOf
session_half_idle packages h = half_with_ticked_core (session_core packages) h

abbrev pub session_half_after : List PackageText → HalfOf TimedOf → HalfOf TimedOf
session_half_after packages h = (half_waits (session_core packages) h).half

-- the packets of each part
abbrev pub again_packets : HalfOf TimedOf → List (List ℕ)
again_packets h = all_packets h.unit (sent_by (caller_tick h.asker.caller).1)

abbrev pub ended_packets : List PackageText → HalfOf TimedOf → List (List ℕ)
ended_packets packages h = all_packets h.unit (half_waits (session_core packages) h).sent

-- a packet that is for this endpoint
abbrev pub IsPacketFor : ℕ → List ℕ → Type 0
IsPacketFor eid packet = slice_get packet 1 ≡ Some eid

-- the packets that a half sends in a tick: those of both parts, which go to its peer
pub record IsAddressed (packages : List PackageText) (h : HalfOf TimedOf) : Type 0 where
  pub sent : all_packets h.unit (half_ticks (session_core packages) true h).sent ≡ again_packets h ++ ended_packets packages (session_half_aged packages h)
  pub again : AllByRecursion (IsPacketFor h.peer) (again_packets h)
  pub begun : AllByRecursion (IsPacketFor h.peer) (ended_packets packages (session_half_aged packages h))

-- the messages of the requests that begin in it
abbrev pub begin_messages : List PackageText → HalfOf TimedOf → List MessageOf
begin_messages packages h = (half_waits (session_core packages) h).sent

-- The log after a part of a tick, which is done for all halves in order: the event of each session
-- is noted.
abbrev pub log_after_part : (HalfOf TimedOf → HalfOf TimedOf) → (now : ℕ) → LogOf → List (HalfOf TimedOf) → LogOf
log_after_part part now log [] = log
log_after_part part now log (h ∷ hs) = log_after_part part now (log_with_event log now h.peer h.core (part h).core) hs

-- the halves after the first part
abbrev pub all_grown : List PackageText → AgentOf → List (HalfOf TimedOf)
all_grown packages n = map (session_half_aged packages) n.halves

-- An agent after a tick: each part is done for all halves before the next begins.
abbrev pub agent_ticks : List PackageText → (now : ℕ) → AgentOf → AgentOf
agent_ticks packages now n =
    if nat_le n.deaf 1 then
    record n {
      deaf = 0;
      halves = map (session_half_after packages) (all_grown packages n);
      log = log_after_part (session_half_idle packages) now (log_after_part (session_half_aged packages) now n.log n.halves) (all_grown packages n);
    }
    else record n { deaf = n.deaf - 1; halves = map (λ h. (half_ticks (session_core packages) true h).half) n.halves }

-- the packets that it sends in the tick
abbrev pub agent_tick_sends : List PackageText → AgentOf → List (List ℕ)
agent_tick_sends packages n =
    if nat_le n.deaf 1 then flat_map again_packets n.halves ++ flat_map (ended_packets packages) (all_grown packages n)
    else []

-- An agent after a restart: it is deaf for 40 ticks, and the records of its sessions and of its log
-- stay.
abbrev pub agent_restarts : List PackageText → AgentOf → AgentOf
agent_restarts packages n =
    record n { tid = 0; deaf = 40; halves = map (half_restarts (session_core packages)) n.halves; log = sel_restart n.log }

-- The operator's calls of the session for one device: each ends by giving up a request that is no
-- longer the pending command.
abbrev pub half_after_start : List PackageText → HalfOf TimedOf → (number : ℕ) → HalfOf TimedOf
half_after_start packages h number =
    half_with_core (session_core packages) h (record { session = agent_started h.core.session number; idle = 0 })

abbrev pub half_after_cancel : List PackageText → HalfOf TimedOf → HalfOf TimedOf
half_after_cancel packages h =
    half_with_core
    (session_core packages)
    h
    (record { session = agent_cancelled h.core.session; idle = if may_cancel h.core.session.stage then 0 else h.core.idle })

abbrev pub half_after_activate : List PackageText → HalfOf TimedOf → SessionOf → HalfOf TimedOf
half_after_activate packages h s = half_with_core (session_core packages) h (record { session = s; idle = 0 })

abbrev pub becomes_at : AgentOf → (now : ℕ) → (HalfOf TimedOf → HalfOf TimedOf) → Option ℕ → Option (HalfOf TimedOf) → AgentOf
becomes_at n now call (Some place) (Some h) = half_becomes n now place h (call h)
becomes_at n now call place h = n

-- an agent after a call of the half for a device
abbrev pub agent_becomes : AgentOf → (now eid : ℕ) → (HalfOf TimedOf → HalfOf TimedOf) → AgentOf
agent_becomes n now eid call = becomes_at n now call (place_of n.halves eid) (half_for n eid)

-- whether the session for a device is free, if there is one
abbrev pub free_in : Option (HalfOf TimedOf) → Option Bool
free_in None = None
free_in (Some h) = Some (is_free h.core.session)

abbrev pub free_for : AgentOf → (eid : ℕ) → Option Bool
free_for n eid = free_in (half_for n eid)

-- the session for a device after an activation, if there is a session that is ready for it
abbrev pub ready_in : Option (HalfOf TimedOf) → Option SessionOf
ready_in None = None
ready_in (Some h) = agent_activated h.core.session

abbrev pub ready_for : AgentOf → (eid : ℕ) → Option SessionOf
ready_for n eid = ready_in (half_for n eid)
