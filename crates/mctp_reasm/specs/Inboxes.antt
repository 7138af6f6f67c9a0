-- The assemblies of the messages that a node receives from a peer, of requests or of replies. There
-- is one for each tag, since source, destination and TO are the same for all.
use Rattle.std.specs.Prelude.{◌≡◌, ℕ, ◌+◌, ◌==◌, ◌&&◌, not, Bool, if◌then◌else◌, List, [], ◌∷◌, length, replicate, get_or, map, slice_set, Option, Some, None, Result, Ok, Err}
use Rattle.mctp_wire.specs.declared.unit.Unit.{«Unit»}
use Rattle.mctp_wire.specs.Packet as wire
use Rattle.mctp_wire.specs.declared.fault.WireFault.{WireFault}
use Rattle.mctp_wire.specs.declared.layout.Head.{Head}
use Rattle.mctp_reasm.specs.Held.{AssemblyOf, Held, feed_outcome, held_after, held_tick, packets_of}
use Rattle.mctp_reasm.specs.Pieces.{PacketOf, Route, packet_of, route_of}
use Rattle.mctp_reasm.specs.declared.outcomes.Fed.{Fed}

-- a node, its peer, whether it receives requests, and the packets held under each tag
pub record InboxOf : Type 0 where
  pub unit : «Unit»
  pub own : ℕ
  pub peer : ℕ
  pub to : Bool
  pub held : List (Option Held)

-- eight tags with no held packet
abbrev pub none_held : List (Option Held)
none_held = replicate 8 None

-- the packet is for this node: it goes to its endpoint and comes from its peer, and TO is set
-- exactly if requests are received
abbrev pub is_for : (own peer : ℕ) → (to : Bool) → Head → Bool
is_for own peer to h = (h.dest == own) && (h.source == peer) && (if to then h.to else not h.to)

-- the packet that was read, if it is for this node
abbrev pub for_end : (own peer : ℕ) → (to : Bool) → Result (Head × List ℕ) WireFault → Option PacketOf
for_end own peer to (Ok p) = if is_for own peer to p.0 then Some (packet_of p.0 p.1) else None
for_end own peer to (Err fault) = None

-- The packet with these bytes, if it is for this node. Bytes that are no packet are dropped.
abbrev pub packet_for : (u : «Unit») (own peer : ℕ) → (to : Bool) → List ℕ → Option PacketOf
packet_for u own peer to bytes = for_end own peer to (wire.packet_of u bytes)

-- the held packets of each assembly
abbrev pub held_in : List AssemblyOf → List (Option Held)
held_in xs = map (λ a. a.held) xs

-- a tick of one assembly
abbrev pub assembly_after_tick : AssemblyOf → AssemblyOf
assembly_after_tick a = record a { held = held_tick a.held }

-- each assembly has this unit
abbrev pub HaveUnit : «Unit» → List AssemblyOf → Type 0
HaveUnit u [] = u ≡ u
HaveUnit u (a ∷ xs) = (a.unit ≡ u) × HaveUnit u xs

-- the packets held under a tag
abbrev pub held_at : List (Option Held) → ℕ → Option Held
held_at held tag = get_or held tag None

-- the outcome of a packet, which is fed to the assembly of its tag
abbrev pub feed_outcome_at : «Unit» → List (Option Held) → PacketOf → Fed
feed_outcome_at u held p = feed_outcome u (held_at held p.head.tag) p

-- the packets held after a packet
abbrev pub held_with : «Unit» → List (Option Held) → PacketOf → List (Option Held)
held_with u held p = slice_set held p.head.tag (held_after u (held_at held p.head.tag) p)

-- the common fields of all packets received under a tag
abbrev pub inbox_route : (own peer : ℕ) → Bool → (tag : ℕ) → Route
inbox_route own peer to tag = record { dest = own; source = peer; to = to; tag = tag }

-- the packets of one message are on this route
abbrev pub IsOnRoute : Route → List PacketOf → Type 0
IsOnRoute r [] = Prim.Unit {0}
IsOnRoute r (q ∷ qs) = route_of q.head ≡ r

-- the packets held under each tag, from `tag` on, are on its route
abbrev pub AreOnRoutes : (own peer : ℕ) → Bool → (tag : ℕ) → List (Option Held) → Type 0
AreOnRoutes own peer to tag [] = Prim.Unit {0}
AreOnRoutes own peer to tag (h ∷ hs) =
    IsOnRoute (inbox_route own peer to tag) (packets_of h) × AreOnRoutes own peer to (tag + 1) hs

-- the invariant of an inbox
pub record IsInbox (b : InboxOf) : Type 0 where
  pub places : length b.held ≡ 8
  pub routes : AreOnRoutes b.own b.peer b.to 0 b.held
