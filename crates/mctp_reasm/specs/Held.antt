-- The packets that an assembly holds, and the outcome of one more packet (DSP0236, section 8).
use Rattle.std.specs.Prelude.{◌≡◌, ◌<◌, ◌≤◌, ℕ, zero, suc, ◌+◌, ◌%◌, ◌==◌, ◌&&◌, Bool, true, false, not, if◌then◌else◌, List, [], ◌∷◌, ◌++◌, length, take, drop, Option, Some, None}
use Rattle.mctp_wire.specs.declared.unit.Unit.{«Unit»}
use Rattle.mctp_wire.specs.Units.{bytes_of}
use Rattle.mctp_wire.specs.declared.layout.Head.{Head}
use Rattle.mctp_wire.specs.declared.unit.TheConstants.{MAX_PACKETS}
use Rattle.mctp_reasm.specs.Pieces.{MessageOf, PacketOf, Route, bodies, piece, route_of}
use Rattle.mctp_reasm.specs.declared.outcomes.DropCause.{DropCause}
use Rattle.mctp_reasm.specs.declared.outcomes.DropCause.TheVariants as causes
use Rattle.mctp_reasm.specs.declared.outcomes.Fed.{Fed}
use Rattle.mctp_reasm.specs.declared.outcomes.Fed.TheVariants as outcomes
use Rattle.mctp_reasm.specs.declared.outcomes.Taken.{Taken}
use Rattle.mctp_reasm.specs.declared.outcomes.Taken.TheVariants as takens

-- the held packets, and the ticks since the last of them
pub record Held : Type 0 where
  pub packets : List PacketOf
  pub age : ℕ

-- an assembly: the unit, and the held packets
pub record AssemblyOf : Type 0 where
  pub unit : «Unit»
  pub held : Option Held

-- the first `count` pieces of the bytes, from number n on, none of them the last
unfoldable pub open_pieces : «Unit» → ℕ → Route → ℕ → List ℕ → List PacketOf
open_pieces u zero r n bytes = []
open_pieces u (suc count) r n bytes = piece r n false (take (bytes_of u) bytes) ∷ open_pieces u count r (n + 1) (drop (bytes_of u) bytes)

-- the held packets of a buffer with `count` pieces
abbrev pub held_of : «Unit» → Route → List ℕ → ℕ → ℕ → Option Held
held_of u r bytes count age = if count == 0 then None else Some (record { packets = open_pieces u count r 0 bytes; age = age })

-- the held packets
abbrev pub packets_of : Option Held → List PacketOf
packets_of None = []
packets_of (Some h) = h.packets

-- the packets before a packet of its message: none if it starts a message
abbrev pub base_of : Option Held → Head → List PacketOf
base_of held h = if h.som then [] else packets_of held

-- those packets, and the packet after them
abbrev pub packets_with : Option Held → PacketOf → List PacketOf
packets_with held p = base_of held p.head ++ p ∷ []

-- the message with the bytes of the packets
abbrev pub message_of : Head → List PacketOf → MessageOf
message_of h ps = record { dest = h.dest; source = h.source; to = h.to; tag = h.tag; bytes = bodies ps }

-- a packet that isn't the last of its message has as many bytes as the unit
abbrev pub is_cut : «Unit» → PacketOf → Bool
is_cut u p = not p.head.eom && not (length p.body == bytes_of u)

-- the first cause to drop a packet that starts a message
abbrev pub start_cause : «Unit» → PacketOf → Option DropCause
start_cause u p =
    if not (p.head.seq == 0) then Some causes.StartNumber
    else if is_cut u p then Some causes.«Unit»
    else None

-- the first cause to drop a packet that comes after `count` packets of its message
abbrev pub next_cause : «Unit» → ℕ → PacketOf → Option DropCause
next_cause u count p =
    if not (p.head.seq == count % 4) then Some causes.Sequence
    else if count == MAX_PACKETS then Some causes.FifthPacket
    else if is_cut u p then Some causes.«Unit»
    else None

-- the cause to drop a packet that continues a message
abbrev pub cause_in : «Unit» → Option Held → PacketOf → Option DropCause
cause_in u None p = Some causes.NoStart
cause_in u (Some h) p = next_cause u (length h.packets) p

-- the cause to drop a packet, if there is one
abbrev pub cause_of : «Unit» → Option Held → PacketOf → Option DropCause
cause_of u held p = if p.head.som then start_cause u p else cause_in u held p

-- a packet that isn't dropped completes its message if it is the last
abbrev pub feed_outcome_for : Option DropCause → Bool → MessageOf → Fed
feed_outcome_for (Some cause) last m = outcomes.Dropped cause
feed_outcome_for None true m = outcomes.Whole m
feed_outcome_for None false m = outcomes.Open

-- the packets are held if the last one isn't dropped and the message isn't complete; in each other
-- case nothing is held
abbrev pub held_as : Option DropCause → Bool → List PacketOf → Option Held
held_as None false ps = Some (record { packets = ps; age = 0 })
held_as _ last ps = None

-- the outcome of a packet
abbrev pub feed_outcome : «Unit» → Option Held → PacketOf → Fed
feed_outcome u held p = feed_outcome_for (cause_of u held p) p.head.eom (message_of p.head (packets_with held p))

-- the outcome, if a completed message is written elsewhere
abbrev pub fed_of : Taken → (written : MessageOf) → Fed
fed_of takens.Open written = outcomes.Open
fed_of takens.Whole written = outcomes.Whole written
fed_of (takens.Dropped cause) written = outcomes.Dropped cause

-- if no message was completed, the place for messages is unchanged
abbrev pub KeepsMessageUnlessWhole : Taken → (before after : MessageOf) → Type 0
KeepsMessageUnlessWhole takens.Whole before after = Prim.Unit {0}
KeepsMessageUnlessWhole _ before after = after ≡ before

-- the packets held after a packet
abbrev pub held_after : «Unit» → Option Held → PacketOf → Option Held
held_after u held p = held_as (cause_of u held p) p.head.eom (packets_with held p)

-- a tick ages the held packets; in the ninth after the last packet they are dropped
abbrev pub held_tick : Option Held → Option Held
held_tick None = None
held_tick (Some h) = if h.age == 8 then None else Some (record h { age = h.age + 1 })

-- the packet is of the held message
abbrev pub IsOfHeldMessage : List PacketOf → Head → Type 0
IsOfHeldMessage [] h = Prim.Unit {0}
IsOfHeldMessage (q ∷ qs) h = route_of q.head ≡ route_of h

-- the packet comes after `ps`, by its number and its start flag
abbrev pub FollowsPackets : List PacketOf → Head → Type 0
FollowsPackets ps h = (length ps < MAX_PACKETS) × (h.seq ≡ length ps) × (h.som ≡ (length ps == 0))

-- pieces of one message from number n on, none of them the last
abbrev pub AreOpenPieces : «Unit» → Route → ℕ → List PacketOf → Type 0
AreOpenPieces u r n [] = Prim.Unit {0}
AreOpenPieces u r n (q ∷ qs) = (q ≡ piece r n false q.body) × (length q.body ≡ bytes_of u) × AreOpenPieces u r (n + 1) qs

-- the first pieces of a message that isn't complete
abbrev pub AreFirstPieces : «Unit» → List PacketOf → Type 0
AreFirstPieces u [] = ⊥
AreFirstPieces u (q ∷ qs) = AreOpenPieces u (route_of q.head) 0 (q ∷ qs)

-- the invariant of an assembly
abbrev pub IsHeld : «Unit» → Option Held → Type 0
IsHeld u None = Prim.Unit {0}
IsHeld u (Some h) = AreFirstPieces u h.packets × (length h.packets ≤ MAX_PACKETS) × (h.age ≤ 8)
