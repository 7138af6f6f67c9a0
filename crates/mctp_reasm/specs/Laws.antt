-- How a message is cut, and how an assembly takes its pieces.
use Rattle.std.specs.Prelude.{◌≡◌, ◌≢◌, ◌<◌, ◌≤◌, ◌⊎◌, ℕ, ◌+◌, ◌==◌, false, if◌then◌else◌, length, take, Option, Some, None, slice_get}
use Rattle.mctp_wire.specs.declared.unit.Unit.{«Unit»}
use Rattle.mctp_wire.specs.Units.{bytes_of}
use Rattle.mctp_reasm.specs.Pieces.{MessageOf, IsMessage, PacketOf, Route, bodies, message_route, pieces, route_of}
use Rattle.mctp_reasm.specs.Held.{Held, feed_outcome, held_after}
use Rattle.mctp_reasm.specs.declared.outcomes.DropCause.TheVariants as causes
use Rattle.mctp_reasm.specs.declared.outcomes.Fed.TheVariants as outcomes
use Rattle.mctp_wire.specs.declared.unit.TheConstants.{MAX_PACKETS}

-- facts about piece n of a message of `count` pieces
pub record IsPieceAt (u : «Unit») (r : Route) (n count : ℕ) (p : PacketOf) : Type 0 where
  pub route : route_of p.head ≡ r
  pub seq : p.head.seq ≡ n
  pub som : p.head.som ≡ (n == 0)
  pub eom : p.head.eom ≡ (n + 1 == count)
  pub full : p.head.eom ≡ false → length p.body ≡ bytes_of u

-- the pieces of one message
pub record ArePieces (u : «Unit») (m : MessageOf) : Type 0 where
  pub some : 1 ≤ length (pieces u m)
  pub few : length (pieces u m) ≤ MAX_PACKETS
  pub bytes : bodies (pieces u m) ≡ m.bytes
  pub each : (i : ℕ) (p : PacketOf) → slice_get (pieces u m) i ≡ Some p → IsPieceAt u (message_route m) i (length (pieces u m)) p

abbrev pub PiecesOfAMessage : Type 0
PiecesOfAMessage = (u : «Unit») (m : MessageOf) → IsMessage u m → ArePieces u m

-- the first k pieces of a message are held
abbrev pub held_first_pieces : «Unit» → MessageOf → ℕ → ℕ → Option Held
held_first_pieces u m k age = if k == 0 then None else Some (record { packets = take k (pieces u m); age = age })

-- The first piece and the next one are taken, and the last one completes the message.
abbrev pub FeedsNext : Type 0
FeedsNext = (u : «Unit») (m : MessageOf) (k i age : ℕ) (p : PacketOf) → IsMessage u m → k < length (pieces u m) → slice_get (pieces u m) i ≡ Some p → (i ≡ 0) ⊎ (i ≡ k)
    → (feed_outcome u (held_first_pieces u m k age) p ≡ (if i + 1 == length (pieces u m) then outcomes.Whole m else outcomes.Open))
    × (held_after u (held_first_pieces u m k age) p ≡ (if i + 1 == length (pieces u m) then None else held_first_pieces u m (i + 1) 0))

-- Any other piece is dropped, and then nothing is held.
abbrev pub FeedsOther : Type 0
FeedsOther = (u : «Unit») (m : MessageOf) (k i age : ℕ) (p : PacketOf) → IsMessage u m → k < length (pieces u m) → slice_get (pieces u m) i ≡ Some p → i ≢ 0 → i ≢ k
    → (feed_outcome u (held_first_pieces u m k age) p ≡ outcomes.Dropped (if k == 0 then causes.NoStart else causes.Sequence))
    × (held_after u (held_first_pieces u m k age) p ≡ None)
