-- The pieces of a message: each reads back, and its effect on an assembly that holds a beginning of
-- the message.
use Rattle.std.proofs.Common.{◌≡◌, ◌+◌, ◌*◌, ◌-◌, ◌≤◌, ◌<◌, ℕ, zero, suc, true, false, List, [], ◌∷◌, Option, Some, None, IfSome, IsSomeAnd, Ok, length, take, drop, slice_get, ◌⊎◌, inl, inr, refl, sym, ap, subst, arith}
use Rattle.mctp_wire.specs.declared.unit.Unit.{«Unit»}
use Rattle.mctp_wire.specs.Units.{bytes_of}
use Rattle.std.proofs.lemmas.Bool.{cases_lt, le-leb, lt-leb, ne_eqb}
use Rattle.std.proofs.lemmas.Bool.Decides.{eqb_tells}
use Rattle.std.proofs.lemmas.List.{length-drop, length-take-le}
use Rattle.std.proofs.lemmas.Option.{slice_get_within}
use Rattle.std.proofs.Math.Nat.{mul-suc}
use Rattle.mctp_wire.specs.declared.unit.Unit.TheVariants.{U64, U128}
use Rattle.mctp_wire.specs.Packet.{packet_of}
use Rattle.mctp_reasm.specs.Pieces.{IsMessage, MessageOf, PacketOf, Route, message_route, piece, pieces, pieces_from, spelling_of}
use Rattle.mctp_reasm.specs.Held.{Held, feed_outcome, held_after}
use Rattle.mctp_reasm.specs.Laws.{held_first_pieces}
use Rattle.mctp_wire.specs.declared.unit.TheConstants.{MAX_PACKETS}
use Rattle.mctp_reasm.specs.declared.outcomes.Fed.{Fed}
use Rattle.mctp_reasm.specs.declared.outcomes.Fed.TheVariants.{Dropped, Open, Whole}
use Rattle.exch_lane.proofs.Below.{Laws}
use Rattle.exch_lane.proofs.Facts.{lt_from}
use Rattle.exch_lane.proofs.Views.{IsPart}

-- a body that a packet can carry
abbrev pub IsSized : «Unit» → PacketOf → Type 0
IsSized u p = (1 ≤ length p.body) × (length p.body ≤ bytes_of u)

-- a unit has bytes
pub unit_some : (u : «Unit») → 1 ≤ bytes_of u
unit_some U64 = omega arith
unit_some U128 = omega arith

sized_last : (u : «Unit») (q : PacketOf) (i : ℕ) (p : PacketOf) → IsSized u q → slice_get (q ∷ []) i ≡ Some p → IsSized u p
sized_last u q zero p sized e = let is : q ≡ p = cc in subst (IsSized u) is sized
sized_last u q (suc i) p sized e = absurd (cc)

sized_more : (u : «Unit») (q : PacketOf) (qs : List PacketOf) (i : ℕ) (p : PacketOf) → IsSized u q → ((j : ℕ) → slice_get qs j ≡ Some p → IsSized u p)
    → slice_get (q ∷ qs) i ≡ Some p → IsSized u p
sized_more u q qs zero p sized later e = let is : q ≡ p = cc in subst (IsSized u) is sized
sized_more u q qs (suc j) p sized later e = later j e

sized_from : (u : «Unit») (fuel : ℕ) (r : Route) (n : ℕ) (bytes : List ℕ) (i : ℕ) (p : PacketOf) → 1 ≤ length bytes → length bytes ≤ bytes_of u * fuel
    → slice_get (pieces_from u fuel r n bytes) i ≡ Some p → IsSized u p
unfolding pieces_from
sized_from u zero r n bytes i p some le h = absurd (cc)
sized_from u (suc fuel) r n bytes i p some le h = elim (cases_lt (bytes_of u) (length bytes)) [
  | inl more ↦
      let left : length (drop (bytes_of u) bytes) ≡ length bytes - bytes_of u = length-drop (bytes_of u) bytes in
      let cut : length (take (bytes_of u) bytes) ≡ bytes_of u = length-take-le (bytes_of u) bytes (omega arith) in
      sized_more u (piece r n false (take (bytes_of u) bytes)) (pieces_from u fuel r (n + 1) (drop (bytes_of u) bytes)) i p (let some = unit_some u in omega (arith, cut), omega (arith, cut))
      (λ j e. sized_from u fuel r (n + 1) (drop (bytes_of u) bytes) j p (omega arith) (omega (arith, left, mul-suc (bytes_of u) fuel)) e) (rw (lt-leb (length bytes) (bytes_of u) more) at h)
  | inr less ↦ sized_last u (piece r n true bytes) i p (some, less) (rw (le-leb (length bytes) (bytes_of u) less) at h)
]

-- each piece of a message reads back
pub piece_reads : (l : Laws) (u : «Unit») (m : MessageOf) (i : ℕ) (p : PacketOf) → IsMessage u m → m.tag < 8 → slice_get (pieces u m) i ≡ Some p
    → packet_of u (spelling_of p) ≡ Ok (p.head, p.body)
piece_reads l u m i p lawful low h =
    let all = l.pieces u m lawful in
    let here = all.each i p h in
    let few = all.few in
    let seq = here.seq in
    let within = slice_get_within (pieces u m) i p h in
    let sized = sized_from u MAX_PACKETS (message_route m) 0 m.bytes i p lawful.0 (omega (arith, lawful.1)) h in
    let tag : p.head.tag ≡ m.tag = ap (λ r. r.tag) here.route in
    l.packets_read u (spelling_of p) p.head p.body (l.packets_written u p.head p.body (omega arith, omega (arith, low, tag)) sized.0 sized.1)

-- the result of a piece of a message: the whole message, a longer beginning of it, or nothing
abbrev pub Comes : «Unit» → MessageOf → Fed → Option Held → Type 0
Comes u m (Whole whole) held = (whole ≡ m) × (held ≡ None)
Comes u m Open held = IsSomeAnd held (λ h. IsPart u m h.packets × (h.age ≡ 0))
Comes u m (Dropped cause) held = held ≡ None

comes_next : (l : Laws) (u : «Unit») (m : MessageOf) (k i age : ℕ) (p : PacketOf) → IsMessage u m → k < length (pieces u m) → slice_get (pieces u m) i ≡ Some p
    → (i ≡ 0) ⊎ (i ≡ k) → Comes u m (feed_outcome u (held_first_pieces u m k age) p) (held_after u (held_first_pieces u m k age) p)
comes_next l u m k i age p lawful lt h next =
    let f = l.feeds_next u m k i age p lawful lt h next in
    let within = slice_get_within (pieces u m) i p h in
    elim (eqb_tells (i + 1) (length (pieces u m))) [
      | inl last ↦ rw (f.0, f.1, last.0) (refl, refl)
      | inr more ↦ rw (f.0, f.1, more.0, ne_eqb (i + 1) 0 (λ e. absurd (omega (arith, e)))) (record { count = i + 1; some = omega arith; proper = lt_from (i + 1) (length (pieces u m)) (omega arith) more.1; is = refl }, refl)
    ]

comes_other : (l : Laws) (u : «Unit») (m : MessageOf) (k i age : ℕ) (p : PacketOf) → IsMessage u m → k < length (pieces u m) → slice_get (pieces u m) i ≡ Some p
    → (i ≡ 0 → ⊥) → (i ≡ k → ⊥) → Comes u m (feed_outcome u (held_first_pieces u m k age) p) (held_after u (held_first_pieces u m k age) p)
comes_other l u m k i age p lawful lt h first next = let f = l.feeds_other u m k i age p lawful lt h first next in rw (f.0, f.1) refl

comes_at : (l : Laws) (u : «Unit») (m : MessageOf) (k i age : ℕ) (p : PacketOf) → IsMessage u m → k < length (pieces u m) → slice_get (pieces u m) i ≡ Some p
    → Comes u m (feed_outcome u (held_first_pieces u m k age) p) (held_after u (held_first_pieces u m k age) p)
comes_at l u m k i age p lawful lt h = elim (eqb_tells i 0) [
  | inl first ↦ comes_next l u m k i age p lawful lt h (inl first.1)
  | inr later ↦ elim (eqb_tells i k) [
    | inl next ↦ comes_next l u m k i age p lawful lt h (inr next.1)
    | inr other ↦ comes_other l u m k i age p lawful lt h later.1 other.1
  ]
]

pub piece_comes : (l : Laws) (u : «Unit») (m : MessageOf) (i : ℕ) (p : PacketOf) (o : Option Held) → IsMessage u m → slice_get (pieces u m) i ≡ Some p
    → IfSome o (λ h. IsPart u m h.packets) → Comes u m (feed_outcome u o p) (held_after u o p)
piece_comes l u m i p None lawful h part = comes_at l u m 0 i 0 p lawful (let some = (l.pieces u m lawful).some in omega arith) h
piece_comes l u m i p (Some held) lawful h part =
    let some = part.some in
    let is : Some held ≡ held_first_pieces u m part.count held.age = rw (ne_eqb part.count 0 (λ e. absurd (omega (arith, e)))) (ap (λ ps. Some (record { packets = ps; age = held.age })) part.is) in
    subst (λ o. Comes u m (feed_outcome u o p) (held_after u o p)) (sym is) (comes_at l u m part.count i held.age p lawful part.proper h)
