-- Lemmas on feeding the pieces of one message.
use Rattle.std.proofs.Common.{◌≡◌, ◌≢◌, ◌&&◌, not, ◌+◌, ◌-◌, ◌*◌, ◌%◌, ◌==◌, ◌≤◌, ◌<◌, ◌∙◌, inl, inr, ℕ, zero, suc, Bool, true, false, if◌then◌else◌, List, [], ◌∷◌, ◌++◌, Option, Some, None, length, take, drop, refl, sym, ap, subst, arith, append-nil, slice_get}
use Rattle.mctp_wire.specs.declared.unit.Unit.{«Unit»}
use Rattle.mctp_wire.specs.Units.{bytes_of}
use Rattle.std.proofs.lemmas.Bool.{ne_eqb, eq-eqb, eqb-true, cases_lt}
use Rattle.std.proofs.lemmas.List.{length-drop, length-take-le, take-append-drop, take_more, take_all}
use Rattle.std.proofs.lemmas.Option.{slice_get_within, get_or_from_slice_get}
use Rattle.mctp_wire.specs.declared.unit.TheConstants.{MAX_PACKETS}
use Rattle.mctp_wire.specs.declared.layout.Head.{Head}
use Rattle.mctp_reasm.specs.Pieces.{MessageOf, IsMessage, PacketOf, Route, bodies, message_route, piece, pieces, pieces_from, route_of}
use Rattle.mctp_reasm.specs.Held.{Held, base_of, cause_of, feed_outcome, held_after, packets_with, message_of, is_cut}
use Rattle.mctp_reasm.specs.Laws.{held_first_pieces, FeedsNext, FeedsOther, IsPieceAt, PiecesOfAMessage}
use Rattle.mctp_reasm.specs.declared.outcomes.DropCause.{DropCause}
use Rattle.mctp_reasm.specs.declared.outcomes.DropCause.TheVariants as causes
use Rattle.mctp_reasm.specs.declared.outcomes.Fed.TheVariants as outcomes
use Rattle.mctp_reasm.proofs.Cuts.{pieces_last, pieces_more, room_suc}

pieces_some : (u : «Unit») (fuel : ℕ) (r : Route) (n : ℕ) (bytes : List ℕ) → 0 < fuel → 0 < length (pieces_from u fuel r n bytes)
pieces_some u zero r n bytes lt = absurd (omega arith)
pieces_some u (suc fuel) r n bytes lt = elim (cases_lt (bytes_of u) (length bytes)) [
  | inl more ↦ rw (pieces_more u fuel r n bytes more) (omega arith)
  | inr less ↦ rw (pieces_last u (suc fuel) r n bytes lt less) (omega arith)
]

last_at : (u : «Unit») (r : Route) (n : ℕ) (bytes : List ℕ) (i : ℕ) (p : PacketOf) → slice_get (piece r n true bytes ∷ []) i ≡ Some p → IsPieceAt u r (n + i) (n + 1) p
last_at u r n bytes zero p e =
    let is : piece r n true bytes ≡ p = cc in
    let sum : n + 0 ≡ n = omega arith in
    rw sum (subst (IsPieceAt u r n (n + 1)) is (record { route = refl; seq = refl; som = refl; eom = sym (eq-eqb (n + 1) (n + 1) refl); full = λ e. absurd (cc) }))
last_at u r n bytes (suc i) p e = absurd (cc)

more_at : (u : «Unit») (r : Route) (n : ℕ) (body : List ℕ) (rest : List PacketOf) (i : ℕ) (p : PacketOf) → length body ≡ bytes_of u → 0 < length rest → slice_get (piece r n false body ∷ rest) i ≡ Some p
    → ((j : ℕ) → slice_get rest j ≡ Some p → IsPieceAt u r (n + 1 + j) (n + 1 + length rest) p) → IsPieceAt u r (n + i) (n + suc (length rest)) p
more_at u r n body rest zero p e some h later =
    let is : piece r n false body ≡ p = cc in
    let sum : n + 0 ≡ n = omega arith in
    rw sum (subst (IsPieceAt u r n (n + suc (length rest))) is (record { route = refl; seq = refl; som = refl; eom = sym (ne_eqb (n + 1) (n + suc (length rest)) (λ b. absurd (omega (arith, b, some)))); full = λ _. e }))
more_at u r n body rest (suc j) p e some h later =
    let sum : n + suc j ≡ n + 1 + j = omega arith in
    let sum2 : n + suc (length rest) ≡ n + 1 + length rest = omega arith in
    rw (sum, sum2) (later j h)

-- if more than one piece is left, there is room for another
some_left : (u : «Unit») (fuel : ℕ) (bytes : List ℕ) → bytes_of u < length bytes → length bytes ≤ bytes_of u * suc fuel → 0 < fuel
some_left u zero bytes more le = absurd (omega (arith, more, le))
some_left u (suc fuel) bytes more le = omega arith

pub pieces_at : (u : «Unit») (fuel : ℕ) (r : Route) (n : ℕ) (bytes : List ℕ) (i : ℕ) (p : PacketOf) → length bytes ≤ bytes_of u * fuel → slice_get (pieces_from u fuel r n bytes) i ≡ Some p
    → IsPieceAt u r (n + i) (n + length (pieces_from u fuel r n bytes)) p
unfolding pieces_from
pieces_at u zero r n bytes i p le h = absurd (cc)
pieces_at u (suc fuel) r n bytes i p le h = elim (cases_lt (bytes_of u) (length bytes)) [
  | inl more ↦
      let left : length (drop (bytes_of u) bytes) ≡ length bytes - bytes_of u = length-drop (bytes_of u) bytes in
      let some : 0 < length (pieces_from u fuel r (n + 1) (drop (bytes_of u) bytes)) = pieces_some u fuel r (n + 1) (drop (bytes_of u) bytes) (some_left u fuel bytes more le) in
      let opens = pieces_more u fuel r n bytes more in
      rw opens (more_at u r n (take (bytes_of u) bytes) (pieces_from u fuel r (n + 1) (drop (bytes_of u) bytes)) i p (length-take-le (bytes_of u) bytes (omega arith)) some (rw opens at h)
      (λ j e. pieces_at u fuel r (n + 1) (drop (bytes_of u) bytes) j p (omega (arith, left, room_suc u fuel)) e))
  | inr less ↦
      let opens = pieces_last u (suc fuel) r n bytes (omega arith) less in
      rw opens (last_at u r n bytes i p (rw opens at h))
]

pub pieces_bodies : (u : «Unit») (fuel : ℕ) (r : Route) (n : ℕ) (bytes : List ℕ) → 0 < fuel → length bytes ≤ bytes_of u * fuel → bodies (pieces_from u fuel r n bytes) ≡ bytes
pieces_bodies u zero r n bytes lt le = absurd (omega arith)
pieces_bodies u (suc fuel) r n bytes lt le = elim (cases_lt (bytes_of u) (length bytes)) [
  | inl more ↦
      let left : length (drop (bytes_of u) bytes) ≡ length bytes - bytes_of u = length-drop (bytes_of u) bytes in
      rw (pieces_more u fuel r n bytes more, pieces_bodies u fuel r (n + 1) (drop (bytes_of u) bytes) (some_left u fuel bytes more le) (omega (arith, left, room_suc u fuel))) (take-append-drop (bytes_of u) bytes)
  | inr less ↦ rw (pieces_last u (suc fuel) r n bytes lt less) (append-nil bytes)
]

-- one more piece
take_next : (ps : List PacketOf) (i : ℕ) (p : PacketOf) → slice_get ps i ≡ Some p → take (i + 1) ps ≡ take i ps ++ p ∷ []
take_next ps i p e = take_more ps i p (slice_get_within ps i p e) ∙ ap (λ q. take i ps ++ q ∷ []) (get_or_from_slice_get ps i p p e)

pub pieces_length : (u : «Unit») (fuel : ℕ) (r : Route) (n : ℕ) (bytes : List ℕ) → length (pieces_from u fuel r n bytes) ≤ fuel
unfolding pieces_from
pieces_length u zero r n bytes = omega arith
pieces_length u (suc fuel) r n bytes = elim (cases_lt (bytes_of u) (length bytes)) [
  | inl more ↦ let rest = pieces_length u fuel r (n + 1) (drop (bytes_of u) bytes) in rw (pieces_more u fuel r n bytes more) (omega arith)
  | inr less ↦ rw (pieces_last u (suc fuel) r n bytes (omega arith) less) (omega arith)
]

pub not_cut : (u : «Unit») (eom : Bool) (n : ℕ) → (eom ≡ false → n ≡ bytes_of u) → (not eom && not (n == bytes_of u)) ≡ false
not_cut u true n h = refl
not_cut u false n h = rw (h refl, eq-eqb (bytes_of u) (bytes_of u) refl) refl

pub cause_first : (u : «Unit») (held : Option Held) (p : PacketOf) → p.head.som ≡ true → p.head.seq ≡ 0 → is_cut u p ≡ false → cause_of u held p ≡ None
cause_first u held p s q c = rw (s, q, c) refl

pub cause_later : (u : «Unit») (ps : List PacketOf) (age k : ℕ) (p : PacketOf) → p.head.som ≡ false → p.head.seq ≡ k → length ps ≡ k → k < MAX_PACKETS → is_cut u p ≡ false
    → cause_of u (Some (record { packets = ps; age = age })) p ≡ None
cause_later u ps age k p s q l lt c =
    let same : k % 4 ≡ k = omega arith in
    rw (s, q, l, same, eq-eqb k k refl, ne_eqb k MAX_PACKETS (λ e. absurd (omega (arith, e))), c) refl

-- the outcome of a packet that isn't dropped
taken : (u : «Unit») (held : Option Held) (p : PacketOf) (m : MessageOf) (qs : List PacketOf) (last : Bool) → cause_of u held p ≡ None → p.head.eom ≡ last → packets_with held p ≡ qs → (last ≡ true → message_of p.head qs ≡ m)
    → (feed_outcome u held p ≡ (if last then outcomes.Whole m else outcomes.Open)) × (held_after u held p ≡ (if last then None else Some (record { packets = qs; age = 0 })))
taken u held p m qs true c e j h = (rw (c, j, e, h refl) refl, rw (c, e) refl)
taken u held p m qs false c e j h = (rw (c, e) refl, rw (c, j, e) refl)

-- the message of all its pieces
message_again : (u : «Unit») (m : MessageOf) (h : Head) → IsMessage u m → route_of h ≡ message_route m → message_of h (pieces u m) ≡ m
message_again u m h lawful r =
    ap (λ x. record { dest = x.dest; source = x.source; to = x.to; tag = x.tag; bytes = bodies (pieces u m) }) r
    ∙ ap (λ b. record { dest = m.dest; source = m.source; to = m.to; tag = m.tag; bytes = b }) (pieces_bodies u MAX_PACKETS (message_route m) 0 m.bytes (omega arith) (omega (arith, lawful.1)))

-- facts about piece i of a message
pub piece_at : (u : «Unit») (m : MessageOf) (i : ℕ) (p : PacketOf) → IsMessage u m → slice_get (pieces u m) i ≡ Some p → IsPieceAt u (message_route m) i (length (pieces u m)) p
piece_at u m i p lawful h =
    let sum : 0 + i ≡ i = omega arith in
    let all : 0 + length (pieces u m) ≡ length (pieces u m) = omega arith in
    rw (sum, all) at (pieces_at u MAX_PACKETS (message_route m) 0 m.bytes i p (omega (arith, lawful.1)) h)

-- a piece that is appended to those before it
pub piece_taken : (u : «Unit») (held : Option Held) (m : MessageOf) (i : ℕ) (p : PacketOf) → IsMessage u m → slice_get (pieces u m) i ≡ Some p → base_of held p.head ≡ take i (pieces u m) → cause_of u held p ≡ None
    → (feed_outcome u held p ≡ (if i + 1 == length (pieces u m) then outcomes.Whole m else outcomes.Open))
    × (held_after u held p ≡ (if i + 1 == length (pieces u m) then None else held_first_pieces u m (i + 1) 0))
piece_taken u held m i p lawful h base c =
    let here = piece_at u m i p lawful h in
    rw (ne_eqb (i + 1) 0 (λ e. absurd (omega (arith, e))))
    (taken u held p m (take (i + 1) (pieces u m)) (i + 1 == length (pieces u m)) c here.eom (ap (λ ps. ps ++ p ∷ []) base ∙ sym (take_next (pieces u m) i p h))
    (λ e. let all : i + 1 ≡ length (pieces u m) = eqb-true (i + 1) (length (pieces u m)) e in rw (take_all (i + 1) (pieces u m) (omega (arith, all))) (message_again u m p.head lawful here.route)))

feeds_first : (u : «Unit») (held : Option Held) (m : MessageOf) (p : PacketOf) → IsMessage u m → slice_get (pieces u m) 0 ≡ Some p
    → (feed_outcome u held p ≡ (if 0 + 1 == length (pieces u m) then outcomes.Whole m else outcomes.Open))
    × (held_after u held p ≡ (if 0 + 1 == length (pieces u m) then None else held_first_pieces u m (0 + 1) 0))
feeds_first u held m p lawful h =
    let here = piece_at u m 0 p lawful h in
    let som : p.head.som ≡ true = here.som in
    piece_taken u held m 0 p lawful h (rw som refl) (cause_first u held p som here.seq (not_cut u p.head.eom (length p.body) here.full))

pub feeds_next : FeedsNext
feeds_next u m k i age p lawful lt h (inl first) = rw first (feeds_first u (held_first_pieces u m k age) m p lawful (rw first at h))
feeds_next u m zero i age p lawful lt h (inr next) = rw next (feeds_first u (held_first_pieces u m zero age) m p lawful (rw next at h))
feeds_next u m (suc k) i age p lawful lt h (inr next) =
    let here = piece_at u m i p lawful h in
    let few = pieces_length u MAX_PACKETS (message_route m) 0 m.bytes in
    let later : p.head.som ≡ false = here.som ∙ ne_eqb i 0 (λ e. absurd (omega (arith, e, next))) in
    rw (ne_eqb (suc k) 0 (λ e. absurd (omega (arith, e))))
    (piece_taken u (Some (record { packets = take (suc k) (pieces u m); age = age })) m i p lawful h (rw (later, next) refl)
    (cause_later u (take (suc k) (pieces u m)) age (suc k) p later (here.seq ∙ next) (length-take-le (suc k) (pieces u m) (omega arith)) (omega arith) (not_cut u p.head.eom (length p.body) here.full)))

cause_other : (u : «Unit») (ps : List PacketOf) (age k : ℕ) (p : PacketOf) → p.head.som ≡ false → p.head.seq ≢ k → length ps ≡ k → k < MAX_PACKETS
    → cause_of u (Some (record { packets = ps; age = age })) p ≡ Some causes.Sequence
cause_other u ps age k p s q l lt =
    let same : k % 4 ≡ k = omega arith in
    rw (s, l, same, ne_eqb p.head.seq k q) refl

dropped : (u : «Unit») (held : Option Held) (p : PacketOf) (cause : DropCause) → cause_of u held p ≡ Some cause → (feed_outcome u held p ≡ outcomes.Dropped cause) × (held_after u held p ≡ None)
dropped u held p cause c = (rw c refl, rw c refl)

pub feeds_other : FeedsOther
feeds_other u m zero i age p lawful lt h first next =
    let here = piece_at u m i p lawful h in
    let later : p.head.som ≡ false = here.som ∙ ne_eqb i 0 first in
    dropped u None p causes.NoStart (rw later refl)
feeds_other u m (suc k) i age p lawful lt h first next =
    let here = piece_at u m i p lawful h in
    let few = pieces_length u MAX_PACKETS (message_route m) 0 m.bytes in
    let later : p.head.som ≡ false = here.som ∙ ne_eqb i 0 first in
    rw (ne_eqb (suc k) 0 (λ e. absurd (omega (arith, e))))
    (dropped u (Some (record { packets = take (suc k) (pieces u m); age = age })) p causes.Sequence
    (cause_other u (take (suc k) (pieces u m)) age (suc k) p later (λ e. next (sym here.seq ∙ e)) (length-take-le (suc k) (pieces u m) (omega arith)) (omega arith)))

-- the form of a message's pieces
pub pieces_of_a_message : PiecesOfAMessage
pieces_of_a_message u m lawful = record {
  some = pieces_some u MAX_PACKETS (message_route m) 0 m.bytes (omega arith);
  few = pieces_length u MAX_PACKETS (message_route m) 0 m.bytes;
  bytes = pieces_bodies u MAX_PACKETS (message_route m) 0 m.bytes (omega arith) (omega (arith, lawful.1));
  each = λ i p e. piece_at u m i p lawful e;
}
