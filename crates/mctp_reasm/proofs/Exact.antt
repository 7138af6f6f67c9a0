-- A message is complete exactly if the packets are its pieces.
use Rattle.std.proofs.Common.{◌≡◌, ◌↔◌, ◌+◌, ◌≤◌, ◌<◌, ◌∙◌, ◌⊎◌, inl, inr, ℕ, zero, suc, Bool, true, false, if◌then◌else◌, List, [], ◌∷◌, ◌++◌, Option, Some, None, IfNone, length, take, drop, refl, sym, ap, subst, arith, append-nil, slice_get}
use Rattle.mctp_wire.specs.declared.unit.Unit.{«Unit»}
use Rattle.mctp_wire.specs.Units.{bytes_of}
use Rattle.std.proofs.lemmas.Bool.{eq-eqb}
use Rattle.std.proofs.lemmas.List.{length-append, take-append-le, drop-append-le, take_all, drop_all}
use Rattle.mctp_wire.specs.declared.unit.TheConstants.{MAX_PACKETS}
use Rattle.mctp_reasm.specs.Pieces.{MessageOf, IsMessage, PacketOf, Route, bodies, message_route, piece, pieces, pieces_from, route_of}
use Rattle.mctp_reasm.specs.Held.{AreFirstPieces, AreOpenPieces, Held, IsHeld, IsOfHeldMessage, FollowsPackets, base_of, cause_of, feed_outcome, feed_outcome_for, packets_with, message_of, packets_of}
use Rattle.mctp_reasm.specs.declared.outcomes.DropCause.{DropCause}
use Rattle.mctp_reasm.specs.declared.outcomes.Fed.{Fed}
use Rattle.mctp_reasm.specs.declared.outcomes.Fed.TheVariants as outcomes
use Rattle.mctp_reasm.proofs.Cuts.{pieces_last, pieces_more}
use Rattle.mctp_reasm.proofs.Opened.{piece_is}
use Rattle.std.proofs.Math.Seq.{take-append_seam}
use Rattle.mctp_reasm.proofs.Feeding.{piece_at, piece_taken, pieces_length, not_cut, cause_first, cause_later}

bodies_some : (qs : List PacketOf) (p : PacketOf) → 1 ≤ length p.body → 1 ≤ length (bodies (qs ++ p ∷ []))
bodies_some [] p some = rw (append-nil p.body) some
bodies_some (q ∷ qs) p some = rw (length-append q.body (bodies (qs ++ p ∷ []))) (let rest = bodies_some qs p some in omega arith)

-- open pieces and a last one are the pieces of their bytes
pieces_of : (u : «Unit») (fuel : ℕ) (r : Route) (n : ℕ) (qs : List PacketOf) (p : PacketOf) → AreOpenPieces u r n qs → p ≡ piece r (n + length qs) true p.body → 1 ≤ length p.body → length p.body ≤ bytes_of u → length qs < fuel
    → pieces_from u fuel r n (bodies (qs ++ p ∷ [])) ≡ qs ++ p ∷ []
pieces_of u zero r n qs p h is some fits lt = absurd (omega arith)
pieces_of u (suc fuel) r n [] p h is some fits lt =
    let sum : n + 0 ≡ n = omega arith in
    rw (append-nil p.body) (pieces_last u (suc fuel) r n p.body (omega arith) fits ∙ ap (λ q. q ∷ []) (sym (rw sum at is)))
pieces_of u (suc fuel) r n (q ∷ qs) p h is some fits lt =
    let sum : n + suc (length qs) ≡ n + 1 + length qs = omega arith in
    let rest : pieces_from u fuel r (n + 1) (bodies (qs ++ p ∷ [])) ≡ qs ++ p ∷ [] = pieces_of u fuel r (n + 1) qs p h.2 (rw sum at is) some fits (omega arith) in
    let more : bytes_of u < length (q.body ++ bodies (qs ++ p ∷ [])) = rw (length-append q.body (bodies (qs ++ p ∷ []))) (let some = bodies_some qs p some in omega (arith, h.1)) in
    let front : take (bytes_of u) (q.body ++ bodies (qs ++ p ∷ [])) ≡ q.body = take-append-le (bytes_of u) q.body (bodies (qs ++ p ∷ [])) (omega (arith, h.1)) ∙ take_all (bytes_of u) q.body (omega (arith, h.1)) in
    let back : drop (bytes_of u) (q.body ++ bodies (qs ++ p ∷ [])) ≡ bodies (qs ++ p ∷ []) = drop-append-le (bytes_of u) q.body (bodies (qs ++ p ∷ [])) (omega (arith, h.1)) ∙ ap (λ xs. xs ++ bodies (qs ++ p ∷ [])) (drop_all (bytes_of u) q.body (omega (arith, h.1))) in
    pieces_more u fuel r n (q.body ++ bodies (qs ++ p ∷ [])) more ∙ (rw (front, back, rest, sym h.0) refl)

-- the common part of all pieces
whole_route : (u : «Unit») (qs : List PacketOf) (p : PacketOf) → AreFirstPieces u qs → IsOfHeldMessage qs p.head → AreOpenPieces u (route_of p.head) 0 qs
whole_route u [] p h same = absurd h
whole_route u (q ∷ qs) p h same = subst (λ r. AreOpenPieces u r 0 (q ∷ qs)) same h

open_of : (u : «Unit») (held : Option Held) (p : PacketOf) → IsHeld u held → IsOfHeldMessage (packets_of held) p.head → AreOpenPieces u (route_of p.head) 0 (packets_of held)
open_of u None p h same = tt
open_of u (Some held) p h same = whole_route u held.packets p h.0 same

base_from : (u : «Unit») (som : Bool) (r : Route) (ps : List PacketOf) → (som ≡ false → AreOpenPieces u r 0 ps) → AreOpenPieces u r 0 (if som then [] else ps)
base_from u true r ps h = tt
base_from u false r ps h = h refl

whole_from : (u : «Unit») (o : Option DropCause) (last : Bool) (held : Option Held) (p : PacketOf) (m : MessageOf) → AreOpenPieces u (route_of p.head) 0 (base_of held p.head) → 1 ≤ length p.body → length p.body ≤ bytes_of u
    → (o ≡ None → FollowsPackets (base_of held p.head) p.head) → p.head.eom ≡ last → feed_outcome_for o last (message_of p.head (packets_with held p)) ≡ outcomes.Whole m → packets_with held p ≡ pieces u m
whole_from u (Some cause) last held p m begun some fits joins eom h = absurd (cc)
whole_from u None false held p m begun some fits joins eom h = absurd (cc)
whole_from u None true held p m begun some fits joins eom h =
    let is : message_of p.head (packets_with held p) ≡ m = cc in
    let at = joins refl in
    let sum : 0 + length (base_of held p.head) ≡ length (base_of held p.head) = omega arith in
    subst (λ x. packets_with held p ≡ pieces u x) is
    (sym (pieces_of u MAX_PACKETS (route_of p.head) 0 (base_of held p.head) p begun (rw sum (piece_is p (route_of p.head) (length (base_of held p.head)) true refl at.2 at.1 eom)) some fits at.0))

pub whole_only : (u : «Unit») (held : Option Held) (p : PacketOf) (m : MessageOf) → IsHeld u held → (p.head.som ≡ true) ⊎ IsOfHeldMessage (packets_of held) p.head → 1 ≤ length p.body → length p.body ≤ bytes_of u
    → (cause_of u held p ≡ None → FollowsPackets (base_of held p.head) p.head) → feed_outcome u held p ≡ outcomes.Whole m → packets_with held p ≡ pieces u m
whole_only u held p m lawful same some fits joins h =
    whole_from u (cause_of u held p) p.head.eom held p m
    (base_from u p.head.som (route_of p.head) (packets_of held) (λ e. elim same [ inl s ↦ absurd (cc) | inr s ↦ open_of u held p lawful s ]))
    some fits joins refl h

get_after : (qs : List PacketOf) (p : PacketOf) → slice_get (qs ++ p ∷ []) (length qs) ≡ Some p
get_after [] p = refl
get_after (q ∷ qs) p = get_after qs p

cause_free : (u : «Unit») (held : Option Held) (m : MessageOf) (p : PacketOf) (som : Bool) → IsMessage u m → p.head.som ≡ som → slice_get (pieces u m) (length (base_of held p.head)) ≡ Some p → length (base_of held p.head) < MAX_PACKETS → cause_of u held p ≡ None
cause_free u held m p true lawful s h lt =
    let here = piece_at u m (length (base_of held p.head)) p lawful h in
    let none : length (base_of held p.head) ≡ 0 = rw s refl in
    cause_first u held p s (here.seq ∙ none) (not_cut u p.head.eom (length p.body) here.full)
cause_free u None m p false lawful s h lt =
    let here = piece_at u m (length (base_of None p.head)) p lawful h in
    let none : length (base_of None p.head) ≡ 0 = rw s refl in
    let bad : true ≡ false = sym (rw none at here.som) ∙ s in
    absurd (cc)
cause_free u (Some held) m p false lawful s h lt =
    let here = piece_at u m (length (base_of (Some held) p.head)) p lawful h in
    let all : length (base_of (Some held) p.head) ≡ length held.packets = rw s refl in
    cause_later u held.packets held.age (length held.packets) p s (here.seq ∙ all) refl (omega (arith, lt, all)) (not_cut u p.head.eom (length p.body) here.full)

pub whole_if : (u : «Unit») (held : Option Held) (p : PacketOf) (m : MessageOf) → IsMessage u m → packets_with held p ≡ pieces u m → feed_outcome u held p ≡ outcomes.Whole m
whole_if u held p m lawful h =
    let qs : List PacketOf = base_of held p.head in
    let get : slice_get (pieces u m) (length (base_of held p.head)) ≡ Some p = subst (λ ps. slice_get ps (length (base_of held p.head)) ≡ Some p) h (get_after (base_of held p.head) p) in
    let few = pieces_length u MAX_PACKETS (message_route m) 0 m.bytes in
    let count : length (base_of held p.head) + 1 ≡ length (pieces u m) = sym (length-append (base_of held p.head) (p ∷ [])) ∙ ap length h in
    let front : base_of held p.head ≡ take (length (base_of held p.head)) (pieces u m)
    = sym (take-append_seam (base_of held p.head) (p ∷ [])) ∙ ap (take (length (base_of held p.head))) h in
    let done = piece_taken u held m (length (base_of held p.head)) p lawful get front (cause_free u held m p p.head.som lawful refl get (omega (arith, count))) in
    rw (eq-eqb (length (base_of held p.head) + 1) (length (pieces u m)) count) at done.0

none_of : {A : Type 0} (o : Option A) (P : Type 0) → IfNone o P → o ≡ None → P
none_of None P h e = h
none_of (Some x) P h e = absurd (cc)

pub exact : (u : «Unit») (held : Option Held) (p : PacketOf) (result : Fed) → IsHeld u held → (p.head.som ≡ true) ⊎ IsOfHeldMessage (packets_of held) p.head → 1 ≤ length p.body → length p.body ≤ bytes_of u
    → IfNone (cause_of u held p) (FollowsPackets (base_of held p.head) p.head) → result ≡ feed_outcome u held p
    → (m : MessageOf) → IsMessage u m → (result ≡ outcomes.Whole m) ↔ (packets_with held p ≡ pieces u m)
exact u held p result lawful same some fits joins is m ok =
    (λ h. whole_only u held p m lawful same some fits (none_of (cause_of u held p) (FollowsPackets (base_of held p.head) p.head) joins) (sym is ∙ h), λ h. is ∙ whole_if u held p m ok h)
