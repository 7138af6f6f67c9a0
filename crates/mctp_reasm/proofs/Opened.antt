-- Lemmas on held packets.
use Rattle.std.proofs.Common.{◌≡◌, ◌≢◌, ◌+◌, ◌*◌, ◌==◌, ◌≤◌, ◌∙◌, ℕ, zero, suc, Bool, false, List, [], ◌∷◌, ◌++◌, Some, length, drop, refl, sym, ap, arith, append_assoc, append-nil}
use Rattle.mctp_wire.specs.declared.unit.Unit.{«Unit»}
use Rattle.mctp_wire.specs.Units.{bytes_of}
use Rattle.std.proofs.lemmas.List.{length-drop, length-take-le, take-append-drop, take-append-le, drop-append-le, take_all}
use Rattle.std.proofs.lemmas.Bool.{ne_eqb}
use Rattle.mctp_wire.specs.declared.unit.TheConstants.{MAX_PACKETS}
use Rattle.mctp_wire.specs.declared.layout.Head.{Head}
use Rattle.mctp_reasm.specs.Pieces.{PacketOf, Route, bodies, piece, route_of}
use Rattle.mctp_reasm.specs.Held.{AreFirstPieces, AreOpenPieces, IsHeld, IsOfHeldMessage, held_of, open_pieces, packets_of}

-- `count` packets are held
pub opened_count : (u : «Unit») (count : ℕ) (r : Route) (n : ℕ) (bytes : List ℕ) → length (open_pieces u count r n bytes) ≡ count
unfolding open_pieces
opened_count u zero r n bytes = refl
opened_count u (suc count) r n bytes = ap suc (opened_count u count r (n + 1) (drop (bytes_of u) bytes))

empty_of : (xs : List ℕ) → length xs ≡ 0 → xs ≡ []
empty_of [] e = refl
empty_of (x ∷ xs) e = absurd (omega (arith, e))

-- one more piece is held
pub opened_push : (u : «Unit») (count : ℕ) (r : Route) (n : ℕ) (xs body : List ℕ) → length xs ≡ bytes_of u * count → length body ≡ bytes_of u → open_pieces u (suc count) r n (xs ++ body) ≡ open_pieces u count r n xs ++ piece r (n + count) false body ∷ []
unfolding open_pieces
opened_push u zero r n xs body e f = let same : n + 0 ≡ n = omega arith in rw (empty_of xs (omega (arith, e)), take_all (bytes_of u) body (omega arith), same) refl
opened_push u (suc count) r n xs body e f =
    let again : open_pieces u (suc count) r (n + 1) (drop (bytes_of u) xs ++ body) ≡ open_pieces u count r (n + 1) (drop (bytes_of u) xs) ++ piece r (n + 1 + count) false body ∷ []
    = opened_push u count r (n + 1) (drop (bytes_of u) xs) body (length-drop (bytes_of u) xs ∙ omega arith) f in
    let sum : n + suc count ≡ n + 1 + count = omega arith in
    rw (take-append-le (bytes_of u) xs body (omega arith), drop-append-le (bytes_of u) xs body (omega arith), again, sum) refl

piece_from : (d o t n : ℕ) (to som eom last : Bool) (seq : ℕ) (body : List ℕ) → som ≡ (n == 0) → seq ≡ n → eom ≡ last
    → record { head = record { dest = d; source = o; som = som; eom = eom; seq = seq; to = to; tag = t }; body = body } ≡ piece (record { dest = d; source = o; to = to; tag = t }) n last body
piece_from d o t n to som eom last seq body s q e = rw (s, q, e) refl

pub piece_is : (p : PacketOf) (r : Route) (n : ℕ) (last : Bool) → r ≡ route_of p.head → p.head.som ≡ (n == 0) → p.head.seq ≡ n → p.head.eom ≡ last → p ≡ piece r n last p.body
piece_is p r n last is s q e = rw is (piece_from p.head.dest p.head.source p.head.tag n p.head.to p.head.som p.head.eom last p.head.seq p.body s q e)

-- the packets of a buffer, as a list
packets_held : (u : «Unit») (r : Route) (xs : List ℕ) (count age : ℕ) → packets_of (held_of u r xs count age) ≡ open_pieces u count r 0 xs
unfolding open_pieces
packets_held u r xs zero age = refl
packets_held u r xs (suc count) age = rw (ne_eqb (suc count) 0 (λ e. absurd (omega (arith, e)))) refl

-- one more packet of the same message is held
more : (u : «Unit») (r : Route) (xs : List ℕ) (count : ℕ) (p : PacketOf) → length xs ≡ bytes_of u * count → length p.body ≡ bytes_of u → p.head.som ≡ (count == 0) → p.head.seq ≡ count → p.head.eom ≡ false
    → IsOfHeldMessage (open_pieces u count r 0 xs) p.head → open_pieces u (suc count) (route_of p.head) 0 (xs ++ p.body) ≡ open_pieces u count r 0 xs ++ p ∷ []
unfolding open_pieces
more u r xs zero p e f som seq eom same =
    opened_push u zero (route_of p.head) 0 xs p.body e f ∙ ap (λ q. q ∷ []) (sym (piece_is p (route_of p.head) 0 false refl som seq eom))
more u r xs (suc count) p e f som seq eom same =
    let is : r ≡ route_of p.head = same in
    let sum : 0 + suc count ≡ suc count = omega arith in
    let pushed : open_pieces u (suc (suc count)) r 0 (xs ++ p.body) ≡ open_pieces u (suc count) r 0 xs ++ piece r (suc count) false p.body ∷ []
    = rw sum at (opened_push u (suc count) r 0 xs p.body e f) in
    ap (λ s. open_pieces u (suc (suc count)) s 0 (xs ++ p.body)) (sym is) ∙ (pushed ∙ ap (λ q. open_pieces u (suc count) r 0 xs ++ q ∷ []) (sym (piece_is p r (suc count) false is som seq eom)))

pub held_more : (u : «Unit») (r : Route) (xs : List ℕ) (count age : ℕ) (p : PacketOf) → length xs ≡ bytes_of u * count → length p.body ≡ bytes_of u → p.head.som ≡ (count == 0) → p.head.seq ≡ count → p.head.eom ≡ false
    → IsOfHeldMessage (packets_of (held_of u r xs count age)) p.head
    → held_of u (route_of p.head) (xs ++ p.body) (count + 1) 0 ≡ Some (record { packets = packets_of (held_of u r xs count age) ++ p ∷ []; age = 0 })
held_more u r xs count age p e f som seq eom same =
    let next : count + 1 ≡ suc count = omega arith in
    rw (ne_eqb (count + 1) 0 (λ e. absurd (omega (arith, e))), next, packets_held u r xs count age)
    (ap (λ ps. Some (record { packets = ps; age = 0 })) (more u r xs count p e f som seq eom (rw (packets_held u r xs count age) at same)))

pub held_count : (u : «Unit») (r : Route) (xs : List ℕ) (count age : ℕ) → length (packets_of (held_of u r xs count age)) ≡ count
held_count u r xs count age = rw (packets_held u r xs count age) (opened_count u count r 0 xs)

bodies_append : (ps qs : List PacketOf) → bodies (ps ++ qs) ≡ bodies ps ++ bodies qs
bodies_append [] qs = refl
bodies_append (p ∷ ps) qs = rw (bodies_append ps qs, append_assoc p.body (bodies ps) (bodies qs)) refl

opened_bodies : (u : «Unit») (count : ℕ) (r : Route) (n : ℕ) (xs : List ℕ) → length xs ≡ bytes_of u * count → bodies (open_pieces u count r n xs) ≡ xs
unfolding open_pieces
opened_bodies u zero r n xs e = sym (empty_of xs (omega (arith, e)))
opened_bodies u (suc count) r n xs e =
    rw (opened_bodies u count r (n + 1) (drop (bytes_of u) xs) (length-drop (bytes_of u) xs ∙ omega arith)) (take-append-drop (bytes_of u) xs)

pub held_bodies : (u : «Unit») (r : Route) (xs : List ℕ) (count age : ℕ) (p : PacketOf) → length xs ≡ bytes_of u * count → bodies (packets_of (held_of u r xs count age) ++ p ∷ []) ≡ xs ++ p.body
held_bodies u r xs count age p e =
    rw (packets_held u r xs count age, bodies_append (open_pieces u count r 0 xs) (p ∷ []), opened_bodies u count r 0 xs e, append-nil p.body) refl

opened_open : (u : «Unit») (count : ℕ) (r : Route) (n : ℕ) (xs : List ℕ) → length xs ≡ bytes_of u * count → AreOpenPieces u r n (open_pieces u count r n xs)
unfolding open_pieces
opened_open u zero r n xs e = tt
opened_open u (suc count) r n xs e =
    (refl, length-take-le (bytes_of u) xs (omega arith), opened_open u count r (n + 1) (drop (bytes_of u) xs) (length-drop (bytes_of u) xs ∙ omega arith))

opened_first : (u : «Unit») (count : ℕ) (r : Route) (xs : List ℕ) → length xs ≡ bytes_of u * suc count → AreFirstPieces u (open_pieces u (suc count) r 0 xs)
unfolding open_pieces
opened_first u count r xs e = opened_open u (suc count) r 0 xs e

-- the fields hold a beginning of a message
pub held_lawful : (u : «Unit») (r : Route) (xs : List ℕ) (count age : ℕ) → length xs ≡ bytes_of u * count → count ≤ MAX_PACKETS → age ≤ 8 → IsHeld u (held_of u r xs count age)
held_lawful u r xs zero age e le young = tt
held_lawful u r xs (suc count) age e le young =
    rw (ne_eqb (suc count) 0 (λ e. absurd (omega (arith, e)))) (opened_first u count r xs e, rw (opened_count u (suc count) r 0 xs) le, young)

opened_same : (u : «Unit») (count : ℕ) (r : Route) (xs : List ℕ) (h : Head) → r ≡ route_of h → IsOfHeldMessage (open_pieces u count r 0 xs) h
unfolding open_pieces
opened_same u zero r xs h e = tt
opened_same u (suc count) r xs h e = e

pub held_same : (u : «Unit») (r : Route) (xs : List ℕ) (count age : ℕ) (h : Head) → r ≡ route_of h → IsOfHeldMessage (packets_of (held_of u r xs count age)) h
held_same u r xs count age h e = rw (packets_held u r xs count age) (opened_same u count r xs h e)

opened_route : (u : «Unit») (count : ℕ) (r : Route) (xs : List ℕ) (h : Head) → IsOfHeldMessage (open_pieces u (suc count) r 0 xs) h → r ≡ route_of h
unfolding open_pieces
opened_route u count r xs h same = same

-- a packet of the held message has its route
pub held_route : (u : «Unit») (r : Route) (xs : List ℕ) (count age : ℕ) (h : Head) → count ≢ 0 → IsOfHeldMessage (packets_of (held_of u r xs count age)) h → r ≡ route_of h
held_route u r xs zero age h some same = absurd (some refl)
held_route u r xs (suc count) age h some same = opened_route u count r xs h (rw (packets_held u r xs (suc count) age) at same)

pub ruleset held = (opened_count, held_count, held_more, held_bodies, held_lawful, held_same, held_route)
