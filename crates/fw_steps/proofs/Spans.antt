-- The bytes of packets that are in one list, in order.
use Rattle.std.proofs.Common.{◌≡◌, ◌≤◌, ◌<◌, ◌+◌, ◌-◌, ◌/◌, ◌++◌, ◌∙◌, ℕ, zero, suc, List, [], ◌∷◌, Some, None, drop, get_or, length, length-append, min, slice_get, slice_range, take, arith, refl, sym, subst, ap}
use Rattle.std.specs.Prelude.{IsOk, Result, if◌then◌else◌, is_ok, option_map}
use Rattle.std.proofs.Math.Seq.{drop-append_seam}
use Rattle.std.proofs.lemmas.List.{drop-append-le, drop_all, length-drop, take-append-le, take_all}
use Rattle.mctp_wire.specs.declared.layout.TheConstants.{MAX_PACKET}
use Rattle.exch_lane.specs.Lanes.{Sent}
use Rattle.fw_steps.specs.Packets.{AreLengthsEnds, packets_in, start_at}
use Rattle.fw_steps.specs.declared.packets.Place.{Place}

-- there are as many packets as places
pub count_in : (start : ℕ) (ps : List Place) (bytes : List ℕ) → length (packets_in start ps bytes) ≡ length ps
count_in start [] bytes = refl
count_in start (p ∷ ps) bytes = ap suc (count_in p.end ps bytes)

-- the start of a packet
start_behind : (start : ℕ) (ps : List Place) (n : ℕ) (d : Place) → n < length ps → start_at start ps (suc n) ≡ (get_or ps n d).end
start_behind start [] n d lt = absurd (omega (arith, lt))
start_behind start (q ∷ ps) zero d lt = refl
start_behind start (q ∷ ps) (suc n) d lt = start_behind q.end ps n d (omega (arith, lt))

pub starts_behind : (start : ℕ) (ps : List Place) (count : ℕ) (d : Place) → (count ≡ 0 → ⊥) → count ≤ length ps → (get_or ps (count - 1) d).end ≡ start_at start ps count
starts_behind start ps zero d some le = absurd (some refl)
starts_behind start ps (suc n) d some le =
    let less : suc n - 1 ≡ n = omega arith in
    rw less (sym (start_behind start ps n d (omega (arith, le))))

-- the packet at a place
pub packet_at : (start : ℕ) (ps : List Place) (bytes : List ℕ) (n : ℕ)
    → slice_get (packets_in start ps bytes) n ≡ option_map (λ p. record { date = p.date; bytes = slice_range bytes (start_at start ps n) p.end }) (slice_get ps n)
packet_at start [] bytes n = refl
packet_at start (p ∷ ps) bytes zero = refl
packet_at start (p ∷ ps) bytes (suc n) = packet_at p.end ps bytes n

pub packet_found : (start : ℕ) (ps : List Place) (bytes : List ℕ) (n from : ℕ) (p : Place) (found : Sent) (all : List Sent) → packets_in start ps bytes ≡ all → slice_get ps n ≡ Some p
    → from ≡ start_at start ps n → found ≡ record { date = p.date; bytes = slice_range bytes from p.end } → Some found ≡ slice_get all n
packet_found start ps bytes n from p found all is at begins shown =
    ap Some (shown ∙ ap (λ it. record { date = p.date; bytes = slice_range bytes it p.end }) begins)
    ∙ sym (subst (λ o. slice_get (packets_in start ps bytes) n ≡ option_map (λ q. record { date = q.date; bytes = slice_range bytes (start_at start ps n) q.end }) o) at (packet_at start ps bytes n))
    ∙ ap (λ xs. slice_get xs n) is

pub packet_missing : (start : ℕ) (ps : List Place) (bytes : List ℕ) (n : ℕ) (all : List Sent) → packets_in start ps bytes ≡ all → slice_get ps n ≡ None → None ≡ slice_get all n
packet_missing start ps bytes n all is at =
    sym (subst (λ o. slice_get (packets_in start ps bytes) n ≡ option_map (λ q. record { date = q.date; bytes = slice_range bytes (start_at start ps n) q.end }) o) at (packet_at start ps bytes n))
    ∙ ap (λ xs. slice_get xs n) is

-- the packets after the first `n`
pub packets_behind : (start : ℕ) (ps : List Place) (bytes : List ℕ) (n : ℕ) → packets_in (start_at start ps n) (drop n ps) bytes ≡ drop n (packets_in start ps bytes)
packets_behind start ps bytes zero = refl
packets_behind start [] bytes (suc n) = refl
packets_behind start (p ∷ ps) bytes (suc n) = packets_behind p.end ps bytes n

pub ends_behind : (start : ℕ) (ps : List Place) (size n : ℕ) → AreLengthsEnds start ps size → AreLengthsEnds (start_at start ps n) (drop n ps) size
ends_behind start ps size zero h = h
ends_behind start [] size (suc n) h = h
ends_behind start (p ∷ ps) size (suc n) h = ends_behind p.end ps size n h.2

-- the places after the first `n`
rest_of : (n : ℕ) (ps : List Place) → slice_range ps n (length ps) ≡ drop n ps
rest_of n ps = take_all (length ps - n) (drop n ps) (let left = length-drop n ps in omega arith)

pub packets_rest : (start : ℕ) (ps : List Place) (bytes : List ℕ) (n from : ℕ) (all : List Sent) → packets_in start ps bytes ≡ all → from ≡ start_at start ps n
    → packets_in from (slice_range ps n (length ps)) bytes ≡ drop n all
packets_rest start ps bytes n from all is begins =
    ap (λ f. packets_in f (slice_range ps n (length ps)) bytes) begins ∙ ap (λ qs. packets_in (start_at start ps n) qs bytes) (rest_of n ps)
    ∙ packets_behind start ps bytes n ∙ ap (drop n) is

pub ends_rest : (start : ℕ) (ps : List Place) (size n from : ℕ) → AreLengthsEnds start ps size → from ≡ start_at start ps n → AreLengthsEnds from (slice_range ps n (length ps)) size
ends_rest start ps size n from h begins =
    subst (λ f. AreLengthsEnds f (slice_range ps n (length ps)) size) (sym begins) (subst (λ qs. AreLengthsEnds (start_at start ps n) qs size) (sym (rest_of n ps)) (ends_behind start ps size n h))

pub packets_none : (start : ℕ) (ps : List Place) (bytes : List ℕ) (n : ℕ) (all : List Sent) → packets_in start ps bytes ≡ all → length ps < n → [] ≡ drop n all
packets_none start ps bytes n all is past =
    let many = count_in start ps bytes in
    sym (drop_all n all (subst (λ xs. length xs ≤ n) is (omega (arith, many, past))))

-- each begins and ends within the bytes
pub ends_within : (start : ℕ) (ps : List Place) (size : ℕ) → AreLengthsEnds start ps size → start ≤ size
ends_within start [] size h = omega (arith, h)
ends_within start (p ∷ ps) size h = let rest = ends_within p.end ps size h.2 in let here = h.0 in omega arith

-- the packet at a place lies within the bytes
pub ends_at : (start : ℕ) (ps : List Place) (size n : ℕ) (p : Place) → AreLengthsEnds start ps size → slice_get ps n ≡ Some p
    → (start_at start ps n ≤ p.end) × (p.end ≤ start_at start ps n + MAX_PACKET) × (p.end ≤ size)
ends_at start [] size n p h is = absurd (cc)
ends_at start (q ∷ ps) size zero p h is =
    let same : q ≡ p = cc in
    let within : q.end ≤ size = ends_within q.end ps size h.2 in
    subst (λ r. (start ≤ r.end) × (r.end ≤ start + MAX_PACKET) × (r.end ≤ size)) same (h.0, h.1, within)
ends_at start (q ∷ ps) size (suc n) p h is = ends_at q.end ps size n p h.2 is

-- bytes appended to the others change none of them
same_range : (bytes more : List ℕ) (from to : ℕ) → from ≤ to → to ≤ length bytes → slice_range (bytes ++ more) from to ≡ slice_range bytes from to
same_range bytes more from to le within =
    ap (take (to - from)) (drop-append-le from bytes more (omega (arith, le, within)))
    ∙ take-append-le (to - from) (drop from bytes) more (let left = length-drop from bytes in omega (arith, le, within))

last_range : (bytes more : List ℕ) (end : ℕ) → end ≡ length bytes + length more → slice_range (bytes ++ more) (length bytes) end ≡ more
last_range bytes more end is =
    ap (take (end - length bytes)) (drop-append_seam bytes more) ∙ take_all (end - length bytes) more (omega (arith, is))

-- one more packet
pub packets_push : (start : ℕ) (ps : List Place) (bytes more : List ℕ) (q : Place) → AreLengthsEnds start ps (length bytes) → q.end ≡ length bytes + length more
    → packets_in start (ps ++ q ∷ []) (bytes ++ more) ≡ packets_in start ps bytes ++ record { date = q.date; bytes = more } ∷ []
packets_push start [] bytes more q h is =
    ap (λ it. record { date = q.date; bytes = it } ∷ []) (subst (λ n. slice_range (bytes ++ more) n q.end ≡ more) (sym h) (last_range bytes more q.end is))
packets_push start (p ∷ ps) bytes more q h is =
    let within : p.end ≤ length bytes = ends_within p.end ps (length bytes) h.2 in
    rw (same_range bytes more start p.end h.0 within) (ap (λ it. record { date = p.date; bytes = slice_range bytes start p.end } ∷ it) (packets_push p.end ps bytes more q h.2 is))

pub ends_push : (start : ℕ) (ps : List Place) (size : ℕ) (q : Place) → AreLengthsEnds start ps size → size ≤ q.end → q.end ≤ size + MAX_PACKET → AreLengthsEnds start (ps ++ q ∷ []) q.end
ends_push start [] size q h least most = (omega (arith, h, least), omega (arith, h, most), refl)
ends_push start (p ∷ ps) size q h least most = (h.0, h.1, ends_push p.end ps size q h.2 least most)

-- in the code's form
pub pushed : (ps qs : List Place) (bytes more all : List ℕ) (q : Place) → AreLengthsEnds 0 ps (length bytes) → qs ≡ ps ++ q ∷ [] → all ≡ bytes ++ more → q.end ≡ length all
    → packets_in 0 qs all ≡ packets_in 0 ps bytes ++ record { date = q.date; bytes = more } ∷ []
pushed ps qs bytes more all q h places is end =
    ap (λ it. packets_in 0 it all) places ∙ ap (packets_in 0 (ps ++ q ∷ [])) is
    ∙ packets_push 0 ps bytes more q h (end ∙ ap length is ∙ length-append bytes more)

pub pushed_ends : (ps qs : List Place) (bytes more all : List ℕ) (q : Place) → AreLengthsEnds 0 ps (length bytes) → qs ≡ ps ++ q ∷ [] → all ≡ bytes ++ more → q.end ≡ length all
    → length more ≤ MAX_PACKET → AreLengthsEnds 0 qs (length all)
pushed_ends ps qs bytes more all q h places is end short =
    let both : length all ≡ length bytes + length more = ap length is ∙ length-append bytes more in
    subst (AreLengthsEnds 0 qs) end (subst (λ it. AreLengthsEnds 0 it q.end) (sym places) (ends_push 0 ps (length bytes) q h (omega (arith, end, both)) (omega (arith, end, both, short))))

-- there is room for it
pub room_pushed : (a b : ℕ) → 1 ≤ min a (b / MAX_PACKET) → (1 ≤ a) × (MAX_PACKET ≤ b)
room_pushed a b h = (omega (arith, h), omega (arith, h))

-- a result that is Ok
pub worked : {X A E : Type 0} (r : Result A E) (x y : X) → IsOk r → (if is_ok r then x else y) ≡ x
worked r x y h = rw h refl
