-- Packets that can't be received any more.
use Rattle.std.proofs.Common.{◌≡◌, ◌≤◌, ◌<◌, ◌+◌, ◌++◌, ℕ, zero, suc, true, false, List, [], ◌∷◌, arith, length, refl, slice_get, subst, sym}
use Rattle.std.proofs.lemmas.Bool.{lt-ltb, ltb-true}
use Rattle.exch_lane.specs.Lanes.{Sent}
use Rattle.fw_steps.specs.Dead.{AreDead, dead_count}
use Rattle.fw_steps.specs.Packets.{is_dead_one}

-- they stay dead
pub dead_later : (now later count : ℕ) (ps : List Sent) → now ≤ later → AreDead now count ps → AreDead later count ps
dead_later now later zero ps le h = tt
dead_later now later (suc n) [] le h = h
dead_later now later (suc n) (p ∷ ps) le h = (let dead : p.date + 8 < now = h.0 in omega arith, dead_later now later n ps le h.1)

-- and stay so if others are appended
dead_before : (now count : ℕ) (ps qs : List Sent) → AreDead now count ps → AreDead now count (ps ++ qs)
dead_before now zero ps qs h = tt
dead_before now (suc n) [] qs h = absurd h
dead_before now (suc n) (p ∷ ps) qs h = (h.0, dead_before now n ps qs h.1)

pub dead_still : (now count : ℕ) (ps qs all : List Sent) → all ≡ ps ++ qs → AreDead now count ps → AreDead now count all
dead_still now count ps qs all is h = subst (AreDead now count) (sym is) (dead_before now count ps qs h)

-- there are at least `count` packets
pub dead_within : (now count : ℕ) (ps : List Sent) → AreDead now count ps → count ≤ length ps
dead_within now zero ps h = omega arith
dead_within now (suc n) [] h = absurd h
dead_within now (suc n) (p ∷ ps) h = let less = dead_within now n ps h.1 in omega arith

-- one more is dead
dead_next : (now count : ℕ) (ps : List Sent) → is_dead_one now (slice_get ps count) ≡ true → AreDead now count ps → AreDead now (suc count) ps
dead_next now count [] dead h = absurd (cc)
dead_next now zero (p ∷ ps) dead h = (ltb-true (p.date + 8) now dead, tt)
dead_next now (suc n) (p ∷ ps) dead h = (h.0, dead_next now n ps dead h.1)

pub dead_more : (now count : ℕ) (ps : List Sent) → is_dead_one now (slice_get ps count) ≡ true → AreDead now count ps → AreDead now (count + 1) ps
dead_more now count ps dead h =
    let next : suc count ≡ count + 1 = omega arith in
    subst (λ n. AreDead now n ps) next (dead_next now count ps dead h)

-- all are dead, if `count` are and there are no more
pub dead_all : (now count : ℕ) (ps : List Sent) → length ps ≤ count → AreDead now count ps → count ≡ dead_count now ps
dead_all now zero [] le h = refl
dead_all now (suc n) [] le h = absurd h
dead_all now zero (p ∷ ps) le h = absurd (omega (arith, le))
dead_all now (suc n) (p ∷ ps) le h =
    let rest = dead_all now n ps (omega (arith, le)) h.1 in
    rw (lt-ltb (p.date + 8) now h.0) (omega (arith, rest))

-- exactly `count` are dead, if the next may be received
pub dead_until : (now count : ℕ) (ps : List Sent) → count < length ps → is_dead_one now (slice_get ps count) ≡ false → AreDead now count ps → count ≡ dead_count now ps
dead_until now count [] lt lives h = absurd (omega (arith, lt))
dead_until now zero (p ∷ ps) lt lives h = rw lives refl
dead_until now (suc n) (p ∷ ps) lt lives h =
    let rest = dead_until now n ps (omega (arith, lt)) lives h.1 in
    rw (lt-ltb (p.date + 8) now h.0) (omega (arith, rest))
