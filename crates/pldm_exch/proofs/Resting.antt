-- Rests stay eight, and at most 40.
use Rattle.std.proofs.Common.{◌≡◌, ◌∙◌, ◌-◌, ◌≤◌, ◌<◌, ℕ, zero, suc, List, [], ◌∷◌, length, get_or, slice_set, refl, ap, arith}
use Rattle.std.specs.List.{AllByRecursion}
use Rattle.std.proofs.lemmas.List.{get_or-map, get_or-set_same}
use Rattle.pldm_exch.specs.Rests.{AreRests, rests_after_tick, no_rests}

pub none_rest : AreRests no_rests
none_rest = (refl, (omega arith, (omega arith, (omega arith, (omega arith, (omega arith, (omega arith, (omega arith, (omega arith, tt)))))))))

length_fallen : (rests : List ℕ) → length (rests_after_tick rests) ≡ length rests
length_fallen [] = refl
length_fallen (r ∷ rs) = ap suc (length_fallen rs)

all_fallen : (rests : List ℕ) → AllByRecursion (λ rest. rest ≤ 40) rests → AllByRecursion (λ rest. rest ≤ 40) (rests_after_tick rests)
all_fallen [] h = tt
all_fallen (r ∷ rs) h = let most = h.0 in (omega arith, all_fallen rs h.1)

pub rests_fall : (rests : List ℕ) → AreRests rests → AreRests (rests_after_tick rests)
rests_fall rests h = (length_fallen rests ∙ h.0, all_fallen rests h.1)

length_set : (rests : List ℕ) (t x : ℕ) → length (slice_set rests t x) ≡ length rests
length_set [] t x = refl
length_set (r ∷ rs) zero x = refl
length_set (r ∷ rs) (suc t) x = ap suc (length_set rs t x)

all_set : (rests : List ℕ) (t : ℕ) → AllByRecursion (λ rest. rest ≤ 40) rests → AllByRecursion (λ rest. rest ≤ 40) (slice_set rests t 40)
all_set [] t h = tt
all_set (r ∷ rs) zero h = (omega arith, h.1)
all_set (r ∷ rs) (suc t) h = (h.0, all_set rs t h.1)

pub rests_set : (rests : List ℕ) (t : ℕ) → AreRests rests → AreRests (slice_set rests t 40)
rests_set rests t h = (length_set rests t 40 ∙ h.0, all_set rests t h.1)

pub rest_set : (rests : List ℕ) (t : ℕ) → t < 8 → AreRests rests → get_or (slice_set rests t 40) t 0 ≡ 40
rest_set rests t lt h = let long : t < length rests = omega (arith, h.0, lt) in get_or-set_same rests t 40 0 long

pub rest_fallen : (rests : List ℕ) (t : ℕ) → t < 8 → AreRests rests → get_or (rests_after_tick rests) t 0 ≡ get_or rests t 0 - 1
rest_fallen rests t lt h = let long : t < length rests = omega (arith, h.0, lt) in get_or-map (λ rest. rest - 1) rests t 0 0 long

pub ruleset rests = (none_rest, rests_fall, rests_set)
