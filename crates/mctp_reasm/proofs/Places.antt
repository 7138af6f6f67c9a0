-- Lemmas on assemblies side by side, which have one unit, and on room by the unit.
use Rattle.std.proofs.Common.{◌≡◌, ◌+◌, ◌*◌, ◌<◌, ◌≤◌, ℕ, zero, suc, List, [], ◌∷◌, length, map, get_or, slice_set, None, refl, ap, arith}
use Rattle.mctp_wire.specs.declared.unit.Unit.{«Unit»}
use Rattle.mctp_wire.specs.declared.unit.Unit.TheVariants.{U64, U128}
use Rattle.mctp_wire.specs.Units.{bytes_of}
use Rattle.mctp_reasm.specs.Held.{AssemblyOf, held_tick}
use Rattle.mctp_reasm.specs.Inboxes.{HaveUnit, held_in, assembly_after_tick}
use Rattle.mctp_wire.specs.declared.unit.TheConstants.{MAX_PACKETS}

-- three packets and one more body fit the longest message
pub body_fits : (u : «Unit») (count size : ℕ) → count < MAX_PACKETS → size ≤ bytes_of u → bytes_of u * count + size ≤ 512
body_fits U64 count size lt le = omega arith
body_fits U128 count size lt le = omega arith

-- a packet more
pub room_more : (u : «Unit») (count : ℕ) → bytes_of u * (count + 1) ≡ bytes_of u * count + bytes_of u
room_more u count = omega arith

pub unit_at : (u : «Unit») (xs : List AssemblyOf) (i : ℕ) (a : AssemblyOf) → i < length xs → HaveUnit u xs → (get_or xs i a).unit ≡ u
unit_at u [] i a lt h = absurd (omega arith)
unit_at u (b ∷ xs) zero a lt h = h.0
unit_at u (b ∷ xs) (suc i) a lt h = unit_at u xs i a (omega arith) h.1

pub units_set : (u : «Unit») (xs : List AssemblyOf) (i : ℕ) (a : AssemblyOf) → HaveUnit u xs → a.unit ≡ u → HaveUnit u (slice_set xs i a)
units_set u [] i a h e = h
units_set u (b ∷ xs) zero a h e = (e, h.1)
units_set u (b ∷ xs) (suc i) a h e = (h.0, units_set u xs i a h.1 e)

pub units_tick : (u : «Unit») (xs : List AssemblyOf) → HaveUnit u xs → HaveUnit u (map assembly_after_tick xs)
units_tick u [] h = h
units_tick u (a ∷ xs) h = (h.0, units_tick u xs h.1)

pub held_in_tick : (xs : List AssemblyOf) → held_in (map assembly_after_tick xs) ≡ map held_tick (held_in xs)
held_in_tick [] = refl
held_in_tick (a ∷ xs) = ap (λ hs. held_tick a.held ∷ hs) (held_in_tick xs)

pub held_in_set : (xs : List AssemblyOf) (i : ℕ) (a : AssemblyOf) → held_in (slice_set xs i a) ≡ slice_set (held_in xs) i a.held
held_in_set [] i a = refl
held_in_set (b ∷ xs) zero a = refl
held_in_set (b ∷ xs) (suc i) a = ap (λ hs. b.held ∷ hs) (held_in_set xs i a)

pub held_in_at : (xs : List AssemblyOf) (i : ℕ) (a : AssemblyOf) → i < length xs → get_or (held_in xs) i None ≡ (get_or xs i a).held
held_in_at [] i a lt = absurd (omega arith)
held_in_at (b ∷ xs) zero a lt = refl
held_in_at (b ∷ xs) (suc i) a lt = held_in_at xs i a (omega arith)

pub ruleset places = (unit_at, units_set, units_tick, held_in_tick, held_in_set, held_in_at)

pub ruleset room = (body_fits, room_more)
