-- A stream read in two parts.
use Rattle.std.proofs.Common.{◌≡◌, ◌∙◌, ℕ, ◌+◌, ◌==◌, ◌||◌, ◌&&◌, Bool, nat_le, if◌then◌else◌, List, [], ◌∷◌, ◌++◌, Option, Some, None, refl, ap}
use Rattle.std.proofs.lemmas.Bool.{cond_both}
use Rattle.mctp_wire.specs.Units.{bytes_of}
use Rattle.mctp_wire.specs.declared.layout.TheConstants.{HEAD_SIZE}
use Rattle.mctp_serial.specs.Reader.{ReaderOf, packet_after_byte, packets_in, packets_with, reader_after, reader_after_byte, reader_from}
use Rattle.mctp_serial.specs.declared.stage.Stage.{Stage}
use Rattle.mctp_serial.specs.declared.stage.Stage.TheVariants as stages

pub reader_after_append : (r : ReaderOf) (xs ys : List ℕ) → reader_after r (xs ++ ys) ≡ reader_after (reader_after r xs) ys
unfolding reader_after
reader_after_append r [] ys = refl
reader_after_append r (x ∷ xs) ys = reader_after_append (reader_after_byte r x) xs ys

packets_with_append : (one : Option (List ℕ)) (xs ys : List (List ℕ)) → packets_with one (xs ++ ys) ≡ packets_with one xs ++ ys
packets_with_append None xs ys = refl
packets_with_append (Some packet) xs ys = refl

pub packets_in_append : (r : ReaderOf) (xs ys : List ℕ) → packets_in r (xs ++ ys) ≡ packets_in r xs ++ packets_in (reader_after r xs) ys
unfolding reader_after packets_in
packets_in_append r [] ys = refl
packets_in_append r (x ∷ xs) ys =
    ap (packets_with (packet_after_byte r x)) (packets_in_append (reader_after_byte r x) xs ys)
    ∙ packets_with_append (packet_after_byte r x) (packets_in (reader_after_byte r x) xs) (packets_in (reader_after (reader_after_byte r x) xs) ys)

-- a property of two readers, one of which a test chooses
pub either : (c : Bool) (P : ReaderOf → Type 0) (a b : ReaderOf) → P a → P b → P (if c then a else b)
either c P a b first second = cond_both c a b P (λ _. first) (λ _. second)

-- a reader keeps its transmission unit
keeps_unit : (s : Stage) (r : ReaderOf) (b : ℕ) → (reader_from s r b).unit ≡ r.unit
keeps_unit stages.Idle r b = either (b == 0x7E) (λ q. q.unit ≡ r.unit) _ _ refl refl
keeps_unit stages.Opened r b = either (b == 1) (λ q. q.unit ≡ r.unit) _ _ refl (either (b == 0x7E) (λ q. q.unit ≡ r.unit) _ _ refl refl)
keeps_unit stages.Revised r b = either (nat_le 1 b && nat_le b (HEAD_SIZE + bytes_of r.unit)) (λ q. q.unit ≡ r.unit) _ _ refl refl
keeps_unit stages.Filling r b = either (b == 0x7D) (λ q. q.unit ≡ r.unit) _ _ refl (either (b == 0x7E) (λ q. q.unit ≡ r.unit) _ _ refl refl)
keeps_unit stages.Escaped r b = either ((b == 0x5D) || (b == 0x5E)) (λ q. q.unit ≡ r.unit) _ _ refl refl
keeps_unit stages.High r b = refl
keeps_unit stages.Low r b = refl
keeps_unit stages.Closing r b = either (b == 0x7E) (λ q. q.unit ≡ r.unit) _ _ refl refl
keeps_unit stages.Lost r b = either (b == 0x7E) (λ q. q.unit ≡ r.unit) _ _ refl refl

pub unit_after : (r : ReaderOf) (bytes : List ℕ) → (reader_after r bytes).unit ≡ r.unit
unfolding reader_after
unit_after r [] = refl
unit_after r (b ∷ bytes) = unit_after (reader_after_byte r b) bytes ∙ keeps_unit r.stage r b
