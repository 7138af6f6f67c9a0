-- A written frame is a frame, and each frame is a written one.
use Rattle.std.proofs.Common.{◌≡◌, ℕ, ◌/◌, ◌%◌, ◌<◌, List, [], ◌∷◌, ◌++◌, length, refl, inl, inr, arith}
use Rattle.std.specs.List.{Contains}
use Rattle.std.proofs.lemmas.List.Elements.{All-contains, Contains-append_right}
use Rattle.std.proofs.lemmas.Nat.{div-add-mod'}
use Rattle.std.proofs.lemmas.Bool.{cases_eq, ne_eqb}
use Rattle.mctp_serial.specs.Check.{check_of}
use Rattle.mctp_serial.specs.Frames.{FLAG, IsByteData, IsData, data_of, data_of_byte}
use Rattle.mctp_serial.specs.Laws.{HasOneFrame, WritesFrames}

byte_data_is : (b : ℕ) → IsByteData (data_of_byte b) b
byte_data_is b = elim (cases_eq b 0x7E) [
  | inl flag ↦ rw flag (inl (refl, refl))
  | inr other ↦ elim (cases_eq b 0x7D) [
    | inl escape ↦ rw escape (inr (inl (refl, refl)))
    | inr plain ↦ rw (ne_eqb b 0x7E other, ne_eqb b 0x7D plain) (inr (inr (other, plain, refl)))
  ]
]

pub data_is : (packet : List ℕ) → IsData (data_of packet) packet
unfolding data_of
data_is [] = refl
data_is (b ∷ packet) = (data_of_byte b, data_of packet, refl, byte_data_is b, data_is packet)

byte_data_only : (bytes : List ℕ) (b : ℕ) → IsByteData bytes b → bytes ≡ data_of_byte b
byte_data_only bytes b (inl (flag, is)) = rw flag is
byte_data_only bytes b (inr (inl (escape, is))) = rw escape is
byte_data_only bytes b (inr (inr (other, plain, is))) = rw (ne_eqb b 0x7E other, ne_eqb b 0x7D plain) is

data_only : (packet bytes : List ℕ) → IsData bytes packet → bytes ≡ data_of packet
unfolding data_of
data_only [] bytes is = is
data_only (b ∷ packet) bytes (first, rest, parts, one, more) = rw (parts, byte_data_only first b one, data_only packet rest more) refl

pub writes_frames_law : WritesFrames
writes_frames_law packet fits =
    record {
      escaped = data_of packet;
      high = check_of packet / 256;
      low = check_of packet % 256;
      layout = refl;
      size = fits;
      holds = data_is packet;
      check = div-add-mod' (check_of packet) 256;
    }

pub one_frame_law : HasOneFrame
one_frame_law bytes packet f small =
    let end = f.high ∷ f.low ∷ FLAG ∷ [] in
    let last : Contains end f.low = (1, omega arith, refl) in
    let inside : Contains (FLAG ∷ 1 ∷ length packet ∷ (f.escaped ++ end)) f.low =
    Contains-append_right (FLAG ∷ 1 ∷ length packet ∷ []) (f.escaped ++ end) f.low (Contains-append_right f.escaped end f.low last) in
    let is_byte : f.low < 256 = All-contains (λ b. b < 256) bytes f.low small (rw f.layout inside) in
    let check = f.check in
    let first : check_of packet / 256 ≡ f.high = omega (arith, check, is_byte) in
    let second : check_of packet % 256 ≡ f.low = omega (arith, check, is_byte) in
    rw (f.layout, data_only packet f.escaped f.holds, first, second) refl
