-- Lemmas on the fourth byte of a head.
use Rattle.std.proofs.Common.{ne_eqb, nat_lt, ◌≡◌, ◌<◌, ◌≤◌, ◌/◌, ◌%◌, ◌==◌, ℕ, ◌∷◌, length, refl, arith, Bool, true, false}
use Rattle.std.proofs.lemmas.Bool.{le-ltb}
use Rattle.mctp_wire.specs.declared.layout.Head.{Head}
use Rattle.mctp_wire.specs.Units.{bytes_of}
use Rattle.mctp_wire.specs.Packet.{IsHead, flags_of, head_of, bit, ReadsPackets}

bit-lt : (b : Bool) → bit b < 2
bit-lt true = omega arith
bit-lt false = omega arith

-- a bit that was written reads as the same truth value
bit-read : (n : ℕ) (b : Bool) → n ≡ bit b → n == 1 ≡ b
bit-read n true e = rw e refl
bit-read n false e = rw e refl

-- each field is read from its place
pub head_of-flags_of : (h : Head) → IsHead h → head_of h.dest h.source (flags_of h) ≡ h
head_of-flags_of h small =
    let s = bit-lt h.som in
    let e = bit-lt h.eom in
    let t = bit-lt h.to in
    let seq-small = small.0 in
    let tag-small = small.1 in
    rw (
      bit-read (flags_of h / 128 % 2) h.som (omega arith),
      bit-read (flags_of h / 64 % 2) h.eom (omega arith),
      bit-read (flags_of h / 8 % 2) h.to (omega arith),
      (let q : flags_of h / 16 % 4 ≡ h.seq = omega arith in q),
      (let q : flags_of h % 8 ≡ h.tag = omega arith in q),
    ) refl

-- a packet reads as its head and its body
pub packet_of-packet : ReadsPackets
packet_of-packet u (version ∷ dest ∷ source ∷ flags ∷ rest) h body (one, to_dest, from_source, fourth, small, same, some, fits) =
    let at_least_one : 1 ≤ length rest = rw same some in
    let is_one : (version % 16 == 1) ≡ true = rw one refl in
    let not_empty : (length rest == 0) ≡ false = ne_eqb (length rest) 0 (λ n. let none : length rest ≡ 0 = n in omega arith) in
    let not_long : nat_lt (bytes_of u) (length rest) ≡ false = le-ltb (bytes_of u) (length rest) (rw same fits) in
    rw (is_one, not_empty, not_long, to_dest, from_source, fourth, same, head_of-flags_of h small) refl
packet_of-packet u bytes h body is = absurd is
