-- Reading the encoded form of a packet gives the same result as reading the original bytes.
use Rattle.std.proofs.Common.{◌≡◌, ◌<◌, ◌≤◌, ◌%◌, ◌==◌, ℕ, Bool, true, false, not, nat_lt, ne_eqb, if◌then◌else◌, List, ◌∷◌, length, Ok, Err, refl, ap, arith}
use Rattle.std.proofs.lemmas.Bool.{le-ltb, lt-ltb}
use Rattle.mctp_wire.specs.declared.fault.WireFault.TheVariants.{Version, Empty, TooLong}
use Rattle.mctp_wire.specs.declared.layout.Head.{Head}
use Rattle.mctp_wire.specs.declared.layout.Packet.{Packet}
use Rattle.mctp_wire.specs.declared.unit.Unit.{«Unit»}
use Rattle.mctp_wire.specs.Units.{bytes_of}
use Rattle.mctp_wire.specs.Packet.{IsRead, head_of, packet_bytes, packet_of, spelling}
use Rattle.mctp_wire.proofs.Packets.{head_of-flags_of}

-- a body that is read has a byte
some_body : (n : ℕ) → 1 ≤ n → (n == 0) ≡ false
some_body n some = ne_eqb n 0 (λ e. absurd (omega (arith, e, some)))

-- the encoded form reads as the packet's head and body if the body fits the unit; otherwise it is
-- too long
pub spelling_fits : (u : «Unit») (p : Packet) → IsRead p → length p.body.now ≤ bytes_of u → packet_of u (spelling p) ≡ Ok (p.head, p.body.now)
unfolding spelling
spelling_fits u p r fits =
    rw (some_body (length p.body.now) r.some, le-ltb (bytes_of u) (length p.body.now) fits, head_of-flags_of p.head r.head) refl

pub spelling_long : (u : «Unit») (p : Packet) → IsRead p → bytes_of u < length p.body.now → packet_of u (spelling p) ≡ Err TooLong
unfolding spelling
spelling_long u p r long = rw (some_body (length p.body.now) r.some, lt-ltb (bytes_of u) (length p.body.now) long) refl

-- facts about bytes that read as a packet
record ReadsAs (b c : Bool) (h : Head) (body : List ℕ) (p : Head × List ℕ) : Type 0 where
  one : b ≡ false
  some : c ≡ false
  head : p.0 ≡ h
  same : p.1 ≡ body

reads_as : (b c d : Bool) (h : Head) (body : List ℕ) (p : Head × List ℕ)
    → Ok p ≡ (if b then Err Version else if c then Err Empty else if d then Err TooLong else Ok (h, body)) → ReadsAs b c h body p
reads_as true c d h body p is = absurd (cc)
reads_as false true d h body p is = absurd (cc)
reads_as false false true h body p is = absurd (cc)
reads_as false false false h body p is = let same : p ≡ (h, body) = cc in record { one = refl; some = refl; head = ap (λ q. q.0) same; same = ap (λ q. q.1) same }

-- they read as the encoded form does
alike_by : (v : «Unit») (version dest source flags : ℕ) (body : List ℕ) (h : Head) (b : List ℕ) → not (version % 16 == 1) ≡ false → (length body == 0) ≡ false
    → h ≡ head_of dest source flags → b ≡ body → packet_of v (version ∷ dest ∷ source ∷ flags ∷ body) ≡ packet_of v (packet_bytes h b)
alike_by v version dest source flags body h b one some head same =
    rw (head, same, one, some, head_of-flags_of (head_of dest source flags) (omega arith, omega arith)) refl

pub spelled_alike : (u v : «Unit») (bytes : List ℕ) (p : Packet) → Ok (p.head, p.body.now) ≡ packet_of u bytes → packet_of v bytes ≡ packet_of v (spelling p)
unfolding spelling
spelled_alike u v (version ∷ dest ∷ source ∷ flags ∷ body) p is =
    let r = reads_as (not (version % 16 == 1)) (length body == 0) (nat_lt (bytes_of u) (length body)) (head_of dest source flags) body (p.head, p.body.now) is in
    alike_by v version dest source flags body p.head p.body.now r.one r.some r.head r.same
spelled_alike u v bytes p is = absurd (cc)
