-- A capture decodes to its packets.
use Rattle.std.proofs.Common.{◌≡◌, ◌∙◌, ◌<◌, ◌≤◌, ◌+◌, ◌-◌, ◌^◌, ◌==◌, ◌&&◌, ℕ, zero, suc, Bool, true, false, if◌then◌else◌, List, [], ◌∷◌, ◌++◌, length, None, Some, refl, sym, ap, arith}
use Rattle.std.specs.Prelude.{Option, drop, option_map, slice_index}
use Rattle.std.specs.List.{AllByRecursion}
use Rattle.std.proofs.Math.Nat.{mod-eq_of_lt}
use Rattle.std.proofs.Math.Seq.{drop-append_seam, take-append_seam}
use Rattle.std.proofs.lemmas.Bool.{le-ltb}
use Rattle.std.proofs.lemmas.List.{drop-drop, length-append}
use Rattle.byteorder.specs.Endian.{little_number}
use Rattle.byteorder.specs.Numbers.{little_number-reads_back}
use Rattle.fw_trace.specs.Captures.{CapturedOf, CaptureReadsBack, IsCapturable, capture_file, capture_record, capture_records, captured_size, cooked_head, is_cut, packet_in, packets_in, record_head, size_in, source_of, type_of, word}

-- the bytes after a record's header, and what follows them
abbrev behind : CapturedOf → List ℕ → List ℕ
behind p rest = cooked_head p.is_sent (source_of p.bytes) ++ (p.bytes ++ rest)

-- a word decodes to its number
word_read : (n : ℕ) (rest : List ℕ) → n < 2 ^ 32 → little_number 4 (word n ++ rest) ≡ n
unfolding word
word_read n rest small = little_number-reads_back 4 n rest small

-- the captured size is that of the packet plus 16
pub size_fits : (bytes : List ℕ) → 16 + length bytes < 2 ^ 32 → captured_size bytes ≡ 16 + length bytes
size_fits bytes small = mod-eq_of_lt small

type_read : (b : Bool) → (type_of b == 4) ≡ b
type_read true = refl
type_read false = refl

-- the header of the first record gives its size, and the packet
pub size_read : (p : CapturedOf) (rest : List ℕ) → IsCapturable p → size_in (capture_record p ++ rest) ≡ 16 + length p.bytes
unfolding capture_record record_head word
size_read p rest fits =
    word_read (captured_size p.bytes) (word (captured_size p.bytes) ++ behind p rest) (rw (size_fits p.bytes fits.1) fits.1) ∙ size_fits p.bytes fits.1

pub turn_read : (p : CapturedOf) (rest : List ℕ) → IsCapturable p → little_number 4 (capture_record p ++ rest) ≡ p.turn
unfolding capture_record record_head word
turn_read p rest fits =
    word_read p.turn (word 0 ++ (word (captured_size p.bytes) ++ (word (captured_size p.bytes) ++ behind p rest))) fits.0

-- so does the original size, and the protocol is MCTP
pub original_read : (p : CapturedOf) (rest : List ℕ) → IsCapturable p → little_number 4 (drop 12 (capture_record p ++ rest)) ≡ 16 + length p.bytes
unfolding capture_record record_head word
original_read p rest fits =
    word_read (captured_size p.bytes) (behind p rest) (rw (size_fits p.bytes fits.1) fits.1) ∙ size_fits p.bytes fits.1

pub protocol_read : (p : CapturedOf) (rest : List ℕ) → (slice_index (capture_record p ++ rest) 30 == 0x00) && (slice_index (capture_record p ++ rest) 31 == 0xFA) ≡ true
unfolding capture_record record_head word
protocol_read p rest = refl

way_read : (p : CapturedOf) (rest : List ℕ) → (slice_index (capture_record p ++ rest) 17 == 4) ≡ p.is_sent
unfolding capture_record record_head word
way_read p rest = type_read p.is_sent

pub bytes_read : (p : CapturedOf) (rest : List ℕ) → drop 32 (capture_record p ++ rest) ≡ p.bytes ++ rest
unfolding capture_record record_head word
bytes_read p rest = refl

pub rest_read : (p : CapturedOf) (rest : List ℕ) → drop (16 + (16 + length p.bytes)) (capture_record p ++ rest) ≡ rest
rest_read p rest =
    let more : 16 + (16 + length p.bytes) ≡ 32 + length p.bytes = omega arith in
    ap (λ n. drop n (capture_record p ++ rest)) more ∙ sym (drop-drop (length p.bytes) 32 (capture_record p ++ rest)) ∙ ap (drop (length p.bytes)) (bytes_read p rest) ∙ drop-append_seam p.bytes rest

pub length_record : (p : CapturedOf) (rest : List ℕ) → length (capture_record p ++ rest) ≡ 32 + (length p.bytes + length rest)
unfolding capture_record record_head word
length_record p rest = omega (arith, length-append p.bytes rest)

packet_read : (p : CapturedOf) (rest : List ℕ) → IsCapturable p → packet_in (capture_record p ++ rest) ≡ p
packet_read p rest fits =
    let less : 16 + length p.bytes - 16 ≡ length p.bytes = omega arith in
    rw (turn_read p rest fits, way_read p rest, size_read p rest fits, bytes_read p rest, less, take-append_seam p.bytes rest) refl

whole_read : (p : CapturedOf) (rest : List ℕ) → IsCapturable p → is_cut (capture_record p ++ rest) ≡ false
whole_read p rest fits =
    rw (
      size_read p rest fits,
      length_record p rest,
      le-ltb (32 + (length p.bytes + length rest)) 32 (omega arith),
      le-ltb (16 + length p.bytes) 16 (omega arith),
      le-ltb (32 + (length p.bytes + length rest)) (16 + (16 + length p.bytes)) (omega arith),
    ) refl

-- the decoded packets if the first is whole and known
read_if : (b : Bool) (p q : CapturedOf) (ps : List CapturedOf) (o : Option (List CapturedOf)) → b ≡ false → q ≡ p → o ≡ Some ps
    → (if b then None else option_map (λ ps. q ∷ ps) o) ≡ Some (p ∷ ps)
read_if true p q ps o whole same rest = absurd (cc)
read_if false p q ps o whole same rest = rw (same, rest) refl

-- a packet is decoded, then the others
cons_read : (fuel : ℕ) (p : CapturedOf) (rest : List ℕ) (ps : List CapturedOf) (bytes : List ℕ) → 1 ≤ length bytes → is_cut bytes ≡ false → packet_in bytes ≡ p
    → drop (16 + size_in bytes) bytes ≡ rest → packets_in fuel rest ≡ Some ps → packets_in (suc fuel) bytes ≡ Some (p ∷ ps)
unfolding packets_in
cons_read fuel p rest ps [] some whole is same h = absurd (omega arith)
cons_read fuel p rest ps (b ∷ bytes) some whole is same h =
    read_if (is_cut (b ∷ bytes)) p (packet_in (b ∷ bytes)) ps (packets_in fuel (drop (16 + size_in (b ∷ bytes)) (b ∷ bytes))) whole is (ap (packets_in fuel) same ∙ h)

read_more : (fuel : ℕ) (p : CapturedOf) (rest : List ℕ) (ps : List CapturedOf) → IsCapturable p → packets_in fuel rest ≡ Some ps
    → packets_in (suc fuel) (capture_record p ++ rest) ≡ Some (p ∷ ps)
read_more fuel p rest ps fits h =
    cons_read fuel p rest ps (capture_record p ++ rest) (omega (arith, length_record p rest)) (whole_read p rest fits) (packet_read p rest fits)
    (rw (size_read p rest fits) (rest_read p rest)) h

-- if the fuel is at least the number of bytes, all packets are decoded
all_read : (fuel : ℕ) (ps : List CapturedOf) → AllByRecursion IsCapturable ps → length (capture_records ps) ≤ fuel → packets_in fuel (capture_records ps) ≡ Some ps
unfolding packets_in
all_read fuel [] fits enough = refl
all_read zero (p ∷ ps) fits enough = absurd (omega (arith, length_record p (capture_records ps)))
all_read (suc fuel) (p ∷ ps) fits enough =
    read_more fuel p (capture_records ps) ps fits.0 (all_read fuel ps fits.1 (omega (arith, length_record p (capture_records ps))))

pub capture_read : CaptureReadsBack
capture_read ps fits = all_read (length (capture_file ps)) ps fits (omega arith)
