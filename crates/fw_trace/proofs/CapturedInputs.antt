-- A capture that was written gives its packets.
use Rattle.std.proofs.Common.{◌≡◌, ◌≤◌, ◌+◌, ◌-◌, ◌==◌, ℕ, zero, suc, true, false, List, [], ◌∷◌, ◌++◌, drop, length, map, nat_lt, refl, arith}
use Rattle.std.specs.List.{AllByRecursion}
use Rattle.std.proofs.Math.Seq.{take-append_seam}
use Rattle.std.proofs.lemmas.Bool.{le-ltb}
use Rattle.std.proofs.lemmas.Grind.{common_steps}
use Rattle.fw_trace.specs.Captures.{CapturedOf, IsCapturable, capture_header, capture_record, capture_records}
use Rattle.fw_trace.specs.Decoding.{DecodesCaptures, captured_input}
use Rattle.fw_trace.specs.Inputs.{Input, captured_size_in, is_whole, lacks_record, record_input, record_inputs}
use Rattle.fw_trace.specs.declared.capture_reading.ByteOrder.TheVariants as orders
use Rattle.fw_trace.proofs.Captured.{bytes_read, length_record, original_read, protocol_read, rest_read, size_read, turn_read}

same_number : (n : ℕ) → (n == n) ≡ true
same_number n = grind (arith, common_steps)

whole_captured : (p : CapturedOf) (rest : List ℕ) → IsCapturable p → is_whole orders.Little (capture_record p ++ rest) ≡ true
whole_captured p rest fits =
    let enough : 16 ≤ 16 + length p.bytes = omega arith in
    rw (size_read p rest fits, original_read p rest fits, same_number (16 + length p.bytes)) (grind (arith, common_steps))

none_lacks : (p : CapturedOf) (rest : List ℕ) → IsCapturable p → lacks_record orders.Little (capture_record p ++ rest) ≡ false
none_lacks p rest fits =
    rw (
      size_read p rest fits,
      length_record p rest,
      le-ltb (32 + (length p.bytes + length rest)) 16 (omega arith),
      le-ltb (32 + (length p.bytes + length rest)) (16 + (16 + length p.bytes)) (omega arith),
    ) refl

input_read : (p : CapturedOf) (rest : List ℕ) → IsCapturable p → record_input orders.Little (capture_record p ++ rest) ≡ captured_input p
unfolding record_input
input_read p rest fits =
    let less : 16 + length p.bytes - 16 ≡ length p.bytes = omega arith in
    rw (whole_captured p rest fits, protocol_read p rest, turn_read p rest fits, size_read p rest fits, bytes_read p rest, less, take-append_seam p.bytes rest) refl

-- a record is read, then the others
one_input : (fuel : ℕ) (input : Input) (rest : List ℕ) (inputs : List Input) (bytes : List ℕ) → 1 ≤ length bytes → lacks_record orders.Little bytes ≡ false
    → record_input orders.Little bytes ≡ input → drop (16 + captured_size_in orders.Little bytes) bytes ≡ rest → record_inputs fuel orders.Little rest ≡ inputs
    → record_inputs (suc fuel) orders.Little bytes ≡ input ∷ inputs
unfolding record_inputs
one_input fuel input rest inputs [] some whole is same h = absurd (omega arith)
one_input fuel input rest inputs (b ∷ bytes) some whole is same h = rw (whole, is, same, h) refl

more_inputs : (fuel : ℕ) (p : CapturedOf) (rest : List ℕ) (inputs : List Input) → IsCapturable p → record_inputs fuel orders.Little rest ≡ inputs
    → record_inputs (suc fuel) orders.Little (capture_record p ++ rest) ≡ captured_input p ∷ inputs
more_inputs fuel p rest inputs fits h =
    one_input fuel (captured_input p) rest inputs (capture_record p ++ rest) (omega (arith, length_record p rest)) (none_lacks p rest fits) (input_read p rest fits)
    (rw (size_read p rest fits) (rest_read p rest)) h

all_inputs : (fuel : ℕ) (ps : List CapturedOf) → AllByRecursion IsCapturable ps → length (capture_records ps) ≤ fuel
    → record_inputs fuel orders.Little (capture_records ps) ≡ map captured_input ps
unfolding record_inputs
all_inputs fuel [] fits enough = refl
all_inputs zero (p ∷ ps) fits enough = absurd (omega (arith, length_record p (capture_records ps)))
all_inputs (suc fuel) (p ∷ ps) fits enough =
    more_inputs fuel p (capture_records ps) (map captured_input ps) fits.0 (all_inputs fuel ps fits.1 (omega (arith, length_record p (capture_records ps))))

header_long : (bytes : List ℕ) (n : ℕ) → n ≤ 24 → nat_lt (length (capture_header ++ bytes)) n ≡ false
header_long bytes n few = le-ltb (length (capture_header ++ bytes)) n (omega arith)

pub captures_decoded : DecodesCaptures
captures_decoded ps fits =
    rw (header_long (capture_records ps) 4 (omega arith), header_long (capture_records ps) 24 (omega arith))
    (all_inputs (length (capture_records ps)) ps fits (omega arith))
