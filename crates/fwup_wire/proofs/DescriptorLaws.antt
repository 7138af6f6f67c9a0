-- A descriptor, read and written.
use Rattle.std.proofs.Common.{Bool, List, None, Some, [], ap, arith, drop, false, if◌then◌else◌, is_some, length, nat_le, refl, sym, take, true, unwrap_or, ◌-◌, ◌%◌, ◌*◌, ◌+◌, ◌++◌, ◌∙◌, ◌/◌, ◌<◌, ◌≤◌, ◌∷◌, ◌≡◌, ℕ}
use Rattle.std.proofs.lemmas.Bool.{le-leb, leb-true}
use Rattle.std.proofs.lemmas.List.{length-append, length-take-le, take-append-drop}
use Rattle.std.proofs.Math.Seq.{drop-append-add, drop-append_seam, take-append_seam}
use Rattle.byteorder.specs.Numbers.{little_number-reads_back}
use Rattle.fwup_wire.proofs.Items.{AreBytes, are_items, items_behind, items_kept, items_pushed}
use Rattle.fwup_wire.specs.Descriptors.{AreDescriptors, HasDescriptorWidths, HoldsDescriptors, descriptor_bytes, descriptor_size, descriptors_in, first_descriptor}
use Rattle.fwup_wire.specs.Fields.{u16_of}
use Rattle.fwup_wire.specs.Values.{DeviceDescriptorOf}

-- a number of two bytes has these bytes
low_of : (a b : ℕ) → a < 256 → u16_of a b % 256 ≡ a
low_of a b h = omega arith

high_of : (a b : ℕ) → a < 256 → b < 256 → u16_of a b / 256 % 256 ≡ b
high_of a b h g = omega arith

spelled_at : (k0 k1 l0 l1 : ℕ) (rest : List ℕ) (d : DeviceDescriptorOf) (fits : Bool)
    → nat_le (u16_of l0 l1) (length rest) ≡ fits
    → k0 < 256 → k1 < 256 → l0 < 256 → l1 < 256
    → (if fits then Some (record { kind = u16_of k0 k1; bytes = take (u16_of l0 l1) rest }) else None) ≡ Some d
    → k0 ∷ k1 ∷ l0 ∷ l1 ∷ rest ≡ descriptor_bytes d ++ drop (descriptor_size d) (k0 ∷ k1 ∷ l0 ∷ l1 ∷ rest)
spelled_at k0 k1 l0 l1 rest d false fits a b c e is = absurd (cc)
spelled_at k0 k1 l0 l1 rest d true fits a b c e is =
    let same : d ≡ record { kind = u16_of k0 k1; bytes = take (u16_of l0 l1) rest } = cc in
    let whole : length (take (u16_of l0 l1) rest) ≡ u16_of l0 l1 = length-take-le (u16_of l0 l1) rest (leb-true (u16_of l0 l1) (length rest) fits) in
    let behind : drop (4 + u16_of l0 l1) (k0 ∷ k1 ∷ l0 ∷ l1 ∷ rest) ≡ drop (u16_of l0 l1) rest =
    drop-append-add (k0 ∷ k1 ∷ l0 ∷ l1 ∷ []) rest (u16_of l0 l1) in
    rw (same, whole, behind, low_of k0 k1 a, high_of k0 k1 a b, low_of l0 l1 c, high_of l0 l1 c e)
    (ap (λ tail. k0 ∷ k1 ∷ l0 ∷ l1 ∷ tail) (sym (take-append-drop (u16_of l0 l1) rest)))

pub descriptor_spelled : (bytes : List ℕ) (d : DeviceDescriptorOf) → AreBytes bytes → first_descriptor bytes ≡ Some d
    → bytes ≡ descriptor_bytes d ++ drop (descriptor_size d) bytes
descriptor_spelled (k0 ∷ k1 ∷ l0 ∷ l1 ∷ rest) d are is =
    spelled_at k0 k1 l0 l1 rest d (nat_le (u16_of l0 l1) (length rest)) refl (are 0) (are 1) (are 2) (are 3) is
descriptor_spelled bytes d are is = absurd (cc)

-- an encoded descriptor is read back, with any bytes after it
read_at : (d : DeviceDescriptorOf) (rest : List ℕ) (size : ℕ) (fits : Bool) → size ≡ length d.bytes
    → nat_le size (length (d.bytes ++ rest)) ≡ fits
    → (if fits then Some (record { kind = d.kind; bytes = take size (d.bytes ++ rest) }) else None) ≡ Some d
read_at d rest size true is fits = rw (is, take-append_seam d.bytes rest) refl
read_at d rest size false is fits =
    let enough : nat_le size (length (d.bytes ++ rest)) ≡ true = le-leb size (length (d.bytes ++ rest)) (rw (is, length-append d.bytes rest) (omega arith)) in
    absurd (cc)

pub descriptor_reads_back : (d : DeviceDescriptorOf) (rest : List ℕ) → HasDescriptorWidths d
    → first_descriptor (descriptor_bytes d ++ rest) ≡ Some d
descriptor_reads_back d rest fits =
    let kind = little_number-reads_back 2 d.kind [] fits.0 in
    let size = little_number-reads_back 2 (length d.bytes) [] fits.1 in
    rw kind (read_at d rest (u16_of (length d.bytes % 256) (length d.bytes / 256 % 256))
    (nat_le (u16_of (length d.bytes % 256) (length d.bytes / 256 % 256)) (length (d.bytes ++ rest))) size refl)

pub descriptor_skips : (d : DeviceDescriptorOf) (rest : List ℕ) → drop (descriptor_size d) (descriptor_bytes d ++ rest) ≡ rest
descriptor_skips d rest =
    drop-append-add (d.kind % 256 ∷ d.kind / 256 % 256 ∷ length d.bytes % 256 ∷ length d.bytes / 256 % 256 ∷ []) (d.bytes ++ rest) (length d.bytes)
    ∙ drop-append_seam d.bytes rest

-- bytes that read as descriptors are their encoded form
pub are_descriptors : (count : ℕ) (bytes : List ℕ) → AreBytes bytes → is_some (descriptors_in count bytes) ≡ true
    → AreDescriptors count bytes (unwrap_or (descriptors_in count bytes) [])
are_descriptors count bytes are e = are_items first_descriptor descriptor_size descriptor_bytes descriptor_spelled count bytes are e

-- the other descriptors are after the first
pub descriptors_behind : (count : ℕ) (bytes : List ℕ) (d : DeviceDescriptorOf) (ds : List DeviceDescriptorOf) → (count ≡ 0 → ⊥)
    → first_descriptor bytes ≡ Some d → AreDescriptors count bytes ds
    → AreDescriptors (count - 1) (drop (descriptor_size d) bytes) (unwrap_or (descriptors_in (count - 1) (drop (descriptor_size d) bytes)) [])
descriptors_behind count bytes d ds some is are =
    items_behind first_descriptor descriptor_size descriptor_bytes descriptor_skips count bytes d ds some is are

-- one more descriptor
pub descriptors_pushed : (count : ℕ) (bytes : List ℕ) (ds : List DeviceDescriptorOf) (d : DeviceDescriptorOf) → HoldsDescriptors count bytes ds
    → HasDescriptorWidths d → HoldsDescriptors (count + 1) (bytes ++ descriptor_bytes d) (ds ++ d ∷ [])
descriptors_pushed count bytes ds d holds fits =
    items_pushed first_descriptor descriptor_size descriptor_bytes HasDescriptorWidths descriptor_reads_back descriptor_skips count bytes ds d holds fits

pub descriptors_kept : (count : ℕ) (bytes : List ℕ) (ds : List DeviceDescriptorOf) (d : DeviceDescriptorOf) → HoldsDescriptors count bytes ds
    → HasDescriptorWidths d
    → HoldsDescriptors (count + 1) (bytes ++ descriptor_bytes d) (unwrap_or (descriptors_in (count + 1) (bytes ++ descriptor_bytes d)) [])
descriptors_kept count bytes ds d holds fits =
    items_kept first_descriptor descriptor_size descriptor_bytes HasDescriptorWidths (count + 1) (bytes ++ descriptor_bytes d) (ds ++ d ∷ []) (descriptors_pushed count bytes ds d holds fits)

pub descriptors_seen : (count : ℕ) (bytes : List ℕ) (ds : List DeviceDescriptorOf) (d : DeviceDescriptorOf) → HoldsDescriptors count bytes ds
    → HasDescriptorWidths d → unwrap_or (descriptors_in (count + 1) (bytes ++ descriptor_bytes d)) [] ≡ ds ++ d ∷ []
descriptors_seen count bytes ds d holds fits =
    let pushed = descriptors_pushed count bytes ds d holds fits in let found = pushed.are.found in rw found refl

-- it gets longer by as much
pub descriptors_longer : (count : ℕ) (bytes : List ℕ) (d : DeviceDescriptorOf) → 4 * count ≤ length bytes
    → 4 * (count + 1) ≤ length (bytes ++ descriptor_bytes d)
descriptors_longer count bytes d long = rw (length-append bytes (descriptor_bytes d)) (omega (arith, long))
