-- The fault that stops the reading of bytes is their first fault.
use Rattle.std.proofs.Common.{◌≡◌, ◌≢◌, ℕ, zero, suc, ◌+◌, ◌-◌, ◌/◌, ◌%◌, ◌≤◌, ◌∙◌, ◌==◌, ◌||◌, not, nat_eq, nat_lt, if◌then◌else◌, Bool, true, false, List, ◌++◌, Result, Ok, Err, Option, Some, None, IfErr, IsOk, length, take, drop, slice_index, refl, sym, ap, subst, arith}
use borrow.Author.Tests.{ltb-false, ltb-true}
use Rattle.std.proofs.lemmas.Bool.{eqb-true}
use Rattle.std.proofs.lemmas.Bool.Decides.{Decides-eqb}
use Rattle.std.proofs.lemmas.List.{take-append-drop}
use Rattle.std.proofs.lemmas.Slice.Eq.{starts_is}
use Rattle.std.specs.List.{starts_with}
use Rattle.byteorder.specs.Endian.{little_number}
use Rattle.fw_package.specs.Components.{component_of, components_of, place_of, component_at_place}
use Rattle.fw_package.specs.Crc.{crc_of}
use Rattle.fw_package.specs.Faults.{HasBitmaps, HasImages, HasRecords, IsFirstPackageFault, IsIdentified, IsLaidOut, IsRevised, IsSigned, bits_in, header_in, size_in}
use Rattle.fw_package.specs.Layout.{LayoutOf, layout_of, text_size_of}
use Rattle.fw_package.specs.Package.{ComponentOf}
use Rattle.fw_package.specs.Reading.{bitmap_size_of, header_before_checksum, header_of, package_identifier, package_of, parts_of}
use Rattle.fw_package.specs.Records.{◌>>=◌, descriptor_split, descriptors_split, record_of, records_of, split_after}
use Rattle.fw_package.specs.declared.fault.PackageFault.{PackageFault}
use Rattle.fw_package.specs.declared.fault.PackageFault.TheVariants as faults
use Rattle.fw_package.proofs.OnePackage.{bitmap_reads}
use Rattle.fw_package.proofs.WholeBuilt.{bitmap_built, header_built, not_equal, not_false, some_layout}

-- a chain stops at its first step, or later
stops : {A B : Type 0} (P : Type 0) (r : Result A PackageFault) (f : A → Result B PackageFault) (e : PackageFault) → (r >>= f) ≡ Err e
    → (r ≡ Err e → P) → ((x : A) → r ≡ Ok x → f x ≡ Err e → P) → P
stops P (Err d) f e h first later = let same : d ≡ e = cc in first (ap (λ x. Err x) same)
stops P (Ok x) f e h first later = later x refl h

-- and so does a chain of tests
stops_if : {A : Type 0} (P : PackageFault → Type 0) (b : Bool) (d e : PackageFault) (r : Result A PackageFault) → (if b then Err d else r) ≡ Err e
    → (b ≡ true → P d) → (b ≡ false → r ≡ Err e → P e) → P e
stops_if P true d e r h first later = let same : d ≡ e = cc in subst P same (first refl)
stops_if P false d e r h first later = later refl h

not_true : (b : Bool) → not b ≡ true → b ≡ false
not_true false h = refl
not_true true h = absurd (cc)

-- the identifier is found exactly if the bytes begin with it
unnamed : (bytes : List ℕ) → starts_with nat_eq bytes package_identifier ≡ false → take 16 bytes ≢ package_identifier
unnamed bytes h is =
    let named : starts_with nat_eq bytes package_identifier ≡ true =
    (starts_is Decides-eqb bytes package_identifier (starts_with nat_eq bytes package_identifier) refl).1 (drop 16 bytes) (sym (take-append-drop 16 bytes) ∙ ap (λ xs. xs ++ drop 16 bytes) is) in
    absurd (cc)

named : (bytes : List ℕ) → starts_with nat_eq bytes package_identifier ≡ true → take 16 bytes ≡ package_identifier
named bytes h = ap (take 16) ((starts_is Decides-eqb bytes package_identifier (starts_with nat_eq bytes package_identifier) refl).0 h)

header_fault : (bytes : List ℕ) (e : PackageFault) → header_of bytes ≡ Err e → IsFirstPackageFault bytes e
unfolding header_of
header_fault bytes e h =
    stops_if (IsFirstPackageFault bytes) (nat_lt (length bytes) 36) faults.Short e _ h (λ short. ltb-true (length bytes) 36 short) (λ long h1.
    stops_if (IsFirstPackageFault bytes) (not (starts_with nat_eq bytes package_identifier)) faults.Identifier e _ h1
    (λ other. (ltb-false (length bytes) 36 long, unnamed bytes (not_true (starts_with nat_eq bytes package_identifier) other))) (λ same h2.
    let begins : IsIdentified bytes = record {
      long = ltb-false (length bytes) 36 long;
      identified = named bytes (not_false (starts_with nat_eq bytes package_identifier) same);
    } in
    stops_if (IsFirstPackageFault bytes) (not (slice_index bytes 16 == 1)) faults.Revision e _ h2
    (λ other. (begins, not_equal (slice_index bytes 16) 1 (not_true (slice_index bytes 16 == 1) other))) (λ same h3.
    let revised : IsRevised bytes = record { begins = begins; revised = eqb-true (slice_index bytes 16) 1 (not_false (slice_index bytes 16 == 1) same) } in
    stops_if (IsFirstPackageFault bytes) (nat_lt (length bytes) (size_in bytes)) faults.HeaderSize e _ h3
    (λ short. (revised, λ fits. let less = ltb-true (length bytes) (size_in bytes) short in absurd (omega (arith, less, fits)))) (λ fits h4. absurd (cc)))))

-- a header that is read
long_from : (b : Bool) (bytes header : List ℕ) (r : Result (List ℕ) PackageFault) → nat_lt (length bytes) 36 ≡ b
    → (if b then Err faults.Short else r) ≡ Ok header → 36 ≤ length bytes
long_from false bytes header r is h = ltb-false (length bytes) 36 is
long_from true bytes header r is h = absurd (cc)

header_begins : (bytes header : List ℕ) → header_of bytes ≡ Ok header → 36 ≤ length bytes
unfolding header_of
header_begins bytes header h = long_from (nat_lt (length bytes) 36) bytes header _ refl h

revised_header : (bytes header : List ℕ) → header_of bytes ≡ Ok header → IsRevised bytes
revised_header bytes header h =
    let built = header_built bytes header h in
    record {
      begins = record { long = header_begins bytes header h; identified = named bytes built.identified };
      revised = built.revised;
    }

no_parts : (o : Option LayoutOf) (e : PackageFault) → parts_of o ≡ Err e → (faults.HeaderSize ≡ e) × (o ≡ None)
no_parts None e h = (cc, refl)
no_parts (Some l) e h = absurd (cc)

bitmap_fault : (bits count : ℕ) (e : PackageFault) → bitmap_size_of bits count ≡ Err e → faults.BitmapLength ≡ e
unfolding bitmap_size_of
bitmap_fault bits count e h =
    stops_if (λ d. faults.BitmapLength ≡ d) ((bits == 0) || (not (bits % 8 == 0) || nat_lt bits count)) faults.BitmapLength e (Ok (bits / 8)) h (λ t. refl) (λ f h1. absurd (cc))

no_bitmaps : (bits count : ℕ) (e : PackageFault) → bitmap_size_of bits count ≡ Err e → (faults.BitmapLength ≡ e) × ¬ HasBitmaps bits count
no_bitmaps bits count e h = (bitmap_fault bits count e h, λ is. let read = bitmap_reads bits count is.there is.whole is.enough in absurd (cc))

-- only RecordLength stops the reading of records
abbrev StopsAtLength : {A : Type 0} → Result A PackageFault → Type 0
StopsAtLength r = IfErr r (λ e. faults.RecordLength ≡ e)

then_length : {A B : Type 0} (r : Result A PackageFault) (f : A → Result B PackageFault) → StopsAtLength r → ((x : A) → StopsAtLength (f x)) → StopsAtLength (r >>= f)
then_length (Ok x) f h later = later x
then_length (Err e) f h later = h

if_length : {A : Type 0} (b : Bool) (x : A) → StopsAtLength (if b then Err faults.RecordLength else Ok x)
if_length true x = refl
if_length false x = tt

else_length : {A : Type 0} (b : Bool) (x : A) → StopsAtLength (if b then Ok x else Err faults.RecordLength)
else_length true x = tt
else_length false x = refl

split_length : (n : ℕ) (bytes : List ℕ) → StopsAtLength (split_after n bytes)
split_length n bytes = if_length (nat_lt (length bytes) n) (take n bytes, drop n bytes)

descriptor_length : (bytes : List ℕ) → StopsAtLength (descriptor_split bytes)
unfolding descriptor_split
descriptor_length bytes =
    then_length (split_after 4 bytes) _ (split_length 4 bytes) (λ head.
    then_length (split_after (little_number 2 (drop 2 head.0)) head.1) _ (split_length (little_number 2 (drop 2 head.0)) head.1) (λ content. tt))

descriptors_length : (n : ℕ) (bytes : List ℕ) → StopsAtLength (descriptors_split n bytes)
unfolding descriptors_split
descriptors_length zero bytes = tt
descriptors_length (suc n) bytes =
    then_length (descriptor_split bytes) _ (descriptor_length bytes) (λ first.
    then_length (descriptors_split n first.1) _ (descriptors_length n first.1) (λ others. tt))

record_length : (size count : ℕ) (bytes : List ℕ) → StopsAtLength (record_of size count bytes)
unfolding record_of
record_length size count bytes =
    then_length (split_after 11 bytes) _ (split_length 11 bytes) (λ head.
    then_length (split_after size head.1) _ (split_length size head.1) (λ bitmap.
    then_length (split_after (slice_index head.0 8) bitmap.1) _ (split_length (slice_index head.0 8) bitmap.1) (λ text.
    then_length (descriptors_split (slice_index head.0 2) text.1) _ (descriptors_length (slice_index head.0 2) text.1) (λ descriptors.
    else_length (length descriptors.1 == little_number 2 (drop 9 head.0)) _))))

records_length : (size count n : ℕ) (bytes : List ℕ) → StopsAtLength (records_of size count n bytes)
unfolding records_of
records_length size count zero bytes = tt
records_length size count (suc n) bytes =
    then_length (record_of size count (take (little_number 2 bytes) bytes)) _ (record_length size count (take (little_number 2 bytes) bytes)) (λ first.
    then_length (records_of size count n (drop (little_number 2 bytes) bytes)) _ (records_length size count n (drop (little_number 2 bytes) bytes)) (λ others. tt))

stopped_at : {A : Type 0} (r : Result A PackageFault) (e : PackageFault) → StopsAtLength r → r ≡ Err e → (faults.RecordLength ≡ e) × ¬ IsOk r
stopped_at (Err d) e h is = let same : d ≡ e = cc in (h ∙ same, λ ok. absurd (cc))
stopped_at (Ok x) e h is = absurd (cc)

read_well : {A : Type 0} (r : Result A PackageFault) (x : A) → r ≡ Ok x → IsOk r
read_well (Ok y) x h = refl
read_well (Err e) x h = absurd (cc)

-- the checksum
unsigned_from : (b : Bool) (header before : List ℕ) (e : PackageFault) → (crc_of (take (length header - 4) header) == little_number 4 (drop (length header - 4) header)) ≡ b
    → (if b then Ok before else Err faults.Checksum) ≡ Err e → (faults.Checksum ≡ e) × ¬ IsSigned header
unsigned_from true header before e is h = absurd (cc)
unsigned_from false header before e is h =
    (cc, not_equal (crc_of (take (length header - 4) header)) (little_number 4 (drop (length header - 4) header)) is)

unsigned : (header : List ℕ) (e : PackageFault) → header_before_checksum header ≡ Err e → (faults.Checksum ≡ e) × ¬ IsSigned header
unfolding header_before_checksum
unsigned header e h = unsigned_from _ header (take (length header - 4) header) e refl h

signed_from : (b : Bool) (header before x : List ℕ) → (crc_of (take (length header - 4) header) == little_number 4 (drop (length header - 4) header)) ≡ b
    → (if b then Ok before else Err faults.Checksum) ≡ Ok x → IsSigned header
signed_from true header before x is h = eqb-true (crc_of (take (length header - 4) header)) (little_number 4 (drop (length header - 4) header)) is
signed_from false header before x is h = absurd (cc)

signed : (header x : List ℕ) → header_before_checksum header ≡ Ok x → IsSigned header
unfolding header_before_checksum
signed header x h = signed_from _ header (take (length header - 4) header) x refl h

-- the images
past_end : (b : Bool) (file bytes : List ℕ) (c : ComponentOf) (e : PackageFault) → nat_lt (length file) ((place_of bytes).offset + (place_of bytes).size) ≡ b
    → (if b then Err faults.ImageRange else Ok c) ≡ Err e → (faults.ImageRange ≡ e) × ¬ ((place_of bytes).offset + (place_of bytes).size ≤ length file)
past_end true file bytes c e is h =
    (cc, λ within. let past = ltb-true (length file) ((place_of bytes).offset + (place_of bytes).size) is in absurd (omega (arith, past, within)))
past_end false file bytes c e is h = absurd (cc)

component_past : (file bytes : List ℕ) (e : PackageFault) → component_of file bytes ≡ Err e
    → (faults.ImageRange ≡ e) × ¬ ((place_of bytes).offset + (place_of bytes).size ≤ length file)
unfolding component_of
component_past file bytes e h = past_end _ file bytes (component_at_place file (place_of bytes)) e refl h

no_images : (file : List ℕ) (n : ℕ) (bytes : List ℕ) (e : PackageFault) → components_of file n bytes ≡ Err e → (faults.ImageRange ≡ e) × ¬ HasImages file n bytes
unfolding components_of
no_images file zero bytes e h = absurd (cc)
no_images file (suc n) bytes e h =
    stops ((faults.ImageRange ≡ e) × ¬ HasImages file (suc n) bytes) (component_of file bytes) _ e h
    (λ first. let past = component_past file bytes e first in (past.0, λ all. past.1 all.0))
    (λ first first_is h1. stops ((faults.ImageRange ≡ e) × ¬ HasImages file (suc n) bytes) (components_of file n (drop (22 + text_size_of 21 bytes) bytes)) _ e h1
    (λ others. let past = no_images file n (drop (22 + text_size_of 21 bytes) bytes) e others in (past.0, λ all. past.1 all.1))
    (λ others others_is h2. absurd (cc)))

pub first_fault : (bytes : List ℕ) (e : PackageFault) → package_of bytes ≡ Err e → IsFirstPackageFault bytes e
unfolding package_of
first_fault bytes e h =
    stops (IsFirstPackageFault bytes e) (header_of bytes) _ e h (header_fault bytes e) (λ header header_is h1.
    let built = header_built bytes header header_is in
    let begins = revised_header bytes header header_is in
    stops (IsFirstPackageFault bytes e) (parts_of (layout_of header)) _ e h1
    (λ none. let no = no_parts (layout_of header) e none in
    subst (IsFirstPackageFault bytes) no.0 (begins, λ fits. ap layout_of built.is ∙ no.1)) (λ l l_is h2.
    let laid : IsLaidOut bytes l = record { begins = begins; fits = built.fits; ends = ap layout_of built.is ∙ some_layout (layout_of header) l l_is } in
    let bits_are : little_number 2 (drop 32 header) ≡ bits_in bytes = ap (λ xs. little_number 2 (drop 32 xs)) (sym built.is) in
    stops (IsFirstPackageFault bytes e) (bitmap_size_of (little_number 2 (drop 32 header)) l.component_count) _ e h2
    (λ none. let no = no_bitmaps (little_number 2 (drop 32 header)) l.component_count e none in
    subst (IsFirstPackageFault bytes) no.0 (l, laid, rw bits_are at no.1)) (λ size size_is h3.
    let bitmap = bitmap_built (little_number 2 (drop 32 header)) l.component_count size size_is in
    let bitmaps : HasBitmaps (bits_in bytes) l.component_count = rw (← bits_are) record { there = bitmap.there; whole = bitmap.whole; enough = bitmap.enough } in
    let size_in_bits : size ≡ bits_in bytes / 8 = sym bitmap.is ∙ ap (λ n. n / 8) bits_are in
    stops (IsFirstPackageFault bytes e) (records_of size l.component_count l.record_count l.records) _ e h3
    (λ none. let no = stopped_at (records_of size l.component_count l.record_count l.records) e (records_length size l.component_count l.record_count l.records) none in
    subst (IsFirstPackageFault bytes) no.0 (l, laid, bitmaps, rw size_in_bits at no.1)) (λ rs rs_is h4.
    let recorded : HasRecords bytes l = rw size_in_bits at (read_well (records_of size l.component_count l.record_count l.records) rs rs_is) in
    stops (IsFirstPackageFault bytes e) (header_before_checksum header) _ e h4
    (λ none. let no = unsigned header e none in
    subst (IsFirstPackageFault bytes) no.0 (l, laid, bitmaps, recorded, subst (λ xs. ¬ IsSigned xs) (sym built.is) no.1)) (λ before before_is h5.
    let signs : IsSigned (header_in bytes) = subst IsSigned (sym built.is) (signed header before before_is) in
    stops (IsFirstPackageFault bytes e) (components_of bytes l.component_count l.components) _ e h5
    (λ none. let no = no_images bytes l.component_count l.components e none in
    subst (IsFirstPackageFault bytes) no.0 (l, laid, bitmaps, recorded, signs, no.1)) (λ cs cs_is h6. absurd (cc)))))))
