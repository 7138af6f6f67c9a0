-- A header that is read is composed of its parts, and so is the package.
use Rattle.std.proofs.Common.{◌≡◌, ◌≢◌, ℕ, ◌+◌, ◌-◌, ◌/◌, ◌%◌, ◌≤◌, ◌∙◌, ◌==◌, ◌||◌, not, nat_eq, nat_lt, if◌then◌else◌, Bool, true, false, List, [], ◌∷◌, ◌++◌, Result, Ok, Err, Option, Some, None, length, take, drop, slice_index, refl, sym, ap, subst, arith, append_assoc}
use borrow.Author.Tests.{ltb-false}
use Rattle.std.proofs.lemmas.Bool.{eq-eqb, eqb-true}
use Rattle.std.proofs.lemmas.Bool.Decides.{Decides-eqb}
use Rattle.std.proofs.lemmas.List.{length-append, length-drop, length-take-le, take-append-drop, drop-drop}
use Rattle.std.proofs.lemmas.Slice.Eq.{starts_is}
use Rattle.std.specs.List.{starts_with}
use Rattle.std.specs.Option.{option_and_then}
use Rattle.byteorder.specs.Endian.{little_number}
use Rattle.fw_package.specs.Components.{components_of}
use Rattle.fw_package.specs.Crc.{crc_of}
use Rattle.fw_package.specs.Grammar.{IsPackage, two_bytes}
use Rattle.fw_package.specs.Layout.{LayoutOf, bytes_after, after_components, after_records, closed_layout, layout_from_components, layout_from_records, layout_of}
use Rattle.fw_package.specs.Package.{ComponentOf, PackageText, RecordOf}
use Rattle.fw_package.specs.Reading.{bitmap_size_of, header_before_checksum, header_of, package_identifier, package_of, parts_of, release_of, version_of}
use Rattle.fw_package.specs.Records.{records_of}
use Rattle.fw_package.specs.declared.fault.PackageFault.{PackageFault}
use Rattle.fw_package.specs.declared.fault.PackageFault.TheVariants as faults
use Rattle.fw_package.proofs.Built.{components_built, four, records_built, through}
use Rattle.fw_package.proofs.OnePackage.{before_more, before_of, tail_more, tail_of}
use Rattle.fw_package.proofs.Parts.{drop_front, take_front}

-- a list of 36 and more, by its places
record HasFronts (xs more : List ℕ) : Type 0 where
  spelled : xs ≡ take 16 xs ++ slice_index xs 16 ∷ slice_index xs 17 ∷ slice_index xs 18 ∷ (take 13 (drop 19 xs) ++ slice_index xs 32 ∷ slice_index xs 33 ∷ slice_index xs 34 ∷ slice_index xs 35 ∷ drop 36 xs)
  released : length (take 13 (drop 19 xs)) ≡ 13
  identified : take 16 (xs ++ more) ≡ take 16 xs
  revised : slice_index (xs ++ more) 16 ≡ slice_index xs 16
  sized : little_number 2 (drop 17 (xs ++ more)) ≡ two_bytes (slice_index xs 17) (slice_index xs 18)
  bits : little_number 2 (drop 32 xs) ≡ two_bytes (slice_index xs 32) (slice_index xs 33)

fronts : (xs more : List ℕ) → 36 ≤ length xs → HasFronts xs more
fronts (i0 ∷ i1 ∷ i2 ∷ i3 ∷ i4 ∷ i5 ∷ i6 ∷ i7 ∷ i8 ∷ i9 ∷ i10 ∷ i11 ∷ i12 ∷ i13 ∷ i14 ∷ i15 ∷ rev ∷ h0 ∷ h1 ∷ r0 ∷ r1 ∷ r2 ∷ r3 ∷ r4 ∷ r5 ∷ r6 ∷ r7 ∷ r8 ∷ r9 ∷ r10 ∷ r11 ∷ r12 ∷ b0 ∷ b1 ∷ kind ∷ t ∷ xs) more long =
    record { spelled = refl; released = refl; identified = refl; revised = refl; sized = refl; bits = refl }
fronts xs more long = absurd (omega (arith, long))

-- a chain of tests that returns a value passed each
else_ok : {A : Type 0} (b : Bool) (e : PackageFault) (r : Result A PackageFault) (y : A) → (if b then Err e else r) ≡ Ok y → (b ≡ false) × (r ≡ Ok y)
else_ok false e r y h = (refl, h)
else_ok true e r y h = absurd (cc)

then_some : {A : Type 0} (b : Bool) (x y : A) → (if b then Some x else None) ≡ Some y → (b ≡ true) × (x ≡ y)
then_some true x y h = (refl, cc)
then_some false x y h = absurd (cc)

pub not_false : (b : Bool) → not b ≡ false → b ≡ true
not_false true h = refl
not_false false h = absurd (cc)

pub record HeaderBuilt (bytes header : List ℕ) : Type 0 where
  pub identified : starts_with nat_eq bytes package_identifier ≡ true
  pub revised : slice_index bytes 16 ≡ 1
  pub fits : little_number 2 (drop 17 bytes) ≤ length bytes
  pub is : take (little_number 2 (drop 17 bytes)) bytes ≡ header

pub header_built : (bytes header : List ℕ) → header_of bytes ≡ Ok header → HeaderBuilt bytes header
unfolding header_of
header_built bytes header h =
    let long = else_ok (nat_lt (length bytes) 36) faults.Short _ header h in
    let named = else_ok (not (starts_with nat_eq bytes package_identifier)) faults.Identifier _ header long.1 in
    let revised = else_ok (not (slice_index bytes 16 == 1)) faults.Revision _ header named.1 in
    let sized = else_ok (nat_lt (length bytes) (little_number 2 (drop 17 bytes))) faults.HeaderSize _ header revised.1 in
    record {
      identified = not_false (starts_with nat_eq bytes package_identifier) named.0;
      revised = eqb-true (slice_index bytes 16) 1 (not_false (slice_index bytes 16 == 1) revised.0);
      fits = ltb-false (length bytes) (little_number 2 (drop 17 bytes)) sized.0;
      is = let e = sized.1 in cc;
    }

-- an option with a value went through one
record GoesOn {A B : Type 0} (o : Option A) (f : A → Option B) (y : B) : Type 0 where
  value : A
  is : o ≡ Some value
  gives : f value ≡ Some y

goes_on : {A B : Type 0} (o : Option A) (f : A → Option B) (y : B) → option_and_then f o ≡ Some y → GoesOn o f y
goes_on (Some x) f y h = record { value = x; is = refl; gives = h }
goes_on None f y h = absurd (cc)

after_from : (cut : Bool) (n : ℕ) (bytes rest : List ℕ) → nat_lt (length bytes) n ≡ cut → (if cut then None else Some (drop n bytes)) ≡ Some rest → (n ≤ length bytes) × (drop n bytes ≡ rest)
after_from true n bytes rest e h = absurd (cc)
after_from false n bytes rest e h = (ltb-false (length bytes) n e, cc)

after_is : (n : ℕ) (bytes rest : List ℕ) → bytes_after n bytes ≡ Some rest → (n ≤ length bytes) × (drop n bytes ≡ rest)
after_is n bytes rest h = after_from (nat_lt (length bytes) n) n bytes rest refl h

record LayoutBuilt (header : List ℕ) (l : LayoutOf) : Type 0 where
  long : 36 + slice_index header 35 ≤ length header
  counted : drop (36 + slice_index header 35) header ≡ l.record_count ∷ l.records
  between : List ℕ
  walked : after_records l.record_count l.records ≡ Some between
  two : 2 ≤ length between
  number : little_number 2 between ≡ l.component_count
  rest_is : drop 2 between ≡ l.components
  sum : List ℕ
  components_walked : after_components l.component_count l.components ≡ Some sum
  closed : length sum ≡ 4

layout_with_records : (header starts : List ℕ) (l : LayoutOf) → layout_from_records starts ≡ Some l → 36 + slice_index header 35 ≤ length header → drop (36 + slice_index header 35) header ≡ starts → LayoutBuilt header l
layout_with_records header [] l h long is = absurd (cc)
layout_with_records header (m ∷ records) l h long is =
    let walked = goes_on (after_records m records) (layout_from_components m records) l h in
    let after_two = goes_on (bytes_after 2 walked.value) _ l walked.gives in
    let two = after_is 2 walked.value after_two.value after_two.is in
    let ended = goes_on (after_components (little_number 2 walked.value) after_two.value) (closed_layout m records (little_number 2 walked.value) after_two.value) l after_two.gives in
    let closed = then_some (length ended.value == 4) (record { record_count = m; records = records; component_count = little_number 2 walked.value; components = after_two.value }) l ended.gives in
    subst (LayoutBuilt header) closed.1
    (record {
      long = long;
      counted = is;
      between = walked.value;
      walked = walked.is;
      two = two.0;
      number = refl;
      rest_is = two.1;
      sum = ended.value;
      components_walked = ended.is;
      closed = eqb-true (length ended.value) 4 closed.0;
    })

layout_built : (header : List ℕ) (l : LayoutOf) → layout_of header ≡ Some l → LayoutBuilt header l
unfolding layout_of
layout_built header l h =
    let start = goes_on (bytes_after (36 + slice_index header 35) header) layout_from_records l h in
    let there = after_is (36 + slice_index header 35) header start.value start.is in
    layout_with_records header start.value l start.gives there.0 there.1

either_false : (a b : Bool) → (a || b) ≡ false → (a ≡ false) × (b ≡ false)
either_false false b h = (refl, h)
either_false true b h = absurd (cc)

pub not_equal : (a b : ℕ) → (a == b) ≡ false → a ≢ b
not_equal a b h e = let same : (a == b) ≡ true = eq-eqb a b e in absurd (cc)

pub record BitmapBuilt (bits count size : ℕ) : Type 0 where
  pub there : bits ≢ 0
  pub whole : bits % 8 ≡ 0
  pub enough : count ≤ bits
  pub is : bits / 8 ≡ size

pub bitmap_built : (bits count size : ℕ) → bitmap_size_of bits count ≡ Ok size → BitmapBuilt bits count size
unfolding bitmap_size_of
bitmap_built bits count size h =
    let tests = else_ok ((bits == 0) || (not (bits % 8 == 0) || nat_lt bits count)) faults.BitmapLength (Ok (bits / 8)) size h in
    let first = either_false (bits == 0) (not (bits % 8 == 0) || nat_lt bits count) tests.0 in
    let second = either_false (not (bits % 8 == 0)) (nat_lt bits count) first.1 in
    record {
      there = not_equal bits 0 first.0;
      whole = eqb-true (bits % 8) 0 (not_false (bits % 8 == 0) second.0);
      enough = ltb-false bits count second.1;
      is = let e = tests.1 in cc;
    }

if_true : {A : Type 0} (b : Bool) (x y : A) (e : PackageFault) → (if b then Ok x else Err e) ≡ Ok y → b ≡ true
if_true true x y e h = refl
if_true false x y e h = absurd (cc)

-- the checksum of a header that is checked
signed_built : (before sum checked_before : List ℕ) → length sum ≡ 4 → header_before_checksum (before ++ sum) ≡ Ok checked_before → crc_of before ≡ little_number 4 sum
unfolding header_before_checksum
signed_built before sum checked_before closed h =
    let all = length-append before sum in
    let front : take (length (before ++ sum) - 4) (before ++ sum) ≡ before = take_front before sum (length (before ++ sum) - 4) (omega arith) in
    let back : drop (length (before ++ sum) - 4) (before ++ sum) ≡ sum = drop_front before sum (length (before ++ sum) - 4) (omega arith) in
    let test = if_true (crc_of (take (length (before ++ sum) - 4) (before ++ sum)) == little_number 4 (drop (length (before ++ sum) - 4) (before ++ sum))) _ checked_before faults.Checksum h in
    rw (front, back) at (eqb-true (crc_of (take (length (before ++ sum) - 4) (before ++ sum))) (little_number 4 (drop (length (before ++ sum) - 4) (before ++ sum))) test)

-- a list of two and more
two_more : (xs : List ℕ) → 2 ≤ length xs → xs ≡ slice_index xs 0 ∷ slice_index xs 1 ∷ drop 2 xs
two_more (a ∷ b ∷ xs) two = refl
two_more xs two = absurd (omega (arith, two))

four_more : (xs : List ℕ) → length xs ≡ 4 → xs ≡ slice_index xs 0 ∷ slice_index xs 1 ∷ slice_index xs 2 ∷ slice_index xs 3 ∷ []
four_more = four (λ xs. xs ≡ slice_index xs 0 ∷ slice_index xs 1 ∷ slice_index xs 2 ∷ slice_index xs 3 ∷ []) (λ a b c d. refl)

pub some_layout : (o : Option LayoutOf) (l : LayoutOf) → parts_of o ≡ Ok l → o ≡ Some l
some_layout (Some x) l h = cc
some_layout None l h = absurd (cc)

-- equal parts are one header
spelled_as : (i j : List ℕ) (r q h0 h1 b0 b1 kind t u : ℕ) (release rest more : List ℕ) → i ≡ j → r ≡ q → t ≡ u → rest ≡ more
    → i ++ r ∷ h0 ∷ h1 ∷ (release ++ b0 ∷ b1 ∷ kind ∷ t ∷ rest) ≡ j ++ q ∷ h0 ∷ h1 ∷ (release ++ b0 ∷ b1 ∷ kind ∷ u ∷ more)
spelled_as i j r q h0 h1 b0 b1 kind t u release rest more ei er et em = rw (ei, er, et, em) refl

abbrev result_ok : PackageText → Result PackageText PackageFault
result_ok x = Ok x

-- equal results have equal values
same_value : (x y : PackageText) → result_ok x ≡ result_ok y → x ≡ y
same_value x y h = cc

abbrev package_with_header : List ℕ → List RecordOf → List ComponentOf → PackageText
package_with_header header rs cs =
    record { header_size = length header; release = release_of header; version = version_of header; records = rs; components = cs }

whole_built : (bytes header : List ℕ) (l : LayoutOf) (bitmap_size : ℕ) (rs : List RecordOf) (cs : List ComponentOf) (checked_before : List ℕ)
    → HeaderBuilt bytes header → LayoutBuilt header l → BitmapBuilt (little_number 2 (drop 32 header)) l.component_count bitmap_size
    → records_of bitmap_size l.component_count l.record_count l.records ≡ Ok rs → header_before_checksum header ≡ Ok checked_before → components_of bytes l.component_count l.components ≡ Ok cs
    → IsPackage bytes (package_with_header header rs cs)
whole_built bytes header l bitmap_size rs cs checked_before head walk bits records_are checked_is components_are =
    let size : ℕ = little_number 2 (drop 17 bytes) in
    let after : List ℕ = drop size bytes in
    let bytes_split : bytes ≡ header ++ after = sym (take-append-drop size bytes) ∙ ap (λ xs. xs ++ after) head.is in
    let long = walk.long in
    let f : HasFronts header after = fronts header after (omega arith) in
    let recorded = records_built bitmap_size l.component_count l.record_count l.records walk.between rs records_are walk.walked in
    let composed = components_built bytes l.component_count l.components walk.sum cs components_are walk.components_walked in
    let t : ℕ = slice_index header 35 in
    let version : List ℕ = take t (drop 36 header) in
    let n0 : ℕ = slice_index walk.between 0 in
    let n1 : ℕ = slice_index walk.between 1 in
    let h0 : ℕ = slice_index header 17 in
    let h1 : ℕ = slice_index header 18 in
    let b0 : ℕ = slice_index header 32 in
    let b1 : ℕ = slice_index header 33 in
    let kind : ℕ = slice_index header 34 in
    let release : List ℕ = take 13 (drop 19 header) in
    let records : List ℕ = recorded.first.front in
    let components : List ℕ = composed.first.front in
    let fixed = length-drop 36 header in
    let version_fits : length version ≡ t = length-take-le t (drop 36 header) (omega arith) in
    let between_is : walk.between ≡ n0 ∷ n1 ∷ (components ++ walk.sum) = two_more walk.between walk.two ∙ ap (λ xs. n0 ∷ n1 ∷ xs) (walk.rest_is ∙ composed.first.is) in
    let rest_is : drop 36 header ≡ tail_of l.record_count n0 n1 version records (components ++ walk.sum) =
    sym (take-append-drop t (drop 36 header)) ∙ ap (λ xs. version ++ xs) (drop-drop t 36 header ∙ walk.counted ∙ ap (λ xs. l.record_count ∷ xs) (recorded.first.is ∙ ap (λ xs. records ++ xs) between_is)) in
    let named : bytes ≡ package_identifier ++ drop 16 bytes = (starts_is Decides-eqb bytes package_identifier (starts_with nat_eq bytes package_identifier) refl).0 head.identified in
    let identified : take 16 header ≡ package_identifier = sym f.identified ∙ ap (take 16) (sym bytes_split) ∙ ap (take 16) named in
    let revised : slice_index header 16 ≡ 1 = sym f.revised ∙ ap (λ xs. slice_index xs 16) (sym bytes_split) ∙ head.revised in
    let before : List ℕ = before_of h0 h1 release (b0 ∷ b1 ∷ kind ∷ length version ∷ tail_of l.record_count n0 n1 version records components) in
    let header_is : header ≡ before ++ walk.sum = f.spelled
    ∙ spelled_as (take 16 header) package_identifier (slice_index header 16) 1 h0 h1 b0 b1 kind t (length version) release (drop 36 header) (tail_of l.record_count n0 n1 version records (components ++ walk.sum)) identified revised (sym version_fits) rest_is
    ∙ sym (before_more h0 h1 release (b0 ∷ b1 ∷ kind ∷ length version ∷ tail_of l.record_count n0 n1 version records components) walk.sum
    ∙ ap (λ xs. before_of h0 h1 release (b0 ∷ b1 ∷ kind ∷ length version ∷ xs)) (tail_more l.record_count n0 n1 version records components walk.sum)) in
    let sized : size ≡ length header = sym (length-take-le size bytes head.fits) ∙ ap length head.is in
    let all = length-append before walk.sum in
    let bits_are : two_bytes b0 b1 / 8 ≡ bitmap_size = ap (λ n. n / 8) (sym f.bits) ∙ bits.is in
    record {
      h0 = h0;
      h1 = h1;
      b0 = b0;
      b1 = b1;
      m = l.record_count;
      n0 = n0;
      n1 = n1;
      x0 = slice_index walk.sum 0;
      x1 = slice_index walk.sum 1;
      x2 = slice_index walk.sum 2;
      x3 = slice_index walk.sum 3;
      records = records;
      components = components;
      before = before;
      after = after;
      bytes_are = bytes_split ∙ ap (λ xs. xs ++ after) (header_is ∙ ap (λ xs. before ++ xs) (four_more walk.sum walk.closed))
          ∙ append_assoc before (slice_index walk.sum 0 ∷ slice_index walk.sum 1 ∷ slice_index walk.sum 2 ∷ slice_index walk.sum 3 ∷ []) after;
      before_is = refl;
      release_fits = f.released;
      size = sym f.sized ∙ ap (λ xs. little_number 2 (drop 17 xs)) (sym bytes_split) ∙ sized;
      whole = ap length header_is ∙ all ∙ ap (λ n. length before + n) walk.closed;
      signed = sym (signed_built before walk.sum checked_before walk.closed (subst (λ xs. header_before_checksum xs ≡ Ok checked_before) header_is checked_is));
      bits_there = λ e. bits.there (f.bits ∙ e);
      bits_whole = ap (λ n. n % 8) (sym f.bits) ∙ bits.whole;
      bits_enough = rw (composed.counted, ← f.bits) bits.enough;
      record_count = sym recorded.counted;
      component_count = walk.number ∙ sym composed.counted;
      recorded = rw (bits_are, composed.counted) recorded.first.hold;
      composed = composed.first.hold;
    }

pub package_built : (bytes : List ℕ) (p : PackageText) → package_of bytes ≡ Ok p → IsPackage bytes p
unfolding package_of
package_built bytes p h =
    let header = through (header_of bytes) _ p h in
    let layout = through (parts_of (layout_of header.value)) _ p header.gives in
    let bitmap = through (bitmap_size_of (little_number 2 (drop 32 header.value)) layout.value.component_count) _ p layout.gives in
    let records = through (records_of bitmap.value layout.value.component_count layout.value.record_count layout.value.records) _ p bitmap.gives in
    let signed = through (header_before_checksum header.value) _ p records.gives in
    let components = through (components_of bytes layout.value.component_count layout.value.components) _ p signed.gives in
    let same : package_with_header header.value records.value components.value ≡ p = same_value _ p components.gives in
    subst (IsPackage bytes) same
    (whole_built bytes header.value layout.value bitmap.value records.value components.value signed.value (header_built bytes header.value header.is)
    (layout_built header.value layout.value (some_layout (layout_of header.value) layout.value layout.is))
    (bitmap_built (little_number 2 (drop 32 header.value)) layout.value.component_count bitmap.value bitmap.is)
    records.is signed.is components.is)
