-- A package's bytes read as that package, so they are at most one package.
use Rattle.std.proofs.Common.{◌≡◌, ◌≢◌, ℕ, ◌+◌, ◌-◌, ◌/◌, ◌%◌, ◌≤◌, ◌∙◌, ne_eqb, nat_lt, if◌then◌else◌, false, List, [], ◌∷◌, ◌++◌, Ok, Err, Some, length, take, drop, slice_index, refl, sym, ap, subst, arith, append_assoc}
use Rattle.std.proofs.lemmas.Bool.{le-ltb, eq-eqb}
use Rattle.std.proofs.lemmas.List.{drop-drop, length-append, length-drop}
use Rattle.byteorder.specs.Endian.{little_number}
use Rattle.fw_package.specs.declared.fault.PackageFault.TheVariants as faults
use Rattle.fw_package.specs.Crc.{crc_of}
use Rattle.fw_package.specs.Components.{components_of}
use Rattle.fw_package.specs.Grammar.{AreInTurn, IsComponent, IsPackage, IsRecord, four_bytes, two_bytes}
use Rattle.fw_package.specs.Layout.{after_components, after_records, layout_of}
use Rattle.fw_package.specs.Package.{ComponentOf, PackageText, RecordOf, TextOf}
use Rattle.fw_package.specs.Reading.{bitmap_size_of, header_before_checksum, header_of, package_identifier, package_of, release_of, version_of}
use Rattle.fw_package.specs.Records.{records_of}
use Rattle.fw_package.proofs.Parts.{after_front, components_reads, components_walked, drop_front, records_reads, records_walked, take_front}

-- a list of thirteen
thirteen : (P : List ℕ → Type 0) → ((a b c d e f g h i j k l m : ℕ) → P (a ∷ b ∷ c ∷ d ∷ e ∷ f ∷ g ∷ h ∷ i ∷ j ∷ k ∷ l ∷ m ∷ [])) → (xs : List ℕ) → length xs ≡ 13 → P xs
thirteen P holds (a ∷ b ∷ c ∷ d ∷ e ∷ f ∷ g ∷ h ∷ i ∷ j ∷ k ∷ l ∷ m ∷ []) fits = holds a b c d e f g h i j k l m
thirteen P holds xs fits = absurd (omega (arith, fits))

-- the bytes of a header from its identifier on
abbrev pub before_of : (h0 h1 : ℕ) (release tail : List ℕ) → List ℕ
before_of h0 h1 release tail = package_identifier ++ 1 ∷ h0 ∷ h1 ∷ (release ++ tail)

-- the places of the fixed part
record HasPlaces (h0 h1 b0 b1 kind t : ℕ) (release rest bytes : List ℕ) : Type 0 where
  long : 36 ≤ length bytes
  header : header_of bytes ≡ (if nat_lt (length bytes) (two_bytes h0 h1) then Err faults.HeaderSize else Ok (take (two_bytes h0 h1) bytes))
  bits : little_number 2 (drop 32 bytes) ≡ two_bytes b0 b1
  released : take 13 (drop 19 bytes) ≡ release
  kind_is : slice_index bytes 34 ≡ kind
  text : slice_index bytes 35 ≡ t
  after : drop 36 bytes ≡ rest

places_at : (h0 h1 b0 b1 kind t : ℕ) (rest : List ℕ) (a b c d e f g h i j k l m : ℕ)
    → HasPlaces h0 h1 b0 b1 kind t (a ∷ b ∷ c ∷ d ∷ e ∷ f ∷ g ∷ h ∷ i ∷ j ∷ k ∷ l ∷ m ∷ []) rest (before_of h0 h1 (a ∷ b ∷ c ∷ d ∷ e ∷ f ∷ g ∷ h ∷ i ∷ j ∷ k ∷ l ∷ m ∷ []) (b0 ∷ b1 ∷ kind ∷ t ∷ rest))
unfolding header_of
places_at h0 h1 b0 b1 kind t rest a b c d e f g h i j k l m =
    let bytes : List ℕ = before_of h0 h1 (a ∷ b ∷ c ∷ d ∷ e ∷ f ∷ g ∷ h ∷ i ∷ j ∷ k ∷ l ∷ m ∷ []) (b0 ∷ b1 ∷ kind ∷ t ∷ rest) in
    let enough : 36 ≤ length bytes = omega arith in
    record {
      long = enough;
      header = rw (le-ltb (length bytes) 36 enough) refl;
      bits = refl;
      released = refl;
      kind_is = refl;
      text = refl;
      after = refl;
    }

places : (h0 h1 b0 b1 kind t : ℕ) (release rest : List ℕ) → length release ≡ 13 → HasPlaces h0 h1 b0 b1 kind t release rest (before_of h0 h1 release (b0 ∷ b1 ∷ kind ∷ t ∷ rest))
places h0 h1 b0 b1 kind t release rest =
    thirteen (λ r. HasPlaces h0 h1 b0 b1 kind t r rest (before_of h0 h1 r (b0 ∷ b1 ∷ kind ∷ t ∷ rest))) (λ a b c d e f g h i j k l m. places_at h0 h1 b0 b1 kind t rest a b c d e f g h i j k l m) release

pub before_more : (h0 h1 : ℕ) (release tail more : List ℕ) → before_of h0 h1 release tail ++ more ≡ before_of h0 h1 release (tail ++ more)
before_more h0 h1 release tail more = ap (λ r. package_identifier ++ 1 ∷ h0 ∷ h1 ∷ r) (append_assoc release tail more)

-- the parts of a header after its fixed part
abbrev pub tail_of : (m n0 n1 : ℕ) (version records components : List ℕ) → List ℕ
tail_of m n0 n1 version records components = version ++ m ∷ (records ++ n0 ∷ n1 ∷ components)

pub tail_more : (m n0 n1 : ℕ) (version records components more : List ℕ) → tail_of m n0 n1 version records components ++ more ≡ tail_of m n0 n1 version records (components ++ more)
tail_more m n0 n1 version records components more =
    append_assoc version (m ∷ (records ++ n0 ∷ n1 ∷ components)) more ∙ ap (λ r. version ++ m ∷ r) (append_assoc records (n0 ∷ n1 ∷ components) more)

-- the header has the length in it
header_reads : (h0 h1 b0 b1 kind t size : ℕ) (release tail sum after : List ℕ) → length release ≡ 13 → length sum ≡ 4 → two_bytes h0 h1 ≡ length (before_of h0 h1 release (b0 ∷ b1 ∷ kind ∷ t ∷ tail)) + 4
    → header_of (before_of h0 h1 release (b0 ∷ b1 ∷ kind ∷ t ∷ tail) ++ (sum ++ after)) ≡ Ok (before_of h0 h1 release (b0 ∷ b1 ∷ kind ∷ t ∷ tail) ++ sum)
header_reads h0 h1 b0 b1 kind t size release tail sum after fits four whole =
    let before : List ℕ = before_of h0 h1 release (b0 ∷ b1 ∷ kind ∷ t ∷ tail) in
    let bytes : List ℕ = before ++ (sum ++ after) in
    let at : HasPlaces h0 h1 b0 b1 kind t release (tail ++ (sum ++ after)) bytes
    = subst (HasPlaces h0 h1 b0 b1 kind t release (tail ++ (sum ++ after))) (sym (before_more h0 h1 release (b0 ∷ b1 ∷ kind ∷ t ∷ tail) (sum ++ after))) (places h0 h1 b0 b1 kind t release (tail ++ (sum ++ after)) fits) in
    let all = length-append before (sum ++ after) in
    let more = length-append sum after in
    let signed = length-append before sum in
    let there : nat_lt (length bytes) (two_bytes h0 h1) ≡ false = le-ltb (length bytes) (two_bytes h0 h1) (omega arith) in
    let front : take (two_bytes h0 h1) bytes ≡ before ++ sum = ap (take (two_bytes h0 h1)) (sym (append_assoc before sum after)) ∙ take_front (before ++ sum) after (two_bytes h0 h1) (omega arith) in
    at.header ∙ (rw (there, front) refl)

-- its parts end at its end
layout_reads : (h0 h1 b0 b1 kind m n0 n1 size count : ℕ) (release version records components sum file : List ℕ) (rs : List RecordOf) (cs : List ComponentOf) → length release ≡ 13 → length sum ≡ 4
    → m ≡ length rs → two_bytes n0 n1 ≡ length cs → AreInTurn (IsRecord size count) records rs → AreInTurn (IsComponent file) components cs
    → layout_of (before_of h0 h1 release (b0 ∷ b1 ∷ kind ∷ length version ∷ tail_of m n0 n1 version records (components ++ sum)))
    ≡ Some (record { record_count = m; records = records ++ n0 ∷ n1 ∷ (components ++ sum); component_count = two_bytes n0 n1; components = components ++ sum })
unfolding layout_of
layout_reads h0 h1 b0 b1 kind m n0 n1 size count release version records components sum file rs cs fits four ms ns recorded composed =
    let rest : List ℕ = tail_of m n0 n1 version records (components ++ sum) in
    let header : List ℕ = before_of h0 h1 release (b0 ∷ b1 ∷ kind ∷ length version ∷ rest) in
    let at : HasPlaces h0 h1 b0 b1 kind (length version) release rest header = places h0 h1 b0 b1 kind (length version) release rest fits in
    let after_fixed : length (drop 36 header) ≡ length header - 36 = length-drop 36 header in
    let tail_long : length (drop 36 header) ≡ length rest = ap length at.after in
    let version_long = length-append version (m ∷ (records ++ n0 ∷ n1 ∷ (components ++ sum))) in
    let enough = at.long in
    let there : nat_lt (length header) (36 + length version) ≡ false = le-ltb (length header) (36 + length version) (omega arith) in
    let from : drop (36 + length version) header ≡ m ∷ (records ++ n0 ∷ n1 ∷ (components ++ sum)) =
    sym (drop-drop (length version) 36 header) ∙ ap (drop (length version)) at.after ∙ drop_front version (m ∷ (records ++ n0 ∷ n1 ∷ (components ++ sum))) (length version) refl in
    let records_end : after_records m (records ++ n0 ∷ n1 ∷ (components ++ sum)) ≡ Some (n0 ∷ n1 ∷ (components ++ sum)) =
    ap (λ n. after_records n (records ++ n0 ∷ n1 ∷ (components ++ sum))) ms ∙ records_walked size count records (n0 ∷ n1 ∷ (components ++ sum)) rs recorded in
    let components_end : after_components (two_bytes n0 n1) (components ++ sum) ≡ Some sum =
    ap (λ n. after_components n (components ++ sum)) ns ∙ components_walked file components sum cs composed in
    rw (at.text, there, from, records_end, after_front (n0 ∷ n1 ∷ []) (components ++ sum) 2 refl, components_end, four) refl

pub bitmap_reads : (bits count : ℕ) → bits ≢ 0 → bits % 8 ≡ 0 → count ≤ bits → bitmap_size_of bits count ≡ Ok (bits / 8)
unfolding bitmap_size_of
bitmap_reads bits count there whole enough = rw (ne_eqb bits 0 there, eq-eqb (bits % 8) 0 whole, le-ltb bits count enough) refl

checked_reads : (x0 x1 x2 x3 : ℕ) (before : List ℕ) → four_bytes x0 x1 x2 x3 ≡ crc_of before → header_before_checksum (before ++ x0 ∷ x1 ∷ x2 ∷ x3 ∷ []) ≡ Ok before
unfolding header_before_checksum
checked_reads x0 x1 x2 x3 before signed =
    let all = length-append before (x0 ∷ x1 ∷ x2 ∷ x3 ∷ []) in
    let front : take (length (before ++ x0 ∷ x1 ∷ x2 ∷ x3 ∷ []) - 4) (before ++ x0 ∷ x1 ∷ x2 ∷ x3 ∷ []) ≡ before = take_front before (x0 ∷ x1 ∷ x2 ∷ x3 ∷ []) (length (before ++ x0 ∷ x1 ∷ x2 ∷ x3 ∷ []) - 4) (omega arith) in
    let back : drop (length (before ++ x0 ∷ x1 ∷ x2 ∷ x3 ∷ []) - 4) (before ++ x0 ∷ x1 ∷ x2 ∷ x3 ∷ []) ≡ x0 ∷ x1 ∷ x2 ∷ x3 ∷ [] = drop_front before (x0 ∷ x1 ∷ x2 ∷ x3 ∷ []) (length (before ++ x0 ∷ x1 ∷ x2 ∷ x3 ∷ []) - 4) (omega arith) in
    rw (front, back, eq-eqb (crc_of before) (four_bytes x0 x1 x2 x3) (sym signed)) refl

-- the version text, by its places
version_reads : (v : TextOf) (header rest : List ℕ) → slice_index header 34 ≡ v.kind → slice_index header 35 ≡ length v.bytes → drop 36 header ≡ v.bytes ++ rest → version_of header ≡ v
version_reads v header rest kind long after = rw (kind, long, after, take_front v.bytes rest (length v.bytes) refl) refl

pub package_reads : (bytes : List ℕ) (p : PackageText) → IsPackage bytes p → package_of bytes ≡ Ok p
unfolding package_of
package_reads bytes p k =
    let version : List ℕ = p.version.bytes in
    let sum : List ℕ = k.x0 ∷ k.x1 ∷ k.x2 ∷ k.x3 ∷ [] in
    let tail : List ℕ = tail_of k.m k.n0 k.n1 version k.records k.components in
    let before : List ℕ = before_of k.h0 k.h1 p.release (k.b0 ∷ k.b1 ∷ p.version.kind ∷ length version ∷ tail) in
    let whole : two_bytes k.h0 k.h1 ≡ length before + 4 = k.size ∙ k.whole ∙ ap (λ xs. length xs + 4) k.before_is in
    let header_is : header_of bytes ≡ Ok (before ++ sum) = ap header_of (k.bytes_are ∙ ap (λ xs. xs ++ (sum ++ k.after)) k.before_is)
    ∙ header_reads k.h0 k.h1 k.b0 k.b1 p.version.kind (length version) 0 p.release tail sum k.after k.release_fits refl whole in
    let spelled : before ++ sum ≡ before_of k.h0 k.h1 p.release (k.b0 ∷ k.b1 ∷ p.version.kind ∷ length version ∷ tail_of k.m k.n0 k.n1 version k.records (k.components ++ sum)) =
    before_more k.h0 k.h1 p.release (k.b0 ∷ k.b1 ∷ p.version.kind ∷ length version ∷ tail) sum
    ∙ ap (λ xs. before_of k.h0 k.h1 p.release (k.b0 ∷ k.b1 ∷ p.version.kind ∷ length version ∷ xs)) (tail_more k.m k.n0 k.n1 version k.records k.components sum) in
    let layout_is = ap layout_of spelled ∙ layout_reads k.h0 k.h1 k.b0 k.b1 p.version.kind k.m k.n0 k.n1 (two_bytes k.b0 k.b1 / 8) (length p.components) p.release version k.records k.components sum bytes p.records p.components k.release_fits refl k.record_count k.component_count k.recorded k.composed in
    let at = places k.h0 k.h1 k.b0 k.b1 p.version.kind (length version) p.release (tail_of k.m k.n0 k.n1 version k.records (k.components ++ sum)) k.release_fits in
    let bits : little_number 2 (drop 32 (before ++ sum)) ≡ two_bytes k.b0 k.b1 = ap (λ xs. little_number 2 (drop 32 xs)) spelled ∙ at.bits in
    let bitmap_is : bitmap_size_of (two_bytes k.b0 k.b1) (length p.components) ≡ Ok (two_bytes k.b0 k.b1 / 8) = bitmap_reads (two_bytes k.b0 k.b1) (length p.components) k.bits_there k.bits_whole k.bits_enough in
    let records_are : records_of (two_bytes k.b0 k.b1 / 8) (length p.components) k.m (k.records ++ k.n0 ∷ k.n1 ∷ (k.components ++ sum)) ≡ Ok p.records =
    ap (λ n. records_of (two_bytes k.b0 k.b1 / 8) (length p.components) n (k.records ++ k.n0 ∷ k.n1 ∷ (k.components ++ sum))) k.record_count
    ∙ records_reads (two_bytes k.b0 k.b1 / 8) (length p.components) k.records (k.n0 ∷ k.n1 ∷ (k.components ++ sum)) p.records k.recorded in
    let checked_is : header_before_checksum (before ++ sum) ≡ Ok before = checked_reads k.x0 k.x1 k.x2 k.x3 before (k.signed ∙ ap crc_of k.before_is) in
    let components_are : components_of bytes (length p.components) (k.components ++ sum) ≡ Ok p.components = components_reads bytes k.components sum p.components k.composed in
    let all = length-append before sum in
    let release_is : release_of (before ++ sum) ≡ p.release = ap release_of spelled ∙ at.released in
    let version_is : version_of (before ++ sum) ≡ p.version =
    ap version_of spelled ∙ version_reads p.version (before_of k.h0 k.h1 p.release (k.b0 ∷ k.b1 ∷ p.version.kind ∷ length version ∷ tail_of k.m k.n0 k.n1 version k.records (k.components ++ sum)))
    (k.m ∷ (k.records ++ k.n0 ∷ k.n1 ∷ (k.components ++ sum))) at.kind_is at.text at.after in
    let size : length (before ++ sum) ≡ p.header_size = all ∙ sym whole ∙ k.size in
    rw (header_is, layout_is, bits, k.component_count, bitmap_is, records_are, checked_is, components_are, size, release_is, version_is) refl

pub package_once : (bytes : List ℕ) (p q : PackageText) → IsPackage bytes p → IsPackage bytes q → p ≡ q
package_once bytes p q is also =
    let one = package_reads bytes p is in
    let other = package_reads bytes q also in
    cc
