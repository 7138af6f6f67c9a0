-- A written header is that of the given package.
use Rattle.std.proofs.Common.{◌≡◌, ◌≢◌, take, drop, Bool, true, false, not, if◌then◌else◌, Option, Some, None, nat_le, ◌&&◌, get_or, ℕ, suc, ◌+◌, ◌*◌, ◌/◌, ◌%◌, ◌<◌, ◌≤◌, ◌∙◌, All, List, [], ◌∷◌, ◌++◌, length, map, refl, sym, ap, arith, append_assoc, length-append}
use Rattle.byteorder.specs.Endian.{little_bytes}
use Rattle.byteorder.specs.Numbers.{little_number-reads_back}
use Rattle.std.specs.List.{concat, flat_map, list_all, sum_by}
use Rattle.std.proofs.lemmas.Bool.{and_parts, leb-true}
use Rattle.std.proofs.lemmas.List.{append-nil, length-map}
use Rattle.std.proofs.lemmas.List.Concat.{length-flat_map}
use Rattle.std.proofs.lemmas.List.FromFn.{length-map-range_with_len}
use Rattle.std.proofs.lemmas.List.Sums.{AllPass-from_list_all, sum_by-cons}
use Rattle.fw_package.specs.Asked.{AskedComponentOf, AskedPackageOf, AskedRecordOf, all_fits, package_for, asked_component_of, asked_package_of, asked_record_of, components_asked, record_asked, are_uses, bitmap_size_for, component_fits, component_size, descriptor_size, header_size, images_size, parts_fit, record_fits, record_size, records_size, refusal_of, text_fits, uses_fit}
use Rattle.fw_package.specs.Package.{DescriptorOf}
use Rattle.fw_package.specs.Crc.{crc_of}
use Rattle.fw_package.specs.Grammar.{AreInTurn, IsComponent, IsDescriptor, IsPackage, IsRecord, four_bytes, two_bytes}
use Rattle.fw_package.specs.Views.{IsFit}
use Rattle.fw_package.specs.declared.asked.AskedFault.{AskedFault}
use Rattle.fw_package.specs.declared.asked.AskedPackage.{AskedPackage}
use Rattle.fw_package.specs.declared.asked.AskedFault.TheVariants.{Limit, Uses}
use Rattle.fw_package.specs.Writing.{HasAskedComponentWidths, HasRecordWidths, HasAskedWidths, component_bytes, IsHeaderOf, bitmap_byte, bitmap_of, body_bytes, components_bytes, descriptor_bytes, header_bytes, opening_bytes, record_bytes}
use Rattle.fw_package.proofs.NamedBack.{named_back, uses_rise}
use Rattle.fw_package.proofs.OnePackage.{package_reads}
use Rattle.fw_package.proofs.Parts.{drop_front, take_front}
use Rattle.fw_package.proofs.Puts.{components_long, same_sums}

pub descriptor_long : (d : DescriptorOf) → length (descriptor_bytes d) ≡ descriptor_size d
descriptor_long d = omega arith

pub record_long : (bitmap_size : ℕ) (r : AskedRecordOf) → length (record_bytes bitmap_size r) ≡ record_size bitmap_size r
record_long bitmap_size r =
    let bitmap = length-map-range_with_len (bitmap_byte r.uses) 0 bitmap_size in
    let descriptors = length-flat_map descriptor_bytes r.descriptors ∙ same_sums (λ d. length (descriptor_bytes d)) descriptor_size descriptor_long r.descriptors in
    let rest = length-append r.set_text (flat_map descriptor_bytes r.descriptors) in
    let all = length-append (bitmap_of bitmap_size r.uses) (r.set_text ++ flat_map descriptor_bytes r.descriptors) in
    omega (arith, bitmap, descriptors, rest, all)

-- each component takes 22 bytes of the header
components_least : (cs : List AskedComponentOf) → 22 * length cs ≤ sum_by component_size cs
components_least [] = omega arith
components_least (c ∷ cs) =
    let rest = components_least cs in
    let all = sum_by-cons component_size c cs in
    omega (arith, rest, all)

pub few_asked : (a : AskedPackageOf) → header_size a ≤ 65535 → length a.components ≤ 2978
few_asked a fits = let least = components_least a.components in omega (arith, least, fits)

pub bitmap_small : (count : ℕ) → count ≤ 2978 → bitmap_size_for count ≤ 373
bitmap_small count few = omega (arith, few)

pub no_length : (xs : List ℕ) → length xs ≡ 0 → xs ≡ []
no_length [] e = refl
no_length (x ∷ xs) e = absurd (omega (arith, e))

pub opening_long : (a : AskedPackageOf) → length a.release ≡ 13 → length (opening_bytes a) ≡ 36 + length a.version
opening_long a fits =
    let all = length-append a.release (little_bytes 2 (8 * bitmap_size_for (length a.components)) ++ 1 ∷ length a.version ∷ a.version) in
    omega (arith, all, fits)

pub records_long : (a : AskedPackageOf) → length (flat_map (record_bytes (bitmap_size_for (length a.components))) a.records) ≡ records_size a
records_long a =
    let size : ℕ = bitmap_size_for (length a.components) in
    length-flat_map (record_bytes size) a.records ∙ same_sums (λ r. length (record_bytes size r)) (record_size size) (record_long size) a.records

pub joined : (opening records count components : List ℕ) (m : ℕ) → (((opening ++ m ∷ []) ++ records) ++ count) ++ components ≡ opening ++ m ∷ (records ++ (count ++ components))
joined opening records count components m = simp append_assoc refl

pub body_put : (p : AskedPackage) (old opened counted recorded numbered new : List ℕ) (bitmap header : ℕ) → old ≡ [] → opened ≡ old ++ opening_bytes (asked_package_of p) → counted ≡ opened ++ length p.records.now ∷ []
    → recorded ≡ counted ++ flat_map (record_bytes bitmap) (map asked_record_of p.records.now) → bitmap ≡ bitmap_size_for (length p.components.now)
    → numbered ≡ recorded ++ little_bytes 2 (length p.components.now) → new ≡ numbered ++ components_bytes header (map asked_component_of p.components.now) → header ≡ header_size (asked_package_of p)
    → new ≡ body_bytes (asked_package_of p)
body_put p old opened counted recorded numbered new bitmap header none opening one records size two components sized =
    let n : length p.components.now ≡ length (asked_package_of p).components = sym (length-map p.components.now asked_component_of) in
    let m : length p.records.now ≡ length (asked_package_of p).records = sym (length-map p.records.now asked_record_of) in
    let wide : bitmap ≡ bitmap_size_for (length (asked_package_of p).components) = size ∙ ap bitmap_size_for n in
    let opened_is : opened ≡ opening_bytes (asked_package_of p) = opening ∙ ap (λ xs. xs ++ opening_bytes (asked_package_of p)) none in
    let counted_is : counted ≡ opening_bytes (asked_package_of p) ++ length (asked_package_of p).records ∷ [] = one ∙ ap (λ xs. xs ++ length p.records.now ∷ []) opened_is ∙ ap (λ k. opening_bytes (asked_package_of p) ++ k ∷ []) m in
    components
    ∙ ap (λ xs. xs ++ components_bytes header (asked_package_of p).components) (two ∙ ap (λ xs. xs ++ little_bytes 2 (length p.components.now)) (records ∙ ap (λ xs. xs ++ flat_map (record_bytes bitmap) (asked_package_of p).records) counted_is))
    ∙ ap (λ h. (((opening_bytes (asked_package_of p) ++ length (asked_package_of p).records ∷ []) ++ flat_map (record_bytes bitmap) (asked_package_of p).records) ++ little_bytes 2 (length p.components.now)) ++ components_bytes h (asked_package_of p).components) sized
    ∙ ap (λ k. (((opening_bytes (asked_package_of p) ++ length (asked_package_of p).records ∷ []) ++ flat_map (record_bytes bitmap) (asked_package_of p).records) ++ little_bytes 2 k) ++ components_bytes (header_size (asked_package_of p)) (asked_package_of p).components) n
    ∙ ap (λ b. (((opening_bytes (asked_package_of p) ++ length (asked_package_of p).records ∷ []) ++ flat_map (record_bytes b) (asked_package_of p).records) ++ little_bytes 2 (length (asked_package_of p).components)) ++ components_bytes (header_size (asked_package_of p)) (asked_package_of p).components) wide
    ∙ joined (opening_bytes (asked_package_of p)) (flat_map (record_bytes (bitmap_size_for (length (asked_package_of p).components))) (asked_package_of p).records) (little_bytes 2 (length (asked_package_of p).components)) (components_bytes (header_size (asked_package_of p)) (asked_package_of p).components) (length (asked_package_of p).records)

-- the records that are put are the given ones
pub records_put : (old new : List ℕ) (p : AskedPackage) (size : ℕ) → size ≡ bitmap_size_for (length p.components.now) → new ≡ old ++ flat_map (record_bytes size) (map asked_record_of p.records.now)
    → new ≡ old ++ flat_map (record_bytes (bitmap_size_for (length (asked_package_of p).components))) (asked_package_of p).records
records_put old new p size is put = put ∙ ap (λ n. old ++ flat_map (record_bytes n) (map asked_record_of p.records.now)) (is ∙ ap bitmap_size_for (sym (length-map p.components.now asked_component_of)))

pub body_long : (a : AskedPackageOf) → length a.release ≡ 13 → length (body_bytes a) + 4 ≡ header_size a
body_long a fits =
    let records : List ℕ = flat_map (record_bytes (bitmap_size_for (length a.components))) a.records in
    let components : List ℕ = components_bytes (header_size a) a.components in
    let opening = opening_long a fits in
    let recorded = records_long a in
    let composed = components_long (header_size a) a.components in
    let one = length-append (opening_bytes a) (length a.records ∷ (records ++ (little_bytes 2 (length a.components) ++ components))) in
    let two = length-append records (little_bytes 2 (length a.components) ++ components) in
    omega (arith, opening, recorded, composed, one, two)

-- a package that isn't refused fits
none_of : (b : Bool) (e : AskedFault) (o : Option AskedFault) → (if not b then Some e else o) ≡ None → (b ≡ true) × (o ≡ None)
none_of true e o h = (refl, h)
none_of false e o h = absurd (cc)

pub fits_of : (a : AskedPackageOf) → refusal_of a ≡ None → IsFit a
unfolding refusal_of
fits_of a h =
    let uses = none_of (uses_fit a) Uses (if not (all_fits a) then Some Limit else None) h in
    let limits = none_of (all_fits a) Limit None uses.1 in
    let parts = and_parts (parts_fit a) (nat_le (header_size a) 65535 && nat_le (header_size a + images_size a) 4294967295) limits.0 in
    let sizes = and_parts (nat_le (header_size a) 65535) (nat_le (header_size a + images_size a) 4294967295) parts.1 in
    let version = and_parts (text_fits a.version) (nat_le (length a.records) 255 && (list_all record_fits a.records && list_all component_fits a.components)) parts.0 in
    let count = and_parts (nat_le (length a.records) 255) (list_all record_fits a.records && list_all component_fits a.components) version.1 in
    let lists = and_parts (list_all record_fits a.records) (list_all component_fits a.components) count.1 in
    let used = AllPass-from_list_all (λ r. are_uses (length a.components) 0 r.uses) a.records uses.0 in
    let recorded = AllPass-from_list_all record_fits a.records lists.0 in
    let composed = AllPass-from_list_all component_fits a.components lists.1 in
    record {
      version = leb-true (length a.version) 255 version.0;
      count = leb-true (length a.records) 255 count.0;
      records = λ k d lt.
          let fits = and_parts (text_fits (get_or a.records k d).set_text) (nat_le (length (get_or a.records k d).descriptors) 255) (recorded k d lt) in
          record {
            text = leb-true (length (get_or a.records k d).set_text) 255 fits.0;
            descriptors = leb-true (length (get_or a.records k d).descriptors) 255 fits.1;
            rising = uses_rise (length a.components) 0 (get_or a.records k d).uses (used k d lt);
          };
      uses = used;
      components = λ k d lt. leb-true (length (get_or a.components k d).text) 255 (composed k d lt);
      header = leb-true (header_size a) 65535 sizes.0;
      file = leb-true (header_size a + images_size a) 4294967295 sizes.1;
    }

-- numbers of two and of four bytes read back
two_back : (x : ℕ) → x < 65536 → two_bytes (x % 256) (x / 256 % 256) ≡ x
two_back x lt = little_number-reads_back 2 x [] lt

four_back : (x : ℕ) → x < 4294967296 → four_bytes (x % 256) (x / 256 % 256) (x / 65536 % 256) (x / 16777216 % 256) ≡ x
four_back x lt = little_number-reads_back 4 x [] lt

-- a fact of all items is a fact of the first and of the others
first_of : {X : Type 0} (P : X → Type 0) (x : X) (xs : List X) → All P (x ∷ xs) → P x
first_of P x xs h = h 0 x (omega arith)

others_of : {X : Type 0} (P : X → Type 0) (x : X) (xs : List X) → All P (x ∷ xs) → All P xs
others_of P x xs h k d lt = h (suc k) d (omega (arith, lt))

descriptors_written : (ds : List DescriptorOf) → All (λ d. d.kind < 65536) ds → sum_by descriptor_size ds ≤ 65535 → AreInTurn IsDescriptor (flat_map descriptor_bytes ds) ds
descriptors_written [] kinds fits = refl
descriptors_written (d ∷ ds) kinds fits =
    let all = sum_by-cons descriptor_size d ds in (
      descriptor_bytes d,
      flat_map descriptor_bytes ds,
      refl,
      (two_back d.kind (first_of (λ d. d.kind < 65536) d ds kinds), two_back (length d.bytes) (omega (arith, fits, all)), refl),
      descriptors_written ds (others_of (λ d. d.kind < 65536) d ds kinds) (omega (arith, fits, all)),
    )

record_written : (size count : ℕ) (r : AskedRecordOf) → HasRecordWidths r → record_size size r ≤ 65535 → count ≤ 8 * size → are_uses count 0 r.uses ≡ true
    → IsRecord size count (record_bytes size r) (record_asked r)
record_written size count r widths fits enough used =
    let long = record_long size r in
    let length_is = two_back (record_size size r) (omega (arith, fits)) in
    let parts : List ℕ = bitmap_of size r.uses ++ (r.set_text ++ flat_map descriptor_bytes r.descriptors) in
    let whole : record_size size r ≡ 11 + length parts = omega (arith, long) in (
      length_is ∙ whole,
      four_back r.flags widths.flags,
      refl,
      record {
        bitmap = bitmap_of size r.uses;
        descriptors = flat_map descriptor_bytes r.descriptors;
        content = [];
        is = ap (λ xs. bitmap_of size r.uses ++ (r.set_text ++ xs)) (sym (append-nil (flat_map descriptor_bytes r.descriptors)));
        bitmap_fits = length-map-range_with_len (bitmap_byte r.uses) 0 size;
        text_fits = refl;
        counted = refl;
        described = descriptors_written r.descriptors widths.kinds (omega (arith, fits));
        content_fits = refl;
        uses = sym (named_back size count r.uses enough used);
      },
    )

records_written : (size count : ℕ) (rs : List AskedRecordOf) → All HasRecordWidths rs → sum_by (record_size size) rs ≤ 65535 → count ≤ 8 * size → All (λ r. are_uses count 0 r.uses ≡ true) rs
    → AreInTurn (IsRecord size count) (flat_map (record_bytes size) rs) (map record_asked rs)
records_written size count [] widths fits enough used = refl
records_written size count (r ∷ rs) widths fits enough used =
    let all = sum_by-cons (record_size size) r rs in (
      record_bytes size r,
      flat_map (record_bytes size) rs,
      refl,
      record_written size count r (first_of HasRecordWidths r rs widths) (omega (arith, fits, all)) enough (first_of (λ r. are_uses count 0 r.uses ≡ true) r rs used),
      records_written size count rs (others_of HasRecordWidths r rs widths) (omega (arith, fits, all)) enough (others_of (λ r. are_uses count 0 r.uses ≡ true) r rs used),
    )

-- the image of the first component is after the content before
image_there : (front image more : List ℕ) (offset size : ℕ) → offset ≡ length front → size ≡ length image → image ≡ take size (drop offset (front ++ (image ++ more)))
image_there front image more offset size at is =
    sym (ap (take size) (drop_front front (image ++ more) offset (sym at)) ∙ take_front image more size (sym is))

components_written : (file front : List ℕ) (offset : ℕ) (cs : List AskedComponentOf) (images : List (List ℕ)) → file ≡ front ++ concat images → offset ≡ length front
    → map length images ≡ map (λ c. c.size) cs → All HasAskedComponentWidths cs → offset + sum_by (λ c. c.size) cs ≤ 4294967295
    → AreInTurn (IsComponent file) (components_bytes offset cs) (components_asked offset cs images)
components_written file front offset [] [] is at sizes widths fits = refl
components_written file front offset [] (image ∷ images) is at sizes widths fits = refl
components_written file front offset (c ∷ cs) [] is at sizes widths fits = absurd (cc)
components_written file front offset (c ∷ cs) (image ∷ images) is at sizes widths fits =
    let all = sum_by-cons (λ c. c.size) c cs in
    let size_is : length image ≡ c.size = cc in
    let others : map length images ≡ map (λ c. c.size) cs = cc in
    let width = first_of HasAskedComponentWidths c cs widths in
    let place = four_back offset (omega (arith, fits)) in
    let sized = four_back c.size (omega (arith, fits, all)) in
    let long = ap length is ∙ length-append front (image ++ concat images) in
    let tail = length-append image (concat images) in
    let next = length-append front image in
    let rest = components_written file (front ++ image) (offset + c.size) cs images (is ∙ sym (append_assoc front image (concat images))) (omega (arith, at, next, size_is)) others (others_of HasAskedComponentWidths c cs widths) (omega (arith, fits, all)) in (
      component_bytes offset c,
      components_bytes (offset + c.size) cs,
      refl,
      (
        two_back c.classification width.classification,
        two_back c.identifier width.identifier,
        four_back c.stamp width.stamp,
        two_back c.options width.options,
        two_back c.method width.method,
        place,
        refl,
        refl,
        refl,
        omega (arith, at, sized, size_is, long, tail),
        rw (sized, is) (image_there front image (concat images) offset c.size at (sym size_is)),
      ),
      rw size_is rest,
    )

count_asked : (offset : ℕ) (cs : List AskedComponentOf) (images : List (List ℕ)) → map length images ≡ map (λ c. c.size) cs → length (components_asked offset cs images) ≡ length cs
count_asked offset [] [] sizes = refl
count_asked offset [] (image ∷ images) sizes = refl
count_asked offset (c ∷ cs) [] sizes = absurd (cc)
count_asked offset (c ∷ cs) (image ∷ images) sizes =
    let others : map length images ≡ map (λ c. c.size) cs = cc in
    ap suc (count_asked (offset + length image) cs images others)

-- the bits of a bitmap are there, fill whole bytes, and are enough
record HasBits (count : ℕ) : Type 0 where
  there : 8 * bitmap_size_for count ≢ 0
  whole : 8 * bitmap_size_for count % 8 ≡ 0
  enough : count ≤ 8 * bitmap_size_for count
  bytes : 8 * bitmap_size_for count / 8 ≡ bitmap_size_for count

bits_for : (count : ℕ) → HasBits count
bits_for count =
    record {
      there = λ e. omega (arith, e);
      whole = omega arith;
      enough = omega arith;
      bytes = omega arith;
    }

package_asked : (a : AskedPackageOf) (images : List (List ℕ)) → IsFit a → HasAskedWidths a → crc_of (body_bytes a) < 4294967296 → map length images ≡ map (λ c. c.size) a.components
    → IsPackage (header_bytes a ++ concat images) (package_for a images)
package_asked a images fit widths small sizes =
    let count : ℕ = length a.components in
    let size : ℕ = bitmap_size_for count in
    let few = few_asked a fit.header in
    let narrow = bitmap_small count few in
    let bits = bits_for count in
    let bits_back = two_back (8 * size) (omega (arith, narrow)) in
    let counted = count_asked (header_size a) a.components images sizes in
    let long = body_long a widths.release in
    let fits = fit.header in
    let signature = length-append (body_bytes a) (little_bytes 4 (crc_of (body_bytes a))) in
    record {
      h0 = header_size a % 256;
      h1 = header_size a / 256 % 256;
      b0 = 8 * size % 256;
      b1 = 8 * size / 256 % 256;
      m = length a.records;
      n0 = count % 256;
      n1 = count / 256 % 256;
      x0 = crc_of (body_bytes a) % 256;
      x1 = crc_of (body_bytes a) / 256 % 256;
      x2 = crc_of (body_bytes a) / 65536 % 256;
      x3 = crc_of (body_bytes a) / 16777216 % 256;
      records = flat_map (record_bytes size) a.records;
      components = components_bytes (header_size a) a.components;
      before = body_bytes a;
      after = concat images;
      bytes_are = append_assoc (body_bytes a) (little_bytes 4 (crc_of (body_bytes a))) (concat images);
      before_is = simp append_assoc refl;
      release_fits = widths.release;
      size = two_back (header_size a) (omega (arith, fits));
      whole = sym long;
      signed = four_back (crc_of (body_bytes a)) small;
      bits_there = rw bits_back bits.there;
      bits_whole = rw bits_back bits.whole;
      bits_enough = rw (bits_back, counted) bits.enough;
      record_count = sym (length-map a.records record_asked);
      component_count = two_back count (omega (arith, few)) ∙ sym counted;
      recorded = rw (bits_back, bits.bytes, counted) (records_written size count a.records widths.records (omega (arith, fits)) bits.enough fit.uses);
      composed = components_written (header_bytes a ++ concat images) (header_bytes a) (header_size a) a.components images refl (omega (arith, long, signature)) sizes widths.components fit.file;
    }

pub written_package : (a : AskedPackageOf) → IsFit a → HasAskedWidths a → crc_of (body_bytes a) < 4294967296 → IsHeaderOf a (header_bytes a)
written_package a fit widths small =
    record {
      is = λ images sizes. package_asked a images fit widths small sizes;
      reads = λ images sizes. package_reads (header_bytes a ++ concat images) (package_for a images) (package_asked a images fit widths small sizes);
    }
