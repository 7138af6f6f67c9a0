-- Bytes composed of parts read as these parts.
use Rattle.std.proofs.Common.{◌≡◌, ℕ, ◌+◌, ◌≤◌, ◌∙◌, nat_lt, false, List, [], ◌∷◌, ◌++◌, Ok, Some, length, take, drop, slice_index, refl, sym, ap, arith, append_assoc}
use Rattle.std.proofs.lemmas.Bool.{le-ltb, eq-eqb}
use Rattle.std.proofs.lemmas.List.{length-append, take-append-le, drop-append-le, take_all, drop_all}
use Rattle.byteorder.specs.Endian.{little_number}
use Rattle.fw_package.specs.Components.{component_of, components_of}
use Rattle.fw_package.specs.Grammar.{AreInTurn, IsComponent, IsDescriptor, IsRecord, four_bytes, two_bytes}
use Rattle.fw_package.specs.Layout.{bytes_after, after_components, after_records}
use Rattle.fw_package.specs.Package.{ComponentOf, DescriptorOf, RecordOf}
use Rattle.fw_package.specs.Records.{descriptor_split, descriptors_split, record_of, records_of, split_after}

-- the front of a list, and the bytes after it
pub take_front : (xs ys : List ℕ) (n : ℕ) → length xs ≡ n → take n (xs ++ ys) ≡ xs
take_front xs ys n e = take-append-le n xs ys (omega arith) ∙ take_all n xs (omega arith)

pub drop_front : (xs ys : List ℕ) (n : ℕ) → length xs ≡ n → drop n (xs ++ ys) ≡ ys
drop_front xs ys n e = drop-append-le n xs ys (omega arith) ∙ ap (λ zs. zs ++ ys) (drop_all n xs (omega arith))

pub long_enough : (xs ys : List ℕ) (n : ℕ) → length xs ≡ n → nat_lt (length (xs ++ ys)) n ≡ false
long_enough xs ys n e = let all = length-append xs ys in le-ltb (length (xs ++ ys)) n (omega arith)

pub split_front : (xs ys : List ℕ) (n : ℕ) → length xs ≡ n → split_after n (xs ++ ys) ≡ Ok (xs, ys)
split_front xs ys n e = rw (long_enough xs ys n e, take_front xs ys n e, drop_front xs ys n e) refl

pub after_front : (xs ys : List ℕ) (n : ℕ) → length xs ≡ n → bytes_after n (xs ++ ys) ≡ Some ys
after_front xs ys n e = rw (long_enough xs ys n e, drop_front xs ys n e) refl

descriptor_reads : (part rest : List ℕ) (d : DescriptorOf) → IsDescriptor part d → descriptor_split (part ++ rest) ≡ Ok (d, rest)
unfolding descriptor_split
descriptor_reads (t0 ∷ t1 ∷ s0 ∷ s1 ∷ content) rest d (kind, size, is) =
    rw (split_front (t0 ∷ t1 ∷ s0 ∷ s1 ∷ []) (content ++ rest) 4 refl, split_front content rest (two_bytes s0 s1) (ap length is ∙ sym size), kind, is) refl
descriptor_reads part rest d is = absurd is

descriptors_reads : (bytes rest : List ℕ) (ds : List DescriptorOf) → AreInTurn IsDescriptor bytes ds → descriptors_split (length ds) (bytes ++ rest) ≡ Ok (ds, rest)
unfolding descriptors_split
descriptors_reads bytes rest [] is = rw is refl
descriptors_reads bytes rest (d ∷ ds) (part, others, is, this, those) =
    rw (is, append_assoc part others rest, descriptor_reads part (others ++ rest) d this, descriptors_reads others rest ds those) refl

record_reads : (size count : ℕ) (part : List ℕ) (r : RecordOf) → IsRecord size count part r → record_of size count part ≡ Ok r
unfolding record_of
record_reads size count (l0 ∷ l1 ∷ n ∷ f0 ∷ f1 ∷ f2 ∷ f3 ∷ kind ∷ t ∷ d0 ∷ d1 ∷ rest) r (long, flags, kind_is, parts) =
    rw (
      split_front (l0 ∷ l1 ∷ n ∷ f0 ∷ f1 ∷ f2 ∷ f3 ∷ kind ∷ t ∷ d0 ∷ d1 ∷ []) rest 11 refl,
      parts.is,
      split_front parts.bitmap (r.set_text.bytes ++ (parts.descriptors ++ parts.content)) size parts.bitmap_fits,
      split_front r.set_text.bytes (parts.descriptors ++ parts.content) t parts.text_fits,
      sym parts.counted,
      descriptors_reads parts.descriptors parts.content r.descriptors parts.described,
      eq-eqb (length parts.content) (two_bytes d0 d1) parts.content_fits,
      flags,
      kind_is,
      sym parts.uses,
    ) refl
record_reads size count part r is = absurd is

-- a record begins with its length
record_size : (size count : ℕ) (part rest : List ℕ) (r : RecordOf) → IsRecord size count part r → (little_number 2 (part ++ rest) ≡ length part) × (2 ≤ length part)
record_size size count (l0 ∷ l1 ∷ n ∷ f0 ∷ f1 ∷ f2 ∷ f3 ∷ kind ∷ t ∷ d0 ∷ d1 ∷ more) rest r (long, flags, kind_is, parts) = (omega (arith, long), omega arith)
record_size size count part rest r is = absurd is

pub records_reads : (size count : ℕ) (bytes rest : List ℕ) (rs : List RecordOf) → AreInTurn (IsRecord size count) bytes rs → records_of size count (length rs) (bytes ++ rest) ≡ Ok rs
unfolding records_of
records_reads size count bytes rest [] is = refl
records_reads size count bytes rest (r ∷ rs) (part, others, is, this, those) =
    let long = record_size size count part (others ++ rest) r this in
    rw (
      is,
      append_assoc part others rest,
      long.0,
      take_front part (others ++ rest) (length part) refl,
      drop_front part (others ++ rest) (length part) refl,
      record_reads size count part r this,
      records_reads size count others rest rs those,
    ) refl

pub records_walked : (size count : ℕ) (bytes rest : List ℕ) (rs : List RecordOf) → AreInTurn (IsRecord size count) bytes rs → after_records (length rs) (bytes ++ rest) ≡ Some rest
unfolding after_records
records_walked size count bytes rest [] is = rw is refl
records_walked size count bytes rest (r ∷ rs) (part, others, is, this, those) =
    let long = record_size size count part (others ++ rest) r this in
    let all = length-append part (others ++ rest) in
    let two : nat_lt (length (part ++ (others ++ rest))) 2 ≡ false = le-ltb (length (part ++ (others ++ rest))) 2 (omega (arith, long.1)) in
    rw (is, append_assoc part others rest, two, long.0, after_front part (others ++ rest) (length part) refl, records_walked size count others rest rs those) refl

component_reads : (file part rest : List ℕ) (c : ComponentOf) → IsComponent file part c → component_of file (part ++ rest) ≡ Ok c
unfolding component_of
component_reads file (c0 ∷ c1 ∷ i0 ∷ i1 ∷ s0 ∷ s1 ∷ s2 ∷ s3 ∷ o0 ∷ o1 ∷ m0 ∷ m1 ∷ f0 ∷ f1 ∷ f2 ∷ f3 ∷ z0 ∷ z1 ∷ z2 ∷ z3 ∷ kind ∷ t ∷ text) rest c (classification, identifier, stamp, options, method, offset, kind_is, text_is, long, within, image) =
    let inside : nat_lt (length file) (four_bytes f0 f1 f2 f3 + four_bytes z0 z1 z2 z3) ≡ false = le-ltb (length file) (four_bytes f0 f1 f2 f3 + four_bytes z0 z1 z2 z3) (rw offset within) in
    rw (inside, take_front text rest t (sym long), classification, identifier, stamp, options, method, offset, kind_is, text_is, sym image) refl
component_reads file part rest c is = absurd is

component_size : (file part rest : List ℕ) (c : ComponentOf) → IsComponent file part c → 22 + slice_index (part ++ rest) 21 ≡ length part
component_size file (c0 ∷ c1 ∷ i0 ∷ i1 ∷ s0 ∷ s1 ∷ s2 ∷ s3 ∷ o0 ∷ o1 ∷ m0 ∷ m1 ∷ f0 ∷ f1 ∷ f2 ∷ f3 ∷ z0 ∷ z1 ∷ z2 ∷ z3 ∷ kind ∷ t ∷ text) rest c (classification, identifier, stamp, options, method, offset, kind_is, text_is, long, within, image) = omega (arith, long)
component_size file part rest c is = absurd is

pub components_reads : (file bytes rest : List ℕ) (cs : List ComponentOf) → AreInTurn (IsComponent file) bytes cs → components_of file (length cs) (bytes ++ rest) ≡ Ok cs
unfolding components_of
components_reads file bytes rest [] is = refl
components_reads file bytes rest (c ∷ cs) (part, others, is, this, those) =
    rw (
      is,
      append_assoc part others rest,
      component_reads file part (others ++ rest) c this,
      component_size file part (others ++ rest) c this,
      drop_front part (others ++ rest) (length part) refl,
      components_reads file others rest cs those,
    ) refl

pub components_walked : (file bytes rest : List ℕ) (cs : List ComponentOf) → AreInTurn (IsComponent file) bytes cs → after_components (length cs) (bytes ++ rest) ≡ Some rest
unfolding after_components
components_walked file bytes rest [] is = rw is refl
components_walked file bytes rest (c ∷ cs) (part, others, is, this, those) =
    rw (is, append_assoc part others rest, component_size file part (others ++ rest) c this, after_front part (others ++ rest) (length part) refl, components_walked file others rest cs those) refl
