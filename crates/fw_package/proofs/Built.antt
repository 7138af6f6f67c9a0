-- Bytes that read as a package are composed of its parts.
use Rattle.std.proofs.Common.{◌≡◌, ℕ, zero, suc, ◌+◌, ◌≤◌, ◌∙◌, ◌==◌, nat_lt, if◌then◌else◌, Bool, true, false, List, [], ◌∷◌, ◌++◌, Result, Ok, Err, Some, None, length, take, drop, slice_index, refl, sym, ap, subst, arith, append_assoc}
use borrow.Author.Tests.{ltb-false}
use Rattle.std.proofs.lemmas.Bool.{eqb-true}
use Rattle.std.proofs.lemmas.List.{length-append, length-take-le, take-append-drop, drop-drop}
use Rattle.std.specs.Option.{option_and_then}
use Rattle.byteorder.specs.Endian.{little_number}
use Rattle.fw_package.specs.Components.{component_of, components_of, place_of, component_at_place}
use Rattle.fw_package.specs.Grammar.{AreInTurn, IsComponent, IsDescriptor, IsRecord, four_bytes}
use Rattle.fw_package.specs.Layout.{after_components, after_records}
use Rattle.fw_package.specs.Package.{ComponentOf, DescriptorOf, RecordOf}
use Rattle.fw_package.specs.Records.{◌>>=◌, descriptor_split, descriptors_split, components_named, record_of, records_of, split_after}
use Rattle.fw_package.specs.declared.fault.PackageFault.{PackageFault}
use Rattle.fw_package.specs.declared.fault.PackageFault.TheVariants as faults

-- a chain that returns a value went through one
pub record GoesThrough {A B : Type 0} (r : Result A PackageFault) (f : A → Result B PackageFault) (y : B) : Type 0 where
  pub value : A
  pub is : r ≡ Ok value
  pub gives : f value ≡ Ok y

pub through : {A B : Type 0} (r : Result A PackageFault) (f : A → Result B PackageFault) (y : B) → r >>= f ≡ Ok y → GoesThrough r f y
through (Ok x) f y h = record { value = x; is = refl; gives = h }
through (Err e) f y h = absurd (cc)

-- a list in two parts, the first of n
pub record IsSplit (n : ℕ) (bytes front back : List ℕ) : Type 0 where
  pub is : bytes ≡ front ++ back
  pub fits : length front ≡ n

split_from : (cut : Bool) (n : ℕ) (bytes : List ℕ) (q : List ℕ × List ℕ) → nat_lt (length bytes) n ≡ cut → (if cut then Err faults.RecordLength else Ok (take n bytes, drop n bytes)) ≡ Ok q → IsSplit n bytes q.0 q.1
split_from true n bytes q e h = absurd (cc)
split_from false n bytes q e h =
    let le = ltb-false (length bytes) n e in
    let same : (take n bytes, drop n bytes) ≡ q = cc in
    subst (λ q. IsSplit n bytes q.0 q.1) same (record { is = sym (take-append-drop n bytes); fits = length-take-le n bytes le })

pub split_is : (n : ℕ) (bytes : List ℕ) (q : List ℕ × List ℕ) → split_after n bytes ≡ Ok q → IsSplit n bytes q.0 q.1
split_is n bytes q h = split_from (nat_lt (length bytes) n) n bytes q refl h

-- lists of a given length
pub four : (P : List ℕ → Type 0) → ((a b c d : ℕ) → P (a ∷ b ∷ c ∷ d ∷ [])) → (xs : List ℕ) → length xs ≡ 4 → P xs
four P holds (a ∷ b ∷ c ∷ d ∷ []) fits = holds a b c d
four P holds xs fits = absurd (omega (arith, fits))

eleven : (P : List ℕ → Type 0) → ((a b c d e f g h i j k : ℕ) → P (a ∷ b ∷ c ∷ d ∷ e ∷ f ∷ g ∷ h ∷ i ∷ j ∷ k ∷ [])) → (xs : List ℕ) → length xs ≡ 11 → P xs
eleven P holds (a ∷ b ∷ c ∷ d ∷ e ∷ f ∷ g ∷ h ∷ i ∷ j ∷ k ∷ []) fits = holds a b c d e f g h i j k
eleven P holds xs fits = absurd (omega (arith, fits))

-- a part, and the bytes after it
pub record IsFirst {A : Type 0} (IsPart : List ℕ → A → Type 0) (bytes : List ℕ) (x : A) (rest : List ℕ) : Type 0 where
  pub part : List ℕ
  pub is : bytes ≡ part ++ rest
  pub holds : IsPart part x

-- parts, and the bytes after them
pub record AreFirst {A : Type 0} (IsPart : List ℕ → A → Type 0) (bytes : List ℕ) (xs : List A) (rest : List ℕ) : Type 0 where
  pub front : List ℕ
  pub is : bytes ≡ front ++ rest
  pub hold : AreInTurn IsPart front xs

-- one more part before the others
pub more_first : {A : Type 0} (IsPart : List ℕ → A → Type 0) (bytes between rest : List ℕ) (x : A) (xs : List A) → IsFirst IsPart bytes x between → AreFirst IsPart between xs rest → AreFirst IsPart bytes (x ∷ xs) rest
more_first IsPart bytes between rest x xs one others =
    record {
      front = one.part ++ others.front;
      is = one.is ∙ ap (λ r. one.part ++ r) others.is ∙ sym (append_assoc one.part others.front rest);
      hold = (one.part, others.front, refl, one.holds, others.hold);
    }

descriptor_built : (bytes : List ℕ) (q : DescriptorOf × List ℕ) → descriptor_split bytes ≡ Ok q → IsFirst IsDescriptor bytes q.0 q.1
unfolding descriptor_split
descriptor_built bytes q h =
    let head = through (split_after 4 bytes) _ q h in
    let content = through (split_after (little_number 2 (drop 2 head.value.0)) head.value.1) _ q head.gives in
    let fixed = split_is 4 bytes head.value head.is in
    let sized = split_is (little_number 2 (drop 2 head.value.0)) head.value.1 content.value content.is in
    let same : (record { kind = little_number 2 head.value.0; bytes = content.value.0 }, content.value.1) ≡ q = let e = content.gives in cc in
    subst (λ q. IsFirst IsDescriptor bytes q.0 q.1) same
    (record {
      part = head.value.0 ++ content.value.0;
      is = fixed.is ∙ ap (λ r. head.value.0 ++ r) sized.is ∙ sym (append_assoc head.value.0 content.value.0 content.value.1);
      holds = four (λ xs. length content.value.0 ≡ little_number 2 (drop 2 xs) → IsDescriptor (xs ++ content.value.0) (record { kind = little_number 2 xs; bytes = content.value.0 }))
          (λ a b c d e. (refl, sym e, refl)) head.value.0 fixed.fits sized.fits;
    })

pub record DescriptorsBuilt (n : ℕ) (bytes : List ℕ) (ds : List DescriptorOf) (rest : List ℕ) : Type 0 where
  pub first : AreFirst IsDescriptor bytes ds rest
  pub counted : length ds ≡ n

descriptors_built : (n : ℕ) (bytes : List ℕ) (q : List DescriptorOf × List ℕ) → descriptors_split n bytes ≡ Ok q → DescriptorsBuilt n bytes q.0 q.1
unfolding descriptors_split
descriptors_built zero bytes q h =
    let same : ([], bytes) ≡ q = cc in
    subst (λ q. DescriptorsBuilt zero bytes q.0 q.1) same (record { first = record { front = []; is = refl; hold = refl }; counted = refl })
descriptors_built (suc n) bytes q h =
    let one = through (descriptor_split bytes) _ q h in
    let others = through (descriptors_split n one.value.1) _ q one.gives in
    let built = descriptors_built n one.value.1 others.value others.is in
    let same : (one.value.0 ∷ others.value.0, others.value.1) ≡ q = let e = others.gives in cc in
    subst (λ q. DescriptorsBuilt (suc n) bytes q.0 q.1) same
    (record {
      first = more_first IsDescriptor bytes one.value.1 others.value.1 one.value.0 others.value.0 (descriptor_built bytes one.value one.is) built.first;
      counted = ap suc built.counted;
    })

-- the only result of a last test
if_ok : {A : Type 0} (b : Bool) (x y : A) (e : PackageFault) → (if b then Ok x else Err e) ≡ Ok y → (b ≡ true) × (x ≡ y)
if_ok true x y e h = (refl, cc)
if_ok false x y e h = absurd (cc)

-- the record with these parts
abbrev record_from : (head text : List ℕ) (descriptors : List DescriptorOf) (uses : List ℕ) → RecordOf
record_from head text descriptors uses =
    record {
      flags = little_number 4 (drop 3 head);
      set_text = record { kind = slice_index head 7; bytes = text };
      descriptors = descriptors;
      uses = uses;
    }

record_built : (size count : ℕ) (bytes : List ℕ) (r : RecordOf) → record_of size count bytes ≡ Ok r → little_number 2 bytes ≡ length bytes → IsRecord size count bytes r
unfolding record_of
record_built size count bytes r h long =
    let head = through (split_after 11 bytes) _ r h in
    let bitmap = through (split_after size head.value.1) _ r head.gives in
    let text = through (split_after (slice_index head.value.0 8) bitmap.value.1) _ r bitmap.gives in
    let descriptors = through (descriptors_split (slice_index head.value.0 2) text.value.1) _ r text.gives in
    let fixed = split_is 11 bytes head.value head.is in
    let mapped = split_is size head.value.1 bitmap.value bitmap.is in
    let named_text = split_is (slice_index head.value.0 8) bitmap.value.1 text.value text.is in
    let described = descriptors_built (slice_index head.value.0 2) text.value.1 descriptors.value descriptors.is in
    let last = if_ok (length descriptors.value.1 == little_number 2 (drop 9 head.value.0)) (record_from head.value.0 text.value.0 descriptors.value.0 (components_named bitmap.value.0 count)) r faults.RecordLength descriptors.gives in
    let rest_is : head.value.1 ≡ bitmap.value.0 ++ (text.value.0 ++ (described.first.front ++ descriptors.value.1)) =
    mapped.is ∙ ap (λ xs. bitmap.value.0 ++ xs) (named_text.is ∙ ap (λ xs. text.value.0 ++ xs) described.first.is) in
    let built : IsRecord size count (head.value.0 ++ head.value.1) (record_from head.value.0 text.value.0 descriptors.value.0 (components_named bitmap.value.0 count)) =
    eleven (λ xs. little_number 2 (xs ++ head.value.1) ≡ length (xs ++ head.value.1) → length text.value.0 ≡ slice_index xs 8 → length descriptors.value.0 ≡ slice_index xs 2 → length descriptors.value.1 ≡ little_number 2 (drop 9 xs)
    → IsRecord size count (xs ++ head.value.1) (record_from xs text.value.0 descriptors.value.0 (components_named bitmap.value.0 count)))
    (λ l0 l1 n f0 f1 f2 f3 kind t d0 d1 whole texted counted sized. (
      omega (arith, whole),
      refl,
      refl,
      record {
        bitmap = bitmap.value.0;
        descriptors = described.first.front;
        content = descriptors.value.1;
        is = rest_is;
        bitmap_fits = mapped.fits;
        text_fits = texted;
        counted = counted;
        described = described.first.hold;
        content_fits = sized;
        uses = refl;
      },
    ))
    head.value.0 fixed.fits (rw fixed.is at long) named_text.fits described.counted (eqb-true (length descriptors.value.1) (little_number 2 (drop 9 head.value.0)) last.0) in
    subst (IsRecord size count bytes) last.1 (subst (λ xs. IsRecord size count xs (record_from head.value.0 text.value.0 descriptors.value.0 (components_named bitmap.value.0 count))) (sym fixed.is) built)

-- the walk over one more record, and the bytes left
record_walked_from : (short cut : Bool) (n : ℕ) (bytes rest : List ℕ) → nat_lt (length bytes) 2 ≡ short → nat_lt (length bytes) (little_number 2 bytes) ≡ cut
    → option_and_then (after_records n) (if short then None else (if cut then None else Some (drop (little_number 2 bytes) bytes))) ≡ Some rest
    → (2 ≤ length bytes) × (little_number 2 bytes ≤ length bytes) × (after_records n (drop (little_number 2 bytes) bytes) ≡ Some rest)
record_walked_from true cut n bytes rest s e h = absurd (cc)
record_walked_from false true n bytes rest s e h = absurd (cc)
record_walked_from false false n bytes rest s e h = (ltb-false (length bytes) 2 s, ltb-false (length bytes) (little_number 2 bytes) e, h)

record_walked : (n : ℕ) (bytes rest : List ℕ) → after_records (suc n) bytes ≡ Some rest → (2 ≤ length bytes) × (little_number 2 bytes ≤ length bytes) × (after_records n (drop (little_number 2 bytes) bytes) ≡ Some rest)
unfolding after_records
record_walked n bytes rest h = record_walked_from (nat_lt (length bytes) 2) (nat_lt (length bytes) (little_number 2 bytes)) n bytes rest refl refl h

-- the first two bytes of a list are those of its front
front_number : (n : ℕ) (bytes : List ℕ) → 2 ≤ n → 2 ≤ length bytes → little_number 2 (take n bytes) ≡ little_number 2 bytes
front_number (suc (suc n)) (a ∷ b ∷ bytes) two long = refl
front_number n bytes two long = absurd (omega arith)

pub record RecordsBuilt (size count n : ℕ) (bytes : List ℕ) (rs : List RecordOf) (rest : List ℕ) : Type 0 where
  pub first : AreFirst (IsRecord size count) bytes rs rest
  pub counted : length rs ≡ n

record_long : (size count : ℕ) (bytes : List ℕ) (r : RecordOf) → record_of size count bytes ≡ Ok r → 11 ≤ length bytes
unfolding record_of
record_long size count bytes r h =
    let head = through (split_after 11 bytes) _ r h in
    let fixed = split_is 11 bytes head.value head.is in
    let all = ap length fixed.is ∙ length-append head.value.0 head.value.1 in
    omega (arith, all, fixed.fits)

pub records_built : (size count n : ℕ) (bytes rest : List ℕ) (rs : List RecordOf) → records_of size count n bytes ≡ Ok rs → after_records n bytes ≡ Some rest → RecordsBuilt size count n bytes rs rest
unfolding records_of after_records
records_built size count zero bytes rest rs h w =
    let none : [] ≡ rs = cc in
    let all : bytes ≡ rest = cc in
    subst (λ rs. RecordsBuilt size count zero bytes rs rest) none (record { first = record { front = []; is = all; hold = refl }; counted = refl })
records_built size count (suc n) bytes rest rs h w =
    let one = through (record_of size count (take (little_number 2 bytes) bytes)) _ rs h in
    let others = through (records_of size count n (drop (little_number 2 bytes) bytes)) _ rs one.gives in
    let walk = record_walked n bytes rest w in
    let piece = length-take-le (little_number 2 bytes) bytes walk.1 in
    let long = record_long size count (take (little_number 2 bytes) bytes) one.value one.is in
    let sized : little_number 2 (take (little_number 2 bytes) bytes) ≡ length (take (little_number 2 bytes) bytes) = front_number (little_number 2 bytes) bytes (omega arith) walk.0 ∙ sym piece in
    let built = records_built size count n (drop (little_number 2 bytes) bytes) rest others.value others.is walk.2 in
    let same : one.value ∷ others.value ≡ rs = let e = others.gives in cc in
    subst (λ rs. RecordsBuilt size count (suc n) bytes rs rest) same
    (record {
      first = more_first (IsRecord size count) bytes (drop (little_number 2 bytes) bytes) rest one.value others.value
          (record { part = take (little_number 2 bytes) bytes; is = sym (take-append-drop (little_number 2 bytes) bytes); holds = record_built size count (take (little_number 2 bytes) bytes) one.value one.is sized }) built.first;
      counted = ap suc built.counted;
    })

-- a list of 22 and more
twenty_two : (P : List ℕ → Type 0) → ((a b c d e f g h i j k l m n o p q r s t u v : ℕ) (xs : List ℕ) → P (a ∷ b ∷ c ∷ d ∷ e ∷ f ∷ g ∷ h ∷ i ∷ j ∷ k ∷ l ∷ m ∷ n ∷ o ∷ p ∷ q ∷ r ∷ s ∷ t ∷ u ∷ v ∷ xs)) → (xs : List ℕ) → 22 ≤ length xs → P xs
twenty_two P holds (a ∷ b ∷ c ∷ d ∷ e ∷ f ∷ g ∷ h ∷ i ∷ j ∷ k ∷ l ∷ m ∷ n ∷ o ∷ p ∷ q ∷ r ∷ s ∷ t ∷ u ∷ v ∷ xs) fits = holds a b c d e f g h i j k l m n o p q r s t u v xs
twenty_two P holds xs fits = absurd (omega (arith, fits))

-- the walk over one more component, and the bytes left
component_walked_from : (cut : Bool) (n : ℕ) (bytes rest : List ℕ) → nat_lt (length bytes) (22 + slice_index bytes 21) ≡ cut
    → option_and_then (after_components n) (if cut then None else Some (drop (22 + slice_index bytes 21) bytes)) ≡ Some rest
    → (22 + slice_index bytes 21 ≤ length bytes) × (after_components n (drop (22 + slice_index bytes 21) bytes) ≡ Some rest)
component_walked_from true n bytes rest e h = absurd (cc)
component_walked_from false n bytes rest e h = (ltb-false (length bytes) (22 + slice_index bytes 21) e, h)

component_walked : (n : ℕ) (bytes rest : List ℕ) → after_components (suc n) bytes ≡ Some rest → (22 + slice_index bytes 21 ≤ length bytes) × (after_components n (drop (22 + slice_index bytes 21) bytes) ≡ Some rest)
unfolding after_components
component_walked n bytes rest h = component_walked_from (nat_lt (length bytes) (22 + slice_index bytes 21)) n bytes rest refl h

unless_ok : {A : Type 0} (b : Bool) (x y : A) (e : PackageFault) → (if b then Err e else Ok x) ≡ Ok y → (b ≡ false) × (x ≡ y)
unless_ok false x y e h = (refl, cc)
unless_ok true x y e h = absurd (cc)

component_built : (file bytes : List ℕ) (c : ComponentOf) → component_of file bytes ≡ Ok c → 22 + slice_index bytes 21 ≤ length bytes → IsFirst (IsComponent file) bytes c (drop (22 + slice_index bytes 21) bytes)
unfolding component_of
component_built file bytes c h long =
    twenty_two (λ xs. component_of file xs ≡ Ok c → 22 + slice_index xs 21 ≤ length xs → IsFirst (IsComponent file) xs c (drop (22 + slice_index xs 21) xs))
    (λ c0 c1 i0 i1 s0 s1 s2 s3 o0 o1 m0 m1 f0 f1 f2 f3 z0 z1 z2 z3 kind t xs h long.
    let offset : ℕ = four_bytes f0 f1 f2 f3 in
    let size : ℕ = four_bytes z0 z1 z2 z3 in
    let split = unless_ok (nat_lt (length file) (offset + size)) (component_at_place file (place_of (c0 ∷ c1 ∷ i0 ∷ i1 ∷ s0 ∷ s1 ∷ s2 ∷ s3 ∷ o0 ∷ o1 ∷ m0 ∷ m1 ∷ f0 ∷ f1 ∷ f2 ∷ f3 ∷ z0 ∷ z1 ∷ z2 ∷ z3 ∷ kind ∷ t ∷ xs))) c faults.ImageRange h in
    let texted = length-take-le t xs (omega (arith, long)) in
    record {
      part = c0 ∷ c1 ∷ i0 ∷ i1 ∷ s0 ∷ s1 ∷ s2 ∷ s3 ∷ o0 ∷ o1 ∷ m0 ∷ m1 ∷ f0 ∷ f1 ∷ f2 ∷ f3 ∷ z0 ∷ z1 ∷ z2 ∷ z3 ∷ kind ∷ t ∷ take t xs;
      is = ap (λ ys. c0 ∷ c1 ∷ i0 ∷ i1 ∷ s0 ∷ s1 ∷ s2 ∷ s3 ∷ o0 ∷ o1 ∷ m0 ∷ m1 ∷ f0 ∷ f1 ∷ f2 ∷ f3 ∷ z0 ∷ z1 ∷ z2 ∷ z3 ∷ kind ∷ t ∷ ys) (sym (take-append-drop t xs) ∙ ap (λ zs. take t xs ++ zs) (drop-drop t 22 (c0 ∷ c1 ∷ i0 ∷ i1 ∷ s0 ∷ s1 ∷ s2 ∷ s3 ∷ o0 ∷ o1 ∷ m0 ∷ m1 ∷ f0 ∷ f1 ∷ f2 ∷ f3 ∷ z0 ∷ z1 ∷ z2 ∷ z3 ∷ kind ∷ t ∷ xs)));
      holds = subst (IsComponent file (c0 ∷ c1 ∷ i0 ∷ i1 ∷ s0 ∷ s1 ∷ s2 ∷ s3 ∷ o0 ∷ o1 ∷ m0 ∷ m1 ∷ f0 ∷ f1 ∷ f2 ∷ f3 ∷ z0 ∷ z1 ∷ z2 ∷ z3 ∷ kind ∷ t ∷ take t xs)) split.1
          (refl, refl, refl, refl, refl, refl, refl, refl, sym texted, ltb-false (length file) (offset + size) split.0, refl);
    }) bytes (omega arith) h long

pub record ComponentsBuilt (file : List ℕ) (n : ℕ) (bytes : List ℕ) (cs : List ComponentOf) (rest : List ℕ) : Type 0 where
  pub first : AreFirst (IsComponent file) bytes cs rest
  pub counted : length cs ≡ n

pub components_built : (file : List ℕ) (n : ℕ) (bytes rest : List ℕ) (cs : List ComponentOf) → components_of file n bytes ≡ Ok cs → after_components n bytes ≡ Some rest → ComponentsBuilt file n bytes cs rest
unfolding components_of after_components
components_built file zero bytes rest cs h w =
    let none : [] ≡ cs = cc in
    let all : bytes ≡ rest = cc in
    subst (λ cs. ComponentsBuilt file zero bytes cs rest) none (record { first = record { front = []; is = all; hold = refl }; counted = refl })
components_built file (suc n) bytes rest cs h w =
    let one = through (component_of file bytes) _ cs h in
    let others = through (components_of file n (drop (22 + slice_index bytes 21) bytes)) _ cs one.gives in
    let walk = component_walked n bytes rest w in
    let built = components_built file n (drop (22 + slice_index bytes 21) bytes) rest others.value others.is walk.1 in
    let same : one.value ∷ others.value ≡ cs = let e = others.gives in cc in
    subst (λ cs. ComponentsBuilt file (suc n) bytes cs rest) same
    (record {
      first = more_first (IsComponent file) bytes (drop (22 + slice_index bytes 21) bytes) rest one.value others.value (component_built file bytes one.value one.is walk.0) built.first;
      counted = ap suc built.counted;
    })
