-- The images found in a folder over a configuration's images are the kept ones.
use Rattle.std.proofs.Common.{◌≡◌, ◌∙◌, ◌++◌, ◌==◌, Bool, true, false, List, [], ◌∷◌, Option, Some, None, if◌then◌else◌, is_some, ap, refl, sym}
use Rattle.std.proofs.lemmas.Bool.{and_parts, eqb-true}
use Rattle.fd_core.specs.Images.{ImageOf, same_key}
use Rattle.fwup_wire.specs.declared.values.Key.{Key}
use Rattle.fw_store.specs.Folders.{WhatIsKeptIsFound, others_than, stored_after}
use Rattle.fw_store.specs.Kept.{KeptOf, image_for, kept_after, replaced_by}

pub same_keys : (a b : Key) → same_key a b ≡ true → a ≡ b
same_keys a b same =
    let parts = and_parts (a.classification == b.classification) (a.identifier == b.identifier) same in
    ap (λ n. record { classification = n; identifier = a.identifier }) (eqb-true a.classification b.classification parts.0)
    ∙ ap (λ n. record { classification = b.classification; identifier = n }) (eqb-true a.identifier b.identifier parts.1)

abbrev or_else : Option ImageOf → Option ImageOf → Option ImageOf
or_else None o = o
or_else (Some i) o = Some i

first_if : (b : Bool) (i : ImageOf) (o p : Option ImageOf) → (if b then Some i else or_else o p) ≡ or_else (if b then Some i else o) p
first_if true i o p = refl
first_if false i o p = refl

in_front : (xs ys : List KeptOf) (key : Key) → image_for (xs ++ ys) key ≡ or_else (image_for xs key) (image_for ys key)
in_front [] ys key = refl
in_front (x ∷ xs) ys key =
    ap (λ o. if same_key x.key key then Some x.image else o) (in_front xs ys key) ∙ first_if (same_key x.key key) x.image (image_for xs key) (image_for ys key)

other_one : (same gone : Bool) (images ks : List KeptOf) (k : KeptOf) (key : Key) → same_key k.key key ≡ same → is_some (image_for images k.key) ≡ gone
    → image_for images key ≡ None → image_for (others_than images ks) key ≡ image_for ks key → image_for (others_than images (k ∷ ks)) key ≡ image_for (k ∷ ks) key
other_one true true images ks k key same gone none rest =
    let bad : is_some (image_for images k.key) ≡ false = ap (λ c. is_some (image_for images c)) (same_keys k.key key same) ∙ ap (λ (o : Option ImageOf). is_some o) none in absurd (cc)
other_one false true images ks k key same gone none rest = rw (gone, same) rest
other_one true false images ks k key same gone none rest = rw (gone, same) refl
other_one false false images ks k key same gone none rest = rw (gone, same) rest

others_found : (images ks : List KeptOf) (key : Key) → image_for images key ≡ None → image_for (others_than images ks) key ≡ image_for ks key
others_found images [] key none = refl
others_found images (k ∷ ks) key none =
    other_one (same_key k.key key) (is_some (image_for images k.key)) images ks k key refl refl none (others_found images ks key none)

twice : (k : KeptOf) (o : Option ImageOf) (i : ImageOf) → replaced_by (replaced_by k o) (Some i) ≡ replaced_by k (Some i)
twice k None i = refl
twice k (Some j) i = refl

key_stays : (k : KeptOf) (o : Option ImageOf) → (replaced_by k o).key ≡ k.key
key_stays k None = refl
key_stays k (Some i) = refl

found_by : (images stored : List KeptOf) (k : KeptOf) (o : Option ImageOf) → image_for images k.key ≡ o
    → replaced_by k (or_else (image_for images k.key) (image_for (others_than images stored) k.key)) ≡ replaced_by (replaced_by k (image_for stored k.key)) (image_for images k.key)
found_by images stored k None is = rw (is, others_found images stored k.key is) refl
found_by images stored k (Some i) is = rw is (sym (twice k (image_for stored k.key) i))

found_one : (images stored : List KeptOf) (k : KeptOf)
    → replaced_by k (image_for (stored_after images stored) k.key) ≡ replaced_by (replaced_by k (image_for stored k.key)) (image_for images (replaced_by k (image_for stored k.key)).key)
found_one images stored k =
    ap (λ o. replaced_by k o) (in_front images (others_than images stored) k.key)
    ∙ found_by images stored k (image_for images k.key) refl
    ∙ ap (λ c. replaced_by (replaced_by k (image_for stored k.key)) (image_for images c)) (sym (key_stays k (image_for stored k.key)))

pub found_again : WhatIsKeptIsFound
found_again [] images stored = refl
found_again (k ∷ base) images stored =
    ap (λ x. x ∷ kept_after base (stored_after images stored)) (found_one images stored k)
    ∙ ap (λ xs. replaced_by (replaced_by k (image_for stored k.key)) (image_for images (replaced_by k (image_for stored k.key)).key) ∷ xs) (found_again base images stored)
