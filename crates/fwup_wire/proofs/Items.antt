-- Lists of items, one after the other.
use Rattle.std.proofs.Common.{List, None, Option, Some, [], ap, arith, drop, is_some, length, refl, slice_index, suc, sym, true, unwrap_or, zero, ◌+◌, ◌++◌, ◌-◌, ◌<◌, ◌∙◌, ◌∷◌, ◌≡◌, ℕ}
use Rattle.std.proofs.lemmas.List.{append_assoc, append-nil, get_or-drop, length-append}
use Rattle.std.specs.Option.{option_map}
use Rattle.fwup_wire.specs.Items.{AreItems, EachItem, HoldsItems, items_bytes, items_in, with_first}

is_some-option_map : {A B : Type 0} (f : A → B) (o : Option A) → is_some (option_map f o) ≡ is_some o
is_some-option_map f None = refl
is_some-option_map f (Some a) = refl

-- the other items are after the first item
pub items_more : {A : Type 0} (first : List ℕ → Option A) (size : A → ℕ) (count i : ℕ) (bytes : List ℕ) (a : A)
    → i < count → first bytes ≡ Some a
    → is_some (items_in first size (count - i) bytes) ≡ is_some (items_in first size (count - (i + 1)) (drop (size a) bytes))
items_more first size count i bytes a below e =
    let one : count - i ≡ suc (count - (i + 1)) = omega arith in
    rw (one, e) (is_some-option_map (λ items. a ∷ items) (items_in first size (count - (i + 1)) (drop (size a) bytes)))

-- a list that was found has a first item and others, or it was none
others_found : {A R : Type 0} (a : A) (behind : Option (List A)) (items : List A)
    → option_map (λ others. a ∷ others) behind ≡ Some items
    → ((others : List A) → behind ≡ Some others → items ≡ a ∷ others → R) → R
others_found a None items e found = absurd (cc)
others_found a (Some others) items e found = found others refl (let same : items ≡ a ∷ others = cc in same)

first_found : {A R : Type 0} (first : Option A) (behind : A → Option (List A)) (items : List A)
    → with_first first behind ≡ Some items
    → ((a : A) (others : List A) → first ≡ Some a → behind a ≡ Some others → items ≡ a ∷ others → R) → R
first_found None behind items e found = absurd (cc)
first_found (Some a) behind items e found =
    others_found a (behind a) items e (λ others others_are same. found a others refl others_are same)

-- there are as many items as were asked for
pub items_length : {A : Type 0} (first : List ℕ → Option A) (size : A → ℕ) (count : ℕ) (bytes : List ℕ) (items : List A)
    → items_in first size count bytes ≡ Some items → length items ≡ count
items_length first size zero [] items e = let none : items ≡ [] = cc in rw none refl
items_length first size zero (x ∷ xs) items e = absurd (cc)
items_length {A} first size (suc count) bytes items e =
    first_found (first bytes) (λ a. items_in first size count (drop (size a) bytes)) items e
    (λ a others is others_are same.
    let rest = items_length first size count (drop (size a) bytes) others others_are in
    rw same (omega (arith, rest)))

abbrev pub AreBytes : List ℕ → Type 0
AreBytes bytes = (k : ℕ) → slice_index bytes k < 256

pub bytes_behind : (n : ℕ) (bytes : List ℕ) → AreBytes bytes → AreBytes (drop n bytes)
bytes_behind n bytes are k = rw (get_or-drop n bytes k 0) (are (n + k))

-- if the first item is in its encoded form, all items are
pub items_spelled : {A : Type 0} (first : List ℕ → Option A) (size : A → ℕ) (spelling : A → List ℕ)
    → ((bytes : List ℕ) (a : A) → AreBytes bytes → first bytes ≡ Some a → bytes ≡ spelling a ++ drop (size a) bytes)
    → (count : ℕ) (bytes : List ℕ) (items : List A) → AreBytes bytes → items_in first size count bytes ≡ Some items
    → bytes ≡ items_bytes spelling items
items_spelled first size spelling exact zero [] items are e = let none : items ≡ [] = cc in rw none refl
items_spelled first size spelling exact zero (x ∷ xs) items are e = absurd (cc)
items_spelled first size spelling exact (suc count) bytes items are e =
    first_found (first bytes) (λ a. items_in first size count (drop (size a) bytes)) items e
    (λ a others is others_are same.
    let rest = items_spelled first size spelling exact count (drop (size a) bytes) others (bytes_behind (size a) bytes are) others_are in
    exact bytes a are is ∙ ap (λ behind. spelling a ++ behind) rest ∙ ap (items_bytes spelling) (sym same))

-- an encoded list is read back
pub items_read_back : {A : Type 0} (first : List ℕ → Option A) (size : A → ℕ) (spelling : A → List ℕ) (Fits : A → Type 0)
    → ((a : A) (rest : List ℕ) → Fits a → first (spelling a ++ rest) ≡ Some a)
    → ((a : A) (rest : List ℕ) → drop (size a) (spelling a ++ rest) ≡ rest)
    → (items : List A) → EachItem Fits items → items_in first size (length items) (items_bytes spelling items) ≡ Some items
items_read_back first size spelling Fits reads skips [] fit = refl
items_read_back first size spelling Fits reads skips (a ∷ items) fit =
    let is = reads a (items_bytes spelling items) fit.0 in
    let behind = skips a (items_bytes spelling items) in
    let others = items_read_back first size spelling Fits reads skips items fit.1 in
    rw (is, behind, others) refl

-- a list that was read is some
found_of : {A : Type 0} (o : Option (List A)) → is_some o ≡ true → o ≡ Some (unwrap_or o [])
found_of None e = absurd (cc)
found_of (Some items) e = refl

-- bytes that read as a list are its encoded form
pub are_items : {A : Type 0} (first : List ℕ → Option A) (size : A → ℕ) (spelling : A → List ℕ)
    → ((bytes : List ℕ) (a : A) → AreBytes bytes → first bytes ≡ Some a → bytes ≡ spelling a ++ drop (size a) bytes)
    → (count : ℕ) (bytes : List ℕ) → AreBytes bytes → is_some (items_in first size count bytes) ≡ true
    → AreItems first size spelling count bytes (unwrap_or (items_in first size count bytes) [])
are_items first size spelling exact count bytes are e =
    let found = found_of (items_in first size count bytes) e in
    record {
      found = found;
      spelled = items_spelled first size spelling exact count bytes (unwrap_or (items_in first size count bytes) []) are found;
    }

-- the other items are after the first item of a list
pub items_behind : {A : Type 0} (first : List ℕ → Option A) (size : A → ℕ) (spelling : A → List ℕ)
    → ((a : A) (rest : List ℕ) → drop (size a) (spelling a ++ rest) ≡ rest)
    → (count : ℕ) (bytes : List ℕ) (a : A) (items : List A) → (count ≡ 0 → ⊥) → first bytes ≡ Some a
    → AreItems first size spelling count bytes items
    → AreItems first size spelling (count - 1) (drop (size a) bytes) (unwrap_or (items_in first size (count - 1) (drop (size a) bytes)) [])
items_behind first size spelling skips count bytes a items some is are =
    let one : count ≡ suc (count - 1) = omega arith in
    let found = are.found in
    let more = rw (one, is) at found in
    others_found a (items_in first size (count - 1) (drop (size a) bytes)) items more
    (λ others others_are same.
    let spelled = are.spelled in
    rw others_are
    (record {
      found = others_are;
      spelled = ap (drop (size a)) (rw same at spelled) ∙ skips a (items_bytes spelling others);
    }))

-- one more item at the end
EachItem-append : {A : Type 0} (P : A → Type 0) (items : List A) (a : A) → EachItem P items → P a → EachItem P (items ++ a ∷ [])
EachItem-append P [] a each one = (one, tt)
EachItem-append P (b ∷ items) a each one = (each.0, EachItem-append P items a each.1 one)

items_bytes-append : {A : Type 0} (spelling : A → List ℕ) (items : List A) (a : A)
    → items_bytes spelling (items ++ a ∷ []) ≡ items_bytes spelling items ++ spelling a
items_bytes-append spelling [] a = append-nil (spelling a)
items_bytes-append spelling (b ∷ items) a =
    ap (λ behind. spelling b ++ behind) (items_bytes-append spelling items a)
    ∙ sym (append_assoc (spelling b) (items_bytes spelling items) (spelling a))

pub items_pushed : {A : Type 0} (first : List ℕ → Option A) (size : A → ℕ) (spelling : A → List ℕ) (Fits : A → Type 0)
    → ((a : A) (rest : List ℕ) → Fits a → first (spelling a ++ rest) ≡ Some a)
    → ((a : A) (rest : List ℕ) → drop (size a) (spelling a ++ rest) ≡ rest)
    → (count : ℕ) (bytes : List ℕ) (items : List A) (a : A) → HoldsItems first size spelling Fits count bytes items → Fits a
    → HoldsItems first size spelling Fits (count + 1) (bytes ++ spelling a) (items ++ a ∷ [])
items_pushed {A} first size spelling Fits reads skips count bytes items a holds fits =
    let each = EachItem-append Fits items a holds.fit fits in
    let long = items_length first size count bytes items holds.are.found in
    let longer : length (items ++ a ∷ []) ≡ count + 1 = length-append items (a ∷ []) ∙ (rw long refl) in
    let spelled : bytes ++ spelling a ≡ items_bytes spelling (items ++ a ∷ []) =
    ap (λ before. before ++ spelling a) holds.are.spelled ∙ sym (items_bytes-append spelling items a) in
    let back = items_read_back first size spelling Fits reads skips (items ++ a ∷ []) each in
    record {
      are = record { found = rw (spelled, sym longer) back; spelled = spelled };
      fit = each;
    }

-- the same of the list that is then read
pub items_kept : {A : Type 0} (first : List ℕ → Option A) (size : A → ℕ) (spelling : A → List ℕ) (Fits : A → Type 0)
    (count : ℕ) (bytes : List ℕ) (items : List A) → HoldsItems first size spelling Fits count bytes items
    → HoldsItems first size spelling Fits count bytes (unwrap_or (items_in first size count bytes) [])
items_kept first size spelling Fits count bytes items holds = let found = holds.are.found in rw found holds

-- a list is found again by its own number of items
pub items_counted : {A : Type 0} (first : List ℕ → Option A) (size : A → ℕ) (count : ℕ) (bytes : List ℕ) (items : List A)
    → items_in first size count bytes ≡ Some items → items_in first size (length items) bytes ≡ Some items
items_counted first size count bytes items e = rw (items_length first size count bytes items e) e
