-- Lists of items that follow each other in a message. Each item has a length of its own.
use Rattle.std.specs.Prelude.{List, None, Option, Some, [], drop, suc, zero, ◌∷◌, ◌++◌, ◌≡◌, ℕ}
use Rattle.std.specs.Option.{option_map}

-- a first item, if there is one, and the items after it, if they can be read
abbrev pub with_first : {A : Type 0} → Option A → (A → Option (List A)) → Option (List A)
with_first None behind = None
with_first (Some a) behind = option_map (λ items. a ∷ items) (behind a)

-- The given number of items and nothing after them, if the bytes are that. `first` is the item at
-- the beginning of the bytes, and `size` is the number of its bytes.
abbrev pub items_in : {A : Type 0} → (List ℕ → Option A) → (A → ℕ) → ℕ → List ℕ → Option (List A)
items_in first size zero [] = Some []
items_in first size zero (_ ∷ _) = None
items_in first size (suc count) bytes = with_first (first bytes) (λ a. items_in first size count (drop (size a) bytes))

-- the items in order
abbrev pub items_bytes : {A : Type 0} → (A → List ℕ) → List A → List ℕ
items_bytes spelling [] = []
items_bytes spelling (a ∷ items) = spelling a ++ items_bytes spelling items

-- a fact about each item
abbrev pub EachItem : {A : Type 0} → (A → Type 0) → List A → Type 0
EachItem P [] = Unit {0}
EachItem P (a ∷ items) = P a × EachItem P items

-- The bytes are the given number of items in their encoded form, and these are the items.
pub record AreItems {A : Type 0} (first : List ℕ → Option A) (size : A → ℕ) (spelling : A → List ℕ) (count : ℕ)
    (bytes : List ℕ) (items : List A) : Type 0 where
  pub found : items_in first size count bytes ≡ Some items
  pub spelled : bytes ≡ items_bytes spelling items

-- The bytes are the given number of items, each of which fits its fields.
pub record HoldsItems {A : Type 0} (first : List ℕ → Option A) (size : A → ℕ) (spelling : A → List ℕ) (Fits : A → Type 0)
    (count : ℕ) (bytes : List ℕ) (items : List A) : Type 0 where
  pub are : AreItems first size spelling count bytes items
  pub fit : EachItem Fits items
