-- Consecutive images that are read, and lines of other components.
use Rattle.std.proofs.Common.{◌≡◌, ◌+◌, ◌<◌, ◌++◌, ℕ, true, false, List, [], ◌∷◌, Option, Some, None, drop, get_or, is_some, length, option_map, append_assoc, append-nil, ap, refl, sym}
use Rattle.std.proofs.lemmas.List.{drop_all, drop_more}
use Rattle.fw_store.specs.Active.{ImageEntryOf, image_name}
use Rattle.fw_store.specs.Folders.{Files, image_by, images_of, with_image}
use Rattle.fw_store.specs.Kept.{KeptOf, image_for}
use Rattle.fw_store.specs.Opening.{has_foreign}

-- some images, and those after them
abbrev pub in_front : List KeptOf → Option (List KeptOf) → Option (List KeptOf)
in_front front more = option_map (λ ks. front ++ ks) more

pub front_none : (o : Option (List KeptOf)) → in_front [] o ≡ o
front_none None = refl
front_none (Some ks) = refl

one_more : (front : List KeptOf) (k : KeptOf) (o : Option (List KeptOf)) → in_front (front ++ k ∷ []) o ≡ in_front front (with_image (Some k) o)
one_more front k None = refl
one_more front k (Some ks) = ap (λ xs. Some xs) (append_assoc front (k ∷ []) ks)

-- an image more
pub image_more : (files : Files) (front : List KeptOf) (es : List ImageEntryOf) (i : ℕ) (d : ImageEntryOf) (k : KeptOf) → i < length es
    → Some k ≡ image_by (get_or es i d) (files (image_name (get_or es i d).key (get_or es i d).number))
    → in_front (front ++ k ∷ []) (images_of files (drop (i + 1) es)) ≡ in_front front (images_of files (drop i es))
image_more files front es i d k below is =
    rw (drop_more es i d below, sym is) (one_more front k (images_of files (drop (i + 1) es)))

-- an image that isn't there
pub image_none : (files : Files) (front : List KeptOf) (es : List ImageEntryOf) (i : ℕ) (d : ImageEntryOf) → i < length es
    → None ≡ image_by (get_or es i d) (files (image_name (get_or es i d).key (get_or es i d).number))
    → in_front front (images_of files (drop i es)) ≡ None
image_none files front es i d below is = rw (drop_more es i d below, sym is) refl

-- no image more
pub image_all : (files : Files) (front : List KeptOf) (es : List ImageEntryOf) (i : ℕ) → drop i es ≡ [] → in_front front (images_of files (drop i es)) ≡ Some front
image_all files front es i none = rw none (ap (λ xs. Some xs) (append-nil front))

pub ruleset looking = (front_none, image_more, image_none, image_all, drop_all)

pub foreign_here : (base : List KeptOf) (es : List ImageEntryOf) (i : ℕ) (d : ImageEntryOf) → i < length es → is_some (image_for base (get_or es i d).key) ≡ false → has_foreign base (drop i es) ≡ true
foreign_here base es i d below is = rw (drop_more es i d below, is) refl

pub foreign_later : (base : List KeptOf) (es : List ImageEntryOf) (i : ℕ) (d : ImageEntryOf) → i < length es → is_some (image_for base (get_or es i d).key) ≡ true
    → has_foreign base (drop i es) ≡ has_foreign base (drop (i + 1) es)
foreign_later base es i d below is = rw (drop_more es i d below, is) refl

pub ruleset foreign = (foreign_here, foreign_later, drop_all)
