-- Lines that stay, and components that occur once.
use Rattle.std.proofs.Common.{◌≡◌, ◌+◌, ◌-◌, ◌<◌, ◌++◌, ℕ, Bool, true, false, List, [], ◌∷◌, Option, Some, None, if◌then◌else◌, drop, take, get_or, is_some, length, map, option_map, refl, sym, arith}
use Rattle.std.specs.List.{AllByRecursion}
use Rattle.std.proofs.lemmas.List.{drop_more, take_all, take_more}
use Rattle.std.proofs.lemmas.Bool.{or_from}
use Rattle.fd_core.specs.Banks.{HaveKeysOnce, has_key}
use Rattle.fd_core.specs.Images.{ImageOf, same_key}
use Rattle.fwup_wire.specs.declared.values.Key.{Key}
use Rattle.fw_store.specs.Active.{ImageEntryOf, IsImageEntry}
use Rattle.fw_store.specs.Keeping.{lines_left}
use Rattle.fw_store.specs.Kept.{KeptOf, image_for}

pub left_skip : (images : List KeptOf) (es : List ImageEntryOf) (i : ℕ) (d : ImageEntryOf) → i < length es → is_some (image_for images (get_or es i d).key) ≡ true
    → lines_left images (drop i es) ≡ lines_left images (drop (i + 1) es)
left_skip images es i d below is = rw (drop_more es i d below, is) refl

pub left_keep : (images : List KeptOf) (es : List ImageEntryOf) (i : ℕ) (d : ImageEntryOf) → i < length es → is_some (image_for images (get_or es i d).key) ≡ false
    → lines_left images (drop i es) ≡ get_or es i d ∷ lines_left images (drop (i + 1) es)
left_keep images es i d below is = rw (drop_more es i d below, is) refl

pub ruleset leaving = (left_skip, left_keep)

all_push : (P : ImageEntryOf → Type 0) (es : List ImageEntryOf) (e : ImageEntryOf) → AllByRecursion P es → P e → AllByRecursion P (es ++ e ∷ [])
all_push P [] e all here = (here, tt)
all_push P (x ∷ es) e all here = (all.0, all_push P es e all.1 here)

pub all_more : (es : List ImageEntryOf) (i : ℕ) (d : ImageEntryOf) → i < length es → AllByRecursion IsImageEntry (take i es) → IsImageEntry (get_or es i d) → AllByRecursion IsImageEntry (take (i + 1) es)
all_more es i d below all here = rw (take_more es i d below) (all_push IsImageEntry (take i es) (get_or es i d) all here)

none_if : (b : Bool) (i : ImageOf) (o : Option ImageOf) → (if b then Some i else o) ≡ None → (b ≡ false) × (o ≡ None)
none_if true i o is = absurd (cc)
none_if false i o is = (refl, is)

pub has_none : (ks : List KeptOf) (key : Key) → image_for ks key ≡ None → has_key (map (λ (k : KeptOf). k.key) ks) key ≡ false
has_none [] key none = refl
has_none (k ∷ ks) key none =
    let parts = none_if (same_key k.key key) k.image (image_for ks key) none in
    or_from (same_key k.key key) (has_key (map (λ (x : KeptOf). x.key) ks) key) parts.0 (has_none ks key parts.1)

-- an option that has nothing
pub none_found : {A : Type 0} (f : A → ImageOf) (o : Option A) (found : Option ImageOf) → option_map f o ≡ found → is_some o ≡ false → found ≡ None
none_found {A} f None found is none = sym is
none_found {A} f (Some x) found is none = absurd (cc)

-- the first component isn't among the others, which occur once
pub apart_whole : (ks : List KeptOf) (d : KeptOf) {key : Key} → 0 < length ks → key ≡ (get_or ks 0 d).key → image_for (take (length ks - 1) (drop 1 ks)) key ≡ None
    → HaveKeysOnce (map (λ (k : KeptOf). k.key) (take (length ks - 1) (drop 1 ks))) → HaveKeysOnce (map (λ (k : KeptOf). k.key) ks)
apart_whole [] d {key} some is none apart = absurd (omega arith)
apart_whole (k ∷ ks) d {key} some is none apart =
    let whole : take (length (k ∷ ks) - 1) ks ≡ ks = take_all (length (k ∷ ks) - 1) ks (omega arith) in
    (has_none ks k.key (rw whole at (rw is at none)), rw whole at apart)
