-- The images read from a folder after the calls that keep images in it.
use Rattle.std.proofs.Common.{◌≡◌, ◌≢◌, ◌∙◌, ◌<◌, ◌^◌, ◌==◌, ◌&&◌, ◌++◌, inl, inr, ℕ, Bool, true, false, List, [], ◌∷◌, Option, Some, None, codes, if◌then◌else◌, is_some, length, map, option_map, option_and_then, append-nil, ap, refl, sym, subst, arith}
use Rattle.std.specs.List.{AllByRecursion}
use Rattle.std.proofs.lemmas.Bool.{cases_Bool, eq-eqb}
use Rattle.fw_package.specs.Crc.{crc_of}
use Rattle.fwup_wire.specs.declared.values.Key.{Key}
use Rattle.fw_store.specs.Active.{ImageEntryOf, IsImageEntry, image_name, name_at, key_at, number_at, field_at}
use Rattle.fw_store.specs.Folders.{Files, ChangesOnlyFile, active_name, image_by, images_of, lines_by, new_name, others_than, stored_after, stored_in, with_image}
use Rattle.fw_store.specs.Keeping.{LeavesLowerFiles, ChangesOnlyNewFile, IsSettled, WritesActive, entries_after, entry_for, entry_key, lines_left, IsKey}
use Rattle.fw_store.specs.Kept.{KeptOf, image_for}
use Rattle.fw_store.proofs.ReadBack.{name_apart, name_back}

-- NAMES

name_known : (key : Key) (n : ℕ) → IsKey key → n < 2 ^ 32 → name_at (image_name key n) ≡ Some ((key, n), codes "image")
name_known key n h small = ap name_at (sym (append-nil (image_name key n)) ∙ name_apart key n []) ∙ name_back key n (codes "image") h small

active_unknown : name_at active_name ≡ None
unfolding name_at key_at number_at field_at
active_unknown = refl

new_unknown : name_at new_name ≡ None
unfolding name_at key_at number_at field_at
new_unknown = refl

not_some : (x : (Key × ℕ) × List ℕ) → ◌≡◌ {A = Option ((Key × ℕ) × List ℕ)} None (Some x) → ⊥
not_some x e = absurd (cc)

pub no_active : (key : Key) (n : ℕ) → IsKey key → n < 2 ^ 32 → active_name ≢ image_name key n
no_active key n h small e = not_some ((key, n), codes "image") (sym active_unknown ∙ ap name_at e ∙ name_known key n h small)

pub no_new : (key : Key) (n : ℕ) → IsKey key → n < 2 ^ 32 → image_name key n ≢ new_name
no_new key n h small e = not_some ((key, n), codes "image") (sym new_unknown ∙ ap name_at (sym e) ∙ name_known key n h small)

pub active_not_new : active_name ≢ new_name
active_not_new e = let bad : length active_name ≡ length new_name = ap (λ (xs : List ℕ). length xs) e in absurd (omega arith)

-- the number in a name
abbrev number_said : Option ((Key × ℕ) × List ℕ) → ℕ
number_said None = 0
number_said (Some said) = said.0.1

abbrev key_said : Key → Option ((Key × ℕ) × List ℕ) → Key
key_said key None = key
key_said key (Some said) = said.0.0

said_same : (key other : Key) (n m : ℕ) → IsKey key → IsKey other → n < 2 ^ 32 → m < 2 ^ 32 → image_name other m ≡ image_name key n
    → ◌≡◌ {A = Option ((Key × ℕ) × List ℕ)} (Some ((other, m), codes "image")) (Some ((key, n), codes "image"))
said_same key other n m h g small low e = sym (name_known other m g low) ∙ ap name_at e ∙ name_known key n h small

pub names_apart : (key other : Key) (n m : ℕ) → IsKey key → IsKey other → n < 2 ^ 32 → m < n → image_name other m ≢ image_name key n
names_apart key other n m h g small low e =
    let bad : m ≡ n = ap number_said (said_same key other n m h g small (omega arith) e) in absurd (omega arith)

pub keys_apart : (key other : Key) (n : ℕ) → IsKey key → IsKey other → n < 2 ^ 32 → other ≢ key → image_name other n ≢ image_name key n
keys_apart key other n h g small differ e = differ (ap (λ o. key_said key o) (said_same key other n n h g small small e))

-- CALLS THAT KEEP THE ACTIVE IMAGES

pub apart_self : (n : ℕ) (f : Files) → LeavesLowerFiles n f f
apart_self n f = record { names = λ key m h low. refl; active = refl }

pub apart_image : (n : ℕ) (e f g : Files) (key : Key) → n < 2 ^ 32 → IsKey key → LeavesLowerFiles n e f → ChangesOnlyFile f g (image_name key n) → LeavesLowerFiles n e g
apart_image n e f g key small h before only = record {
  names = λ other m k low. only.others (image_name other m) (names_apart key other n m h k small low) ∙ before.names other m k low;
  active = only.others active_name (no_active key n h small) ∙ before.active;
}

pub apart_new : (n : ℕ) (e f g : Files) → n < 2 ^ 32 → LeavesLowerFiles n e f → ChangesOnlyNewFile f g → LeavesLowerFiles n e g
apart_new n e f g small before only = record {
  names = λ other m k low. only.others (image_name other m) (no_new other m k (omega arith)) ∙ before.names other m k low;
  active = only.others active_name active_not_new ∙ before.active;
}

-- READING

by_file : (f g : Files) (e : ImageEntryOf) → g (image_name e.key e.number) ≡ f (image_name e.key e.number) → image_by e (g (image_name e.key e.number)) ≡ image_by e (f (image_name e.key e.number))
by_file f g e same = ap (λ o. image_by e o) same

images_same : (n : ℕ) (f g : Files) (es : List ImageEntryOf) → ((key : Key) (m : ℕ) → IsKey key → m < n → g (image_name key m) ≡ f (image_name key m))
    → AllByRecursion IsImageEntry es → AllByRecursion (λ e. e.number < n) es → images_of g es ≡ images_of f es
images_same n f g [] same are below = refl
images_same n f g (e ∷ es) same are below =
    ap (λ o. with_image (image_by e o) (images_of g es)) (same e.key e.number (entry_key e are.0) below.0)
    ∙ ap (λ ks. with_image (image_by e (f (image_name e.key e.number))) ks) (images_same n f g es same are.1 below.1)

pub stored_of : (n : ℕ) (f : Files) (es : List ImageEntryOf) → IsSettled n f es → stored_in f ≡ images_of f es
unfolding stored_in
stored_of n f es h = ap (λ o. option_and_then (λ es. images_of f es) o) h.lines

pub settled_later : (n m : ℕ) (f g : Files) (es : List ImageEntryOf) → n < m → IsSettled n f es → LeavesLowerFiles n f g → IsSettled m g es
settled_later n m f g es more h apart = record {
  lines = ap lines_by apart.active ∙ h.lines;
  entries = h.entries;
  below = all_below n m es more h.below;
  there = ap (λ (o : Option (List KeptOf)). is_some o) (images_same n f g es apart.names h.entries h.below) ∙ h.there;
}
  where
    all_below : (n m : ℕ) (es : List ImageEntryOf) → n < m → AllByRecursion (λ e. e.number < n) es → AllByRecursion (λ e. e.number < m) es
    all_below n m [] more below = tt
    all_below n m (e ∷ es) more below = let low = below.0 in (omega arith, all_below n m es more below.1)

pub stored_same : (n : ℕ) (f g : Files) (es : List ImageEntryOf) → IsSettled n f es → LeavesLowerFiles n f g → stored_in g ≡ stored_in f
unfolding stored_in
stored_same n f g es h apart =
    ap (λ o. option_and_then (λ es. images_of g es) o) (ap lines_by apart.active ∙ h.lines)
    ∙ images_same n f g es apart.names h.entries h.below
    ∙ sym (ap (λ o. option_and_then (λ es. images_of f es) o) h.lines)

-- IMAGES THAT WERE WRITTEN

joined : (front : List KeptOf) (k : KeptOf) (o : Option (List KeptOf)) → with_image (Some k) (option_map (λ more. front ++ more) o) ≡ option_map (λ more. (k ∷ front) ++ more) o
joined front k None = refl
joined front k (Some ks) = refl

none_front : (o : Option (List KeptOf)) → o ≡ option_map (λ more. [] ++ more) o
none_front None = refl
none_front (Some ks) = refl

by_written : (k : KeptOf) (n : ℕ) → image_by (entry_for n k) (Some k.image.bytes) ≡ Some k
by_written k n = rw (eq-eqb (length k.image.bytes) (length k.image.bytes) refl, eq-eqb (crc_of k.image.bytes) (crc_of k.image.bytes) refl) refl

images_next : (n : ℕ) (g : Files) (images : List KeptOf) (es : List ImageEntryOf) → AllByRecursion (λ k. g (image_name k.key n) ≡ Some k.image.bytes) images
    → images_of g (map (entry_for n) images ++ es) ≡ option_map (λ more. images ++ more) (images_of g es)
images_next n g [] es written = none_front (images_of g es)
images_next n g (k ∷ ks) es written =
    ap (λ o. with_image o (images_of g (map (entry_for n) ks ++ es))) (ap (λ o. image_by (entry_for n k) o) written.0 ∙ by_written k n)
    ∙ ap (λ o. with_image (Some k) o) (images_next n g ks es written.1)
    ∙ joined ks k (images_of g es)

-- IMAGES THAT STAY

some_in : {A : Type 0} (o : Option A) → is_some o ≡ true → (x : A) × (o ≡ Some x)
some_in None h = absurd (cc)
some_in (Some x) h = (x, refl)

key_in : (b : Bool) (e : ImageEntryOf) (k i : KeptOf) → i.key ≡ e.key → (if b then Some i else None) ≡ Some k → k.key ≡ e.key
key_in true e k i is made = let same : i ≡ k = cc in ap (λ (x : KeptOf). x.key) (sym same) ∙ is
key_in false e k i is made = absurd (cc)

key_by : (e : ImageEntryOf) (o : Option (List ℕ)) (k : KeptOf) → image_by e o ≡ Some k → k.key ≡ e.key
key_by e None k made = absurd (cc)
key_by e (Some bytes) k made =
    key_in ((length bytes == e.size) && (crc_of bytes == e.checksum)) e k (record { key = e.key; image = record { label = e.label; bytes = bytes } }) refl made

kept_if : (b : Bool) (k : KeptOf) (rest : List KeptOf) (o : Option (List KeptOf)) → o ≡ Some rest → with_image (Some k) o ≡ Some (if b then k ∷ rest else k ∷ rest)
kept_if true k rest o is = rw is refl
kept_if false k rest o is = rw is refl

left_one : (b : Bool) (f : Files) (images : List KeptOf) (e : ImageEntryOf) (es : List ImageEntryOf) (k : KeptOf) (ks : List KeptOf)
    → is_some (image_for images e.key) ≡ b → is_some (image_for images k.key) ≡ b
    → image_by e (f (image_name e.key e.number)) ≡ Some k → images_of f (lines_left images es) ≡ Some (others_than images ks)
    → images_of f (lines_left images (e ∷ es)) ≡ Some (others_than images (k ∷ ks))
left_one true f images e es k ks of_line of_image here rest = rw (of_line, of_image) rest
left_one false f images e es k ks of_line of_image here rest = rw (of_line, of_image, here, rest) refl

left_with : (f : Files) (images : List KeptOf) (e : ImageEntryOf) (es : List ImageEntryOf) (stored : List KeptOf) (o : Option KeptOf) (more : Option (List KeptOf))
    → image_by e (f (image_name e.key e.number)) ≡ o → ((ks : List KeptOf) → more ≡ Some ks → images_of f (lines_left images es) ≡ Some (others_than images ks))
    → with_image o more ≡ Some stored → images_of f (lines_left images (e ∷ es)) ≡ Some (others_than images stored)
left_with f images e es stored None more here rest made = absurd (cc)
left_with f images e es stored (Some k) None here rest made = absurd (cc)
left_with f images e es stored (Some k) (Some ks) here rest made =
    let all : k ∷ ks ≡ stored = cc in
    subst (λ (xs : List KeptOf). images_of f (lines_left images (e ∷ es)) ≡ Some (others_than images xs)) all
    (left_one (is_some (image_for images e.key)) f images e es k ks refl (ap (λ key. is_some (image_for images key)) (key_by e (f (image_name e.key e.number)) k here)) here (rest ks refl))

images_left : (f : Files) (images : List KeptOf) (es : List ImageEntryOf) (stored : List KeptOf) → images_of f es ≡ Some stored
    → images_of f (lines_left images es) ≡ Some (others_than images stored)
images_left f images [] stored is = let none : [] ≡ stored = cc in subst (λ (xs : List KeptOf). Some [] ≡ Some (others_than images xs)) none refl
images_left f images (e ∷ es) stored is =
    left_with f images e es stored (image_by e (f (image_name e.key e.number))) (images_of f es) refl (λ ks more. images_left f images es ks more) is

pub all_left : (P : ImageEntryOf → Type 0) (images : List KeptOf) (es : List ImageEntryOf) → AllByRecursion P es → AllByRecursion P (lines_left images es)
all_left P images [] all = tt
all_left P images (e ∷ es) all =
    elim (cases_Bool (is_some (image_for images e.key))) [
      | inl held ↦ rw held (all_left P images es all.1)
      | inr free ↦ rw free (all.0, all_left P images es all.1)
    ]

-- THE NEXT TEXT

pub put_stored : (n : ℕ) (f g h : Files) (images : List KeptOf) (es : List ImageEntryOf) → n < 2 ^ 32 → IsSettled n f es → LeavesLowerFiles n f g
    → AllByRecursion (λ k. g (image_name k.key n) ≡ Some k.image.bytes) images → AllByRecursion IsImageEntry (entries_after n images es)
    → WritesActive (entries_after n images es) g h → images_of h (entries_after n images es) ≡ option_map (λ stored. stored_after images stored) (stored_in f)
put_stored n f g h images es small settled apart written are put =
    let there = some_in (images_of f es) settled.there in
    let left : AllByRecursion IsImageEntry (lines_left images es) = all_left IsImageEntry images es settled.entries in
    let below : AllByRecursion (λ e. e.number < n) (lines_left images es) = all_left (λ e. e.number < n) images es settled.below in
    images_next n h images (lines_left images es) (all_written n g h images (lines_left images es) small are put written)
    ∙ ap (λ o. option_map (λ more. images ++ more) o) (images_same n f h (lines_left images es) (λ key m k low. put.others (image_name key m) (λ e. no_active key m k (omega arith) (sym e)) (no_new key m k (omega arith)) ∙ apart.names key m k low) left below ∙ images_left f images es there.0 there.1)
    ∙ sym (ap (λ o. option_map (λ stored. stored_after images stored) o) (stored_of n f es settled ∙ there.1))
  where
    all_written : (n : ℕ) (g h : Files) (images : List KeptOf) (es : List ImageEntryOf) → n < 2 ^ 32 → AllByRecursion IsImageEntry (map (entry_for n) images ++ es)
        → {all : List ImageEntryOf} → WritesActive all g h → AllByRecursion (λ k. g (image_name k.key n) ≡ Some k.image.bytes) images → AllByRecursion (λ k. h (image_name k.key n) ≡ Some k.image.bytes) images
    all_written n g h [] es small are put written = tt
    all_written n g h (k ∷ ks) es small are put written = (
      put.others (image_name k.key n) (λ e. no_active k.key n (entry_key (entry_for n k) are.0) small (sym e)) (no_new k.key n (entry_key (entry_for n k) are.0) small) ∙ written.0,
      all_written n g h ks es small are.1 put written.1,
    )
