-- The state of a folder after images were written to it.
use Rattle.std.proofs.Common.{◌≡◌, ◌∙◌, ◌+◌, ◌<◌, ◌^◌, ◌++◌, inl, inr, ℕ, Bool, true, false, List, [], ◌∷◌, Option, Some, None, is_some, map, option_map, ap, refl, sym, arith}
use Rattle.std.specs.List.{AllByRecursion}
use Rattle.fw_store.specs.Active.{ImageEntryOf, IsImageEntry}
use Rattle.fw_store.specs.Folders.{Files, IsAfter, IsBefore, IsBeforeOrAfter, LeavesFiles, PassesStates, active_name, images_of, lines_by, stored_after, stored_in}
use Rattle.fw_store.specs.Keeping.{LeavesLowerFiles, WritesImages, IsSettled, MayHaveReplaced, IsSettledIfKnown, entries_after, entry_for, lines_left}
use Rattle.fw_store.specs.Kept.{KeptOf}
use Rattle.fw_store.proofs.Folders.{all_left, put_stored, settled_later, stored_of, stored_same}
use Rattle.fw_store.proofs.Moments.{passes_none, passes_wider}
use Rattle.fw_store.proofs.ReadBack.{written_is_read}

all_low : (n m : ℕ) (es : List ImageEntryOf) → n < m → AllByRecursion (λ e. e.number < n) es → AllByRecursion (λ e. e.number < m) es
all_low n m [] more below = tt
all_low n m (e ∷ es) more below = let low = below.0 in (omega arith, all_low n m es more below.1)

new_low : (n m : ℕ) (images : List KeptOf) (es : List ImageEntryOf) → n < m → AllByRecursion (λ e. e.number < m) es → AllByRecursion (λ e. e.number < m) (map (entry_for n) images ++ es)
new_low n m [] es more below = below
new_low n m (k ∷ ks) es more below = (more, new_low n m ks es more below)

some_mapped : {A B : Type 0} (f : A → B) (o : Option A) → is_some o ≡ true → is_some (option_map f o) ≡ true
some_mapped {A} {B} f None h = absurd (cc)
some_mapped {A} {B} f (Some x) h = refl

images_after : (n : ℕ) (f h : Files) (images : List KeptOf) (es : List ImageEntryOf) → n < 2 ^ 32 → IsSettled n f es → AllByRecursion IsImageEntry (entries_after n images es)
    → WritesImages n images (entries_after n images es) f h → images_of h (entries_after n images es) ≡ option_map (λ stored. stored_after images stored) (stored_in f)
images_after n f h images es small settled are came = put_stored n f came.between h images es small settled came.apart came.written are came.put

came_settled : (n m : ℕ) (f h : Files) (images : List KeptOf) (es : List ImageEntryOf) → n < 2 ^ 32 → n < m → IsSettled n f es → AllByRecursion IsImageEntry (entries_after n images es)
    → WritesImages n images (entries_after n images es) f h → IsSettled m h (entries_after n images es)
came_settled n m f h images es small more settled are came = record {
  lines = ap lines_by came.put.here ∙ written_is_read (entries_after n images es) are;
  entries = are;
  below = new_low n m images (lines_left images es) more (all_left (λ e. e.number < m) images es (all_low n m es more settled.below));
  there =
      ap (λ (o : Option (List KeptOf)). is_some o) (images_after n f h images es small settled are came)
      ∙ some_mapped (λ stored. stored_after images stored) (stored_in f) (ap (λ (o : Option (List KeptOf)). is_some o) (stored_of n f es settled) ∙ settled.there);
}

came_found : (n : ℕ) (f h : Files) (images : List KeptOf) (es : List ImageEntryOf) → n < 2 ^ 32 → IsSettled n f es → AllByRecursion IsImageEntry (entries_after n images es)
    → WritesImages n images (entries_after n images es) f h → IsAfter images f h
came_found n f h images es small settled are came = record {
  is =
      stored_of (n + 1) h (entries_after n images es) (came_settled n (n + 1) f h images es small (omega arith) settled are came)
      ∙ images_after n f h images es small settled are came;
}

same_found : (n : ℕ) (f h : Files) (es : List ImageEntryOf) → IsSettled n f es → LeavesLowerFiles n f h → IsBefore f h
same_found n f h es settled apart = record { is = stored_same n f h es settled apart }

moment_found : (n : ℕ) (f : Files) (images : List KeptOf) (es : List ImageEntryOf) → n < 2 ^ 32 → IsSettled n f es → AllByRecursion IsImageEntry (entries_after n images es)
    → (g : Files) → MayHaveReplaced n images (entries_after n images es) f g → IsBeforeOrAfter images f g
moment_found n f images es small settled are g (inl apart) = inl (same_found n f g es settled apart)
moment_found n f images es small settled are g (inr came) = inr (came_found n f g images es small settled are came)

-- FOR EACH END OF A CALL

pub ends_ok : (known : Bool) (n : ℕ) (f h : Files) (images : List KeptOf) (es new : List ImageEntryOf) → n < 2 ^ 32 → new ≡ entries_after n images es → AllByRecursion IsImageEntry new
    → IsSettledIfKnown known true n f es → (known ≡ true → WritesImages n images new f h) → IsSettledIfKnown known true (n + 1) h new
ends_ok known n f h images es new small is are settled came = record {
  when = λ k sure. rw is (came_settled n (n + 1) f h images es small (omega arith) (settled.when k refl) (rw is at are) (rw is at came k));
}

-- what is on the disk is what is stored
came_stored : (n : ℕ) (images : List KeptOf) (es : List ImageEntryOf) (f h l : Files) → WritesImages n images es f l → LeavesFiles h l → WritesImages n images es f h
came_stored n images es f h l came same = record {
  between = came.between;
  apart = came.apart;
  written = came.written;
  put = record { here = sym (same.all active_name) ∙ came.put.here; others = λ name a b. sym (same.all name) ∙ came.put.others name a b };
}

pub ends_stored : (known : Bool) (n : ℕ) (f h l : Files) (images : List KeptOf) (es new : List ImageEntryOf) → n < 2 ^ 32 → new ≡ entries_after n images es → AllByRecursion IsImageEntry new
    → IsSettledIfKnown known true n f es → (known ≡ true → WritesImages n images new f l) → (known ≡ true → LeavesFiles h l) → IsSettledIfKnown known true (n + 1) h new
ends_stored known n f h l images es new small is are settled came same =
    ends_ok known n f h images es new small is are settled (λ k. came_stored n images new f h l (came k) (same k))

pub found_ok : (known : Bool) (n : ℕ) (f h : Files) (images : List KeptOf) (es new : List ImageEntryOf) → n < 2 ^ 32 → new ≡ entries_after n images es → AllByRecursion IsImageEntry new
    → IsSettledIfKnown known true n f es → known ≡ true → WritesImages n images new f h → IsAfter images f h
found_ok known n f h images es new small is are settled k came = came_found n f h images es small (settled.when k refl) (rw is at are) (rw is at came)

pub ends_same : (known : Bool) (n : ℕ) (f h : Files) (es : List ImageEntryOf) → IsSettledIfKnown known true n f es → (known ≡ true → LeavesLowerFiles n f h) → IsSettledIfKnown known true (n + 1) h es
ends_same known n f h es settled apart = record { when = λ k sure. settled_later n (n + 1) f h es (omega arith) (settled.when k refl) (apart k) }

pub found_same : (known : Bool) (n : ℕ) (f h : Files) (es : List ImageEntryOf) → IsSettledIfKnown known true n f es → known ≡ true → LeavesLowerFiles n f h → IsBefore f h
found_same known n f h es settled k apart = same_found n f h es (settled.when k refl) apart

pub ends_unsure : (known : Bool) (n : ℕ) (f : Files) (es : List ImageEntryOf) → IsSettledIfKnown known false n f es
ends_unsure known n f es = record { when = λ k sure. absurd (cc) }

pub through : (known : Bool) (n : ℕ) (f : Files) (images : List KeptOf) (es new : List ImageEntryOf) (past now : List Files) → n < 2 ^ 32 → new ≡ entries_after n images es → AllByRecursion IsImageEntry new
    → IsSettledIfKnown known true n f es → known ≡ true → PassesStates (MayHaveReplaced n images new f) past now → PassesStates (IsBeforeOrAfter images f) past now
through known n f images es new past now small is are settled k passes =
    passes_wider (λ g may. moment_found n f images es small (settled.when k refl) (rw is at are) g (rw is at may)) passes

pub ruleset ending = (ends_ok, ends_stored, found_ok, ends_same, found_same, ends_unsure, through, passes_none)
