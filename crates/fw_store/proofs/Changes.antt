-- A folder by its changes.
use Rattle.std.proofs.Common.{◌≡◌, ◌≢◌, ◌∙◌, ◌+◌, ◌-◌, ◌<◌, ◌++◌, ◌⊎◌, inl, inr, ℕ, false, List, [], ◌∷◌, Option, Some, None, take, get_or, length, ap, refl, sym, subst, arith}
use Rattle.std.specs.Str.{bytes_eq}
use Rattle.std.proofs.lemmas.Bool.{cases_Bool}
use Rattle.std.proofs.lemmas.List.{take_all, take_more}
use Rattle.fw_store.specs.Folders.{Files, IsMoment, ChangesOnlyFile, LastsApartFrom, SettlesNames, RemovesFile, RenamesFile, RenamesInOrder, LeavesFiles, WritesFile}
use Rattle.fw_store.specs.Changes.{ChangeOf, files_after_change, files_from, files_of, no_files, states_from, states_of, unsure_changes}
use Rattle.fw_store.specs.declared.known.Failing.{Failing}
use Rattle.fw_store.specs.declared.known.Failing.TheVariants as failing
use Rattle.fw_store.specs.declared.known.Kind.TheVariants as kinds
use Rattle.fw_store.proofs.ReadBack.{bytes_equal, bytes_same}

-- ONE CHANGE MORE

files_push : (f : Files) (cs : List ChangeOf) (c : ChangeOf) → files_from f (cs ++ c ∷ []) ≡ files_after_change c (files_from f cs)
files_push f [] c = refl
files_push f (x ∷ cs) c = files_push (files_after_change x f) cs c

states_push : (f : Files) (past : List Files) (cs : List ChangeOf) (c : ChangeOf) → states_from f past (cs ++ c ∷ []) ≡ files_from f (cs ++ c ∷ []) ∷ states_from f past cs
states_push f past [] c = refl
states_push f past (x ∷ cs) c = states_push (files_after_change x f) (files_after_change x f ∷ past) cs c

pub differs : (xs ys : List ℕ) → ys ≢ xs → bytes_eq xs ys ≡ false
differs xs ys other = elim (cases_Bool (bytes_eq xs ys)) [
  | inl same ↦ absurd (other (sym (bytes_equal xs ys same)))
  | inr not ↦ not
]

-- THE EFFECTS OF CALLS

abbrev putting : (name bytes : List ℕ) → ChangeOf
putting name bytes = record { kind = kinds.Put; name = name; other = bytes }

abbrev moving : (name place : List ℕ) → ChangeOf
moving name place = record { kind = kinds.Moved; name = name; other = place }

abbrev removing : (name other : List ℕ) → ChangeOf
removing name other = record { kind = kinds.Gone; name = name; other = other }

after_push : (cs ds : List ChangeOf) (c : ChangeOf) → ds ≡ cs ++ c ∷ [] → files_of ds ≡ files_after_change c (files_of cs)
after_push cs ds c is = rw is (files_push no_files cs c)

wrote_changed : (f : Files) (name bytes : List ℕ) → WritesFile f (files_after_change (putting name bytes) f) name bytes
wrote_changed f name bytes = record { here = rw (bytes_same name) refl; others = λ other o. rw (differs name other o) refl }

moved_changed : (f : Files) (name place : List ℕ) → RenamesFile f (files_after_change (moving name place) f) name place
moved_changed f name place = record { here = rw (bytes_same place) refl; others = λ other o p. rw (differs place other p, differs name other o) refl }

gone_changed : (f : Files) (name other : List ℕ) → ChangesOnlyFile f (files_after_change (removing name other) f) name
gone_changed f name other = record { others = λ file o. rw (differs name file o) refl }

pub put_wrote : (cs ds : List ChangeOf) (name bytes : List ℕ) → ds ≡ cs ++ putting name bytes ∷ [] → WritesFile (files_of cs) (files_of ds) name bytes
put_wrote cs ds name bytes is = subst (λ (f : Files). WritesFile (files_of cs) f name bytes) (sym (after_push cs ds (putting name bytes) is)) (wrote_changed (files_of cs) name bytes)

pub put_only : (cs ds : List ChangeOf) (name bytes : List ℕ) → ds ≡ cs ++ putting name bytes ∷ [] → ChangesOnlyFile (files_of cs) (files_of ds) name
put_only cs ds name bytes is = record { others = (put_wrote cs ds name bytes is).others }

pub moved_renamed : (cs ds : List ChangeOf) (name place : List ℕ) → ds ≡ cs ++ moving name place ∷ [] → RenamesFile (files_of cs) (files_of ds) name place
moved_renamed cs ds name place is = subst (λ (f : Files). RenamesFile (files_of cs) f name place) (sym (after_push cs ds (moving name place) is)) (moved_changed (files_of cs) name place)

pub gone_only : (cs ds : List ChangeOf) (name other : List ℕ) → ds ≡ cs ++ removing name other ∷ [] → ChangesOnlyFile (files_of cs) (files_of ds) name
gone_only cs ds name other is = subst (λ (f : Files). ChangesOnlyFile (files_of cs) f name) (sym (after_push cs ds (removing name other) is)) (gone_changed (files_of cs) name other)

pub gone_removed : (cs ds : List ChangeOf) (name other : List ℕ) → ds ≡ cs ++ removing name other ∷ [] → RemovesFile (files_of cs) (files_of ds) name
gone_removed cs ds name other is = record {
  gone = rw (after_push cs ds (removing name other) is) (rw (bytes_same name) refl);
  others = (gone_only cs ds name other is).others;
}

pub same_files : (cs ds : List ChangeOf) → ds ≡ cs → LeavesFiles (files_of cs) (files_of ds)
same_files cs ds is = record { all = λ name. rw is refl }

pub same_only : (cs ds : List ChangeOf) (name : List ℕ) → ds ≡ cs → ChangesOnlyFile (files_of cs) (files_of ds) name
same_only cs ds name is = record { others = λ other o. rw is refl }

pub one_state : (cs ds : List ChangeOf) (c : ChangeOf) → ds ≡ cs ++ c ∷ [] → states_of ds ≡ files_of ds ∷ states_of cs
one_state cs ds c is = rw is (states_push no_files [] cs c)

pub one_moment : (cs ds : List ChangeOf) (c : ChangeOf) → ds ≡ cs ++ c ∷ [] → IsMoment (files_of cs) (files_of ds) (states_of cs) (states_of ds)
one_moment cs ds c is = inl (rw is (states_push no_files [] cs c))

pub no_moment : (cs ds : List ChangeOf) → ds ≡ cs → IsMoment (files_of cs) (files_of ds) (states_of cs) (states_of ds)
no_moment cs ds is = inr (ap states_of is, same_files cs ds is)

-- a removal that failed: the file is removed, or nothing has changed
pub failed_only : (cs ds : List ChangeOf) (name : List ℕ) (may : Type 0) → (ds ≡ cs) ⊎ (may × (ds ≡ cs ++ removing name [] ∷ [])) → ChangesOnlyFile (files_of cs) (files_of ds) name
failed_only cs ds name may (inl same) = same_only cs ds name same
failed_only cs ds name may (inr gone) = gone_only cs ds name [] gone.1

pub failed_moment : (cs ds : List ChangeOf) (name : List ℕ) (may : Type 0) → (ds ≡ cs) ⊎ (may × (ds ≡ cs ++ removing name [] ∷ [])) → IsMoment (files_of cs) (files_of ds) (states_of cs) (states_of ds)
failed_moment cs ds name may (inl same) = no_moment cs ds same
failed_moment cs ds name may (inr gone) = one_moment cs ds (removing name []) gone.1

-- a renaming that is unsure: the file is renamed, or nothing has changed
unsure_either : (o : Option Failing) (cs ds : List ChangeOf) (c : ChangeOf) → Some ds ≡ unsure_changes o cs c → (ds ≡ cs) ⊎ (ds ≡ cs ++ c ∷ [])
unsure_either (Some failing.Half) cs ds c is = inl (cc)
unsure_either (Some failing.After) cs ds c is = inr (cc)
unsure_either (Some failing.Before) cs ds c is = absurd (cc)
unsure_either None cs ds c is = absurd (cc)

unsure_moved : (cs ds : List ChangeOf) (name place : List ℕ) → (ds ≡ cs) ⊎ (ds ≡ cs ++ moving name place ∷ []) → LeavesFiles (files_of cs) (files_of ds) ⊎ RenamesFile (files_of cs) (files_of ds) name place
unsure_moved cs ds name place (inl same) = inl (same_files cs ds same)
unsure_moved cs ds name place (inr moved) = inr (moved_renamed cs ds name place moved)

unsure_one : (cs ds : List ChangeOf) (c : ChangeOf) → (ds ≡ cs) ⊎ (ds ≡ cs ++ c ∷ []) → IsMoment (files_of cs) (files_of ds) (states_of cs) (states_of ds)
unsure_one cs ds c (inl same) = no_moment cs ds same
unsure_one cs ds c (inr one) = one_moment cs ds c one

pub unsure_renamed : (o : Option Failing) (cs ds : List ChangeOf) (name place : List ℕ) → Some ds ≡ unsure_changes o cs (moving name place)
    → LeavesFiles (files_of cs) (files_of ds) ⊎ RenamesFile (files_of cs) (files_of ds) name place
unsure_renamed o cs ds name place is = unsure_moved cs ds name place (unsure_either o cs ds (moving name place) is)

pub unsure_moment : (o : Option Failing) (cs ds : List ChangeOf) (name place : List ℕ) → Some ds ≡ unsure_changes o cs (moving name place)
    → IsMoment (files_of cs) (files_of ds) (states_of cs) (states_of ds)
unsure_moment o cs ds name place is = unsure_one cs ds (moving name place) (unsure_either o cs ds (moving name place) is)

pub moved_ordered : (cs ds : List ChangeOf) (name place : List ℕ) → ds ≡ cs ++ moving name place ∷ [] → RenamesInOrder (files_of cs) (files_of cs) (files_of ds) name place
moved_ordered cs ds name place is = λ settled. inr (record { others = (moved_renamed cs ds name place is).others })

pub same_ordered : (cs ds : List ChangeOf) (name place : List ℕ) → ds ≡ cs → RenamesInOrder (files_of cs) (files_of cs) (files_of ds) name place
same_ordered cs ds name place is = λ settled. inl ((same_files cs ds is).all place)

either_ordered : (cs ds : List ChangeOf) (name place : List ℕ) → (ds ≡ cs) ⊎ (ds ≡ cs ++ moving name place ∷ []) → RenamesInOrder (files_of cs) (files_of cs) (files_of ds) name place
either_ordered cs ds name place (inl same) = same_ordered cs ds name place same
either_ordered cs ds name place (inr moved) = moved_ordered cs ds name place moved

pub unsure_ordered : (o : Option Failing) (cs ds : List ChangeOf) (name place : List ℕ) → Some ds ≡ unsure_changes o cs (moving name place) → RenamesInOrder (files_of cs) (files_of cs) (files_of ds) name place
unsure_ordered o cs ds name place is = either_ordered cs ds name place (unsure_either o cs ds (moving name place) is)

pub moved_last : (cs ds : List ChangeOf) (name place : List ℕ) → ChangesOnlyFile (files_of cs) (files_of ds) place → LastsApartFrom (files_of cs) (files_of ds) name place
moved_last cs ds name place only = record { others = λ other a b. only.others other b }

pub same_last : (cs ds : List ChangeOf) (name place : List ℕ) → ds ≡ cs → LastsApartFrom (files_of cs) (files_of ds) name place
same_last cs ds name place is = record { others = λ other a b. (same_files cs ds is).all other }

pub ruleset calling = (one_state, moved_last, same_last, moved_ordered, same_ordered, unsure_ordered, put_wrote, put_only, moved_renamed, gone_only, gone_removed, failed_only, failed_moment, unsure_renamed, unsure_moment, same_files, same_only, one_moment, no_moment)

-- the names are synced
pub synced_all : (cs ds : List ChangeOf) → ds ≡ take (length cs) cs → LeavesFiles (files_of cs) (files_of ds)
synced_all cs ds is = same_files cs ds (is ∙ take_all (length cs) cs (omega arith))

pub synced_settles : (cs ds es : List ChangeOf) → es ≡ take (length cs) cs → SettlesNames (files_of cs) (files_of ds) (files_of es)
synced_settles cs ds es is = record { each = λ name. inr ((synced_all cs es is).all name) }

pub unsynced_settles : (cs ds es : List ChangeOf) → es ≡ ds → SettlesNames (files_of cs) (files_of ds) (files_of es)
unsynced_settles cs ds es is = record { each = λ name. inl ((same_files ds es is).all name) }

pub ruleset syncing = (synced_all, synced_settles, unsynced_settles, same_files)

-- READING, FROM THE LAST CHANGE BACK

last_of : (cs : List ChangeOf) (n : ℕ) (d : ChangeOf) (name : List ℕ) → n < length cs → files_of (take (n + 1) cs) name ≡ files_after_change (get_or cs n d) (files_of (take n cs)) name
last_of cs n d name below = rw (take_more cs n d below) (ap (λ (f : Files). f name) (files_push no_files (take n cs) (get_or cs n d)))

-- a change is seen, after `back` later ones
pub seen_on : (cs : List ChangeOf) (back n : ℕ) (d c : ChangeOf) (name : List ℕ) (found all : Option (List ℕ)) → n + back + 1 ≡ length cs → get_or cs n d ≡ c → files_of (take (length cs - back) cs) name ≡ all
    → files_after_change c (files_of (take n cs)) name ≡ found → found ≡ all
seen_on cs back n d c name found all place is known seen =
    let below : n < length cs = omega arith in
    let next : length cs - back ≡ n + 1 = omega arith in
    sym seen ∙ ap (λ x. files_after_change x (files_of (take n cs)) name) (sym is) ∙ sym (last_of cs n d name below) ∙ ap (λ m. files_of (take m cs) name) (sym next) ∙ known

pub seen_before : (cs : List ChangeOf) (back n : ℕ) (name : List ℕ) (all : Option (List ℕ)) → n + back + 1 ≡ length cs → files_of (take n cs) name ≡ all → files_of (take (length cs - (back + 1)) cs) name ≡ all
seen_before cs back n name all place h =
    let left : length cs - (back + 1) ≡ n = omega arith in
    ap (λ m. files_of (take m cs) name) left ∙ h

-- the place of the change before which `back` later ones are seen
pub at_back : (size length end back : ℕ) → length ≡ size → end ≡ size → back < end → length - 1 - back + back + 1 ≡ size
at_back size length end back is same below = omega arith
