-- The states of a folder.
use Rattle.std.proofs.Common.{◌≡◌, ◌≢◌, ◌∙◌, ◌+◌, ◌<◌, ◌^◌, ◌++◌, ◌⊎◌, inl, inr, ℕ, true, false, List, [], ◌∷◌, drop, take, get_or, length, subst, map, ap, refl, sym}
use Rattle.std.specs.List.{AllByRecursion}
use Rattle.std.specs.Prelude.{Result, Ok, Err, IfErr, OnOk}
use Rattle.std.proofs.lemmas.List.{drop_more, take-append-drop, take_more}
use Rattle.std.proofs.lemmas.Bool.{eq-eqb, or_parts}
use Rattle.fd_core.specs.Banks.{HaveKeysOnce, has_key}
use Rattle.fd_core.specs.Images.{same_key}
use Rattle.fwup_wire.specs.declared.values.Key.{Key}
use Rattle.fw_store.specs.Active.{ImageEntryOf, active_text, image_name}
use Rattle.fw_store.specs.Folders.{Files, IsMoment, ChangesOnlyFile, PassesStates, RenamesFile, LeavesFiles, WritesFile, active_name, new_name}
use Rattle.fw_store.specs.Keeping.{LeavesLowerFiles, AreWritten, ChangesOnlyNewFile, HoldsText, WritesImages, IsKey, IsStoring, ReplacesActive, ReplacesOnDisk, IsStopped, FailsToReplaceActive, IsWriting, MayHaveReplaced}
use Rattle.fw_store.specs.Kept.{KeptOf}
use Rattle.fw_store.proofs.Folders.{apart_image, apart_new, apart_self, active_not_new, keys_apart, no_new}

pub passes_none : {P : Files → Type 0} (past : List Files) → PassesStates P past past
passes_none {P} past = record { states = []; is = refl; each = tt }

pub passes_more : {P : Files → Type 0} {past before now : List Files} (f : Files) → PassesStates P past before → now ≡ f ∷ before → P f → PassesStates P past now
passes_more {P} {past} {before} {now} f h is here = record { states = f ∷ h.states; is = is ∙ ap (λ fs. f ∷ fs) h.is; each = (here, h.each) }

-- after a call
pub passes_call : {P : Files → Type 0} {past before now : List Files} (f g : Files) → PassesStates P past before → IsMoment f g before now → P g → PassesStates P past now
passes_call {P} {past} {before} {now} f g h (inl one) here = passes_more g h one here
passes_call {P} {past} {before} {now} f g h (inr none) here = subst (λ fs. PassesStates P past fs) (sym none.0) h

all_wider : {P Q : Files → Type 0} (states : List Files) → ((f : Files) → P f → Q f) → AllByRecursion P states → AllByRecursion Q states
all_wider {P} {Q} [] wide all = tt
all_wider {P} {Q} (f ∷ fs) wide all = (wide f all.0, all_wider fs wide all.1)

pub passes_wider : {P Q : Files → Type 0} {past now : List Files} → ((f : Files) → P f → Q f) → PassesStates P past now → PassesStates Q past now
passes_wider {P} {Q} {past} {now} wide h = record { states = h.states; is = h.is; each = all_wider h.states wide h.each }

-- WRITING IMAGES

pub not_yet : (n : ℕ) (f : Files) (past : List Files) → IsWriting n [] f f past past
not_yet n f past = record { stopped = record { apart = apart_self n f; passes = passes_none past }; keys = tt; written = tt }

only_wrote : (f g : Files) (name bytes : List ℕ) → WritesFile f g name bytes → ChangesOnlyFile f g name
only_wrote f g name bytes h = record { others = h.others }

pub stopped_more : (n : ℕ) (e f g : Files) (past before now : List Files) (key : Key) → n < 2 ^ 32 → IsKey key → IsStopped n e f past before
    → ChangesOnlyFile f g (image_name key n) → IsMoment f g before now → IsStopped n e g past now
stopped_more n e f g past before now key small known h only is =
    let apart : LeavesLowerFiles n e g = apart_image n e f g key small known h.apart only in
    record { apart = apart; passes = passes_call f g h.passes is apart }

not_same : (k x : KeptOf) → same_key k.key x.key ≡ false → x.key ≢ k.key
not_same k x differ e =
    let same : same_key k.key x.key ≡ true = rw e (rw (eq-eqb k.key.classification k.key.classification refl, eq-eqb k.key.identifier k.key.identifier refl) refl) in absurd (cc)

has_later : (front : List KeptOf) (k : KeptOf) (rest : List KeptOf) (key : Key) → has_key (map (λ (x : KeptOf). x.key) (front ++ k ∷ rest)) key ≡ false → same_key k.key key ≡ false
has_later [] k rest key none = (or_parts (same_key k.key key) (has_key (map (λ (x : KeptOf). x.key) rest) key) none).0
has_later (x ∷ front) k rest key none = has_later front k rest key (or_parts (same_key x.key key) (has_key (map (λ (y : KeptOf). y.key) (front ++ k ∷ rest)) key) none).1

written_more : (n : ℕ) (f g : Files) (front : List KeptOf) (k : KeptOf) (rest : List KeptOf) → n < 2 ^ 32 → IsKey k.key → HaveKeysOnce (map (λ (x : KeptOf). x.key) (front ++ k ∷ rest))
    → AllByRecursion (λ x. IsKey x.key) front → WritesFile f g (image_name k.key n) k.image.bytes → AreWritten n front f → AreWritten n (front ++ k ∷ []) g
written_more n f g [] k rest small known apart keys wrote written = (wrote.here, tt)
written_more n f g (x ∷ front) k rest small known apart keys wrote written = (
  wrote.others (image_name x.key n) (keys_apart k.key x.key n known keys.0 small (not_same k x (has_later front k rest x.key apart.0))) ∙ written.0,
  written_more n f g front k rest small known apart.1 keys.1 wrote written.1,
)

keys_more : (front : List KeptOf) (k : KeptOf) → AllByRecursion (λ x. IsKey x.key) front → IsKey k.key → AllByRecursion (λ x. IsKey x.key) (front ++ k ∷ [])
keys_more [] k keys known = (known, tt)
keys_more (x ∷ front) k keys known = (keys.0, keys_more front k keys.1 known)

pub writing_more : (n : ℕ) (e f g : Files) (past before now : List Files) (front : List KeptOf) (k : KeptOf) (rest : List KeptOf) → n < 2 ^ 32 → IsKey k.key
    → HaveKeysOnce (map (λ (x : KeptOf). x.key) (front ++ k ∷ rest)) → IsWriting n front e f past before
    → WritesFile f g (image_name k.key n) k.image.bytes → IsMoment f g before now → IsWriting n (front ++ k ∷ []) e g past now
writing_more n e f g past before now front k rest small known apart h wrote is = record {
  stopped = stopped_more n e f g past before now k.key small known h.stopped (only_wrote f g (image_name k.key n) k.image.bytes wrote) is;
  keys = keys_more front k h.keys known;
  written = written_more n f g front k rest small known apart h.keys wrote h.written;
}

-- REPLACING ACTIVE

pub but_new : (f g : Files) → ChangesOnlyFile f g new_name → ChangesOnlyNewFile f g
but_new f g h = record { others = h.others }

written_still : (n : ℕ) (f g : Files) (images : List KeptOf) → n < 2 ^ 32 → AllByRecursion (λ k. IsKey k.key) images → ChangesOnlyNewFile f g → AreWritten n images f → AreWritten n images g
written_still n f g [] small keys only written = tt
written_still n f g (k ∷ ks) small keys only written = (only.others (image_name k.key n) (no_new k.key n keys.0 small) ∙ written.0, written_still n f g ks small keys.1 only written.1)

pub unchanged_apart : (n : ℕ) (e g h : Files) → LeavesLowerFiles n e g → LeavesFiles g h → LeavesLowerFiles n e h
unchanged_apart n e g h apart same = record { names = λ key m k low. same.all (image_name key m) ∙ apart.names key m k low; active = same.all active_name ∙ apart.active }

pub stays : {n : ℕ} {images : List KeptOf} {es : List ImageEntryOf} {e : Files} {past now : List Files} → PassesStates (LeavesLowerFiles n e) past now → PassesStates (MayHaveReplaced n images es e) past now
stays {n} {images} {es} {e} {past} {now} h = passes_wider (λ f apart. inl apart) h

pub came : (n : ℕ) (images : List KeptOf) (es : List ImageEntryOf) (e f h : Files) (past before now : List Files) → n < 2 ^ 32 → IsWriting n images e f past before
    → ReplacesActive (active_text es) f h before now → WritesImages n images es e h
came n images es e f h past before now small writing is =
    let only : ChangesOnlyNewFile f is.between = record { others = is.wrote.others } in
    record {
      between = is.between;
      apart = apart_new n e f is.between small writing.stopped.apart only;
      written = written_still n f is.between images small writing.keys only writing.written;
      put = record { here = is.renamed.here ∙ is.wrote.here; others = λ name a b. is.renamed.others name b a };
    }

pub came_through : (n : ℕ) (images : List KeptOf) (es : List ImageEntryOf) (e f h : Files) (past before now : List Files) → n < 2 ^ 32 → IsWriting n images e f past before
    → ReplacesActive (active_text es) f h before now → PassesStates (MayHaveReplaced n images es e) past now
came_through n images es e f h past before now small writing is =
    let only : ChangesOnlyNewFile f is.between = record { others = is.wrote.others } in
    let between : MayHaveReplaced n images es e is.between = inl (apart_new n e f is.between small writing.stopped.apart only) in
    passes_call is.between h (passes_call f is.between (stays writing.stopped.passes) is.first between) is.second (inr (came n images es e f h past before now small writing is))

pub unput_apart : (n : ℕ) (e f h : Files) (past before now : List Files) → n < 2 ^ 32 → IsStopped n e f past before → FailsToReplaceActive f h before now → LeavesLowerFiles n e h
unput_apart n e f h past before now small stopped is =
    unchanged_apart n e is.between h (apart_new n e f is.between small stopped.apart is.only) is.same

pub unput_through : (n : ℕ) (images : List KeptOf) (es : List ImageEntryOf) (e f h : Files) (past before now : List Files) → n < 2 ^ 32 → IsStopped n e f past before
    → FailsToReplaceActive f h before now → PassesStates (MayHaveReplaced n images es e) past now
unput_through n images es e f h past before now small stopped is =
    let apart = apart_new n e f is.between small stopped.apart is.only in
    let first : MayHaveReplaced n images es e is.between = inl apart in
    let last : MayHaveReplaced n images es e h = inl (unchanged_apart n e is.between h apart is.same) in
    let passed : PassesStates (MayHaveReplaced n images es e) past is.middle = passes_call f is.between (stays stopped.passes) is.first first in
    elim is.second [
      | inl one ↦ subst (λ fs. PassesStates (MayHaveReplaced n images es e) past fs) (sym one) passed
      | inr two ↦ passes_call is.between h passed two last
    ]

-- the two calls
pub put_both : (f g h : Files) (text : List ℕ) (past before now : List Files) → WritesFile f g new_name text → IsMoment f g past before → RenamesFile g h new_name active_name → IsMoment g h before now → ReplacesActive text f h past now
put_both f g h text past before now wrote first renamed second = record { between = g; wrote = wrote; renamed = renamed; middle = before; first = first; second = second }

pub unput_second : (f g h : Files) (text : List ℕ) (past before now : List Files) → WritesFile f g new_name text → IsMoment f g past before → LeavesFiles g h → IsMoment g h before now → FailsToReplaceActive f h past now
unput_second f g h text past before now wrote first same second =
    record { between = g; only = record { others = wrote.others }; same = same; middle = before; first = first; second = inr second }

pub unput_first : (f g : Files) (past before : List Files) → ChangesOnlyFile f g new_name → IsMoment f g past before → FailsToReplaceActive f g past before
unput_first f g past before only first = record { between = g; only = but_new f g only; same = record { all = λ name. refl }; middle = before; first = first; second = inl refl }

-- where a call ends so
pub when_ok : {A E : Type 0} {P Q R : Type 0} (r : Result A E) → (P → Q → R) → OnOk r P → OnOk r Q → OnOk r R
when_ok (Ok x) f p q = f p q
when_ok (Err e) f p q = tt

pub when_err : {A E : Type 0} {P Q : E → Type 0} (r : Result A E) → ((e : E) → P e → Q e) → IfErr r P → IfErr r Q
when_err (Ok x) f h = tt
when_err (Err e) f h = f e h

-- the text is whole under one of its two names
pub held_whole : (f g h : Files) (text : List ℕ) → WritesFile f g new_name text → LeavesFiles g h ⊎ RenamesFile g h new_name active_name → HoldsText text h
held_whole f g h text wrote (inl same) = inl (same.all new_name ∙ wrote.here)
held_whole f g h text wrote (inr renamed) = inr (renamed.here ∙ wrote.here)

-- the two calls, on the disk
pub put_lasting : (f g h l : Files) (text : List ℕ) → WritesFile f g new_name text → RenamesFile g h new_name active_name → LeavesFiles h l → ReplacesOnDisk text f l
put_lasting f g h l text wrote renamed lasts = record {
  passed = l ∷ g ∷ [];
  replaces = record {
    between = g;
    wrote = wrote;
    renamed = record { here = lasts.all active_name ∙ renamed.here; others = λ other a b. lasts.all other ∙ renamed.others other a b };
    middle = g ∷ [];
    first = inl refl;
    second = inl refl;
  };
}

pub ruleset putting = (put_both, unput_second, unput_first)

pub came_or_not : (n : ℕ) (images : List KeptOf) (es : List ImageEntryOf) (e f h : Files) (past before now : List Files) → n < 2 ^ 32 → IsWriting n images e f past before
    → FailsToReplaceActive f h before now ⊎ ReplacesActive (active_text es) f h before now → MayHaveReplaced n images es e h
came_or_not n images es e f h past before now small writing (inl is) = inl (unput_apart n e f h past before now small writing.stopped is)
came_or_not n images es e f h past before now small writing (inr is) = inr (came n images es e f h past before now small writing is)

pub through_either : (n : ℕ) (images : List KeptOf) (es : List ImageEntryOf) (e f h : Files) (past before now : List Files) → n < 2 ^ 32 → IsWriting n images e f past before
    → FailsToReplaceActive f h before now ⊎ ReplacesActive (active_text es) f h before now → PassesStates (MayHaveReplaced n images es e) past now
through_either n images es e f h past before now small writing (inl is) = unput_through n images es e f h past before now small writing.stopped is
through_either n images es e f h past before now small writing (inr is) = came_through n images es e f h past before now small writing is

-- one image more, by its place
pub writing_at : (n : ℕ) (e f g : Files) (past before now : List Files) (images : List KeptOf) (i : ℕ) (d : KeptOf) → i < length images → n < 2 ^ 32 → IsKey (get_or images i d).key
    → HaveKeysOnce (map (λ (x : KeptOf). x.key) images) → IsWriting n (take i images) e f past before
    → WritesFile f g (image_name (get_or images i d).key n) (get_or images i d).image.bytes → IsMoment f g before now → IsWriting n (take (i + 1) images) e g past now
writing_at n e f g past before now images i d below small known apart h wrote is =
    let whole : images ≡ take i images ++ get_or images i d ∷ drop (i + 1) images = sym (take-append-drop i images) ∙ ap (λ ks. take i images ++ ks) (drop_more images i d below) in
    rw (take_more images i d below)
    (writing_more n e f g past before now (take i images) (get_or images i d) (drop (i + 1) images) small known (subst (λ (ks : List KeptOf). HaveKeysOnce (map (λ (x : KeptOf). x.key) ks)) whole apart) h wrote is)

-- the images and the text, on the disk
pub not_stored : (n : ℕ) (f : Files) → IsStoring n [] f f
not_stored n f = record { passed = []; writing = not_yet n f [] }

pub storing_at : (n : ℕ) (e f g : Files) (images : List KeptOf) (i : ℕ) (d : KeptOf) → i < length images → n < 2 ^ 32 → IsKey (get_or images i d).key
    → HaveKeysOnce (map (λ (x : KeptOf). x.key) images) → IsStoring n (take i images) e f
    → WritesFile f g (image_name (get_or images i d).key n) (get_or images i d).image.bytes → IsStoring n (take (i + 1) images) e g
storing_at n e f g images i d below small known apart h wrote =
    record { passed = g ∷ h.passed; writing = writing_at n e f g [] h.passed (g ∷ h.passed) images i d below small known apart h.writing wrote (inl refl) }

pub came_lasting : (n : ℕ) (images : List KeptOf) (es : List ImageEntryOf) (e f h : Files) → n < 2 ^ 32 → IsStoring n images e f
    → ReplacesOnDisk (active_text es) f h → WritesImages n images es e h
came_lasting n images es e f h small storing is =
    came n images es e f h [] storing.passed (h ∷ is.replaces.between ∷ storing.passed) small storing.writing (record {
      between = is.replaces.between;
      wrote = is.replaces.wrote;
      renamed = is.replaces.renamed;
      middle = is.replaces.between ∷ storing.passed;
      first = inl refl;
      second = inl refl;
    })

pub ruleset coming = (came_lasting, apart_self, passes_none, came, came_or_not, came_through, through_either, unput_apart, unput_through, stays)
