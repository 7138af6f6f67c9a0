-- The applied images of a device, row by row.
use Rattle.std.specs.Prelude.{ℕ, ◌≡◌, Bool, true, false, List, [], ◌∷◌, ◌++◌, All, Option, Some, None}
use Rattle.std.specs.Bool.{OnTrue, OnFalse}
use Rattle.std.proofs.Common.{refl, sym, ap, ◌∙◌, inl, inr, subst}
use Rattle.std.proofs.lemmas.Bool.{cond_both}
use Rattle.std.proofs.lemmas.List.Elements.{All-nil, All-cons, All-head, All-tail}
use Rattle.fw_package.specs.Choice.{component_at, image_for}
use Rattle.fw_package.specs.Package.{DescriptorOf, PackageText}
use Rattle.fwup_wire.specs.declared.values.Key.{Key}
use Rattle.fd_core.specs.Images.{ImageOf, KeyedImage, RowOf, rows_after_drop, images_with, images_with_applied, applied_keyed_images, is_key_before, same_key, rows_after_seal, sealed_if, rows_after_switch, row_after_switch_to}
use Rattle.ua_core.specs.Lent.{key_of, package_at}
use Rattle.ua_core.specs.declared.planned.Recorded.{Recorded}
use Rattle.fw_message.specs.Headline.{HasRecording, IsFrom}
use Rattle.fw_message.proofs.Safety.Counts.{recorded_component}
use Rattle.fwup_wire.proofs.SameCommands.{key_means}

abbrev pub put_of : Key → ImageOf → KeyedImage
put_of key image = record { key = key; bytes = image.bytes }

abbrev pub BackedBy : List PackageText → List DescriptorOf → ℕ → List Recorded → Key → Option ImageOf → Type 0
BackedBy ps ds number rs key None = Unit {0}
BackedBy ps ds number rs key (Some image) = IsFrom ps ds rs number (put_of key image)

-- all applied images are recorded of one package
unfoldable pub Backed : List PackageText → List DescriptorOf → ℕ → List Recorded → List RowOf → Type 0
Backed ps ds number rs [] = Unit {0}
Backed ps ds number rs (r ∷ rows) = BackedBy ps ds number rs r.key r.applied × Backed ps ds number rs rows

-- all applied images but that of this key are
unfoldable pub BackedBut : List PackageText → List DescriptorOf → ℕ → List Recorded → Key → List RowOf → Type 0
BackedBut ps ds number rs key [] = Unit {0}
BackedBut ps ds number rs key (r ∷ rows) =
    OnFalse (same_key r.key key) (BackedBy ps ds number rs r.key r.applied) × BackedBut ps ds number rs key rows

unfoldable pub NoneApplied : List RowOf → Type 0
NoneApplied [] = Unit {0}
NoneApplied (r ∷ rows) = (r.applied ≡ None) × NoneApplied rows

abbrev pub AppliedAt : Option ImageOf → List ℕ → Type 0
AppliedAt None bytes = ⊥
AppliedAt (Some image) bytes = image.bytes ≡ bytes

-- the image applied under the key has these bytes
unfoldable pub AppliedIs : List RowOf → Key → List ℕ → Type 0
AppliedIs [] key bytes = Unit {0}
AppliedIs (r ∷ rows) key bytes = OnTrue (same_key r.key key) (AppliedAt r.applied bytes) × AppliedIs rows key bytes

pub none_dropped : (rows : List RowOf) → NoneApplied (rows_after_drop rows)
unfolding NoneApplied
none_dropped [] = tt
none_dropped (r ∷ rows) = (refl, none_dropped rows)

pub none_turned : (r : RowOf) (o : Option ImageOf) → r.applied ≡ o → (row_after_switch_to r o).applied ≡ None
none_turned r None e = e
none_turned r (Some image) e = refl

pub none_switched : (rows : List RowOf) → NoneApplied (rows_after_switch rows)
unfolding NoneApplied
none_switched [] = tt
none_switched (r ∷ rows) = (none_turned r r.applied refl, none_switched rows)

pub none_backed : (ps : List PackageText) (ds : List DescriptorOf) (n : ℕ) (rs : List Recorded) (rows : List RowOf) → NoneApplied rows
    → Backed ps ds n rs rows
unfolding NoneApplied Backed
none_backed ps ds n rs [] h = tt
none_backed ps ds n rs (r ∷ rows) h = (rw h.0 tt, none_backed ps ds n rs rows h.1)

pub sealed_others : (ps : List PackageText) (ds : List DescriptorOf) (n : ℕ) (rs : List Recorded) (rows : List RowOf) (key : Key) (image : ImageOf)
    → Backed ps ds n rs rows → BackedBut ps ds n rs key (rows_after_seal rows key image)
unfolding Backed BackedBut
sealed_others ps ds n rs [] key image h = tt
sealed_others ps ds n rs (r ∷ rows) key image h = (at_row (same_key r.key key) refl, sealed_others ps ds n rs rows key image h.1)
  where
    at_row : (t : Bool) → same_key r.key key ≡ t
        → OnFalse (same_key (sealed_if t r image).key key) (BackedBy ps ds n rs (sealed_if t r image).key (sealed_if t r image).applied)
    at_row true e = rw e tt
    at_row false e = rw e h.0

pub sealed_applied : (rows : List RowOf) (key : Key) (image : ImageOf) → AppliedIs (rows_after_seal rows key image) key image.bytes
unfolding AppliedIs
sealed_applied [] key image = tt
sealed_applied (r ∷ rows) key image = (at_row (same_key r.key key) refl, sealed_applied rows key image)
  where
    at_row : (t : Bool) → same_key r.key key ≡ t
        → OnTrue (same_key (sealed_if t r image).key key) (AppliedAt (sealed_if t r image).applied image.bytes)
    at_row true e = rw e refl
    at_row false e = rw e tt

-- one more record
recording_more : (ps : List PackageText) (n : ℕ) (key : Key) (rs : List Recorded) (r : Recorded) → HasRecording ps n key rs
    → HasRecording ps n key (rs ++ r ∷ [])
recording_more ps n key [] r h = absurd h
recording_more ps n key (x ∷ rs) r h = elim h [ inl here ↦ inl here | inr there ↦ inr (recording_more ps n key rs r there) ]

recording_here : (ps : List PackageText) (n : ℕ) (key : Key) (rs : List Recorded) (r : Recorded) → r.«package» ≡ n
    → key_of (recorded_component ps r) ≡ key → HasRecording ps n key (rs ++ r ∷ [])
recording_here ps n key [] r is e = inl (is, subst (λ (k : ℕ). key_of (component_at (package_at ps k) r.component) ≡ key) is e)
recording_here ps n key (x ∷ rs) r is e = inr (recording_here ps n key rs r is e)

backed_more : (ps : List PackageText) (ds : List DescriptorOf) (n : ℕ) (rs : List Recorded) (r : Recorded) (key : Key) (o : Option ImageOf)
    → BackedBy ps ds n rs key o → BackedBy ps ds n (rs ++ r ∷ []) key o
backed_more ps ds n rs r key None h = tt
backed_more ps ds n rs r key (Some image) h = record { named = h.named; recorded = recording_more ps n key rs r h.recorded }

-- the image that a package names for the device under a key
unfoldable pub Names : List PackageText → List DescriptorOf → ℕ → Key → List ℕ → Type 0
Names ps ds n key bytes = image_for (package_at ps n) ds key.classification key.identifier ≡ Some bytes

backed_here : (ps : List PackageText) (ds : List DescriptorOf) (n : ℕ) (rs : List Recorded) (r : Recorded) (key : Key) (bytes : List ℕ) (o : Option ImageOf)
    → r.«package» ≡ n → key_of (recorded_component ps r) ≡ key → Names ps ds n key bytes → AppliedAt o bytes
    → BackedBy ps ds n (rs ++ r ∷ []) key o
unfolding Names
backed_here ps ds n rs r key bytes None is k names h = tt
backed_here ps ds n rs r key bytes (Some image) is k names h =
    record {
      named = names ∙ ap Some (sym h);
      recorded = recording_here ps n key rs r is k;
    }

-- with the record of the sealed image, all applied images are recorded
pub backed_recorded : (ps : List PackageText) (ds : List DescriptorOf) (n : ℕ) (rs : List Recorded) (r : Recorded) (key : Key) (bytes : List ℕ) (rows : List RowOf)
    → r.«package» ≡ n → key_of (recorded_component ps r) ≡ key → Names ps ds n key bytes
    → AppliedIs rows key bytes → BackedBut ps ds n rs key rows → Backed ps ds n (rs ++ r ∷ []) rows
unfolding AppliedIs BackedBut Backed
backed_recorded ps ds n rs r key bytes [] is k names a b = tt
backed_recorded ps ds n rs r key bytes (x ∷ rows) is k names a b =
    (at_row (same_key x.key key) refl a.0 b.0, backed_recorded ps ds n rs r key bytes rows is k names a.1 b.1)
  where
    at_row : (t : Bool) → same_key x.key key ≡ t → OnTrue t (AppliedAt x.applied bytes) → OnFalse t (BackedBy ps ds n rs x.key x.applied)
        → BackedBy ps ds n (rs ++ r ∷ []) x.key x.applied
    at_row true e a b =
        let same : key ≡ x.key = sym (key_means x.key key e) in
        backed_here ps ds n rs r x.key bytes x.applied is (k ∙ same) (subst (λ (y : Key). Names ps ds n y bytes) same names) a
    at_row false e a b = backed_more ps ds n rs r x.key x.applied b

-- the images that are activated are from the package
among_from : (ps : List PackageText) (ds : List DescriptorOf) (n : ℕ) (rs : List Recorded) (p : KeyedImage) (qs : List KeyedImage) → IsFrom ps ds rs n p
    → All (IsFrom ps ds rs n) qs → All (IsFrom ps ds rs n) (images_with p qs)
among_from ps ds n rs p [] h all = All-cons (IsFrom ps ds rs n) p [] h all
among_from ps ds n rs p (q ∷ qs) h all =
    cond_both (is_key_before q.key p.key) (q ∷ images_with p qs) (p ∷ q ∷ qs) (All (IsFrom ps ds rs n))
    (λ e. All-cons (IsFrom ps ds rs n) q (images_with p qs) (All-head (IsFrom ps ds rs n) q qs all) (among_from ps ds n rs p qs h (All-tail (IsFrom ps ds rs n) q qs all)))
    (λ e. All-cons (IsFrom ps ds rs n) p (q ∷ qs) h all)

applied_from : (ps : List PackageText) (ds : List DescriptorOf) (n : ℕ) (rs : List Recorded) (key : Key) (o : Option ImageOf) (qs : List KeyedImage)
    → BackedBy ps ds n rs key o → All (IsFrom ps ds rs n) qs → All (IsFrom ps ds rs n) (images_with_applied key o qs)
applied_from ps ds n rs key None qs b all = all
applied_from ps ds n rs key (Some image) qs b all = among_from ps ds n rs (put_of key image) qs b all

pub puts_from : (ps : List PackageText) (ds : List DescriptorOf) (n : ℕ) (rs : List Recorded) (rows : List RowOf) → Backed ps ds n rs rows
    → All (IsFrom ps ds rs n) (applied_keyed_images rows)
unfolding Backed
puts_from ps ds n rs [] b = All-nil (IsFrom ps ds rs n)
puts_from ps ds n rs (r ∷ rows) b = applied_from ps ds n rs r.key r.applied (applied_keyed_images rows) b.0 (puts_from ps ds n rs rows b.1)

pub puts_none : (rows : List RowOf) → NoneApplied rows → applied_keyed_images rows ≡ []
unfolding NoneApplied
puts_none [] h = refl
puts_none (r ∷ rows) h = rw h.0 (puts_none rows h.1)
