-- The images applied under a key are one image, which runs after a switch.
use Rattle.std.specs.Prelude.{ℕ, ◌≡◌, ◌⊎◌, Bool, true, false, List, [], ◌∷◌, map, All, Option, Some, None, IsSomeAnd, if◌then◌else◌}
use Rattle.std.proofs.Common.{refl, sym, ap, ◌∙◌, inl, inr, subst}
use Rattle.std.proofs.lemmas.Bool.{cond_both}
use Rattle.std.proofs.lemmas.List.Elements.{All-nil, All-cons, All-head, All-tail}
use Rattle.fwup_wire.specs.declared.values.Key.{Key}
use Rattle.fd_core.specs.Images.{ImageOf, KeyedImage, RowOf, rows_after_drop, images_with, images_with_applied, applied_keyed_images, is_key_before, same_key, rows_after_seal, sealed_if, rows_after_switch, row_after_switch, row_after_switch_to}
use Rattle.fw_message.specs.Laws.{IsUnapplied}
use Rattle.fw_message.specs.Headline.{running_image}
use Rattle.fw_message.proofs.Safety.Applied.{none_turned, put_of}
use Rattle.fw_message.proofs.Safety.Readings.{through}
use Rattle.fwup_wire.proofs.SameCommands.{key_means, key_self}

unfoldable pub AreApplied : (Key → Option ImageOf) → List RowOf → Type 0
AreApplied f [] = Unit {0}
AreApplied f (r ∷ rows) = (r.applied ≡ f r.key) × AreApplied f rows

-- rows with the same key have the same applied image
pub record HasOne (rows : List RowOf) : Type 0 where
  pub of : Key → Option ImageOf
  pub are : AreApplied of rows

abbrev no_image : Key → Option ImageOf
no_image key = None

none_are : (rows : List RowOf) → All IsUnapplied rows → AreApplied no_image rows
unfolding AreApplied
none_are [] h = tt
none_are (r ∷ rows) h = (All-head IsUnapplied r rows h, none_are rows (All-tail IsUnapplied r rows h))

pub one_nothing : (rows : List RowOf) → All IsUnapplied rows → HasOne rows
one_nothing rows h = record { of = no_image; are = none_are rows h }

none_of_dropped : (rows : List RowOf) → AreApplied no_image (rows_after_drop rows)
unfolding AreApplied
none_of_dropped [] = tt
none_of_dropped (r ∷ rows) = (refl, none_of_dropped rows)

pub one_dropped : (rows : List RowOf) → HasOne (rows_after_drop rows)
one_dropped rows = record { of = no_image; are = none_of_dropped rows }

none_of_switched : (rows : List RowOf) → AreApplied no_image (rows_after_switch rows)
unfolding AreApplied
none_of_switched [] = tt
none_of_switched (r ∷ rows) = (none_turned r r.applied refl, none_of_switched rows)

pub one_switched : (rows : List RowOf) → HasOne (rows_after_switch rows)
one_switched rows = record { of = no_image; are = none_of_switched rows }

abbrev sealing : (Key → Option ImageOf) → Key → ImageOf → Key → Option ImageOf
sealing f key image k = if same_key k key then Some image else f k

sealed_are : (f : Key → Option ImageOf) (rows : List RowOf) (key : Key) (image : ImageOf) → AreApplied f rows
    → AreApplied (sealing f key image) (rows_after_seal rows key image)
unfolding AreApplied
sealed_are f [] key image h = tt
sealed_are f (r ∷ rows) key image h = (at_row (same_key r.key key) refl, sealed_are f rows key image h.1)
  where
    at_row : (t : Bool) → same_key r.key key ≡ t → (sealed_if t r image).applied ≡ sealing f key image (sealed_if t r image).key
    at_row true e = rw e refl
    at_row false e = rw e h.0

pub one_sealed : (rows : List RowOf) (key : Key) (image : ImageOf) → HasOne rows → HasOne (rows_after_seal rows key image)
one_sealed rows key image h = record { of = sealing h.of key image; are = sealed_are h.of rows key image h.are }

-- the activated image is the one applied under its key
abbrev IsRight : (Key → Option ImageOf) → KeyedImage → Type 0
IsRight f p = IsSomeAnd (f p.key) (λ image. image.bytes ≡ p.bytes)

abbrev HasPut : Key → List KeyedImage → Type 0
HasPut key [] = ⊥
HasPut key (p ∷ ps) = (p.key ≡ key) ⊎ HasPut key ps

right_among : (f : Key → Option ImageOf) (p : KeyedImage) (qs : List KeyedImage) → IsRight f p → All (IsRight f) qs → All (IsRight f) (images_with p qs)
right_among f p [] h all = All-cons (IsRight f) p [] h all
right_among f p (q ∷ qs) h all =
    cond_both (is_key_before q.key p.key) (q ∷ images_with p qs) (p ∷ q ∷ qs) (All (IsRight f))
    (λ e. All-cons (IsRight f) q (images_with p qs) (All-head (IsRight f) q qs all) (right_among f p qs h (All-tail (IsRight f) q qs all)))
    (λ e. All-cons (IsRight f) p (q ∷ qs) h all)

here_among : (p : KeyedImage) (qs : List KeyedImage) → HasPut p.key (images_with p qs)
here_among p [] = inl refl
here_among p (q ∷ qs) =
    cond_both (is_key_before q.key p.key) (q ∷ images_with p qs) (p ∷ q ∷ qs) (HasPut p.key) (λ e. inr (here_among p qs)) (λ e. inl refl)

there_among : (key : Key) (p : KeyedImage) (qs : List KeyedImage) → HasPut key qs → HasPut key (images_with p qs)
there_among key p [] h = absurd h
there_among key p (q ∷ qs) h =
    cond_both (is_key_before q.key p.key) (q ∷ images_with p qs) (p ∷ q ∷ qs) (HasPut key)
    (λ e. elim h [ inl here ↦ inl here | inr there ↦ inr (there_among key p qs there) ])
    (λ e. inr h)

right_applied : (f : Key → Option ImageOf) (key : Key) (o : Option ImageOf) (qs : List KeyedImage) → o ≡ f key → All (IsRight f) qs
    → All (IsRight f) (images_with_applied key o qs)
right_applied f key None qs e all = all
right_applied f key (Some image) qs e all =
    right_among f (put_of key image) qs (subst (λ (o : Option ImageOf). IsSomeAnd o (λ i. i.bytes ≡ image.bytes)) e refl) all

puts_right : (f : Key → Option ImageOf) (rows : List RowOf) → AreApplied f rows → All (IsRight f) (applied_keyed_images rows)
unfolding AreApplied
puts_right f [] h = All-nil (IsRight f)
puts_right f (r ∷ rows) h = right_applied f r.key r.applied (applied_keyed_images rows) h.0 (puts_right f rows h.1)

-- replacing by images of other keys
through_others : (f : Key → Option ImageOf) (ps : List KeyedImage) (q : KeyedImage) → f q.key ≡ None → All (IsRight f) ps → through ps q ≡ q
through_others f [] q e all = refl
through_others f (p ∷ ps) q e all = at_test (same_key q.key p.key) refl ∙ through_others f ps q e (All-tail (IsRight f) p ps all)
  where
    at_test : (t : Bool) → same_key q.key p.key ≡ t → through ps (if t then record { key = q.key; bytes = p.bytes } else q) ≡ through ps q
    at_test true s =
        let none : f p.key ≡ None = sym (ap f (key_means q.key p.key s)) ∙ e in
        absurd (let right : IsSomeAnd (f p.key) (λ i. i.bytes ≡ p.bytes) = All-head (IsRight f) p ps all in subst (λ (o : Option ImageOf). IsSomeAnd o (λ i. i.bytes ≡ p.bytes)) none right)
    at_test false s = refl

-- replacing by the image of its own key
right_bytes : (f : Key → Option ImageOf) (p : KeyedImage) (image : ImageOf) → f p.key ≡ Some image → IsRight f p → p.bytes ≡ image.bytes
right_bytes f p image e h = sym (subst (λ (o : Option ImageOf). IsSomeAnd o (λ i. i.bytes ≡ p.bytes)) e h)

other_put : (key : Key) (p : KeyedImage) (ps : List KeyedImage) → same_key key p.key ≡ false → (p.key ≡ key) ⊎ HasPut key ps → HasPut key ps
other_put key p ps s h =
    elim h [ inl here ↦ absurd (let same : same_key key p.key ≡ true = rw here (key_self key) in cc) | inr there ↦ there ]

still : (key : Key) (bytes : List ℕ) (image : ImageOf) (p : KeyedImage) (ps : List KeyedImage) → same_key key p.key ≡ false
    → (bytes ≡ image.bytes) ⊎ HasPut key (p ∷ ps) → (bytes ≡ image.bytes) ⊎ HasPut key ps
still key bytes image p ps s h = elim h [ inl is ↦ inl is | inr has ↦ inr (other_put key p ps s has) ]

whole_put : (q : KeyedImage) (image : ImageOf) → (q.bytes ≡ image.bytes) ⊎ HasPut q.key [] → q ≡ put_of q.key image
whole_put q image h = elim h [ inl is ↦ ap (λ b. record { key = q.key; bytes = b }) is | inr none ↦ absurd none ]

through_own : (f : Key → Option ImageOf) (ps : List KeyedImage) (q : KeyedImage) (image : ImageOf) → f q.key ≡ Some image → All (IsRight f) ps
    → (q.bytes ≡ image.bytes) ⊎ HasPut q.key ps → through ps q ≡ put_of q.key image
through_own f [] q image e all h = whole_put q image h
through_own f (p ∷ ps) q image e all h =
    let rest = All-tail (IsRight f) p ps all in
    let first = All-head (IsRight f) p ps all in
    cond_both (same_key q.key p.key) (record { key = q.key; bytes = p.bytes }) q (λ (x : KeyedImage). through ps x ≡ put_of q.key image)
    (λ s. through_own f ps (record { key = q.key; bytes = p.bytes }) image e rest
    (inl (right_bytes f p image (sym (ap f (key_means q.key p.key s)) ∙ e) first)))
    (λ s. through_own f ps q image e rest (still q.key q.bytes image p ps s h))

-- each row
at_turned : (f : Key → Option ImageOf) (ps : List KeyedImage) (r : RowOf) (o : Option ImageOf) → r.applied ≡ o → o ≡ f r.key → All (IsRight f) ps
    → ((image : ImageOf) → o ≡ Some image → HasPut r.key ps) → running_image (row_after_switch_to r o) ≡ through ps (running_image r)
at_turned f ps r None is e all has = sym (through_others f ps (running_image r) (sym e) all)
at_turned f ps r (Some image) is e all has = sym (through_own f ps (running_image r) image (sym e) all (inr (has image refl)))

put_there : (key : Key) (o : Option ImageOf) (qs : List KeyedImage) (image : ImageOf) → o ≡ Some image → HasPut key (images_with_applied key o qs)
put_there key None qs image e = absurd (cc)
put_there key (Some x) qs image e = here_among (put_of key x) qs

kept_there : (k key : Key) (o : Option ImageOf) (qs : List KeyedImage) → HasPut k qs → HasPut k (images_with_applied key o qs)
kept_there k key None qs h = h
kept_there k key (Some x) qs h = there_among k (put_of key x) qs h

-- the images of these rows are among those
unfoldable ArePut : List RowOf → List KeyedImage → Type 0
ArePut [] ps = Unit {0}
ArePut (r ∷ rows) ps = ((image : ImageOf) → r.applied ≡ Some image → HasPut r.key ps) × ArePut rows ps

put_more : (rows : List RowOf) (key : Key) (o : Option ImageOf) (qs : List KeyedImage) → ArePut rows qs → ArePut rows (images_with_applied key o qs)
unfolding ArePut
put_more [] key o qs h = tt
put_more (r ∷ rows) key o qs h = (λ image e. kept_there r.key key o qs (h.0 image e), put_more rows key o qs h.1)

all_put : (rows : List RowOf) → ArePut rows (applied_keyed_images rows)
unfolding ArePut
all_put [] = tt
all_put (r ∷ rows) = (λ image e. put_there r.key r.applied (applied_keyed_images rows) image e, put_more rows r.key r.applied (applied_keyed_images rows) (all_put rows))

turned_all : (f : Key → Option ImageOf) (ps : List KeyedImage) (rows : List RowOf) → AreApplied f rows → All (IsRight f) ps → ArePut rows ps
    → map running_image (rows_after_switch rows) ≡ map (through ps) (map running_image rows)
unfolding AreApplied ArePut
turned_all f ps [] h all has = refl
turned_all f ps (r ∷ rows) h all has =
    let first : running_image (row_after_switch r) ≡ through ps (running_image r) = at_turned f ps r r.applied refl h.0 all has.0 in
    let rest : map running_image (rows_after_switch rows) ≡ map (through ps) (map running_image rows) = turned_all f ps rows h.1 all has.1 in
    let P : KeyedImage → List KeyedImage → List KeyedImage = λ x xs. x ∷ xs in
    let both : P (running_image (row_after_switch r)) (map running_image (rows_after_switch rows)) ≡ P (through ps (running_image r)) (map (through ps) (map running_image rows)) = rw (first, rest) refl in
    both

-- a switch: all applied images run
pub switch_turns : (rows : List RowOf) → HasOne rows → map running_image (rows_after_switch rows) ≡ map (through (applied_keyed_images rows)) (map running_image rows)
switch_turns rows h = turned_all h.of (applied_keyed_images rows) rows h.are (puts_right h.of rows h.are) (all_put rows)

pub drop_runs : (rows : List RowOf) → map running_image (rows_after_drop rows) ≡ map running_image rows
drop_runs [] = refl
drop_runs (r ∷ rows) = ap (λ xs. running_image r ∷ xs) (drop_runs rows)

sealed_runs : (t : Bool) (r : RowOf) (image : ImageOf) → running_image (sealed_if t r image) ≡ running_image r
sealed_runs true r image = refl
sealed_runs false r image = refl

pub seal_runs : (rows : List RowOf) (key : Key) (image : ImageOf) → map running_image (rows_after_seal rows key image) ≡ map running_image rows
seal_runs [] key image = refl
seal_runs (r ∷ rows) key image =
    let first : running_image (sealed_if (same_key r.key key) r image) ≡ running_image r = sealed_runs (same_key r.key key) r image in
    let rest : map running_image (rows_after_seal rows key image) ≡ map running_image rows = seal_runs rows key image in
    let P : KeyedImage → List KeyedImage → List KeyedImage = λ x xs. x ∷ xs in
    let both : P (running_image (sealed_if (same_key r.key key) r image)) (map running_image (rows_after_seal rows key image)) ≡ P (running_image r) (map running_image rows) = rw (first, rest) refl in
    both
