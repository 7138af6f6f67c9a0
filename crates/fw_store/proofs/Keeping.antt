-- Lemmas on kept images and active images.
use Rattle.std.proofs.Common.{zero, suc, arith, ◌+◌, ◌<◌, ◌++◌, get_or, drop, is_some, length, take, ◌≡◌, ◌∙◌, ◌==◌, ℕ, Bool, true, false, List, [], ◌∷◌, Option, None, Some, map, refl, sym, ap}
use Rattle.std.proofs.lemmas.List.{drop_all, drop_more, length-map, map-append, take_more}
use Rattle.std.proofs.lemmas.Bool.{eq-eqb, eqb-false, eqb-true, ne_eqb, or_parts}
use Rattle.fd_core.specs.Banks.{HaveKeysOnce, has_key}
use Rattle.fd_core.specs.Images.{ImageOf, LabelOf, RowOf, StageOf, active_of, applied_of, rows_after_drop, key_of, row_of, rows_after_seal, sealed_by, sealed_if, rows_after_switch, row_after_switch, row_after_switch_to, same_key, image_in}
use Rattle.fwup_wire.specs.declared.values.Key.{Key}
use Rattle.fw_store.specs.Kept.{KeptOf, all_applied, all_running, applied_before, image_for, kept_after, one_applied, replaced_by, kept_of_row}

-- a change of the applied images doesn't change the active ones
pub running_dropped : (rows : List RowOf) → all_running (rows_after_drop rows) ≡ all_running rows
running_dropped [] = refl
running_dropped (row ∷ rows) = ap (λ ks. kept_of_row row ∷ ks) (running_dropped rows)

pub keys_dropped : (rows : List RowOf) → map key_of (rows_after_drop rows) ≡ map key_of rows
keys_dropped [] = refl
keys_dropped (row ∷ rows) = ap (λ ks. row.key ∷ ks) (keys_dropped rows)

sealed_one : (is_its : Bool) (row : RowOf) (image : ImageOf) → kept_of_row (sealed_if is_its row image) ≡ kept_of_row row
sealed_one true row image = refl
sealed_one false row image = refl

running_sealed_as : (rows : List RowOf) (key : Key) (image : ImageOf) → all_running (rows_after_seal rows key image) ≡ all_running rows
running_sealed_as [] key image = refl
running_sealed_as (row ∷ rows) key image =
    ap (λ k. k ∷ all_running (rows_after_seal rows key image)) (sealed_one (same_key row.key key) row image) ∙ ap (λ ks. kept_of_row row ∷ ks) (running_sealed_as rows key image)

pub running_sealed : (rows : List RowOf) (stage : Option StageOf) → all_running (sealed_by rows stage) ≡ all_running rows
running_sealed rows None = refl
running_sealed rows (Some s) = running_sealed_as rows s.key (image_in s)

keyed_one : (is_its : Bool) (row : RowOf) (image : ImageOf) → key_of (sealed_if is_its row image) ≡ row.key
keyed_one true row image = refl
keyed_one false row image = refl

keys_sealed_as : (rows : List RowOf) (key : Key) (image : ImageOf) → map key_of (rows_after_seal rows key image) ≡ map key_of rows
keys_sealed_as [] key image = refl
keys_sealed_as (row ∷ rows) key image =
    ap (λ k. k ∷ map key_of (rows_after_seal rows key image)) (keyed_one (same_key row.key key) row image) ∙ ap (λ ks. row.key ∷ ks) (keys_sealed_as rows key image)

pub keys_sealed : (rows : List RowOf) (stage : Option StageOf) → map key_of (sealed_by rows stage) ≡ map key_of rows
keys_sealed rows None = refl
keys_sealed rows (Some s) = keys_sealed_as rows s.key (image_in s)

keyed_turned : (row : RowOf) (applied : Option ImageOf) → key_of (row_after_switch_to row applied) ≡ row.key
keyed_turned row None = refl
keyed_turned row (Some image) = refl

pub keys_switched : (rows : List RowOf) → map key_of (rows_after_switch rows) ≡ map key_of rows
keys_switched [] = refl
keys_switched (row ∷ rows) = ap (λ k. k ∷ map key_of (rows_after_switch rows)) (keyed_turned row row.applied) ∙ ap (λ ks. row.key ∷ ks) (keys_switched rows)

same_self : (k : Key) → same_key k k ≡ true
same_self k = rw (eq-eqb k.classification k.classification refl, eq-eqb k.identifier k.identifier refl) refl

swap_by : (a b : ℕ) (c : Bool) → (a == b) ≡ c → c ≡ (b == a)
swap_by a b true e = sym (eq-eqb b a (sym (eqb-true a b e)))
swap_by a b false e = sym (ne_eqb b a (λ same. eqb-false a b e (sym same)))

eqb_swap : (a b : ℕ) → (a == b) ≡ (b == a)
eqb_swap a b = swap_by a b (a == b) refl

same_swap : (a b : Key) → same_key a b ≡ same_key b a
same_swap a b = rw (eqb_swap a.classification b.classification, eqb_swap a.identifier b.identifier) refl

-- no image of a component that isn't there is applied
absent_one : (row : RowOf) (applied : Option ImageOf) (rest : List KeptOf) (key : Key) → same_key row.key key ≡ false → image_for rest key ≡ None → image_for (applied_before row applied rest) key ≡ None
absent_one row None rest key other none = none
absent_one row (Some image) rest key other none = rw other none

absent : (rows : List RowOf) (key : Key) → has_key (map key_of rows) key ≡ false → image_for (all_applied rows) key ≡ None
absent [] key none = refl
absent (row ∷ rows) key none = let parts = or_parts (same_key row.key key) (has_key (map key_of rows) key) none in
    absent_one row row.applied (all_applied rows) key parts.0 (absent rows key parts.1)

-- an image of another component replaces none
skipped_one : (row : RowOf) (applied : Option ImageOf) (images : List KeptOf) (key : Key) → same_key row.key key ≡ false → image_for (applied_before row applied images) key ≡ image_for images key
skipped_one row None images key other = refl
skipped_one row (Some image) images key other = rw other refl

skipped : (row : RowOf) (images : List KeptOf) (rows : List RowOf) → has_key (map key_of rows) row.key ≡ false
    → kept_after (all_running rows) (applied_before row row.applied images) ≡ kept_after (all_running rows) images
skipped row images [] none = refl
skipped row images (r ∷ rows) none =
    let parts = or_parts (same_key r.key row.key) (has_key (map key_of rows) row.key) none in
    ap (λ i. replaced_by (kept_of_row r) i ∷ kept_after (all_running rows) (applied_before row row.applied images)) (skipped_one row row.applied images r.key (same_swap row.key r.key ∙ parts.0))
    ∙ ap (λ ks. replaced_by (kept_of_row r) (image_for images r.key) ∷ ks) (skipped row images rows parts.1)

-- the applied image of a component becomes active
turned_one : (row : RowOf) (applied : Option ImageOf) (images : List KeptOf) → image_for images row.key ≡ None → replaced_by (kept_of_row row) (image_for (applied_before row applied images) row.key) ≡ kept_of_row (row_after_switch_to row applied)
turned_one row None images none = rw none refl
turned_one row (Some image) images none = rw (same_self row.key) refl

-- the applied images replace the kept ones, which then are the active ones
pub running_switched : (rows : List RowOf) → HaveKeysOnce (map key_of rows) → kept_after (all_running rows) (all_applied rows) ≡ all_running (rows_after_switch rows)
running_switched [] apart = refl
running_switched (row ∷ rows) apart =
    ap (λ k. k ∷ kept_after (all_running rows) (applied_before row row.applied (all_applied rows))) (turned_one row row.applied (all_applied rows) (absent rows row.key apart.0))
    ∙ ap (λ ks. kept_of_row (row_after_switch row) ∷ ks) (skipped row (all_applied rows) rows apart.0 ∙ running_switched rows apart.1)

-- the components that come first, and one more
applied_append : (rows more : List RowOf) → all_applied (rows ++ more) ≡ all_applied rows ++ all_applied more
applied_append [] more = refl
applied_append (row ∷ rows) more = applied_joined row row.applied (all_applied (rows ++ more)) (all_applied rows) (all_applied more) (applied_append rows more)
  where
    applied_joined : (row : RowOf) (applied : Option ImageOf) (whole first second : List KeptOf) → whole ≡ first ++ second → applied_before row applied whole ≡ applied_before row applied first ++ second
    applied_joined row None whole first second is = is
    applied_joined row (Some image) whole first second is = ap (λ ks. record { key = row.key; image = image } ∷ ks) is

not_same : (ks : List Key) (key d : Key) (i : ℕ) → has_key ks key ≡ false → i < length ks → same_key (get_or ks i d) key ≡ false
not_same [] key d i none below = absurd (omega arith)
not_same (k ∷ ks) key d zero none below = (or_parts (same_key k key) (has_key ks key) none).0
not_same (k ∷ ks) key d (suc i) none below = not_same ks key d i (or_parts (same_key k key) (has_key ks key) none).1 (omega arith)

-- each component is found by its key
pub row_at : (rows : List RowOf) (i : ℕ) (key d : Key) (none : RowOf) → HaveKeysOnce (map key_of rows) → i < length rows → row_of rows (get_or (map key_of rows) i d) ≡ Some (get_or rows i none)
row_at [] i key d none apart below = absurd (omega arith)
row_at (row ∷ rows) zero key d none apart below = rw (same_self row.key) refl
row_at (row ∷ rows) (suc i) key d none apart below =
    rw (same_swap row.key (get_or (map key_of rows) i d) ∙ not_same (map key_of rows) row.key d i apart.0 (omega (arith, length-map rows key_of))) (row_at rows i key d none apart.1 (omega arith))

no_row : RowOf
no_row = record { key = record { classification = 0; identifier = 0 }; active = record { label = record { stamp = 0; text_type = 0; text = [] }; bytes = [] }; applied = None }

key_at : (rows : List RowOf) (i : ℕ) (d : Key) (none : RowOf) → i < length rows → get_or (map key_of rows) i d ≡ (get_or rows i none).key
key_at [] i d none below = absurd (omega arith)
key_at (row ∷ rows) zero d none below = refl
key_at (row ∷ rows) (suc i) d none below = key_at rows i d none (omega arith)

applied_alone : (row : RowOf) (applied : Option ImageOf) → applied_before row applied [] ≡ one_applied row.key applied
applied_alone row None = refl
applied_alone row (Some image) = refl

-- the applied image of one more component
pub applied_more : (rows : List RowOf) (i : ℕ) (d : Key) → HaveKeysOnce (map key_of rows) → i < length (map key_of rows)
    → all_applied (take (i + 1) rows) ≡ all_applied (take i rows) ++ one_applied (get_or (map key_of rows) i d) (applied_of (row_of rows (get_or (map key_of rows) i d)))
applied_more rows i d apart below =
    let within : i < length rows = omega (arith, below, length-map rows key_of) in
    let row = get_or rows i no_row in
    rw (take_more rows i no_row within, applied_append (take i rows) (row ∷ []), row_at rows i d d no_row apart within, key_at rows i d no_row within)
    (ap (λ ks. all_applied (take i rows) ++ ks) (applied_alone row row.applied))

the_same : (a b : ImageOf) → Some a ≡ Some b → a ≡ b
the_same a b is = cc

-- one more component, with its active image
pub running_more : (rows : List RowOf) (i : ℕ) (d : Key) → HaveKeysOnce (map key_of rows) → i < length (map key_of rows) → (label : LabelOf) (bytes : List ℕ)
    → Some (record { label = label; bytes = bytes }) ≡ active_of (row_of rows (get_or (map key_of rows) i d))
    → all_running (take (i + 1) rows) ≡ all_running (take i rows) ++ record { key = get_or (map key_of rows) i d; image = record { label = label; bytes = bytes } } ∷ []
running_more rows i d apart below label bytes is =
    let within : i < length rows = omega (arith, below, length-map rows key_of) in
    let row = get_or rows i no_row in
    let image : record { label = label; bytes = bytes } ≡ row.active = the_same _ _ (is ∙ ap active_of (row_at rows i d d no_row apart within)) in
    rw (take_more rows i no_row within, map-append kept_of_row (take i rows) (row ∷ []), key_at rows i d no_row within, image) refl

-- each component is there
pub is_there : (rows : List RowOf) (i : ℕ) (d : Key) → HaveKeysOnce (map key_of rows) → i < length (map key_of rows) → is_some (active_of (row_of rows (get_or (map key_of rows) i d))) ≡ true
is_there rows i d apart below = let within : i < length rows = omega (arith, below, length-map rows key_of) in rw (row_at rows i d d no_row apart within) refl

pub not_both : (b : Bool) → false ≡ b → b ≡ true → ⊥
not_both b one other = absurd (cc)

-- a component is found at the first place of its key
pub image_here : (ks : List KeptOf) (i : ℕ) (d : KeptOf) (key : Key) → i < length ks → same_key (get_or ks i d).key key ≡ true → image_for (drop i ks) key ≡ Some (get_or ks i d).image
image_here ks i d key below is = rw (drop_more ks i d below, is) refl

pub image_later : (ks : List KeptOf) (i : ℕ) (d : KeptOf) (key : Key) → i < length ks → same_key (get_or ks i d).key key ≡ false → image_for (drop (i + 1) ks) key ≡ image_for (drop i ks) key
image_later ks i d key below other = rw (drop_more ks i d below, other) refl

pub ruleset finding = (image_here, image_later, drop_all)

pub ruleset keeping = (running_dropped, keys_dropped, running_sealed, keys_sealed, keys_switched, running_switched)
