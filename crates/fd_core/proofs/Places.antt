-- The effect of the calls of a bank in memory on its components.
use Rattle.std.proofs.Common.{[], ◌++◌, ◌<◌, ◌≡◌, ◌≢◌, ◌∙◌, ◌∷◌, Bool, IsSome, List, None, Option, Some, ap, arith, false, get_or, if◌then◌else◌, is_some, length, map, option_map, refl, set, suc, subst, sym, true, zero, ℕ}
use Rattle.std.proofs.lemmas.Bool.{ne_eqb, or_parts}
use Rattle.std.proofs.lemmas.List.{get_or-set_other, get_or-set_same, get_or_default, length-set, map-append}
use Rattle.fd_core.proofs.Rows.{absent_more, absent_sealed, has_row, same_both, same_means}
use Rattle.fd_core.specs.Areas.{AreShaped, AreaOf, ComponentAreasOf, ShapeOf, active_to, place_after_switch, activated_to, applied_if, applied_spare, places_with, changed_if, place_after_drop, image_at, image_by, no_area, no_place, numbers_applied, numbers_by, numbers_dropped, numbers_for, numbers_switched, place_for, place_after_write, row_by, shape_of, spare, spare_of, stage_by, stage_in, stage_of, with_written, written_area}
use Rattle.fd_core.specs.Banks.{has_key}
use Rattle.fd_core.specs.Images.{RowOf, rows_after_drop, key_of, row_of, same_key, rows_after_seal, sealed_by, rows_after_switch, row_after_switch}
use Rattle.fwup_wire.specs.declared.values.Key.{Key}

-- the spare area is neither active nor applied
spare_alone : (a : ℕ) → a ≢ spare a None
spare_alone zero = omega arith
spare_alone (suc a) = rw (ne_eqb (suc a) 0 (omega arith)) (omega arith)

spare_other : (a b : ℕ) → (a ≢ spare a (Some b)) × (b ≢ spare a (Some b))
spare_other zero zero = (omega arith, omega arith)
spare_other zero (suc zero) = (omega arith, omega arith)
spare_other zero (suc (suc b)) = rw (ne_eqb (suc (suc b)) 1 (omega arith)) (omega arith, omega arith)
spare_other (suc zero) zero = (omega arith, omega arith)
spare_other (suc zero) (suc b) = rw (ne_eqb (suc b) 0 (omega arith)) (omega arith, omega arith)
spare_other (suc (suc a)) zero = rw (ne_eqb (suc (suc a)) 0 (omega arith), ne_eqb (suc (suc a)) 1 (omega arith)) (omega arith, omega arith)
spare_other (suc (suc a)) (suc b) = rw (ne_eqb (suc (suc a)) 0 (omega arith), ne_eqb (suc b) 0 (omega arith)) (omega arith, omega arith)

spare_if : (a b : Bool) → (if a then 0 else if b then 1 else 2) < 3
spare_if true b = omega arith
spare_if false true = omega arith
spare_if false false = omega arith

pub spare_within : (a : ℕ) (b : Option ℕ) → spare a b < 3
spare_within a b = spare_if _ _

-- so writing changes no image
image_kept : (areas : List AreaOf) (n i : ℕ) (a : AreaOf) → n ≢ i → image_at (set areas i a) n ≡ image_at areas n
image_kept areas n i a other = ap image_by (get_or-set_other areas i n a no_area other)

row_kept_at : (key : Key) (areas : List AreaOf) (active : ℕ) (applied : Option ℕ) (a : AreaOf)
    → row_by (record { key = key; areas = set areas (spare active applied) a; active = active; applied = applied }) ≡ row_by (record { key = key; areas = areas; active = active; applied = applied })
row_kept_at key areas active None a = rw (image_kept areas active (spare active None) a (spare_alone active)) refl
row_kept_at key areas active (Some b) a =
    rw (image_kept areas active (spare active (Some b)) a (spare_other active b).0, image_kept areas b (spare active (Some b)) a (spare_other active b).1) refl

row_kept : (p : ComponentAreasOf) (a : AreaOf) → row_by (with_written p a) ≡ row_by p
row_kept p a = row_kept_at p.key p.areas p.active p.applied a

-- the parts of a component that a change keeps
left_if : {A : Type 0} (g : ComponentAreasOf → A) (f : ComponentAreasOf → ComponentAreasOf) (b : Bool) (p : ComponentAreasOf) → g (f p) ≡ g p → g (changed_if b f p) ≡ g p
left_if g f true p e = e
left_if g f false p e = refl

left : {A : Type 0} (g : ComponentAreasOf → A) (f : ComponentAreasOf → ComponentAreasOf) (key : Key) (places : List ComponentAreasOf) → ((p : ComponentAreasOf) → g (f p) ≡ g p) → map g (places_with f key places) ≡ map g places
left g f key [] e = refl
left g f key (p ∷ places) e = rw (left_if g f (same_key p.key key) p (e p), left g f key places e) refl

shape_written : (p : ComponentAreasOf) (a : AreaOf) → shape_of (with_written p a) ≡ shape_of p
shape_written p a = rw (length-set p.areas (spare_of p) a) refl

pub shapes_rewritten : (change : AreaOf → AreaOf) (key : Key) (places : List ComponentAreasOf) → map shape_of (places_with (place_after_write change) key places) ≡ map shape_of places
shapes_rewritten change key places = left shape_of (place_after_write change) key places (λ p. shape_written p (change (written_area p)))

pub rows_rewritten : (change : AreaOf → AreaOf) (key : Key) (places : List ComponentAreasOf) → map row_by (places_with (place_after_write change) key places) ≡ map row_by places
rows_rewritten change key places = left row_by (place_after_write change) key places (λ p. row_kept p (change (written_area p)))

pub numbers_rewritten : (change : AreaOf → AreaOf) (key : Key) (places : List ComponentAreasOf) → map numbers_by (places_with (place_after_write change) key places) ≡ map numbers_by places
numbers_rewritten change key places = left numbers_by (place_after_write change) key places (λ p. refl)

pub shapes_applied : (key : Key) (places : List ComponentAreasOf) → map shape_of (places_with applied_spare key places) ≡ map shape_of places
shapes_applied key places = left shape_of applied_spare key places (λ p. refl)

-- the stage of a component that is rewritten
written_as : (p : ComponentAreasOf) (a : AreaOf) → length p.areas ≡ 3 → written_area (with_written p a) ≡ a
written_as p a three = get_or-set_same p.areas (spare_of p) a no_area (rw three (spare_within p.active p.applied))

stage_if : (change : AreaOf → AreaOf) (key : Key) (b : Bool) (p : ComponentAreasOf) (new rest : Option ComponentAreasOf) → same_key p.key key ≡ b → length p.areas ≡ 3
    → option_map (stage_by key) new ≡ option_map (λ q. stage_of key (change (written_area q))) rest
    → option_map (stage_by key) (if same_key (changed_if b (place_after_write change) p).key key then Some (changed_if b (place_after_write change) p) else new)
    ≡ option_map (λ q. stage_of key (change (written_area q))) (if b then Some p else rest)
stage_if change key true p new rest same three e = rw (same, written_as p (change (written_area p)) three) refl
stage_if change key false p new rest same three e = rw same e

pub stage_rewritten : (change : AreaOf → AreaOf) (key : Key) (places : List ComponentAreasOf) → AreShaped (map shape_of places)
    → stage_in (places_with (place_after_write change) key places) (Some key) ≡ option_map (λ p. stage_of key (change (written_area p))) (place_for places key)
stage_rewritten change key [] shaped = refl
stage_rewritten change key (p ∷ places) shaped =
    stage_if change key (same_key p.key key) p (place_for (places_with (place_after_write change) key places) key) (place_for places key) refl shaped.1.0 (stage_rewritten change key places shaped.1.1)

-- the component found for a key
pub keys_by : (places : List ComponentAreasOf) → map key_of (map row_by places) ≡ map (λ s. s.key) (map shape_of places)
keys_by [] = refl
keys_by (p ∷ places) = ap (λ ks. p.key ∷ ks) (keys_by places)

row_if : (b : Bool) (p : ComponentAreasOf) (rest : Option ComponentAreasOf) (row : Option RowOf) → row ≡ option_map row_by rest → (if b then Some (row_by p) else row) ≡ option_map row_by (if b then Some p else rest)
row_if true p rest row e = refl
row_if false p rest row e = e

pub row_for : (places : List ComponentAreasOf) (key : Key) → row_of (map row_by places) key ≡ option_map row_by (place_for places key)
row_for [] key = refl
row_for (p ∷ places) key = row_if (same_key p.key key) p (place_for places key) _ (row_for places key)

numbers_if : (b : Bool) (p : ComponentAreasOf) (rest : Option ComponentAreasOf) (ns : Option (ℕ × Option ℕ)) → ns ≡ option_map (λ q. (q.active, q.applied)) rest
    → (if b then Some (p.active, p.applied) else ns) ≡ option_map (λ q. (q.active, q.applied)) (if b then Some p else rest)
numbers_if true p rest ns e = refl
numbers_if false p rest ns e = e

pub numbers_found : (places : List ComponentAreasOf) (key : Key) → numbers_for (map numbers_by places) key ≡ option_map (λ q. (q.active, q.applied)) (place_for places key)
numbers_found [] key = refl
numbers_found (p ∷ places) key = numbers_if (same_key p.key key) p (place_for places key) _ (numbers_found places key)

found_apart : (a key : Key) (places : List ComponentAreasOf) (i : ℕ) (d : ComponentAreasOf) → has_key (map (λ s. s.key) (map shape_of places)) a ≡ false → i < length places
    → same_key (get_or places i d).key key ≡ true → same_key a key ≡ false
found_apart a key [] i d absent lt e = absurd (omega arith)
found_apart a key (p ∷ places) zero d absent lt e =
    let parts = or_parts (same_key p.key a) (has_key (map (λ s. s.key) (map shape_of places)) a) absent in
    rw (sym (same_means p.key key e), same_both a p.key) parts.0
found_apart a key (p ∷ places) (suc i) d absent lt e =
    let parts = or_parts (same_key p.key a) (has_key (map (λ s. s.key) (map shape_of places)) a) absent in
    found_apart a key places i d parts.1 (omega arith) e

-- the written area of a component becomes its applied one
absent_changed : (f : ComponentAreasOf → ComponentAreasOf) (key : Key) (places : List ComponentAreasOf) → has_key (map (λ s. s.key) (map shape_of places)) key ≡ false → places_with f key places ≡ places
absent_changed f key [] e = refl
absent_changed f key (p ∷ places) e =
    let parts = or_parts (same_key p.key key) (has_key (map (λ s. s.key) (map shape_of places)) key) e in
    rw (parts.0, absent_changed f key places parts.1) refl

sealed_if_here : (key : Key) (b : Bool) (p q : ComponentAreasOf) (places : List ComponentAreasOf) → same_key p.key key ≡ b → AreShaped (map shape_of (p ∷ places))
    → (if b then Some p else place_for places key) ≡ Some q
    → (place_for places key ≡ Some q → map row_by (places_with applied_spare key places) ≡ rows_after_seal (map row_by places) key (image_by (written_area q)))
    → map row_by (changed_if b applied_spare p ∷ places_with applied_spare key places) ≡ rows_after_seal (map row_by (p ∷ places)) key (image_by (written_area q))
sealed_if_here key true p q places same shaped e more =
    let here : p ≡ q = cc in
    let absent = subst (λ k. has_key (map (λ s. s.key) (map shape_of places)) k ≡ false) (same_means p.key key same) shaped.0 in
    let tail : map row_by (places_with applied_spare key places) ≡ rows_after_seal (map row_by places) key (image_by (written_area p)) =
    rw (absent_changed applied_spare key places absent) (sym (absent_sealed (map row_by places) key (image_by (written_area p)) (rw (keys_by places) absent))) in
    subst (λ r. map row_by (applied_spare p ∷ places_with applied_spare key places) ≡ rows_after_seal (map row_by (p ∷ places)) key (image_by (written_area r))) here
    (rw same (ap (λ rows. row_by (applied_spare p) ∷ rows) tail))
sealed_if_here key false p q places same shaped e more = rw (same, more e) refl

sealed_rows : (key : Key) (q : ComponentAreasOf) (places : List ComponentAreasOf) → AreShaped (map shape_of places) → place_for places key ≡ Some q
    → map row_by (places_with applied_spare key places) ≡ rows_after_seal (map row_by places) key (image_by (written_area q))
sealed_rows key q [] shaped e = absurd (cc)
sealed_rows key q (p ∷ places) shaped e =
    sealed_if_here key (same_key p.key key) p q places refl shaped e (sealed_rows key q places shaped.1.1)

sealed_at : (key : Key) (o : Option ComponentAreasOf) (places : List ComponentAreasOf) → AreShaped (map shape_of places) → place_for places key ≡ o → IsSome o
    → map row_by (places_with applied_spare key places) ≡ sealed_by (map row_by places) (option_map (stage_by key) o)
sealed_at key (Some q) places shaped e some = sealed_rows key q places shaped e
sealed_at key None places shaped e some = absurd (cc)

pub rows_sealed : (key : Key) (places : List ComponentAreasOf) → AreShaped (map shape_of places) → IsSome (place_for places key)
    → map row_by (places_with applied_spare key places) ≡ sealed_by (map row_by places) (stage_in places (Some key))
rows_sealed key places shaped some = sealed_at key (place_for places key) places shaped refl some

numbers_sealed_if : (b : Bool) (p : ComponentAreasOf) → numbers_by (changed_if b applied_spare p) ≡ applied_if b (numbers_by p)
numbers_sealed_if true p = refl
numbers_sealed_if false p = refl

pub numbers_after_seal : (key : Key) (places : List ComponentAreasOf) → map numbers_by (places_with applied_spare key places) ≡ numbers_applied (map numbers_by places) key
numbers_after_seal key [] = refl
numbers_after_seal key (p ∷ places) = rw (numbers_sealed_if (same_key p.key key) p, numbers_after_seal key places) refl

-- all components at once
row_activated : (key : Key) (areas : List AreaOf) (active : ℕ) (applied : Option ℕ) → row_by (activated_to (record { key = key; areas = areas; active = active; applied = applied }) applied) ≡ row_after_switch (row_by (record { key = key; areas = areas; active = active; applied = applied }))
row_activated key areas active None = refl
row_activated key areas active (Some n) = refl

pub rows_activated : (places : List ComponentAreasOf) → map row_by (map place_after_switch places) ≡ rows_after_switch (map row_by places)
rows_activated [] = refl
rows_activated (p ∷ places) = rw (row_activated p.key p.areas p.active p.applied, rows_activated places) refl

pub rows_forgotten : (places : List ComponentAreasOf) → map row_by (map place_after_drop places) ≡ rows_after_drop (map row_by places)
rows_forgotten [] = refl
rows_forgotten (p ∷ places) = ap (λ rows. row_by (place_after_drop p) ∷ rows) (rows_forgotten places)

numbers_activated_of : (key : Key) (areas : List AreaOf) (active : ℕ) (applied : Option ℕ)
    → numbers_by (activated_to (record { key = key; areas = areas; active = active; applied = applied }) applied) ≡ active_to (record { key = key; active = active; applied = applied }) applied
numbers_activated_of key areas active None = refl
numbers_activated_of key areas active (Some n) = refl

pub numbers_activated : (places : List ComponentAreasOf) → map numbers_by (map place_after_switch places) ≡ numbers_switched (map numbers_by places)
numbers_activated [] = refl
numbers_activated (p ∷ places) = rw (numbers_activated_of p.key p.areas p.active p.applied, numbers_activated places) refl

pub numbers_forgotten : (places : List ComponentAreasOf) → map numbers_by (map place_after_drop places) ≡ numbers_dropped (map numbers_by places)
numbers_forgotten [] = refl
numbers_forgotten (p ∷ places) = ap (λ ns. numbers_by (place_after_drop p) ∷ ns) (numbers_forgotten places)

shape_activated : (key : Key) (areas : List AreaOf) (active : ℕ) (applied : Option ℕ)
    → shape_of (activated_to (record { key = key; areas = areas; active = active; applied = applied }) applied) ≡ record { key = key; areas = length areas }
shape_activated key areas active None = refl
shape_activated key areas active (Some n) = refl

pub shapes_activated : (places : List ComponentAreasOf) → map shape_of (map place_after_switch places) ≡ map shape_of places
shapes_activated [] = refl
shapes_activated (p ∷ places) = rw (shape_activated p.key p.areas p.active p.applied, shapes_activated places) refl

pub shapes_forgotten : (places : List ComponentAreasOf) → map shape_of (map place_after_drop places) ≡ map shape_of places
shapes_forgotten [] = refl
shapes_forgotten (p ∷ places) = ap (λ ss. shape_of p ∷ ss) (shapes_forgotten places)

-- a change of the one component found for a key
pub changed_at : (f : ComponentAreasOf → ComponentAreasOf) (key : Key) (places : List ComponentAreasOf) (i : ℕ) (d : ComponentAreasOf) → AreShaped (map shape_of places) → i < length places
    → same_key (get_or places i d).key key ≡ true → set places i (f (get_or places i d)) ≡ places_with f key places
changed_at f key [] i d shaped lt e = absurd (omega arith)
changed_at f key (p ∷ places) zero d shaped lt e =
    let absent = subst (λ k. has_key (map (λ s. s.key) (map shape_of places)) k ≡ false) (same_means p.key key e) shaped.0 in
    rw (e, absent_changed f key places absent) refl
changed_at f key (p ∷ places) (suc i) d shaped lt e =
    let other = found_apart p.key key places i d shaped.0 (omega arith) e in
    rw (other, changed_at f key places i d shaped.1.1 (omega arith) e) refl

here_if : (key : Key) (b : Bool) (p q : ComponentAreasOf) (rest : Option ComponentAreasOf) → b ≡ false → rest ≡ Some q → (if b then Some p else rest) ≡ Some q
here_if key b p q rest e found = rw e found

pub found_here : (key : Key) (places : List ComponentAreasOf) (i : ℕ) (d : ComponentAreasOf) → AreShaped (map shape_of places) → i < length places
    → same_key (get_or places i d).key key ≡ true → place_for places key ≡ Some (get_or places i d)
found_here key [] i d shaped lt e = absurd (omega arith)
found_here key (p ∷ places) zero d shaped lt e = rw e refl
found_here key (p ∷ places) (suc i) d shaped lt e =
    here_if key (same_key p.key key) p (get_or places i d) (place_for places key) (found_apart p.key key places i d shaped.0 (omega arith) e)
    (found_here key places i d shaped.1.1 (omega arith) e)

-- a component more
shapes_more : (ss : List ShapeOf) (s : ShapeOf) → AreShaped ss → s.areas ≡ 3 → has_key (map (λ t. t.key) ss) s.key ≡ false → AreShaped (ss ++ s ∷ [])
shapes_more [] s shaped three e = (refl, (three, tt))
shapes_more (t ∷ ss) s shaped three e =
    let parts = or_parts (same_key t.key s.key) (has_key (map (λ u. u.key) ss) s.key) e in
    (rw (map-append (λ u. u.key) ss (s ∷ [])) (absent_more (map (λ u. u.key) ss) t.key s.key shaped.0 parts.0), (shaped.1.0, shapes_more ss s shaped.1.1 three parts.1))

pub shaped_more : (places : List ComponentAreasOf) (p : ComponentAreasOf) → AreShaped (map shape_of places) → length p.areas ≡ 3
    → has_key (map key_of (map row_by places)) p.key ≡ false → AreShaped (map shape_of (places ++ p ∷ []))
shaped_more places p shaped three e =
    rw (map-append shape_of places (p ∷ [])) (shapes_more (map shape_of places) (shape_of p) shaped three (rw (keys_by places) at e))

some_by : (o : Option ComponentAreasOf) → is_some (option_map row_by o) ≡ is_some o
some_by None = refl
some_by (Some p) = refl

pub has_place : (places : List ComponentAreasOf) (key : Key) → has_key (map key_of (map row_by places)) key ≡ is_some (place_for places key)
has_place places key = has_row (map row_by places) key ∙ ap is_some (row_for places key) ∙ some_by (place_for places key)

pub ruleset found = (row_for, numbers_found, has_place)

pub changed_element : (f : ComponentAreasOf → ComponentAreasOf) (key : Key) (places : List ComponentAreasOf) (i : ℕ) (d new : ComponentAreasOf) → AreShaped (map shape_of places) → i < length places
    → same_key (get_or places i no_place).key key ≡ true → new ≡ f (get_or places i d) → set places i new ≡ places_with f key places
changed_element f key places i d new shaped lt same e =
    rw e (changed_at f key places i d shaped lt (rw (get_or_default places i d no_place lt) same))
