-- The effect of the calls of a bank in memory on its images.
use Rattle.std.proofs.Common.{[], ◌++◌, ◌≡◌, ◌≤◌, ◌∙◌, ◌∷◌, Bool, IsSome, List, None, Option, Some, ap, append-nil, arith, drop, false, if◌then◌else◌, is_some, length, map, option_map, refl, subst, sym, take, true, ℕ}
use Rattle.std.proofs.lemmas.List.{drop_all, length-map, take_all}
use Rattle.fd_core.proofs.Places.{has_place, keys_by, numbers_activated, numbers_after_seal, numbers_forgotten, numbers_rewritten, row_for, rows_activated, rows_forgotten, rows_rewritten, rows_sealed, shaped_more, shapes_activated, shapes_applied, shapes_forgotten, shapes_rewritten, stage_rewritten}
use Rattle.fd_core.specs.Areas.{BankOf, IsBank, IsStagedIn, ComponentAreasOf, place_after_switch, place_after_put, applied_spare, bank_by, place_after_begin, places_with, place_after_drop, new_area, area_with_bytes, numbers_by, numbers_dropped, numbers_sealed, numbers_switched, place_for, row_by, shape_of, stage_by, stage_in, stage_of, written_area}
use Rattle.fd_core.specs.Banks.{has_key}
use Rattle.fd_core.specs.Images.{LabelOf, rows_after_drop, key_of, row_of, same_key, sealed_by, staged_with, rows_after_switch}
use Rattle.fwup_wire.specs.declared.values.Key.{Key}

-- all places are replaced by the places written
items_over : (n : ℕ) (places now ys : List ComponentAreasOf) → now ≡ places → map shape_of ys ≡ map shape_of now → length places ≤ n
    → take n (ys ++ drop (length ys) places) ≡ ys
items_over n places now ys same shapes whole =
    let long : length ys ≡ length places = sym (length-map ys shape_of) ∙ ap length shapes ∙ length-map now shape_of ∙ ap length same in
    rw (drop_all (length ys) places (omega (arith, long)), append-nil ys) (take_all n ys (omega (arith, long)))

-- its invariant
pub bank_kept : (n : ℕ) (places now ys : List ComponentAreasOf) (staged after : Option Key) → IsBank (map shape_of places) staged → now ≡ places
    → map shape_of ys ≡ map shape_of now → length places ≤ n → IsStagedIn (map shape_of places) after
    → IsBank (map shape_of (take n (ys ++ drop (length ys) places))) after
bank_kept n places now ys staged after bank same shapes whole known =
    rw (items_over n places now ys same shapes whole, shapes, same) (bank.0, known)

-- a component that is there
known_by : (o : Option ComponentAreasOf) → IsSome (option_map row_by o) → IsSome o
known_by None some = some
known_by (Some p) some = some

pub known_in : (places now : List ComponentAreasOf) (staged : Option Key) (faults : ℕ) (bank : BankOf) (key : Key) → bank_by places staged faults ≡ bank → now ≡ places
    → IsSome (row_of bank.rows key) → IsSome (place_for now key)
known_in places now staged faults bank key view same some =
    let here : IsSome (row_of (map row_by places) key) = subst (λ b. IsSome (row_of b.rows key)) (sym view) some in
    rw same (known_by (place_for places key) (rw (row_for places key) at here))

has_known : (places : List ComponentAreasOf) (key : Key) → IsSome (place_for places key) → has_key (map (λ s. s.key) (map shape_of places)) key ≡ true
has_known places key some = rw (← keys_by places) (has_place places key ∙ some)

pub staged_known : (places now : List ComponentAreasOf) (key : Key) → now ≡ places → IsSome (place_for now key) → IsStagedIn (map shape_of places) (Some key)
staged_known places now key same some = has_known places key (rw same at some)

-- begin
fresh_stage : (o : Option ComponentAreasOf) (key : Key) (size : ℕ) (label : LabelOf) → IsSome o
    → option_map (λ p. stage_of key (new_area size label (written_area p))) o ≡ Some (record { key = key; size = size; label = label; bytes = [] })
fresh_stage None key size label some = absurd (cc)
fresh_stage (Some p) key size label some = refl

pub bank_begun : (n : ℕ) (places now ys : List ComponentAreasOf) (staged : Option Key) (faults : ℕ) (bank : BankOf) (key : Key) (size : ℕ) (label : LabelOf)
    → IsBank (map shape_of places) staged → bank_by places staged faults ≡ bank → now ≡ places → ys ≡ places_with (place_after_begin size label) key now → length places ≤ n
    → IsSome (place_for now key)
    → bank_by (take n (ys ++ drop (length ys) places)) (Some key) faults ≡ record bank { stage = Some (record { key = key; size = size; label = label; bytes = [] }) }
bank_begun n places now ys staged faults bank key size label is view same e whole some =
    rw (
      items_over n places now ys same (rw e (shapes_rewritten (new_area size label) key now)) whole,
      e,
      same,
      ← view,
      rows_rewritten (new_area size label) key places,
      numbers_rewritten (new_area size label) key places,
      stage_rewritten (new_area size label) key places is.0,
      fresh_stage (place_for places key) key size label (rw same at some),
    ) refl

-- put
longer_stage : (o : Option ComponentAreasOf) (key : Key) (piece : List ℕ)
    → option_map (λ p. stage_of key (area_with_bytes piece (written_area p))) o ≡ staged_with (option_map (stage_by key) o) piece
longer_stage None key piece = refl
longer_stage (Some p) key piece = refl

pub bank_appended : (n : ℕ) (places now ys : List ComponentAreasOf) (staged : Option Key) (faults : ℕ) (bank : BankOf) (key : Key) (piece : List ℕ)
    → IsBank (map shape_of places) staged → bank_by places staged faults ≡ bank → now ≡ places → staged ≡ Some key → ys ≡ places_with (place_after_put piece) key now
    → length places ≤ n
    → bank_by (take n (ys ++ drop (length ys) places)) staged faults ≡ record bank { stage = staged_with bank.stage piece }
bank_appended n places now ys staged faults bank key piece is view same at e whole =
    rw (
      items_over n places now ys same (rw e (shapes_rewritten (area_with_bytes piece) key now)) whole,
      e,
      same,
      ← view,
      at,
      rows_rewritten (area_with_bytes piece) key places,
      numbers_rewritten (area_with_bytes piece) key places,
      stage_rewritten (area_with_bytes piece) key places is.0,
      longer_stage (place_for places key) key piece,
    ) refl

-- seal
numbers_of_stage : (o : Option ComponentAreasOf) (places : List ComponentAreasOf) (key : Key) → IsSome o
    → map numbers_by (places_with applied_spare key places) ≡ numbers_sealed (map numbers_by places) (option_map (stage_by key) o)
numbers_of_stage None places key some = absurd (cc)
numbers_of_stage (Some p) places key some = numbers_after_seal key places

pub bank_sealed : (n : ℕ) (places now ys : List ComponentAreasOf) (staged : Option Key) (faults : ℕ) (bank : BankOf) (key : Key)
    → IsBank (map shape_of places) staged → bank_by places staged faults ≡ bank → now ≡ places → staged ≡ Some key → ys ≡ places_with applied_spare key now
    → length places ≤ n → IsSome (place_for now key)
    → bank_by (take n (ys ++ drop (length ys) places)) None faults
    ≡ record bank { rows = sealed_by bank.rows bank.stage; stage = None; areas = numbers_sealed bank.areas bank.stage }
bank_sealed n places now ys staged faults bank key is view same at e whole some =
    rw (
      items_over n places now ys same (rw e (shapes_applied key now)) whole,
      e,
      same,
      ← view,
      at,
      rows_sealed key places is.0 (rw same at some),
      numbers_of_stage (place_for places key) places key (rw same at some),
    ) refl

-- switch, drop_pending
pub bank_activated : (n : ℕ) (places now ys : List ComponentAreasOf) (staged : Option Key) (faults : ℕ) (bank : BankOf)
    → bank_by places staged faults ≡ bank → now ≡ places → ys ≡ map place_after_switch now → length places ≤ n
    → bank_by (take n (ys ++ drop (length ys) places)) None faults ≡ record bank { rows = rows_after_switch bank.rows; stage = None; areas = numbers_switched bank.areas }
bank_activated n places now ys staged faults bank view same e whole =
    rw (items_over n places now ys same (rw e (shapes_activated now)) whole, e, same, ← view, rows_activated places, numbers_activated places) refl

pub bank_forgotten : (n : ℕ) (places now ys : List ComponentAreasOf) (staged : Option Key) (faults : ℕ) (bank : BankOf)
    → bank_by places staged faults ≡ bank → now ≡ places → ys ≡ map place_after_drop now → length places ≤ n
    → bank_by (take n (ys ++ drop (length ys) places)) None faults ≡ record bank { rows = rows_after_drop bank.rows; stage = None; areas = numbers_dropped bank.areas }
bank_forgotten n places now ys staged faults bank view same e whole =
    rw (items_over n places now ys same (rw e (shapes_forgotten now)) whole, e, same, ← view, rows_forgotten places, numbers_forgotten places) refl

-- add
found_later : (b : Bool) (q : ComponentAreasOf) (places : List ComponentAreasOf) (p : ComponentAreasOf) (key : Key) → is_some (if b then Some q else place_for places key) ≡ true
    → (is_some (place_for places key) ≡ true → place_for (places ++ p ∷ []) key ≡ place_for places key)
    → (if b then Some q else place_for (places ++ p ∷ []) key) ≡ (if b then Some q else place_for places key)
found_later true q places p key some more = refl
found_later false q places p key some more = more some

found_more : (places : List ComponentAreasOf) (p : ComponentAreasOf) (key : Key) → is_some (place_for places key) ≡ true → place_for (places ++ p ∷ []) key ≡ place_for places key
found_more [] p key some = absurd (cc)
found_more (q ∷ places) p key some = found_later (same_key q.key key) q places p key some (found_more places p key)

pub stage_more : (places : List ComponentAreasOf) (p : ComponentAreasOf) (staged : Option Key) → IsStagedIn (map shape_of places) staged
    → stage_in (places ++ p ∷ []) staged ≡ stage_in places staged
stage_more places p None known = refl
stage_more places p (Some key) known =
    ap (option_map (stage_by key)) (found_more places p key (sym (has_place places key) ∙ rw (keys_by places) known))

staged_more : (places : List ComponentAreasOf) (p : ComponentAreasOf) (staged : Option Key) → IsStagedIn (map shape_of places) staged → IsStagedIn (map shape_of (places ++ p ∷ [])) staged
staged_more places p None known = tt
staged_more places p (Some key) known =
    let here : is_some (place_for places key) ≡ true = sym (has_place places key) ∙ rw (keys_by places) known in
    rw (← keys_by (places ++ p ∷ [])) (has_place (places ++ p ∷ []) key ∙ ap is_some (found_more places p key here) ∙ here)

pub bank_more : (places : List ComponentAreasOf) (p : ComponentAreasOf) (staged : Option Key) → IsBank (map shape_of places) staged → length p.areas ≡ 3
    → has_key (map key_of (map row_by places)) p.key ≡ false → IsBank (map shape_of (places ++ p ∷ [])) staged
bank_more places p staged is three e = (shaped_more places p is.0 three e, staged_more places p staged is.1)
