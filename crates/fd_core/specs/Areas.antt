-- The areas in which a bank in memory keeps images: three for each component, of which one is
-- active, one may be applied, and one is written.
use Rattle.std.specs.Prelude.{[], ◌++◌, ◌==◌, ◌||◌, ◌∷◌, ◌≡◌, Bool, List, None, Option, Some, false, get_or, if◌then◌else◌, length, map, not, option_map, set, true, ℕ}
use Rattle.fd_core.specs.Banks.{has_key}
use Rattle.fd_core.specs.Images.{ImageOf, LabelOf, RowOf, StageOf, same_key}
use Rattle.fwup_wire.specs.declared.values.Key.{Key}

-- an area: the image's label, the size that the image was begun for, and the bytes written so far
pub record AreaOf : Type 0 where
  pub label : LabelOf
  pub size : ℕ
  pub bytes : List ℕ

-- a component: its areas, the number of the active one, and that of the applied one
pub record ComponentAreasOf : Type 0 where
  pub key : Key
  pub areas : List AreaOf
  pub active : ℕ
  pub applied : Option ℕ

-- the same without the content of the areas
pub record NumbersOf : Type 0 where
  pub key : Key
  pub active : ℕ
  pub applied : Option ℕ

-- the least-numbered area that is neither active nor applied
abbrev pub is_taken : ℕ → Option ℕ → ℕ → Bool
is_taken active None n = active == n
is_taken active (Some applied) n = (active == n) || (applied == n)

abbrev pub spare : ℕ → Option ℕ → ℕ
spare active applied =
    if not (is_taken active applied 0) then 0
    else if not (is_taken active applied 1) then 1
    else 2

-- an area without an image
abbrev pub no_area : AreaOf
no_area = record { label = record { stamp = 0; text_type = 0; text = [] }; size = 0; bytes = [] }

abbrev pub area_at : List AreaOf → ℕ → AreaOf
area_at areas n = get_or areas n no_area

abbrev pub image_by : AreaOf → ImageOf
image_by a = record { label = a.label; bytes = a.bytes }

abbrev pub image_at : List AreaOf → ℕ → ImageOf
image_at areas n = image_by (area_at areas n)

-- the images of a component, and the numbers of its areas
abbrev pub row_by : ComponentAreasOf → RowOf
row_by p = record { key = p.key; active = image_at p.areas p.active; applied = option_map (image_at p.areas) p.applied }

abbrev pub numbers_by : ComponentAreasOf → NumbersOf
numbers_by p = record { key = p.key; active = p.active; applied = p.applied }

-- the area that is written
abbrev pub spare_of : ComponentAreasOf → ℕ
spare_of p = spare p.active p.applied

abbrev pub written_area : ComponentAreasOf → AreaOf
written_area p = area_at p.areas (spare_of p)

abbrev pub with_written : ComponentAreasOf → AreaOf → ComponentAreasOf
with_written p a = record p { areas = set p.areas (spare_of p) a }

-- a component after the calls of a bank
abbrev pub place_after_write : (AreaOf → AreaOf) → ComponentAreasOf → ComponentAreasOf
place_after_write change p = with_written p (change (written_area p))

abbrev pub new_area : ℕ → LabelOf → AreaOf → AreaOf
new_area size label a = record { label = label; size = size; bytes = [] }

abbrev pub area_with_bytes : List ℕ → AreaOf → AreaOf
area_with_bytes piece a = record a { bytes = a.bytes ++ piece }

abbrev pub place_after_begin : ℕ → LabelOf → ComponentAreasOf → ComponentAreasOf
place_after_begin size label = place_after_write (new_area size label)

abbrev pub place_after_put : List ℕ → ComponentAreasOf → ComponentAreasOf
place_after_put piece = place_after_write (area_with_bytes piece)

abbrev pub applied_spare : ComponentAreasOf → ComponentAreasOf
applied_spare p = record p { applied = Some (spare_of p) }

abbrev pub activated_to : ComponentAreasOf → Option ℕ → ComponentAreasOf
activated_to p None = p
activated_to p (Some n) = record p { active = n; applied = None }

abbrev pub place_after_switch : ComponentAreasOf → ComponentAreasOf
place_after_switch p = activated_to p p.applied

abbrev pub place_after_drop : ComponentAreasOf → ComponentAreasOf
place_after_drop p = record p { applied = None }

-- a change of one component
abbrev pub changed_if : Bool → (ComponentAreasOf → ComponentAreasOf) → ComponentAreasOf → ComponentAreasOf
changed_if true f p = f p
changed_if false f p = p

abbrev pub places_with : (ComponentAreasOf → ComponentAreasOf) → Key → List ComponentAreasOf → List ComponentAreasOf
places_with f key places = map (λ p. changed_if (same_key p.key key) f p) places

-- the component with a key, if there is one
abbrev pub place_for : List ComponentAreasOf → Key → Option ComponentAreasOf
place_for [] key = None
place_for (p ∷ places) key = if same_key p.key key then Some p else place_for places key

-- the stage, of the component that is being written
abbrev pub stage_of : Key → AreaOf → StageOf
stage_of key a = record { key = key; size = a.size; label = a.label; bytes = a.bytes }

abbrev pub stage_by : Key → ComponentAreasOf → StageOf
stage_by key p = stage_of key (written_area p)

abbrev pub stage_in : List ComponentAreasOf → Option Key → Option StageOf
stage_in places None = None
stage_in places (Some key) = option_map (stage_by key) (place_for places key)

-- The numbers of a component's areas: the active one, and the applied one if there is one.
abbrev pub numbers_for : List NumbersOf → Key → Option (ℕ × Option ℕ)
numbers_for [] key = None
numbers_for (n ∷ ns) key = if same_key n.key key then Some (n.active, n.applied) else numbers_for ns key

-- the numbers after the calls of a bank that change them
abbrev pub applied_if : Bool → NumbersOf → NumbersOf
applied_if true n = record n { applied = Some (spare n.active n.applied) }
applied_if false n = n

abbrev pub numbers_applied : List NumbersOf → Key → List NumbersOf
numbers_applied ns key = map (λ n. applied_if (same_key n.key key) n) ns

abbrev pub numbers_sealed : List NumbersOf → Option StageOf → List NumbersOf
numbers_sealed ns None = ns
numbers_sealed ns (Some s) = numbers_applied ns s.key

abbrev pub active_to : NumbersOf → Option ℕ → NumbersOf
active_to n None = n
active_to n (Some number) = record n { active = number; applied = None }

abbrev pub numbers_switched : List NumbersOf → List NumbersOf
numbers_switched ns = map (λ n. active_to n n.applied) ns

abbrev pub active_alone : NumbersOf → NumbersOf
active_alone n = record n { applied = None }

abbrev pub numbers_dropped : List NumbersOf → List NumbersOf
numbers_dropped ns = map active_alone ns

-- A bank in memory: its components, its stage, the number of its failures, and the areas that it
-- uses.
pub record BankOf : Type 0 where
  pub rows : List RowOf
  pub stage : Option StageOf
  pub faults : ℕ
  pub areas : List NumbersOf

abbrev pub bank_by : List ComponentAreasOf → Option Key → ℕ → BankOf
bank_by places staged faults =
    record { rows = map row_by places; stage = stage_in places staged; faults = faults; areas = map numbers_by places }

-- the place used if there is none
abbrev pub no_place : ComponentAreasOf
no_place = record { key = record { classification = 0; identifier = 0 }; areas = []; active = 0; applied = None }

-- the parts that never change: the component, and the number of its areas
pub record ShapeOf : Type 0 where
  pub key : Key
  pub areas : ℕ

abbrev pub shape_of : ComponentAreasOf → ShapeOf
shape_of p = record { key = p.key; areas = length p.areas }

-- each key occurs once, and each component has three areas
abbrev pub AreShaped : List ShapeOf → Type 0
AreShaped [] = Unit {0}
AreShaped (s ∷ ss) = (has_key (map (λ t. t.key) ss) s.key ≡ false) × ((s.areas ≡ 3) × AreShaped ss)

-- the component that is being written is in the list
abbrev pub IsStagedIn : List ShapeOf → Option Key → Type 0
IsStagedIn ss None = Unit {0}
IsStagedIn ss (Some key) = has_key (map (λ s. s.key) ss) key ≡ true

abbrev pub IsBank : List ShapeOf → Option Key → Type 0
IsBank ss staged = AreShaped ss × IsStagedIn ss staged
