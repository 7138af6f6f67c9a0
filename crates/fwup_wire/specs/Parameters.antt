-- A device's parameters of its components (DSP0267 1.0, "ComponentParameterTable").
use Rattle.std.specs.Prelude.{Bool, List, None, Option, Some, drop, false, if◌then◌else◌, length, replicate, ◌&&◌, ◌+◌, ◌++◌, ◌<◌, ◌==◌, ◌^◌, ◌∷◌, ℕ}
use Rattle.byteorder.specs.Endian.{little_bytes}
use Rattle.fwup_wire.specs.Fields.{HasComponentWidths, component_bytes, first_bytes, first_component, first_u32}
use Rattle.fwup_wire.specs.Items.{AreItems, HoldsItems, items_bytes, items_in}
use Rattle.fwup_wire.specs.declared.values.Key.{Key}
use Rattle.fwup_wire.specs.Values.{ParametersOf, TypedTextOf}

-- A text's type and its length, and a release date that isn't set, eight bytes 0. The text's bytes
-- come later.
abbrev pub first_text_head : List ℕ → Option (ℕ × ℕ)
first_text_head (text_type ∷ size ∷ d0 ∷ d1 ∷ d2 ∷ d3 ∷ d4 ∷ d5 ∷ d6 ∷ d7 ∷ _) =
    if (d0 == 0) && (d1 == 0) && (d2 == 0) && (d3 == 0) && (d4 == 0) && (d5 == 0) && (d6 == 0) && (d7 == 0)
    then Some (text_type, size)
    else None
first_text_head _ = None

-- Activation methods: 2, self-contained, in two bytes. Capabilities during the update: none, in
-- four bytes.
abbrev pub has_methods : List ℕ → Bool
has_methods (m0 ∷ m1 ∷ c0 ∷ c1 ∷ c2 ∷ c3 ∷ _) =
    (m0 == 2) && (m1 == 0) && (c0 == 0) && (c1 == 0) && (c2 == 0) && (c3 == 0)
has_methods _ = false

-- a part that may be missing, and a function on it
abbrev pub with_part : {A B : Type 0} → Option A → (A → Option B) → Option B
with_part None make = None
with_part (Some a) make = make a

-- the two texts of a component, the active image's before the pending one's
abbrev pub with_texts : Key → ℕ → ℕ → ℕ × ℕ → ℕ → ℕ × ℕ → List ℕ → Option ParametersOf
with_texts key index active_stamp active pending_stamp pending bytes =
    with_part (first_bytes active.1 bytes) (λ active_text.
    with_part (first_bytes pending.1 (drop active.1 bytes)) (λ pending_text.
    Some (record {
      key = key;
      index = index;
      active = record { stamp = active_stamp; text = record { text_type = active.0; bytes = active_text } };
      pending = record { stamp = pending_stamp; text = record { text_type = pending.0; bytes = pending_text } };
    })))

-- The parameters of the component at the beginning of the bytes, if there are such: key, index,
-- active stamp, head of the active text, pending stamp, head of the pending text, methods and
-- capabilities, then both texts.
abbrev pub first_parameters : List ℕ → Option ParametersOf
first_parameters bytes =
    let after_active_stamp = drop 9 bytes in
    let after_active_head = drop 10 after_active_stamp in
    let after_pending_stamp = drop 4 after_active_head in
    let after_pending_head = drop 10 after_pending_stamp in
    with_part (first_component bytes) (λ component.
    with_part (first_text_head after_active_stamp) (λ active.
    with_part (first_u32 after_active_head) (λ pending_stamp.
    with_part (first_text_head after_pending_stamp) (λ pending.
    if has_methods after_pending_head
    then with_texts component.0 component.1 component.2 active pending_stamp pending (drop 6 after_pending_head)
    else None))))

-- the number of their bytes: 39 and the texts
abbrev pub parameters_size : ParametersOf → ℕ
parameters_size p = 39 + (length p.active.text.bytes + length p.pending.text.bytes)

-- `count` components and nothing after them, if the bytes are that
abbrev pub parameters_in : ℕ → List ℕ → Option (List ParametersOf)
parameters_in count bytes = items_in first_parameters parameters_size count bytes

-- the encoded form of the parameters of a component, and of a list of them
abbrev pub text_head_bytes : TypedTextOf → List ℕ
text_head_bytes t = t.text_type ∷ length t.bytes ∷ replicate 8 0

abbrev pub parameters_bytes : ParametersOf → List ℕ
parameters_bytes p =
    component_bytes p.key p.index p.active.stamp ++ text_head_bytes p.active.text ++ little_bytes 4 p.pending.stamp
    ++ text_head_bytes p.pending.text ++ 2 ∷ replicate 5 0 ++ p.active.text.bytes ++ p.pending.text.bytes

abbrev pub all_parameters_bytes : List ParametersOf → List ℕ
all_parameters_bytes ps = items_bytes parameters_bytes ps

-- its numbers and its texts' lengths fit their fields
abbrev pub HasParametersWidths : ParametersOf → Type 0
HasParametersWidths p =
    HasComponentWidths p.key p.active.stamp × (p.pending.stamp < 256 ^ 4) × (length p.active.text.bytes < 256)
    × (length p.pending.text.bytes < 256)

-- The bytes are the given number of components in their encoded form, and these are the components.
abbrev pub AreParameters : ℕ → List ℕ → List ParametersOf → Type 0
AreParameters count bytes ps = AreItems first_parameters parameters_size parameters_bytes count bytes ps

-- the same of a list that is built: its components fit their fields
abbrev pub HoldsParameters : ℕ → List ℕ → List ParametersOf → Type 0
HoldsParameters count bytes ps = HoldsItems first_parameters parameters_size parameters_bytes HasParametersWidths count bytes ps
