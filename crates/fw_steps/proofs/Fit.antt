-- The values of a world fit the fields of messages.
use Rattle.std.proofs.Common.{◌≡◌, ◌<◌, ◌≤◌, ◌+◌, ◌*◌, ℕ, List, [], ◌∷◌, length, map, drop, get_or, arith, Bool, true, false, Option, Some, IfSome, if◌then◌else◌, ◌||◌, ◌∙◌, refl, sym, ap, subst}
use Rattle.std.specs.List.{AllByRecursion}
use Rattle.std.proofs.lemmas.Bool.{eq-eqb}
use Rattle.std.proofs.lemmas.List.{drop_more, length-append}
use Rattle.fwup_wire.specs.Descriptors.{HasDescriptorWidths, descriptor_bytes, descriptors_bytes}
use Rattle.fwup_wire.specs.Items.{EachItem}
use Rattle.fwup_wire.specs.Values.{DeviceDescriptorOf}
use Rattle.fwup_wire.specs.declared.values.Key.{Key}
use Rattle.fd_core.specs.Banks.{HaveKeysOnce, has_key}
use Rattle.fd_core.specs.Images.{ImageOf, RowOf, active_of, key_of, row_of, same_key}
use Rattle.fd_core.specs.States.{DeviceState}
use Rattle.fd_core.specs.declared.parts.BankComponent.{BankComponent}
use Rattle.fd_core.proofs.Rows.{same_both}
use Rattle.fw_message.specs.Laws.{IsUnapplied}
use Rattle.fw_steps.specs.Widths.{HasDescriptorListWidths, HasImageWidths, HasKeyAndLabelWidths, HasKindWidth, HasPhaseWidths, HasRowWidths, HasComponentKeyWidths, HasWidthsAsNew}

many : (ds : List DeviceDescriptorOf) → 4 * length ds ≤ length (descriptors_bytes ds)
many [] = omega arith
many (d ∷ ds) = rw (length-append (descriptor_bytes d) (descriptors_bytes ds)) (omega (arith, many ds))

widths : (ds : List DeviceDescriptorOf) → AllByRecursion HasKindWidth ds → length (descriptors_bytes ds) < 65536 → EachItem HasDescriptorWidths ds
widths [] h short = tt
widths (d ∷ ds) h short =
    let all : length (descriptor_bytes d) + length (descriptors_bytes ds) < 65536 = rw (length-append (descriptor_bytes d) (descriptors_bytes ds)) at short in
    ((h.0, omega (arith, all)), widths ds h.1 (omega (arith, all)))

pub descriptors_fit : (ds : List DeviceDescriptorOf) (room : ℕ) → room + length (descriptors_bytes ds) ≡ 246 → AllByRecursion HasKindWidth ds → HasDescriptorListWidths ds
descriptors_fit ds room is h = record { widths = widths ds h (omega (arith, is)); few = omega (arith, is, many ds); short = omega (arith, is) }

-- the running image, as it was found
pub image_has_widths : (o : Option ImageOf) (image : ImageOf) → Some image ≡ o → HasImageWidths image → IfSome o HasImageWidths
image_has_widths o image is h = subst (λ x. IfSome x HasImageWidths) is h

-- COMPONENTS

same_itself : (k : Key) → same_key k k ≡ true
same_itself k = rw (eq-eqb k.classification k.classification refl, eq-eqb k.identifier k.identifier refl) refl

neither : (a b : Bool) → (a || b) ≡ false → (a ≡ false) × (b ≡ false)
neither false b e = (refl, e)
neither true b e = absurd (cc)

keys_fit : (rows : List RowOf) (cs : List BankComponent) → AllByRecursion (HasKeyAndLabelWidths rows) cs → AllByRecursion HasComponentKeyWidths cs
keys_fit rows [] h = tt
keys_fit rows (c ∷ cs) h = (h.0.key, keys_fit rows cs h.1)

-- the image found under each of the keys, if there is one, fits its fields
abbrev KeysFind : List RowOf → List Key → Type 0
KeysFind rows keys = AllByRecursion (λ k. IfSome (active_of (row_of rows k)) HasImageWidths) keys

keys_find : (rows : List RowOf) (cs : List BankComponent) → AllByRecursion (HasKeyAndLabelWidths rows) cs → KeysFind rows (map (λ c. c.key) cs)
keys_find rows [] h = tt
keys_find rows (c ∷ cs) h = (h.0.label, keys_find rows cs h.1)

-- after the first row, if its key isn't there twice
behind_if : (same : Bool) (row : RowOf) (rows : List RowOf) (key : Key) → same ≡ false → IfSome (active_of (if same then Some row else row_of rows key)) HasImageWidths → IfSome (active_of (row_of rows key)) HasImageWidths
behind_if false row rows key e h = h
behind_if true row rows key e h = absurd (cc)

behind : (row : RowOf) (rows : List RowOf) (keys : List Key) → has_key keys row.key ≡ false → KeysFind (row ∷ rows) keys → KeysFind rows keys
behind row rows [] apart h = tt
behind row rows (key ∷ keys) apart h =
    let parts = neither (same_key key row.key) (has_key keys row.key) apart in
    (behind_if (same_key row.key key) row rows key (same_both row.key key ∙ parts.0) h.0, behind row rows keys parts.1 h.1)

here_if : (same : Bool) (row : RowOf) (o : Option RowOf) → same ≡ true → IfSome (active_of (if same then Some row else o)) HasImageWidths → HasImageWidths row.active
here_if true row o e h = h
here_if false row o e h = absurd (cc)

rows_fit : (rows : List RowOf) → HaveKeysOnce (map key_of rows) → AllByRecursion IsUnapplied rows → KeysFind rows (map key_of rows) → AllByRecursion HasRowWidths rows
rows_fit [] apart none h = tt
rows_fit (row ∷ rows) apart none h = (
  record { active = here_if (same_key row.key row.key) row (row_of rows row.key) (same_itself row.key) h.0; applied = subst (λ o. IfSome o HasImageWidths) (sym none.0) tt },
  rows_fit rows apart.1 none.1 (behind row rows (map key_of rows) apart.0 h.1),
)

pub has_widths_as_new : (v : DeviceState) → HasDescriptorListWidths v.descriptors → AllByRecursion (HasKeyAndLabelWidths v.rows) v.components → length v.components ≤ 3 → HasWidthsAsNew v
has_widths_as_new v descriptors keys few = λ components idle none. record {
  told = record { descriptors = descriptors; components = keys_fit v.rows v.components keys; few = few };
  rows = rows_fit v.rows components.apart none (subst (KeysFind v.rows) (sym components.keys) (keys_find v.rows v.components keys));
  phase = subst (λ p. HasPhaseWidths p (length v.stage)) (sym idle) tt;
}

-- a property of an element, and of all after it
pub one_before : {X : Type 0} (P : X → Type 0) (xs : List X) (i : ℕ) (x : X) → i < length xs → x ≡ get_or xs i x → P x → AllByRecursion P (drop (i + 1) xs) → AllByRecursion P (drop i xs)
one_before P xs i x lt is here rest = subst (AllByRecursion P) (sym (drop_more xs i x lt ∙ ap (λ y. y ∷ drop (i + 1) xs) (sym is))) (here, rest)
