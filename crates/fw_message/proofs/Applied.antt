-- The applied images, component by component.
use Rattle.std.proofs.Common.{◌≡◌, ◌∷◌, ◌==◌, true, false, List, [], Some, map, ℕ, inl, inr, refl, sym}
use Rattle.std.proofs.lemmas.Bool.{or_parts}
use Rattle.std.proofs.lemmas.Bool.Decides.{eqb_tells}
use Rattle.fd_core.specs.Banks.{HaveKeysOnce, has_key}
use Rattle.fd_core.specs.Images.{RowOf, key_of, applied_keyed_images, row_of, same_key}
use Rattle.fd_core.specs.States.{DeviceState}
use Rattle.fd_core.specs.declared.parts.BankComponent.{BankComponent}
use Rattle.fwup_wire.specs.declared.values.Key.{Key}
use Rattle.fw_message.specs.Entries.{applied_images_among}
use Rattle.fd_core.proofs.Rows.{same_both}
use Rattle.fd_core.specs.Components.{HasComponents}

-- each of these components is found under its key
abbrev pub AreFound : List RowOf → List RowOf → Type 0
AreFound all [] = Unit {0}
AreFound all (row ∷ rows) = (row_of all row.key ≡ Some row) × AreFound all rows

by_found : (all rows : List RowOf) (cs : List BankComponent) → map key_of rows ≡ map (λ c. c.key) cs → AreFound all rows → applied_images_among all cs ≡ applied_keyed_images rows
by_found all [] [] keys found = refl
by_found all [] (c ∷ cs) keys found = absurd (cc)
by_found all (row ∷ rows) [] keys found = absurd (cc)
by_found all (row ∷ rows) (c ∷ cs) keys found =
    let here : row.key ≡ c.key = cc in
    let rest : map key_of rows ≡ map (λ c. c.key) cs = cc in
    rw (sym here, found.0, by_found all rows cs rest found.1) refl

equal_self : (a : ℕ) → (a == a) ≡ true
equal_self a = elim (eqb_tells a a) [ inl same ↦ same.0 | inr other ↦ absurd (other.1 refl) ]

same_self : (a : Key) → same_key a a ≡ true
same_self a = rw (equal_self a.classification, equal_self a.identifier) refl

found_later : (row : RowOf) (all rest : List RowOf) → has_key (map key_of rest) row.key ≡ false → AreFound all rest → AreFound (row ∷ all) rest
found_later row all [] apart found = tt
found_later row all (r ∷ rs) apart found =
    let parts = or_parts (same_key r.key row.key) (has_key (map key_of rs) row.key) apart in
    (rw (same_both row.key r.key, parts.0) found.0, found_later row all rs parts.1 found.1)

found_apart : (rows : List RowOf) → HaveKeysOnce (map key_of rows) → AreFound rows rows
found_apart [] apart = tt
found_apart (row ∷ rows) apart =
    (rw (same_self row.key) refl, found_later row rows rows apart.0 (found_apart rows apart.1))

-- the applied images, from the rows of the table
pub all_applied : (v : DeviceState) → HasComponents v → applied_images_among v.rows v.components ≡ applied_keyed_images v.rows
all_applied v h = by_found v.rows v.rows v.components h.keys (found_apart v.rows h.apart)
