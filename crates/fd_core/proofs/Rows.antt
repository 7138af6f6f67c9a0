-- Lemmas on the components of a bank.
use Rattle.std.proofs.Common.{[], ◌++◌, ◌==◌, ◌||◌, ◌∷◌, ◌≡◌, Bool, if◌then◌else◌, List, None, Option, Some, ap, false, is_some, map, inl, inr, refl, sym, true, ℕ}
use Rattle.std.proofs.lemmas.Bool.{and_parts, eqb-true, ne_eqb, or_from, or_parts}
use Rattle.std.proofs.lemmas.Bool.Decides.{eqb_tells}
use Rattle.std.proofs.lemmas.List.{map-append}
use Rattle.fd_core.specs.Banks.{HaveKeysOnce, has_key}
use Rattle.fd_core.specs.Images.{ImageOf, RowOf, rows_after_drop, key_of, row_of, same_key, rows_after_seal, sealed_if, rows_after_switch, row_after_switch_to}
use Rattle.fwup_wire.specs.declared.values.Key.{Key}

-- no call of a bank changes its components
pub keys_dropped : (rows : List RowOf) → map key_of (rows_after_drop rows) ≡ map key_of rows
keys_dropped [] = refl
keys_dropped (row ∷ rows) = ap (λ ks. row.key ∷ ks) (keys_dropped rows)

key_turned : (row : RowOf) (a : Option ImageOf) → key_of (row_after_switch_to row a) ≡ key_of row
key_turned row None = refl
key_turned row (Some image) = refl

pub keys_switched : (rows : List RowOf) → map key_of (rows_after_switch rows) ≡ map key_of rows
keys_switched [] = refl
keys_switched (row ∷ rows) = rw (key_turned row row.applied, keys_switched rows) refl

key_sealed : (b : Bool) (row : RowOf) (image : ImageOf) → key_of (sealed_if b row image) ≡ key_of row
key_sealed true row image = refl
key_sealed false row image = refl

pub keys_sealed : (rows : List RowOf) (key : Key) (image : ImageOf) → map key_of (rows_after_seal rows key image) ≡ map key_of rows
keys_sealed [] key image = refl
keys_sealed (row ∷ rows) key image = rw (key_sealed (same_key row.key key) row image, keys_sealed rows key image) refl

-- a key is found where its component is
here_or : (b : Bool) (row : RowOf) (rest : Option RowOf) (has : Bool) → has ≡ is_some rest → (b || has) ≡ is_some (if b then Some row else rest)
here_or true row rest has e = refl
here_or false row rest has e = e

pub has_row : (rows : List RowOf) (key : Key) → has_key (map key_of rows) key ≡ is_some (row_of rows key)
has_row [] key = refl
has_row (row ∷ rows) key = here_or (same_key row.key key) row (row_of rows key) (has_key (map key_of rows) key) (has_row rows key)

-- equality of keys is symmetric
equal_both : (a b : ℕ) → (a == b) ≡ (b == a)
equal_both a b =
    elim (eqb_tells a b) [
      | inl same ↦ rw same.1 refl
      | inr other ↦ rw (other.0, ne_eqb b a (λ e. other.1 (sym e))) refl
    ]

pub same_both : (a b : Key) → same_key a b ≡ same_key b a
same_both a b = rw (equal_both a.classification b.classification, equal_both a.identifier b.identifier) refl

pub same_means : (a b : Key) → same_key a b ≡ true → a ≡ b
same_means a b e =
    let parts = and_parts (a.classification == b.classification) (a.identifier == b.identifier) e in
    let classification : a.classification ≡ b.classification = eqb-true a.classification b.classification parts.0 in
    let identifier : a.identifier ≡ b.identifier = eqb-true a.identifier b.identifier parts.1 in
    let P : Key → Key = λ k. k in
    let here : P (record { classification = a.classification; identifier = a.identifier }) ≡ P (record { classification = b.classification; identifier = b.identifier }) =
    rw (classification, identifier) refl in
    here

-- one more key keeps them apart
pub absent_more : (ks : List Key) (k new : Key) → has_key ks k ≡ false → same_key k new ≡ false → has_key (ks ++ new ∷ []) k ≡ false
absent_more [] k new e other = or_from (same_key new k) false (rw (same_both new k) other) refl
absent_more (x ∷ ks) k new e other =
    let parts = or_parts (same_key x k) (has_key ks k) e in
    or_from (same_key x k) (has_key (ks ++ new ∷ []) k) parts.0 (absent_more ks k new parts.1 other)

apart_keys : (ks : List Key) (new : Key) → HaveKeysOnce ks → has_key ks new ≡ false → HaveKeysOnce (ks ++ new ∷ [])
apart_keys [] new apart e = (refl, tt)
apart_keys (k ∷ ks) new apart e =
    let parts = or_parts (same_key k new) (has_key ks new) e in
    (absent_more ks k new apart.0 parts.0, apart_keys ks new apart.1 parts.1)

pub apart_more : (rows : List RowOf) (row : RowOf) → HaveKeysOnce (map key_of rows) → has_key (map key_of rows) row.key ≡ false
    → HaveKeysOnce (map key_of (rows ++ row ∷ []))
apart_more rows row apart e = rw (map-append key_of rows (row ∷ [])) (apart_keys (map key_of rows) row.key apart e)

-- only the components of the key change, and there is one
pub absent_sealed : (rows : List RowOf) (key : Key) (image : ImageOf) → has_key (map key_of rows) key ≡ false → rows_after_seal rows key image ≡ rows
absent_sealed [] key image e = refl
absent_sealed (row ∷ rows) key image e =
    let parts = or_parts (same_key row.key key) (has_key (map key_of rows) key) e in
    rw (parts.0, absent_sealed rows key image parts.1) refl
