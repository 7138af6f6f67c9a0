-- The image sealed under a key is the one applied under it.
use Rattle.std.proofs.Common.{◌≡◌, ◌∷◌, ◌||◌, ℕ, Bool, true, false, is_some, length, List, [], Some, ap, map, refl, sym}
use Rattle.std.specs.Prelude.{option_map}
use Rattle.fd_core.specs.Banks.{has_key}
use Rattle.fd_core.specs.Images.{ImageOf, RowOf, applied_of, key_of, row_of, same_key, rows_after_seal, sealed_if}
use Rattle.fd_core.specs.States.{DeviceState, IsWhole, Phase, staged_of}
use Rattle.fd_core.specs.Steps.{applied_by, device_verdict, verdict_after, verdict_at, written_image}
use Rattle.fd_core.specs.declared.states.Progress.TheVariants as progress
use Rattle.fd_core.specs.declared.states.Verdict.TheVariants as verdicts
use Rattle.fwup_wire.specs.declared.values.Key.{Key}
use Rattle.fd_core.specs.Components.{HasComponents, IsOneOf}

sealed_row : (b : Bool) (row : RowOf) (rows : List RowOf) (key : Key) (image : ImageOf) → same_key row.key key ≡ b → (b || has_key (map key_of rows) key) ≡ true
    → (has_key (map key_of rows) key ≡ true → applied_of (row_of (rows_after_seal rows key image) key) ≡ Some image)
    → applied_of (row_of (sealed_if b row image ∷ rows_after_seal rows key image) key) ≡ Some image
sealed_row true row rows key image same has rest = rw same refl
sealed_row false row rows key image same has rest = rw same (rest has)

pub sealed_applied : (rows : List RowOf) (key : Key) (image : ImageOf) → has_key (map key_of rows) key ≡ true → applied_of (row_of (rows_after_seal rows key image) key) ≡ Some image
sealed_applied [] key image has = absurd (cc)
sealed_applied (row ∷ rows) key image has =
    sealed_row (same_key row.key key) row rows key image refl has (λ h. sealed_applied rows key image h)

-- The effect of ApplyOk, if a device waits for it.
pub record Applies (v : DeviceState) (key : Key) (size : ℕ) : Type 0 where
  pub noted : applied_by v verdicts.ApplyOk true ≡ record { key = key; bytes = v.stage } ∷ []
  pub failed : applied_by v verdicts.ApplyOk false ≡ []
  pub applied : option_map (λ image. image.bytes) (applied_of (row_of (verdict_after v verdicts.ApplyOk true).rows key)) ≡ Some v.stage
  pub whole : length v.stage ≡ size

applies_at : (v : DeviceState) (p : Phase) (key : Key) (size : ℕ) → v.phase ≡ p → IsOneOf (map key_of v.rows) p → IsWhole p (length v.stage) → staged_of p ≡ Some (key, size)
    → is_some (verdict_at v p verdicts.ApplyOk true) ≡ true → Applies v key size
applies_at v (Phase.Apply u w progress.InProgress) key size phase known whole staged waits =
    let both : ◌≡◌ {A = Key × ℕ} (w.key, w.size) (key, size) = cc in
    let same : w.key ≡ key = ap (λ s. s.0) both in
    let sized : w.size ≡ size = ap (λ s. s.1) both in
    rw (sym same, sym sized)
    (record {
      noted = rw phase refl;
      failed = rw phase refl;
      applied = rw (phase, sealed_applied v.rows w.key (written_image v w) known) refl;
      whole = whole;
    })
applies_at v (Phase.Verify u w progress.InProgress) key size phase known whole staged waits = absurd (cc)
applies_at v (Phase.Verify u w progress.Succeeded) key size phase known whole staged waits = absurd (cc)
applies_at v (Phase.Verify u w (progress.Failed b)) key size phase known whole staged waits = absurd (cc)
applies_at v p key size phase known whole staged waits = absurd (cc)

pub applies : (v : DeviceState) (key : Key) (size : ℕ) → HasComponents v → IsWhole v.phase (length v.stage) → staged_of v.phase ≡ Some (key, size)
    → is_some (device_verdict v verdicts.ApplyOk true) ≡ true → Applies v key size
applies v key size h whole staged waits = applies_at v v.phase key size refl h.known whole staged waits
