-- Keys in ascending order.
use Rattle.std.proofs.Common.{◌≡◌, ◌∷◌, ℕ, suc, Bool, true, false, if◌then◌else◌, List, [], ap, refl}
use Rattle.std.specs.List.{insert}
use Rattle.fd_core.specs.Images.{is_key_before}
use Rattle.fwup_wire.specs.declared.values.Key.{Key}
use Rattle.fw_script.specs.Reports.{key_among, place_among}

put_if : (b : Bool) (key k : Key) (ks : List Key) (n : ℕ) → insert ks n key ≡ key_among key ks
    → insert (k ∷ ks) (if b then suc n else 0) key ≡ (if b then k ∷ key_among key ks else key ∷ k ∷ ks)
put_if true key k ks n e = ap (λ xs. k ∷ xs) e
put_if false key k ks n e = refl

-- inserting a key at its place keeps the order
pub in_place : (ks : List Key) (key : Key) → insert ks (place_among ks key) key ≡ key_among key ks
in_place [] key = refl
in_place (k ∷ ks) key = put_if (is_key_before k key) key k ks (place_among ks key) (in_place ks key)
