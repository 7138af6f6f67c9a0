-- Images by rising key.
use Rattle.std.proofs.Common.{◌≡◌, ◌∷◌, ℕ, suc, Bool, true, false, if◌then◌else◌, List, [], map, ap, refl}
use Rattle.std.specs.List.{insert}
use Rattle.fd_core.specs.Images.{images_with, is_key_before}
use Rattle.fw_message.specs.Entries.{place_in, keyed_image_of}
use Rattle.fw_message.specs.declared.entry.Image.{Image}

put_if : (b : Bool) (i j : Image) (is : List Image) (n : ℕ) → map keyed_image_of (insert is n i) ≡ images_with (keyed_image_of i) (map keyed_image_of is)
    → map keyed_image_of (insert (j ∷ is) (if b then suc n else 0) i) ≡ (if b then keyed_image_of j ∷ images_with (keyed_image_of i) (map keyed_image_of is) else keyed_image_of i ∷ keyed_image_of j ∷ map keyed_image_of is)
put_if true i j is n e = ap (λ ps. keyed_image_of j ∷ ps) e
put_if false i j is n e = refl

-- an image that is inserted at its place is among the others
pub put_in_place : (is : List Image) (i : Image) → map keyed_image_of (insert is (place_in (map keyed_image_of is) i.key) i) ≡ images_with (keyed_image_of i) (map keyed_image_of is)
put_in_place [] i = refl
put_in_place (j ∷ is) i = put_if (is_key_before j.key i.key) i j is (place_in (map keyed_image_of is) i.key) (put_in_place is i)
