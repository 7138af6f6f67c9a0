-- The image that a package has for a device, as the checker finds it.
use Rattle.std.specs.Prelude.{ℕ, ◌||◌, Bool, false, nat_eq, List, [], ◌∷◌, Option, Some, None}
use Rattle.std.specs.Cmp.Lexicographic.{pointwise}
use Rattle.fw_package.specs.Choice.{image_for}
use Rattle.fw_package.specs.Package.{ComponentOf, DescriptorOf, PackageText}
use Rattle.fd_core.specs.Images.{KeyedImage}

-- the only image among the components and one found before; none if there is no image or more than
-- one
abbrev pub sole_image_after : (found : Option (List ℕ)) → List ComponentOf → Option (List ℕ)
sole_image_after found [] = found
sole_image_after None (c ∷ cs) = sole_image_after (Some c.image) cs
sole_image_after (Some image) (c ∷ cs) = None

-- there is an image, and it has these bytes
abbrev pub is_image : Option (List ℕ) → List ℕ → Bool
is_image None bytes = false
is_image (Some image) bytes = pointwise nat_eq image bytes

-- some package has the image for a device
abbrev pub is_named : List PackageText → List DescriptorOf → KeyedImage → Bool
is_named [] device p = false
is_named (x ∷ xs) device p = is_image (image_for x device p.key.classification p.key.identifier) p.bytes || is_named xs device p
