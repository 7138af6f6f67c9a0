-- The inspection of a package with the SHA-256 of each component's image. The value has the members
-- of the inspection, and one more for each component; keys are only ever added.
use Rattle.std.specs.Prelude.{ℕ, ◌+◌, List, [], ◌∷◌, ◌++◌, codes}
use Rattle.hex.specs.Hex.{encode_lower}
use Rattle.json.specs.Json.{Json, string}
use Rattle.sha2.specs.Sha256.{sha256}
use Rattle.fw_package.specs.Outlines.{its_place, outline_of_package}
use Rattle.fw_package.specs.Package.{ComponentOf, PackageText}
use Rattle.fw_text.specs.Printing.{word_and_number}
use Rattle.fwupd_base.specs.Inspection.{inspect_of}
use Rattle.fw_json.specs.Inspections.{component_members, package_value}
use Rattle.fw_json.specs.Values.{line_of, numbered_items, object_of}
use Rattle.fwupd_base.specs.declared.forms.Form.{Form}
use Rattle.fwupd_base.specs.declared.forms.Form.TheVariants as forms

-- the SHA-256 of bytes, in lower-case hexadecimal digits
unfoldable pub digest_digits : (bytes : List ℕ) → List ℕ
digest_digits bytes = encode_lower (sha256 bytes)

-- a word, then the SHA-256 of bytes
unfoldable pub word_and_digest : List ℕ → (bytes : List ℕ) → List ℕ
word_and_digest word bytes = word ++ digest_digits bytes

-- the line of a component's image
unfoldable pub image_line : (number : ℕ) → ComponentOf → List ℕ
image_line n c = word_and_number (codes "image ") n ++ word_and_digest (codes " sha256 ") c.image ++ codes "\n"

-- components numbered from n
abbrev pub image_lines : ℕ → List ComponentOf → List ℕ
image_lines n [] = []
image_lines n (c ∷ cs) = image_line n c ++ image_lines (n + 1) cs

-- the text of the inspection, followed by a line for each image
abbrev pub digested_text : PackageText → List ℕ
digested_text p = inspect_of p ++ image_lines 1 p.components

-- a component's value, which ends with the digest of its image
unfoldable pub digested_component_value : (number : ℕ) → ComponentOf → Json
digested_component_value n c = object_of (component_members n (its_place c) ++ (codes "sha256", string (digest_digits c.image)) ∷ [])

-- the value of a package
abbrev pub digested_value : PackageText → Json
digested_value p = package_value (outline_of_package p) (numbered_items digested_component_value 1 p.components)

-- the inspection of a package, with digests, in a format
abbrev pub digested_in : Form → PackageText → List ℕ
digested_in forms.Text p = digested_text p
digested_in forms.Json p = line_of (digested_value p)
