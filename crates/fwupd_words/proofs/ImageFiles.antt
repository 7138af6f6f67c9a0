-- The files of images that arguments name, if the values of `--image` fit.
use Rattle.std.proofs.Common.{◌≡◌, ◌≤◌, Bool, ℕ, List, [], ◌∷◌, Option, None, Some, ap, codes, false, true, is_some, refl, subst, sym, true≢false}
use Rattle.std.specs.Prelude.{IfSome, option_and_then}
use Rattle.std.specs.List.{AllByRecursion, cons_option}
use Rattle.clap.specs.Words.{Text}
use Rattle.fwup_wire.specs.declared.values.Key.{Key}
use Rattle.fwupd_base.specs.ImageFiles.{ImageFileOf}
use Rattle.fwupd_base.specs.declared.image_files.ConfigSource.{ConfigSource}
use Rattle.fwupd_words.specs.Clashes.{common_clash, has_dashed_output}
use Rattle.fwupd_words.specs.Images.{image_by, image_clash, images_of, key_of, parts_at, place_by, place_of, value_of_image}
use Rattle.fwupd_words.specs.Packages.{eid_of}
use Rattle.fwupd_words.specs.Reading.{HasAllowedImages}
use Rattle.fwupd_words.specs.Words.{AsksConfig, Given, texts_under}
use Rattle.fwupd_words.proofs.Chosen.{within_bounds}

-- the device's identifier is 8 to 254
abbrev HasEid : ImageFileOf → Type 0
HasEid file = (8 ≤ file.eid) × (file.eid ≤ 254)

place_bounds : (eid : Option ℕ) (key : Option Key) → IfSome eid (λ n. (8 ≤ n) × (n ≤ 254)) → IfSome (place_by eid key) (λ place. (8 ≤ place.0) × (place.0 ≤ 254))
place_bounds (Some eid) (Some key) bounds = bounds
place_bounds (Some eid) None bounds = tt
place_bounds None key bounds = tt

place_within : (text : Text) → IfSome (place_of text) (λ place. (8 ≤ place.0) × (place.0 ≤ 254))
place_within text = go (parts_at 47 text)
  where
    go : (o : Option (Text × Text))
        → IfSome (option_and_then (λ parts. place_by (eid_of parts.0) (key_of parts.1)) o) (λ place. (8 ≤ place.0) × (place.0 ≤ 254))
    go (Some parts) = place_bounds (eid_of parts.0) (key_of parts.1) (within_bounds 8 254 parts.0)
    go None = tt

image_within : (place : Option (ℕ × Key)) (path : Text) → IfSome place (λ place. (8 ≤ place.0) × (place.0 ≤ 254)) → IfSome (image_by place path) HasEid
image_within (Some place) (byte ∷ more) bounds = bounds
image_within (Some place) [] bounds = tt
image_within None path bounds = tt

value_within : (text : Text) → IfSome (value_of_image text) HasEid
value_within text = go (parts_at 61 text)
  where
    go : (o : Option (Text × Text)) → IfSome (option_and_then (λ parts. image_by (place_of parts.0) parts.1) o) HasEid
    go (Some parts) = image_within (place_of parts.0) parts.1 (place_within parts.0)
    go None = tt

all_within : (texts : List Text) → AllByRecursion HasEid (images_of texts)
all_within [] = tt
all_within (text ∷ more) = go (value_of_image text) (value_within text) (all_within more)
  where
    go : (o : Option ImageFileOf) → IfSome o HasEid → AllByRecursion HasEid (images_of more) → AllByRecursion HasEid (cons_option o (images_of more))
    go (Some file) eid rest = (eid, rest)
    go None eid rest = rest

-- if the options that subcommands share fit, so do the values of `--image`
images_fit : (words : Given) → common_clash words ≡ None → image_clash (texts_under words (codes "image")) ≡ None
images_fit words fits = go (has_dashed_output words) refl
  where
    go : (b : Bool) → has_dashed_output words ≡ b → image_clash (texts_under words (codes "image")) ≡ None
    go true is = absurd (true≢false (ap is_some (rw is at fits)))
    go false is = rw is at fits

-- the files of images of a configuration have allowed devices
pub images_allowed : (words : Given) (config : ConfigSource) → common_clash words ≡ None → AsksConfig words config → HasAllowedImages config
images_allowed words config fits asks =
    subst (AllByRecursion HasEid) (sym (asks.images (images_fit words fits))) (all_within (texts_under words (codes "image")))
