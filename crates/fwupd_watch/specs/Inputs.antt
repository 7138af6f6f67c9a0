-- The paths of the files that a job reads.
use Rattle.std.specs.Prelude.{ℕ, ◌++◌, List, ◌∷◌, None, Option, Some, map, option_map, string_bytes}
use Rattle.fwupd_base.specs.ImageFiles.{ConfigSourceOf, ImageFileOf, image_file}
use Rattle.fwupd_watch.specs.declared.inputs.Inputs.{Inputs}

abbrev pub image_paths : List ImageFileOf → List (List ℕ)
image_paths images = map (λ f. f.path) images

-- that of a configuration, those of images, and those of packages
abbrev pub inputs_of : ConfigSourceOf → (packages : List (List ℕ)) → List (List ℕ)
inputs_of config packages = config.path ∷ (image_paths config.images ++ packages)

abbrev pub configured_inputs : Inputs → List (List ℕ)
configured_inputs i = inputs_of (record { path = i.config.now; images = map image_file i.images.now }) (map (λ p. string_bytes p) i.packages.now)

-- and that of a schedule before them, if there is one
abbrev pub with_first : Option (List ℕ) → List (List ℕ) → List (List ℕ)
with_first None paths = paths
with_first (Some path) paths = path ∷ paths

abbrev pub inputs_seen : Inputs → List (List ℕ)
inputs_seen i = with_first (option_map (λ p. p.now) i.schedule) (configured_inputs i)
