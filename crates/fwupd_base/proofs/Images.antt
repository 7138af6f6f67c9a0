-- The files of images after one more.
use Rattle.std.proofs.Common.{◌≡◌, ◌∙◌, ◌<◌, ◌≤◌, ◌+◌, ◌++◌, ◌∷◌, [], List, ℕ, ap, length, map}
use Rattle.std.specs.Prelude.{set, take}
use Rattle.std.proofs.lemmas.List.{length-map, length-take-le, map-append, take_more_set}
use Rattle.fwupd_base.specs.ImageFiles.{image_file}
use Rattle.fwupd_base.specs.declared.image_files.ImageFile.{ImageFile}

pub one_more : (files : List ImageFile) (n : ℕ) (f : ImageFile) → n < length files → map image_file (take (n + 1) (set files n f)) ≡ map image_file (take n files) ++ image_file f ∷ []
one_more files n f within = ap (map image_file) (take_more_set files n f within) ∙ map-append image_file (take n files) (f ∷ [])

pub count_is : (files : List ImageFile) (n : ℕ) → n ≤ length files → length (map image_file (take n files)) ≡ n
count_is files n within = length-map (take n files) image_file ∙ length-take-le n files within
