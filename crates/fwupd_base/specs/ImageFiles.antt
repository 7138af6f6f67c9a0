-- The files of images in the place of those of a configuration.
use Rattle.std.specs.Prelude.{ℕ, List, map, take}
use Rattle.fwup_wire.specs.declared.values.Key.{Key}
use Rattle.fwupd_base.specs.declared.image_files.ConfigSource.{ConfigSource}
use Rattle.fwupd_base.specs.declared.image_files.ImageFile.{ImageFile}
use Rattle.fwupd_base.specs.declared.image_files.ImageFiles.{ImageFiles}

-- A file of an image: the device by its endpoint identifier, the component's key, and the path.
pub record ImageFileOf : Type 0 where
  pub eid : ℕ
  pub key : Key
  pub path : List ℕ

abbrev pub image_file : ImageFile → ImageFileOf
image_file f = record { eid = f.eid; key = f.key; path = f.path.now }

-- The files, in the order in which they were added.
abbrev pub files_in : ImageFiles → List ImageFileOf
files_in images = map image_file (take images.count images.files)

-- A configuration: the path of its file, and the files of images.
pub record ConfigSourceOf : Type 0 where
  pub path : List ℕ
  pub images : List ImageFileOf

abbrev pub config_source : ConfigSource → ConfigSourceOf
config_source c = record { path = c.path.now; images = files_in c.images }
