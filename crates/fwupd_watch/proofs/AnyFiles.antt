-- Any fact may hold of files that are unknown.
use Rattle.std.proofs.Common.{[], None, inl, refl}
use Rattle.fwupd_watch.specs.Files.{IsInFolder, IsOnePlace, FilePlaceOf, any_file}
use Rattle.fwupd_watch.specs.declared.files.FileIdentity.{FileIdentity}

abbrev some_folder : FileIdentity
some_folder = record { device = 0; number = 0 }

abbrev some_place : FilePlaceOf
some_place = record { folder = some_folder; above = None; name = [] }

pub any_place : IsOnePlace any_file any_file
any_place = record { place = some_place; of_first = tt; of_second = tt }

pub any_below : IsInFolder any_file any_file
any_below = record { place = some_place; own = some_folder; lies = tt; is = tt; below = inl refl }
