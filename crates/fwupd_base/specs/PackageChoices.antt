-- The number of the package that each device is updated with.
use Rattle.std.specs.Prelude.{ℕ, slice_index_or}
use Rattle.fwupd_base.specs.declared.package_choice.PackageChoice.{PackageChoice}

-- the number for a device, by its endpoint identifier
abbrev pub number_for : PackageChoice → (eid : ℕ) → ℕ
number_for p eid = slice_index_or p.numbers eid 0
