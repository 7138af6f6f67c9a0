-- The members of a set of devices.
use Rattle.std.specs.Prelude.{ℕ, ◌==◌, ◌||◌, Bool, false, slice_index_or}
use Rattle.fwupd_base.specs.declared.device_set.DeviceSet.{DeviceSet}

-- an endpoint identifier is a member of the set
abbrev pub has_eid : DeviceSet → (eid : ℕ) → Bool
has_eid set eid = (eid == set.first) || slice_index_or set.others eid false
