use Rattle.std.proofs.Common.{List, length, map}
use Rattle.fw_script.specs.Configs.{DeviceConfigOf}
use Rattle.fw_script.specs.Seen.{device_of}
use Rattle.fwupd_base.specs.ImageFiles.{image_file}
use Rattle.fwupd_nodes.specs.Setups.{HaveImages, ImagesFail}
use Rattle.fwupd_watch.specs.declared.faults.JobFault.{JobFault}
use Rattle.fwupd_nodes.proofs.images.put_images.Given as goal

-- what holds of the remaining images and the devices so far holds of all images and the devices
-- before them
abbrev pub invariant-loop-left : goal.invariant-loop-left
invariant-loop-left g l =
    ((end : List DeviceConfigOf) → HaveImages (g.F.Files.holds l.files) (map image_file l.left) (map device_of l.devices.items) end
    → HaveImages (g.F.Files.holds l.files) (map image_file l.images) (map device_of l.fn.devices.items) end)
    × ((told : JobFault) → ImagesFail (g.F.Files.holds l.files) (map image_file l.left) (map device_of l.devices.items) told
    → ImagesFail (g.F.Files.holds l.files) (map image_file l.images) (map device_of l.fn.devices.items) told)

abbrev pub decreases-loop-left : goal.decreases-loop-left
decreases-loop-left g l = length l.left
