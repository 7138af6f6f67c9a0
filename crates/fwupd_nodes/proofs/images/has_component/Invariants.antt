use Rattle.std.proofs.Common.{◌≡◌, length, map}
use Rattle.fw_script.specs.Seen.{device_of}
use Rattle.fwupd_base.specs.ImageFiles.{image_file}
use Rattle.fwupd_nodes.specs.Images.{has_component}
use Rattle.fwupd_nodes.proofs.images.has_component.Given as goal

abbrev pub invariant-loop-left : goal.invariant-loop-left
invariant-loop-left l = has_component (map device_of l.left) (image_file l.image) ≡ has_component (map device_of l.devices) (image_file l.image)

abbrev pub decreases-loop-left : goal.decreases-loop-left
decreases-loop-left l = length l.left
