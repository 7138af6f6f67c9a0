use Rattle.std.proofs.Common.{sym, ◌==◌}
use Rattle.fw_script.specs.Seen.{device_of}
use Rattle.fwupd_nodes.specs.Images.{device_imaged}
use Rattle.fwupd_nodes.proofs.Imaged.{changed, unchanged}
use Rattle.fwupd_nodes.proofs.images.put_image.Goals as goal

pub returns-in-Some : goal.returns-in-Some
returns-in-Some c =
    changed device_of (λ d. d.endpoint.eid == c.args.image.now.eid) (device_imaged c.args.image.now.key c.args.bytes.items) c.args.devices.now c.in-Some.place c.index-devices-place.result _ (sym c.in-Some.ensures.place) c.put_in_device.ensures

pub returns-in-None : goal.returns-in-None
returns-in-None c = unchanged device_of (λ d. d.endpoint.eid == c.args.image.now.eid) (device_imaged c.args.image.now.key c.args.bytes.items) c.args.devices.now (sym c.in-None.ensures.place)
