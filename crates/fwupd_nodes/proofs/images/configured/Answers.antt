use Rattle.std.proofs.Common.{map}
use Rattle.fw_script.specs.Seen.{device_of}
use Rattle.fwupd_nodes.proofs.Imaged.{whole_imaged}
use Rattle.fwupd_nodes.proofs.images.configured.Goals as goal

pub returns-in-Ok-put_images-clause-whole : goal.returns-in-Ok-put_images-clause-whole
returns-in-Ok-put_images-clause-whole g c =
    whole_imaged (g.F.Files.holds c.args.files.now) c.in-Ok.config.agent.eid _ (map device_of c.in-Ok.config.devices.items) (map device_of c.put_images.new.devices.items) c.in-Ok-put_images.ensures.images
    c.in-Ok.ensures.whole
