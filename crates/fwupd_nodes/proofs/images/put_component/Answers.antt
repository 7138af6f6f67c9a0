use Rattle.std.proofs.Common.{refl, sym}
use Rattle.fd_core.specs.Images.{same_key}
use Rattle.fw_script.specs.Seen.{component_of}
use Rattle.fwupd_nodes.proofs.Imaged.{changed, unchanged}
use Rattle.fwupd_nodes.proofs.images.put_component.Goals as goal

pub returns-in-Some : goal.returns-in-Some
returns-in-Some c =
    changed component_of (λ x. same_key x.component.key c.args.key) (λ x. record x { image = c.args.bytes.items }) c.args.components.now c.in-Some.place c.index-components-place.result _ (sym c.in-Some.ensures.place) refl

pub returns-in-None : goal.returns-in-None
returns-in-None c = unchanged component_of (λ x. same_key x.component.key c.args.key) (λ x. record x { image = c.args.bytes.items }) c.args.components.now (sym c.in-None.ensures.place)
