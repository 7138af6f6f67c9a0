use Rattle.std.proofs.Common.{◌∙◌, Ok, ap}
use Rattle.fw_package.specs.Lent.{place_seen}
use Rattle.fw_package.proofs.Outlined.{component_placed}
use Rattle.fw_package.proofs.components.Component.read.Goals as goal

pub at-requires : goal.at-requires
at-requires c = (component_placed c.args.file.now c.args.bytes.now (place_seen c.in-Ok.place) c.in-Ok.ensures).1

pub returns-in-Ok : goal.returns-in-Ok
returns-in-Ok c = ap (λ x. Ok x) c.at.ensures ∙ (component_placed c.args.file.now c.args.bytes.now (place_seen c.in-Ok.place) c.in-Ok.ensures).0
