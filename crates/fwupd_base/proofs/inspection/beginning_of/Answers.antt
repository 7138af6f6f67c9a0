use Rattle.std.proofs.Common.{◌∙◌, ap, refl, take}
use Rattle.std.proofs.lemmas.List.{take_min}
use Rattle.fwupd_base.proofs.inspection.beginning_of.Goals as goal

pub returns : goal.returns
returns c = record { begins = ap (λ n. take n c.args.bytes.now) c.min.ensures ∙ take_min 65535 c.args.bytes.now; long = refl }
