use Rattle.std.proofs.Common.{subst}
use Rattle.std.specs.List.{AllByRecursion}
use Rattle.fw_steps.specs.Widths.{HasKindWidth}
use Rattle.fw_steps.proofs.Fit.{descriptors_fit}
use Rattle.fw_steps.proofs.fitting.descriptor_list_fits.Goals as goal

pub returns : goal.returns
returns c = descriptors_fit c.args.descriptors.now c.room-room.result c.room-room.ensures (subst (AllByRecursion HasKindWidth) c.lent.ensures c.kinds_fit.ensures)
