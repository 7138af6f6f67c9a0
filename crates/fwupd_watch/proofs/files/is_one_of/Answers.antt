use Rattle.std.proofs.Common.{arith, refl}
use Rattle.fwupd_watch.proofs.Overs.{over_item}
use Rattle.fwupd_watch.proofs.files.is_one_of.Goals as goal

pub returns-then-is_same_file-clause-over : goal.returns-then-is_same_file-clause-over
returns-then-is_same_file-clause-over g c = λ _.
    over_item (g.F.Files.holds c.args.files.now) c.args.path.now c.args.others.now c.loop-other.other-index c.other-item.result c.deref.result.now (omega arith) c.other-item.is c.deref.ensures
    (c.if-is_same_file.ensures.same refl)
