use Rattle.fwupd_base.proofs.PackageChoices.{same_for_all}
use Rattle.fwupd_base.proofs.package_choice.PackageChoice.new.Goals as goal

pub returns : goal.returns
returns c eid within = same_for_all c.args.number eid within
