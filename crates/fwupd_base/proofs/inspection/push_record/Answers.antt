use Rattle.fw_text.proofs.Chains.{adds_more}
use Rattle.fwupd_base.specs.Inspection.{record_text}
use Rattle.fwupd_base.proofs.inspection.push_record.Goals as goal

pub returns : goal.returns
unfolding record_text
returns c = adds_more c.in_ok-push_record_line.ensures c.in_ok-push_descriptors.ensures
