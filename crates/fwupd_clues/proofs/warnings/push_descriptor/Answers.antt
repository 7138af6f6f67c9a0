use Rattle.std.proofs.Common.{sym}
use Rattle.fw_text.proofs.Chains.{adds_more}
use Rattle.fwupd_clues.specs.Warnings.{descriptor_warning}
use Rattle.fwupd_clues.proofs.warnings.push_descriptor.Goals as goal

pub returns : goal.returns
unfolding descriptor_warning
returns c = rw (sym c.in-Some.ensures) (adds_more c.in_ok-push_record_head.ensures c.in_ok-push_lengths.ensures)
