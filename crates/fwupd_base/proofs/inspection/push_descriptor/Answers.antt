use Rattle.fw_text.proofs.Chains.{adds_more}
use Rattle.fwupd_base.specs.Inspection.{descriptor_line}
use Rattle.fwupd_base.proofs.inspection.push_descriptor.Goals as goal

pub returns : goal.returns
unfolding descriptor_line
returns c =
    adds_more (adds_more (adds_more c.in_ok-push_four.ensures c.in_ok-push_words.ensures) c.in_ok-push_data.ensures)
    c.in_ok-push_words-2.ensures
