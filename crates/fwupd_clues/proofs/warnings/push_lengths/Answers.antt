use Rattle.fw_text.proofs.Chains.{adds_more}
use Rattle.fwupd_clues.specs.Warnings.{lengths_text}
use Rattle.fwupd_clues.proofs.warnings.push_lengths.Goals as goal

pub returns : goal.returns
unfolding lengths_text
returns c =
    adds_more (adds_more (adds_more c.in_ok-push_four.ensures (rw c.as_slice-bytes.ensures.value at c.in_ok-push_number.ensures)) c.in_ok-push_number-2.ensures)
    c.in_ok-push_words.ensures
