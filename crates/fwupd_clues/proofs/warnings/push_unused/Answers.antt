use Rattle.fw_text.proofs.Chains.{adds_more}
use Rattle.fwupd_clues.specs.Warnings.{unused_warning}
use Rattle.fwupd_clues.proofs.warnings.push_unused.Goals as goal

pub returns : goal.returns
unfolding unused_warning
returns c = adds_more (adds_more c.in_ok-push_words.ensures c.in_ok-push_next.ensures) c.in_ok-push_words-2.ensures
