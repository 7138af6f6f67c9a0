use Rattle.fw_script.proofs.Spelling.{said_numbers}
use Rattle.fw_script.proofs.step_text.push_missed.Goals as goal

pub returns : goal.returns
returns c = said_numbers c.args.missed.now.items c.in_ok-push_words.ensures (rw c.as_slice.ensures.value at c.in_ok-push_eids.ensures)
