use Rattle.fw_script.proofs.Spelling.{said_one, said_word}
use Rattle.fw_script.proofs.step_text.push_request.Goals as goal

pub returns : goal.returns
returns c = said_one c.in_ok-push_words.ensures (said_word c.in_ok-push_words-2.ensures (rw c.as_slice.ensures.value at c.in_ok-push_data.ensures))
