use Rattle.fw_script.proofs.Spelling.{said_one}
use Rattle.fw_script.proofs.step_text.push_named.Goals as goal

pub returns : goal.returns
returns c = said_one c.in_ok-push_words.ensures c.in_ok-push_eid.ensures
