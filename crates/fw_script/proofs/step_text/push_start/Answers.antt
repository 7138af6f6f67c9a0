use Rattle.fw_script.proofs.Spelling.{said_two}
use Rattle.fw_script.proofs.step_text.push_start.Goals as goal

pub returns : goal.returns
returns c = said_two c.in_ok-push_words.ensures c.in_ok-push_eid.ensures c.in_ok-push_place.ensures
