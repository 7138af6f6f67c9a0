use Rattle.fw_script.proofs.Spelling.{said_three}
use Rattle.fw_script.proofs.step_text.push_delivery.Goals as goal

pub returns : goal.returns
returns c = said_three c.in_ok-push_words.ensures c.in_ok-push_eid.ensures c.in_ok-push_place.ensures c.in_ok-push_eid-2.ensures
