use Rattle.fw_script.proofs.Spelling.{said_two, said_word}
use Rattle.fw_script.proofs.step_text.push_verdict.Goals as goal

pub returns : goal.returns
returns c =
    said_two c.in_ok-push_words.ensures c.in_ok-push_eid.ensures
    (said_word c.in_ok-push_words-2.ensures (rw c.verdict_word.ensures at c.in_ok-push_words-3.ensures))
