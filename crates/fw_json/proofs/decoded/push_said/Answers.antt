use Rattle.fw_json.proofs.Said.{said_bytes, said_words}
use Rattle.fw_json.proofs.decoded.push_said.Goals as goal

pub returns-in-Ok : goal.returns-in-Ok
returns-in-Ok c = rw (said_words c.args.text.now c.in-Ok.ensures.cases.1) (rw c.in-Ok.ensures.cases.0 at c.push_word_field.ensures)

pub returns-in-Err : goal.returns-in-Err
returns-in-Err c = rw (said_bytes c.args.text.now c.in-Err.ensures.cases.0) c.push_text_field.ensures
