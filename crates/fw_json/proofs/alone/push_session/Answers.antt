use Rattle.fw_json.specs.Alone.{session_value}
use Rattle.fw_json.proofs.Chains.{tells_more}
use Rattle.fw_json.proofs.alone.push_session.Goals as goal

pub returns : goal.returns
unfolding session_value
returns c =
    let sent = tells_more c.in_ok-push_number_field-2.ensures c.in_ok-close_object.ensures in
    let cause = tells_more (rw c.cause_word.ensures at c.in_ok-push_optional_word_field-2.ensures) sent in
    let session = tells_more (rw c.session_word.ensures at c.in_ok-push_optional_word_field.ensures) cause in
    tells_more c.in_ok-open_object.ensures (tells_more (rw c.from.ensures at c.in_ok-push_number_field.ensures) session)
