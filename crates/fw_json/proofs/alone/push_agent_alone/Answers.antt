use Rattle.fw_json.proofs.Chains.{tells_more}
use Rattle.fw_json.proofs.alone.push_agent_alone.Goals as goal

pub returns : goal.returns
returns c =
    let history = tells_more c.in_ok-open_array_field-2.ensures (tells_more c.in_ok-push_history.ensures c.in_ok-close_object.ensures) in
    let log = tells_more c.in_ok-push_key-2.ensures (tells_more (rw c.log.ensures at (rw c.len.ensures.count at c.in_ok-push_log.ensures)) history) in
    let sessions = tells_more c.in_ok-open_array_field.ensures (tells_more c.in_ok-push_sessions.ensures log) in
    let agent = tells_more c.in_ok-push_key.ensures (tells_more c.in_ok-push_agent.ensures sessions) in
    let now = tells_more c.in_ok-push_number_field.ensures agent in
    tells_more c.in_ok-open_object.ensures (tells_more c.in_ok-push_word_field.ensures now)
