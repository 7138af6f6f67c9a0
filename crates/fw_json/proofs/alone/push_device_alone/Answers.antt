use Rattle.fw_json.proofs.Chains.{tells_more}
use Rattle.fw_json.proofs.alone.push_device_alone.Goals as goal

pub returns : goal.returns
returns g c =
    let history = tells_more c.in_ok-open_array_field.ensures (tells_more c.in_ok-push_history.ensures c.in_ok-close_object.ensures) in
    let node = tells_more c.in_ok-push_key.ensures (tells_more c.in_ok-push_node.ensures history) in
    tells_more c.in_ok-open_object.ensures (tells_more c.in_ok-push_word_field.ensures node)
