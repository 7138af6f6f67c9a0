use Rattle.fw_json.proofs.Chains.{tells_more}
use Rattle.fw_json.proofs.status.push_status.Goals as goal

pub returns : goal.returns
returns c =
    let devices = tells_more c.in_ok-open_array_field.ensures (tells_more c.in_ok-push_devices.ensures c.in_ok-close_object.ensures) in
    tells_more c.in_ok-open_object.ensures (tells_more c.in_ok-push_word_field.ensures devices)
