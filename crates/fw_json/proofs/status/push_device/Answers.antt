use Rattle.fw_json.specs.Statuses.{device_status_value}
use Rattle.fw_json.proofs.Chains.{tells_more}
use Rattle.fw_json.proofs.status.push_device.Goals as goal

pub returns : goal.returns
unfolding device_status_value
returns c =
    let components = tells_more (rw c.as_slice.ensures.value at c.in_ok-push_components.ensures) c.in_ok-close_object.ensures in
    let eid = tells_more (rw c.from.ensures at c.in_ok-push_number_field.ensures) (tells_more c.in_ok-open_array_field.ensures components) in
    tells_more c.in_ok-open_object.ensures eid
