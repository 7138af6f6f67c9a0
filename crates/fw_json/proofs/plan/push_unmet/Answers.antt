use Rattle.fw_json.specs.Plans.{device_forecast}
use Rattle.fw_json.proofs.Chains.{tells_more}
use Rattle.fw_json.proofs.plan.push_unmet.Goals as goal

pub returns : goal.returns
unfolding device_forecast
returns c =
    let components = tells_more c.in_ok-open_array_field-2.ensures (tells_more c.in_ok-close_array.ensures c.in_ok-close_object.ensures) in
    let lacks = tells_more c.in_ok-open_array_field.ensures (tells_more (rw c.records.ensures at c.in_ok-push_lacks.ensures) components) in
    let set = tells_more c.in_ok-push_key-2.ensures (tells_more c.in_ok-push_null-2.ensures (tells_more c.in_ok-push_word_field.ensures lacks)) in
    let number = tells_more c.in_ok-push_key.ensures (tells_more c.in_ok-push_null.ensures set) in
    tells_more c.in_ok-open_object.ensures (tells_more (rw c.from.ensures at c.in_ok-push_number_field.ensures) number)
