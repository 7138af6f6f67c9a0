use Rattle.fw_json.specs.Inspections.{record_value}
use Rattle.fw_json.proofs.Chains.{tells_more}
use Rattle.fw_json.proofs.inspection.push_record.Goals as goal

pub returns : goal.returns
unfolding record_value
returns c =
    let described = tells_more c.in_ok-open_array_field-2.ensures (tells_more c.in_ok-push_descriptors.ensures c.in_ok-close_object.ensures) in
    let used = tells_more c.in_ok-open_array_field.ensures (tells_more (rw c.iter.ensures at c.in_ok-push_uses.ensures) described) in
    let named = tells_more c.in_ok-push_number_field-2.ensures (tells_more c.in_ok-push_text_field.ensures used) in
    tells_more c.in_ok-open_object.ensures (tells_more c.in_ok-push_number_field.ensures named)
