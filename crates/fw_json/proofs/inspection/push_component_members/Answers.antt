use Rattle.fw_json.specs.Inspections.{component_members}
use Rattle.fw_json.proofs.Chains.{tells_more}
use Rattle.fw_json.proofs.inspection.push_component_members.Goals as goal

pub returns : goal.returns
unfolding component_members
returns c =
    let placed = tells_more c.in_ok-push_number_field-7.ensures (tells_more c.in_ok-push_number_field-8.ensures c.in_ok-push_text_field.ensures) in
    let chosen = tells_more (rw c.from-3.ensures at c.in_ok-push_number_field-5.ensures) (tells_more (rw c.from-4.ensures at c.in_ok-push_number_field-6.ensures) placed) in
    let stamped = tells_more c.in_ok-push_number_field-4.ensures chosen in
    let keyed = tells_more (rw c.from.ensures at c.in_ok-push_number_field-2.ensures) (tells_more (rw c.from-2.ensures at c.in_ok-push_number_field-3.ensures) stamped) in
    tells_more c.in_ok-open_object.ensures (tells_more c.in_ok-push_number_field.ensures keyed)
