use Rattle.std.proofs.Common.{ap}
use Rattle.fw_json.proofs.Chains.{tells_more}
use Rattle.fw_json.proofs.status.push_label_fields.Goals as goal

pub returns : goal.returns
returns c =
    let text = rw (ap (λ x. x.text) c.label.view_is) at (rw c.as_slice.ensures.value at c.in_ok-push_text_field.ensures) in
    tells_more (rw c.stamp.ensures at c.in_ok-push_number_field.ensures) text
