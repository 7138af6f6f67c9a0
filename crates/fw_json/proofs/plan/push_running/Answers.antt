use Rattle.std.proofs.Common.{ap}
use Rattle.fw_json.specs.Plans.{running_value}
use Rattle.fw_json.proofs.Chains.{tells_more}
use Rattle.fw_json.proofs.plan.push_running.Goals as goal

pub returns : goal.returns
unfolding running_value
returns c =
    let text = rw (ap (λ x. x.label.text) c.config.view_is) at (rw c.as_slice.ensures.value at c.in_ok-push_text_field.ensures) in
    let stamp = rw c.stamp.ensures at c.in_ok-push_number_field.ensures in
    tells_more c.in_ok-open_object.ensures (tells_more stamp (tells_more text c.in_ok-close_object.ensures))
