use Rattle.fw_json.specs.Plans.{lack_value}
use Rattle.fw_json.proofs.Chains.{tells_more}
use Rattle.fw_json.proofs.plan.push_lack.Goals as goal

pub returns : goal.returns
unfolding lack_value
returns c =
    let lacked = tells_more (rw c.first_lacked.ensures at c.in_ok-push_lacked.ensures) c.in_ok-close_object.ensures in
    tells_more c.in_ok-open_object.ensures (tells_more c.in_ok-push_number_field.ensures (tells_more c.in_ok-push_key.ensures lacked))
