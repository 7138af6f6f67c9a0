use Rattle.fw_json.proofs.Chains.{tells_more}
use Rattle.fw_json.proofs.status.push_place.Goals as goal

pub returns : goal.returns
returns c =
    let identifier = tells_more (rw c.from-2.ensures at c.in_ok-push_number_field-2.ensures) (rw c.from-3.ensures at c.in_ok-push_number_field-3.ensures) in
    tells_more (rw c.from.ensures at c.in_ok-push_number_field.ensures) identifier
