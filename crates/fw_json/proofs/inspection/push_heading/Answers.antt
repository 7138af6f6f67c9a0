use Rattle.fw_json.specs.Inspections.{heading_members}
use Rattle.fw_json.proofs.Chains.{tells_more}
use Rattle.fw_json.proofs.inspection.push_heading.Goals as goal

pub returns : goal.returns
unfolding heading_members
returns c =
    let named = tells_more c.in_ok-push_digits_field.ensures c.in_ok-push_text_field.ensures in
    let sized = tells_more c.in_ok-push_word_field.ensures (tells_more c.in_ok-push_number_field.ensures named) in
    tells_more c.in_ok-open_object.ensures sized
