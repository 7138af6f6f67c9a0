use Rattle.fw_json.specs.Plans.{offer_value}
use Rattle.fw_json.proofs.Chains.{tells_more}
use Rattle.fw_json.proofs.plan.push_offer.Goals as goal

pub returns : goal.returns
unfolding offer_value
returns c =
    let word = rw c.passed.ensures at (rw c.component_word.ensures at c.in_ok-push_word_field.ensures) in
    let closed = tells_more word c.in_ok-close_object.ensures in
    let active = tells_more (rw c.key.ensures at (rw c.running.ensures at c.in_ok-push_active.ensures)) closed in
    let version = tells_more c.in_ok-push_text_field.ensures (tells_more c.in_ok-push_key.ensures active) in
    let stamp = tells_more c.in_ok-push_number_field-3.ensures (tells_more (rw c.sent_stamp.ensures at c.in_ok-push_number_field-4.ensures) version) in
    let identifier = tells_more (rw c.from-2.ensures at c.in_ok-push_number_field-2.ensures) stamp in
    tells_more c.in_ok-open_object.ensures (tells_more (rw c.from.ensures at c.in_ok-push_number_field.ensures) identifier)
