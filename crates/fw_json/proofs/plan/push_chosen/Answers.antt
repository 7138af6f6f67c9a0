use Rattle.std.proofs.Common.{ap}
use Rattle.fw_json.specs.Plans.{device_forecast}
use Rattle.fw_json.proofs.Chains.{tells_more}
use Rattle.fw_json.proofs.plan.push_chosen.Goals as goal

pub returns : goal.returns
unfolding device_forecast
returns c =
    let components = tells_more c.in_ok-open_array_field-2.ensures (tells_more c.in_ok-push_offers.ensures c.in_ok-close_object.ensures) in
    let lacks = tells_more c.in_ok-open_array_field.ensures (tells_more c.in_ok-close_array.ensures components) in
    let set = rw (ap (λ r. r.set_text.bytes) c.record_at.ensures.value) at c.in_ok-push_text_field.ensures in
    let named = tells_more set (tells_more c.in_ok-push_word_field.ensures lacks) in
    let number = tells_more c.in_ok-push_next_field.ensures named in
    tells_more c.in_ok-open_object.ensures (tells_more (rw c.from.ensures at c.in_ok-push_number_field.ensures) number)
