use Rattle.fw_json.specs.Decoded.{packet_value}
use Rattle.fw_json.proofs.Chains.{tells_more}
use Rattle.fw_json.proofs.decoded.push_packet.Goals as goal

pub returns : goal.returns
unfolding packet_value
returns c =
    let text = tells_more (rw c.after_space.ensures at c.in_ok-push_said.ensures) c.in_ok-close_object.ensures in
    let tag = tells_more (rw c.tag_in.ensures at c.in_ok-push_optional_number-4.ensures) text in
    let dest = tells_more (rw c.dest_in.ensures at c.in_ok-push_optional_number-3.ensures) tag in
    let source = tells_more (rw c.source_in.ensures at c.in_ok-push_optional_number-2.ensures) dest in
    let device = tells_more (rw c.from.ensures at c.in_ok-push_number_field.ensures) (tells_more c.in_ok-push_number_field-2.ensures source) in
    let turn = tells_more (rw c.turn_in.ensures at c.in_ok-push_optional_number.ensures) device in
    tells_more c.in_ok-begin.ensures turn
