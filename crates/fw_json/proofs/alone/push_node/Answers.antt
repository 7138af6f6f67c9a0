use Rattle.std.proofs.Common.{◌==◌, ap}
use Rattle.fw_json.proofs.Reported.{not_deaf}
use Rattle.fw_json.specs.Alone.{node_value}
use Rattle.fw_json.proofs.Chains.{tells_more}
use Rattle.fw_json.proofs.alone.push_node.Goals as goal

pub returns : goal.returns
unfolding node_value
returns g c =
    let images = rw (ap (λ t. t.device) c.device-2.ensures.device) at c.in_ok-push_all_running.ensures in
    let active = tells_more c.in_ok-open_array_field.ensures (tells_more images c.in_ok-close_object.ensures) in
    let state = rw (ap (λ t. t.device) c.device.ensures.device) at (rw c.state.ensures at (rw c.state_name.ensures at c.in_ok-push_word_field.ensures)) in
    let up = rw (not_deaf (c.args.node.now.half.asker.deaf == 0)) at (rw c.is_deaf.ensures at c.in_ok-push_flag_field.ensures) in
    let eid = rw c.eid.ensures.eid at (rw c.from.ensures at c.in_ok-push_number_field.ensures) in
    tells_more c.in_ok-open_object.ensures (tells_more eid (tells_more up (tells_more state active)))
