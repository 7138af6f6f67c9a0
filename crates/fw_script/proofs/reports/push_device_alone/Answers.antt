use Rattle.fw_text.proofs.Chains.{adds_more}
use Rattle.fw_script.specs.Reports.{device_alone}
use Rattle.std.proofs.Common.{ap}
use Rattle.fw_script.proofs.reports.push_device_alone.Goals as goal

pub returns : goal.returns
unfolding device_alone
returns g c =
    let node = rw c.is_deaf.ensures at (rw c.eid-eid.ensures.eid at c.in_ok-push_node.ensures) in
    let state = rw (ap (λ t. t.device) c.device.ensures.device) at (rw c.state.ensures at (rw c.state_name.ensures at c.in_ok-push_words-2.ensures)) in
    let images = rw c.eid-eid.ensures.eid at (rw (ap (λ t. t.device) c.device-2.ensures.device) at c.in_ok-push_all_running.ensures) in
    adds_more (adds_more (adds_more (adds_more node c.in_ok-push_words.ensures) state) c.in_ok-push_words-3.ensures) images
