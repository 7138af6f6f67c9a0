use Rattle.fw_text.proofs.Chains.{adds_more}
use Rattle.fw_json.specs.Statuses.{component_status_line}
use Rattle.fw_json.proofs.status.push_component_line.Goals as goal

pub returns : goal.returns
unfolding component_status_line
returns c =
    let image = c.as_slice-image.ensures.value in
    let key = adds_more (rw c.from.ensures at c.in_ok-push_number.ensures) (rw c.from-2.ensures at c.in_ok-push_number-2.ensures) in
    let label = adds_more (adds_more key (rw image at c.in_ok-push_number-3.ensures)) c.in_ok-push_label.ensures in
    adds_more (adds_more label (rw image at c.in_ok-push_digest.ensures)) c.in_ok-push_words.ensures
