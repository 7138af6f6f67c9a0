use Rattle.fw_text.proofs.Chains.{adds_more}
use Rattle.fwupd_base.specs.Inspection.{component_line}
use Rattle.fwupd_base.proofs.inspection.push_component.Goals as goal

pub returns : goal.returns
unfolding component_line
returns c =
    let key = adds_more (adds_more c.in_ok-push_number.ensures (rw c.from.ensures at c.in_ok-push_number-2.ensures)) (rw c.from-2.ensures at c.in_ok-push_number-3.ensures) in
    let options = adds_more (adds_more key c.in_ok-push_eight.ensures) c.in_ok-push_four.ensures in
    let place = adds_more (adds_more options c.in_ok-push_number-4.ensures) c.in_ok-push_number-5.ensures in
    adds_more (adds_more place c.in_ok-push_quoted.ensures) c.in_ok-push_words.ensures
