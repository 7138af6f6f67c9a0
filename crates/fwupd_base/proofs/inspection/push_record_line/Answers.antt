use Rattle.fw_text.proofs.Chains.{adds_more}
use Rattle.fwupd_base.specs.Inspection.{record_line}
use Rattle.fwupd_base.proofs.inspection.push_record_line.Goals as goal

pub returns : goal.returns
unfolding record_line
returns c =
    let named = adds_more c.in_ok-push_number.ensures c.in_ok-push_eight.ensures in
    let set = adds_more named c.in_ok-push_quoted.ensures in
    adds_more (adds_more (adds_more set c.in_ok-push_words.ensures) (rw c.iter.ensures at c.in_ok-push_uses.ensures)) c.in_ok-push_words-2.ensures
