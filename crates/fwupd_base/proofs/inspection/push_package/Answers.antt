use Rattle.fw_text.proofs.Chains.{adds_more}
use Rattle.fwupd_base.proofs.inspection.push_package.Goals as goal

pub returns : goal.returns
returns c =
    adds_more (adds_more (adds_more (rw c.header_size.ensures at c.in_ok-push_number.ensures) (rw c.record_count.ensures at c.in_ok-push_number-2.ensures))
    (rw c.place_count.ensures at c.in_ok-push_number-3.ensures)) c.in_ok-push_words.ensures
