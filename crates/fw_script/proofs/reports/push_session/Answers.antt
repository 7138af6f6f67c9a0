use Rattle.fw_text.proofs.Chains.{adds_more}
use Rattle.fw_script.specs.Reports.{session_line}
use Rattle.fw_script.proofs.reports.push_session.Goals as goal

pub returns : goal.returns
unfolding session_line
returns c =
    let device = rw c.from.ensures at c.in_ok-push_number.ensures in
    let session = rw c.session_text.ensures at c.in_ok-push_words-2.ensures in
    adds_more (adds_more (adds_more (adds_more device c.in_ok-push_words.ensures) session) c.in_ok-push_number-2.ensures) c.in_ok-push_words-3.ensures
