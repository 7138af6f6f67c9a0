use Rattle.fw_text.proofs.Chains.{adds_more}
use Rattle.fw_setup.specs.Forecasts.{lack_line}
use Rattle.fw_setup.proofs.forecast_text.push_lack.Goals as goal

pub returns-in_default : goal.returns-in_default
unfolding lack_line
returns-in_default c = rw c.in_default.is (adds_more c.in_ok-push_number.ensures c.in_ok-push_words.ensures)

pub returns : goal.returns
unfolding lack_line
returns c =
    rw c.in-Some.is
    (adds_more (adds_more (adds_more (adds_more c.in_ok-push_number.ensures c.in_ok-push_four.ensures) c.in_ok-push_words-2.ensures) c.in_ok-push_data.ensures)
    c.in_ok-push_words-3.ensures)
