use Rattle.fw_text.proofs.Chains.{adds_more}
use Rattle.fw_setup.specs.Forecasts.{offer_line}
use Rattle.fw_setup.proofs.forecast_text.push_offer.Goals as goal

pub returns : goal.returns
unfolding offer_line
returns c =
    let key = adds_more (rw c.from.ensures at c.in_ok-push_number.ensures) (rw c.from-2.ensures at c.in_ok-push_number-2.ensures) in
    let stamp = adds_more (adds_more key c.in_ok-push_number-3.ensures) (rw c.sent_stamp.ensures at c.in_ok-push_eight.ensures) in
    let version = adds_more stamp c.in_ok-push_quoted.ensures in
    let active = adds_more version (rw c.key.ensures at (rw c.running.ensures at c.in_ok-push_active.ensures)) in
    let word = rw c.passed.ensures at (rw c.component_word.ensures at c.in_ok-push_words-2.ensures) in
    adds_more (adds_more (adds_more active c.in_ok-push_words.ensures) word) c.in_ok-push_words-3.ensures
