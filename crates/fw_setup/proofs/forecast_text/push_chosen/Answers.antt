use Rattle.fw_text.proofs.Chains.{adds_more}
use Rattle.fw_setup.specs.Forecasts.{chosen_line}
use Rattle.fw_setup.proofs.forecast_text.push_chosen.Goals as goal

pub returns : goal.returns
unfolding chosen_line
returns c =
    let set = adds_more (adds_more c.in_ok-push_head.ensures c.in_ok-push_next.ensures) c.in_ok-push_quoted.ensures in
    adds_more (adds_more (adds_more set c.in_ok-push_words.ensures) c.in_ok-push_words-2.ensures) c.in_ok-push_words-3.ensures
