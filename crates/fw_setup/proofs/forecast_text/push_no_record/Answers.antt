use Rattle.fw_text.proofs.Chains.{adds_more}
use Rattle.fw_setup.specs.Forecasts.{no_record_line}
use Rattle.fw_setup.proofs.forecast_text.push_no_record.Goals as goal

pub returns : goal.returns
unfolding no_record_line
returns c = adds_more c.in_ok-push_head.ensures c.in_ok-push_words.ensures
