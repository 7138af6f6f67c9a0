use Rattle.fw_text.proofs.Chains.{adds_more}
use Rattle.fw_setup.specs.Forecasts.{device_head}
use Rattle.fw_setup.proofs.forecast_text.push_head.Goals as goal

pub returns : goal.returns
unfolding device_head
returns c = adds_more (rw c.from.ensures at c.in_ok-push_number.ensures) c.in_ok-push_number-2.ensures
