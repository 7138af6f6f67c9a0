use Rattle.std.proofs.Common.{◌≡◌, ◌++◌, map, take}
use Rattle.fw_script.specs.Seen.{component_of}
use Rattle.fw_setup.specs.Forecasts.{offer_lines}
use Rattle.fw_setup.specs.Nodes.{row_made}
use Rattle.fw_setup.proofs.forecast_text.push_offers.Given as goal

-- the components that were passed are written
abbrev pub invariant-loop-number : goal.invariant-loop-number
invariant-loop-number l =
    l.text.items ≡ l.fn.text.items ++ offer_lines l.contents (map row_made (map component_of l.components)) (take l.number-index l.numbers)
