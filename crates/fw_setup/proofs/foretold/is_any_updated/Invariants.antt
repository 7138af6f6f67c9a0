use Rattle.std.proofs.Common.{◌≡◌, drop, map}
use Rattle.fw_script.specs.Seen.{component_of}
use Rattle.fw_setup.specs.Forecasts.{is_any_updated}
use Rattle.fw_setup.specs.Nodes.{row_made}
use Rattle.fw_setup.proofs.foretold.is_any_updated.Given as goal

-- the answer for the components that are left is the answer for all
abbrev pub invariant-loop-number : goal.invariant-loop-number
invariant-loop-number l =
    is_any_updated l.contents (map row_made (map component_of l.components)) (drop l.number-index l.numbers)
    ≡ is_any_updated l.contents (map row_made (map component_of l.components)) l.numbers
