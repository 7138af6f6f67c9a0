use Rattle.std.proofs.Common.{◌≡◌, ◌-◌}
use Rattle.fw_package.specs.Views.{named_from}
use Rattle.fw_package.proofs.uses.first_named.Given as goal

-- the components from here on are all
abbrev pub invariant-loop-number : goal.invariant-loop-number
invariant-loop-number l = named_from l.bitmap l.number (l.count - l.number) ≡ named_from l.bitmap l.from (l.count - l.from)
