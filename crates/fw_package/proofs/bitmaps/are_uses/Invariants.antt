use Rattle.std.proofs.Common.{◌≡◌, drop}
use Rattle.fw_package.specs.Asked.{are_uses}
use Rattle.fw_package.proofs.bitmaps.are_uses.Given as goal

-- the numbers left decide
abbrev pub invariant-loop-number : goal.invariant-loop-number
invariant-loop-number l = are_uses l.count l.from (drop l.number-index l.uses) ≡ are_uses l.count 0 l.uses
