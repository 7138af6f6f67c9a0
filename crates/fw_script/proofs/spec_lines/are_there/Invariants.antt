use Rattle.std.proofs.Common.{◌≡◌, drop, nat_lt}
use Rattle.std.specs.List.{list_all}
use Rattle.fw_script.proofs.spec_lines.are_there.Given as goal

-- the result for the remaining numbers is the result for all
abbrev pub invariant-loop-number : goal.invariant-loop-number
invariant-loop-number l = list_all (λ k. nat_lt k l.count) (drop l.number-index l.uses) ≡ list_all (λ k. nat_lt k l.count) l.uses
