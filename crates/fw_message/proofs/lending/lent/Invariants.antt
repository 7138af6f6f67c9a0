use Rattle.std.proofs.Common.{◌≡◌, drop}
use Rattle.fw_message.specs.Lending.{is_lent}
use Rattle.fw_message.proofs.lending.lent.Given as goal

-- one of the packages that are left has the image exactly if one of all does
abbrev pub invariant-loop-package : goal.invariant-loop-package
invariant-loop-package l = is_lent (drop l.package-index l.packages) l.key l.bytes ≡ is_lent l.packages l.key l.bytes
