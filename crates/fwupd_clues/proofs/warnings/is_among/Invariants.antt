use Rattle.std.proofs.Common.{◌≡◌, drop}
use Rattle.fw_package.specs.Writing.{is_used}
use Rattle.fwupd_clues.proofs.warnings.is_among.Given as goal

-- the answer for the remaining uses is the answer for all
abbrev pub invariant-loop-used : goal.invariant-loop-used
invariant-loop-used l = is_used (drop l.used-index l.uses) l.component ≡ is_used l.uses l.component
