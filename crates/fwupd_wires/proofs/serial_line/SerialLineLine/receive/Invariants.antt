use Rattle.std.proofs.Common.{◌≡◌}
use Rattle.fwupd_wires.proofs.serial_line.SerialLineLine.receive.Given as goal

-- the unit of the round stays
abbrev pub invariant-loop : goal.invariant-loop
invariant-loop g l = l.self.round ≡ l.fn.self.round
