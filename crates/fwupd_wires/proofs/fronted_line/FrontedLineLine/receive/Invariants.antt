use Rattle.std.proofs.Common.{◌≡◌}
use Rattle.fwupd_wires.proofs.fronted_line.FrontedLineLine.receive.Given as goal

-- the front and the round stay
abbrev pub invariant-loop : goal.invariant-loop
invariant-loop g l = (l.self.round ≡ l.fn.self.round) × (l.self.front ≡ l.fn.self.front)
