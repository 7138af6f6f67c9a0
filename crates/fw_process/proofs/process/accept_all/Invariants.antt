use Rattle.std.proofs.Common.{◌≤◌}
use Rattle.fw_process.proofs.Rounds.{TakesSome}
use Rattle.fw_process.proofs.process.accept_all.Given as goal

-- the packets so far are taken
abbrev pub invariant-loop-taken : goal.invariant-loop-taken
invariant-loop-taken g l = record {
  later : g.P.ProcessNode.unit l.fn.process ≤ g.P.ProcessNode.unit l.process;
  some : TakesSome g.P.ProcessNode.does g.P.ProcessNode.unit l._taken l.fn.process (g.L.Line.known l.fn.line) l.process (g.L.Line.known l.line);
}
