use Rattle.std.proofs.Common.{◌-◌, ◌≡◌, ◌≤◌, ◌⊎◌, true}
use Rattle.fw_process.specs.Processes.{ServesRounds}
use Rattle.fw_process.proofs.process.serve_process.Given as goal

-- The rounds so far are served. There are none if the process was over, or past the end.
abbrev pub invariant-loop-process : goal.invariant-loop-process
invariant-loop-process g l = record {
  served : ServesRounds g.P.ProcessNode.does g.P.ProcessNode.unit
      l.fn.process (record { line = g.L.Line.known l.fn.line; shown = g.C.Clock.shown l.fn.clock })
      l.process (record { line = g.L.Line.known l.line; shown = g.C.Clock.shown l.clock });
  rests : (g.P.ProcessNode.is_over l.fn.process ≡ true) ⊎ (l.fn.end ≤ g.P.ProcessNode.unit l.fn.process) → l.process ≡ l.fn.process;
}

abbrev pub decreases-loop-process : goal.decreases-loop-process
decreases-loop-process g l = l.end - g.P.ProcessNode.unit l.process
