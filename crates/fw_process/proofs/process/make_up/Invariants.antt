use Rattle.std.proofs.Common.{[], ◌≡◌, ◌+◌}
use Rattle.fw_process.specs.Processes.{Serves, turns}
use Rattle.fw_process.proofs.process.make_up.Given as goal

-- the turns so far are taken
abbrev pub invariant-loop-made : goal.invariant-loop-made
invariant-loop-made g l = record {
  unit : g.P.ProcessNode.unit l.process ≡ g.P.ProcessNode.unit l.fn.process + l._made;
  served : Serves g.P.ProcessNode.does g.P.ProcessNode.unit [] (turns l._made) l.fn.process (g.L.Line.known l.fn.line) l.process (g.L.Line.known l.line);
}
