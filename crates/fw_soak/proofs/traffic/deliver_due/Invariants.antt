use Rattle.std.proofs.Common.{take}
use Rattle.std.specs.List.{filter}
use Rattle.fw_soak.specs.Courses.{ContinuesRun}
use Rattle.fw_soak.specs.Turns.{EachIn, TriesLate, is_due}
use Rattle.fw_soak.proofs.traffic.deliver_due.Given as goal

-- the due packets before the index are delivered
abbrev pub invariant-loop-held : goal.invariant-loop-held
invariant-loop-held l = record {
  goes : ContinuesRun l.fn.course l.course;
  due : EachIn TriesLate (filter (is_due l.now) (take l.held-index l.late)) l.fn.course l.course;
}
