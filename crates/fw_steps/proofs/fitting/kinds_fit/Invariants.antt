use Rattle.std.specs.List.{AllByRecursion}
use Rattle.fw_steps.specs.Widths.{HasKindWidth}
use Rattle.fw_steps.proofs.fitting.kinds_fit.Given as goal

-- if all descriptors that are left fit, all fit
abbrev pub invariant-loop-descriptor : goal.invariant-loop-descriptor
invariant-loop-descriptor l = record {
  can : (goal.iterator-loop-descriptor).can_next l.descriptor-iterator;
  finite : (goal.iterator-loop-descriptor).is_finite l.descriptor-iterator;
  all : AllByRecursion HasKindWidth l.descriptor-iterator → AllByRecursion HasKindWidth l.fn.descriptors;
}
