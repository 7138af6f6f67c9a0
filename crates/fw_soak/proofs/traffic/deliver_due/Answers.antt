use Rattle.std.proofs.Common.{arith, ap, refl}
use Rattle.std.specs.Prelude.{not}
use Rattle.std.proofs.lemmas.Bool.{le-ltb, lt-ltb}
use Rattle.fw_soak.specs.Turns.{TriesLate, is_due}
use Rattle.fw_soak.proofs.Coursing.{goes_none, goes_on}
use Rattle.fw_soak.proofs.Placing.{filter_all, has_next, lacks_next}
use Rattle.fw_soak.proofs.traffic.deliver_due.Goals as goal
use Rattle.fw_soak.proofs.traffic.deliver_due.Goals.{then-held-now+in-Ok, else-held-now}

pub loop-held-init : goal.loop-held-init
loop-held-init c = record { goes = goes_none c.args.course.now; due = refl }

pub loop-held-preserved : goal.loop-held-preserved
loop-held-preserved c = elim c.if-held-now.branch [
  | then-held-now+in-Ok w ↦ rw w.course-is (record {
    goes = goes_on c.args.course.now c.loop-held.course w.arrive.new.course c.loop-held.invariant.goes w.arrive.ensures.goes;
    due =
        has_next TriesLate (is_due c.args.now) c.loop-held.held-index c.args.late.now (record { arrival = record { pair = 0; number = 0; node = 0 }; due = 0 })
        c.args.course.now c.loop-held.course w.arrive.new.course (omega arith) (ap not (le-ltb c.args.now _ w.if-held-now.true)) c.loop-held.invariant.due w.in-Ok.ensures.tried;
  })
  | else-held-now w ↦ rw w.course-is (record {
    goes = c.loop-held.invariant.goes;
    due =
        lacks_next TriesLate (is_due c.args.now) c.loop-held.held-index c.args.late.now (record { arrival = record { pair = 0; number = 0; node = 0 }; due = 0 })
        c.args.course.now c.loop-held.course (omega arith) (ap not (lt-ltb c.args.now _ w.if-held-now.false)) c.loop-held.invariant.due;
  })
]

pub returns-clause-due : goal.returns-clause-due
returns-clause-due c =
    filter_all TriesLate (is_due c.args.now) c.loop-held.held-index c.args.late.now c.args.course.now c.loop-held.course (omega (arith, c.loop-held-test.false)) c.loop-held.invariant.due
