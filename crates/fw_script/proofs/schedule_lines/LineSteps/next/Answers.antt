use Rattle.std.proofs.Common.{◌∙◌, arith, sym}
use Rattle.fw_script.proofs.AllSteps.{lines_ticked}
use Rattle.fw_script.proofs.schedule_lines.LineSteps.next.Goals as goal

pub returns-then-count-gt0-clause-some : goal.returns-then-count-gt0-clause-some
returns-then-count-gt0-clause-some c =
    sym c.loop-self.invariant.same
    ∙ lines_ticked c.loop-self.self-inside.lines.now c.first-item.result c.in-Ticks.count c.in-len1-up.len_at_least c.first-item.is c.in-Ticks.is (λ none. omega (arith, none, c.if-count-gt0.true))
