use Rattle.std.proofs.Common.{◌∙◌, ap, sym}
use Rattle.fw_soak.specs.Chances.{generator_past}
use Rattle.fw_soak.proofs.Placing.{past_two}
use Rattle.fw_soak.proofs.setup.pass_banks.Goals as goal

pub loop-count-preserved : goal.loop-count-preserved
loop-count-preserved c =
    c.failing_drawn.ensures.after ∙ ap (generator_past 2) c.loop-count.invariant ∙ sym (past_two c.loop-count.count c.args.chances.now.generator)
