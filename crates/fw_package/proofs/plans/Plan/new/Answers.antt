use Rattle.std.proofs.Common.{◌∙◌, ◌++◌, ap, sym}
use Rattle.fw_package.proofs.Walked.{fits}
use Rattle.fw_package.proofs.plans.Plan.new.Goals as goal

pub returns : goal.returns
returns c = fits c.loop-number.numbers.items c.args.uses c.loop-number.invariant.3 (ap (λ xs. c.loop-number.numbers.items ++ xs) (sym c.in-None.ensures.steps.0) ∙ c.loop-number.invariant.2)
