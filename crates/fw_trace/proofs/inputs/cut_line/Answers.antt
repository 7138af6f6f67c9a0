use Rattle.std.proofs.Common.{sym}
use Rattle.fw_trace.proofs.Cuts.{cut_here, cut_nowhere}
use Rattle.fw_trace.proofs.inputs.cut_line.Goals as goal

pub returns-in-Some-clause-parts : goal.returns-in-Some-clause-parts
returns-in-Some-clause-parts c = cut_here 10 c.args.text.now c.in-Some.place (sym c.in-Some.ensures)

pub returns-in-None-clause-parts : goal.returns-in-None-clause-parts
returns-in-None-clause-parts c = cut_nowhere 10 c.args.text.now (sym c.in-None.ensures)
