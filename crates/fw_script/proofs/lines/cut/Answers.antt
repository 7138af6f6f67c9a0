use Rattle.std.proofs.Common.{sym}
use Rattle.fw_script.proofs.Cuts.{cut_here, cut_nowhere}
use Rattle.fw_script.proofs.lines.cut.Goals as goal

pub returns-in-Some-clause-parts : goal.returns-in-Some-clause-parts
returns-in-Some-clause-parts c = cut_here c.args.byte c.args.bytes.now c.in-Some.place (sym c.in-Some.ensures)

pub returns-in-None-clause-parts : goal.returns-in-None-clause-parts
returns-in-None-clause-parts c = cut_nowhere c.args.byte c.args.bytes.now (sym c.in-None.ensures)
