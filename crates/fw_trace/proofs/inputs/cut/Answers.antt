use Rattle.std.proofs.Common.{sym, ap}
use Rattle.fw_trace.specs.Inputs.{cut_at}
use Rattle.fw_trace.proofs.Cuts.{word_cut}
use Rattle.fw_trace.proofs.inputs.cut.Goals as goal

pub returns-in-Some : goal.returns-in-Some
returns-in-Some c = word_cut c.args.bytes.now c.in-Some.place (sym c.in-Some.ensures)

pub returns-in-None : goal.returns-in-None
returns-in-None c = ap (cut_at c.args.bytes.now) c.in-None.ensures
