use Rattle.std.proofs.Common.{refl}
use Rattle.fwupd_nodes.proofs.answering.answer_serial.Goals as goal

pub returns-in-Ok-clause-ok : goal.returns-in-Ok-clause-ok
returns-in-Ok-clause-ok g c = record { last = c.serve.new.server; served = rw c.new-server.ensures at c.in-Ok.ensures.ok }

pub returns-in-Err-clause-fault : goal.returns-in-Err-clause-fault
returns-in-Err-clause-fault g c = record { fault = c.in-Err.fault; is = refl; last = c.serve.new.server; ends = rw c.new-server.ensures at c.in-Err.ensures.fault }
