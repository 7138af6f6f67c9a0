use Rattle.fwupd_nodes.proofs.Processes.{ends_device}
use Rattle.fwupd_nodes.proofs.device_serving.serve_over.Goals as goal

pub returns-in-Ok-serve_process : goal.returns-in-Ok-serve_process
returns-in-Ok-serve_process g c = record {
  shown = c.begin-shown.result;
  first = c.miss.new.self;
  begins = rw c.in-Ok.ensures at c.miss.ensures.does;
  opened = g.C.Clock.shown c.args.joined.now.clock;
  joined = record { line = g.L.Line.known c.begin-shown.new.joined.line.line; shown = g.C.Clock.shown c.begin-shown.new.joined.clock };
  clock = c.begin-shown.ensures.clock;
  left = record { line = g.L.Line.known c.serve_process.new.line.line; shown = g.C.Clock.shown c.serve_process.new.clock };
  serves = c.in-Ok-serve_process.ensures.served;
  ends = ends_device c.end_of.result c.begin-shown.result c.args.ticks c.serve_process.new.process.unit c.end_of.ensures c.in-Ok-serve_process.ensures.ends;
}
