use Rattle.std.proofs.Common.{rules, Err, refl}
use Rattle.std.specs.Io.Buffered.{writer_buffer, writer_contents, writer_inner}
use Rattle.fwupd_watch.proofs.Served.{served_so, serving_breaks, serving_ends}
use Rattle.fwupd_watch.proofs.output.Output.serve.Goals as goal

pub returns-then-is_err-clause-fault : goal.returns-then-is_err-clause-fault
returns-then-is_err-clause-fault g c =
    serving_breaks g.S.LineServer.serves g.S.LineServer.may_lack c.args.server.now c.serve_stream-end.new.server c.serve_stream-end.result
    (g.W.Write.contents (writer_inner c.self.inside.writer)) _ _ _ (writer_buffer c.self.inside.writer) (writer_buffer c.flush.new.self)
    (search rules) (search rules) (search rules) refl
    (served_so g.S.LineServer.serves g.S.LineServer.may_lack c.args.server.now c.serve_stream-end.new.server c.serve_stream-end.result _ _ _ _ c.serve_stream-end.ensures.ok c.serve_stream-end.ensures.stopped c.serve_stream-end.ensures.broken) c.flush.ensures.bytes

pub returns-in-Err : goal.returns-in-Err
returns-in-Err g c = record {
  ok = tt;
  fault =
      serving_ends g.S.LineServer.serves g.S.LineServer.may_lack c.args.server.now c.serve_stream-end.new.server c.in-Err.fault
      (g.W.Write.contents (writer_inner c.self.inside.writer)) (writer_contents g.W.Write.contents c.serve_stream-end.new.writer) _ _ (writer_buffer c.self.inside.writer) (writer_buffer c.flush.new.self)
      (search rules) (search rules) (search rules) (search rules) (λ e. search rules) (λ e. search rules)
      (served_so g.S.LineServer.serves g.S.LineServer.may_lack c.args.server.now c.serve_stream-end.new.server (Err c.in-Err.fault) (g.R.Read.remaining c.args.reader.now) (g.R.Read.remaining c.serve_stream-end.new.reader)
      (writer_contents g.W.Write.contents c.self.inside.writer) (writer_contents g.W.Write.contents c.serve_stream-end.new.writer) tt c.in-Err.ensures.stopped c.in-Err.ensures.broken) c.flush.ensures.bytes;
}
