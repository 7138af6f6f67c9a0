use Rattle.std.proofs.Common.{rules, Err, refl}
use Rattle.std.specs.Io.Buffered.{writer_buffer, writer_contents, writer_inner}
use Rattle.fwupd_base.specs.Answers.{endpoint_of}
use Rattle.fwupd_watch.proofs.Answering.{answered_so, answers_break, answers_end}
use Rattle.fwupd_watch.proofs.output.Output.answer.Goals as goal

pub returns-then-is_err-clause-fault : goal.returns-then-is_err-clause-fault
returns-then-is_err-clause-fault g c =
    answers_break (endpoint_of c.args.endpoint.now.eid c.args.endpoint.now.uuid) c.answer_stream-end.result (g.R.Read.remaining c.args.reader.now) (g.R.Read.remaining c.answer_stream-end.new.reader)
    (g.W.Write.contents (writer_inner c.self.inside.writer)) _ c.args.self.now _ (writer_buffer c.self.inside.writer) (writer_buffer c.flush.new.self)
    (search rules) (search rules) (search rules) refl (answered_so _ _ _ _ _ _ c.answer_stream-end.ensures.ok c.answer_stream-end.ensures.stopped c.answer_stream-end.ensures.broken) c.flush.ensures.bytes

pub returns-in-Err : goal.returns-in-Err
returns-in-Err g c = record {
  ok = tt;
  fault =
      answers_end (endpoint_of c.args.endpoint.now.eid c.args.endpoint.now.uuid) c.in-Err.fault (g.R.Read.remaining c.args.reader.now) (g.R.Read.remaining c.answer_stream-end.new.reader)
      (g.W.Write.contents (writer_inner c.self.inside.writer)) (writer_contents g.W.Write.contents c.answer_stream-end.new.writer) c.args.self.now _ (writer_buffer c.self.inside.writer) (writer_buffer c.flush.new.self)
      (search rules) (search rules) (search rules) (search rules) (λ e. search rules) (λ e. search rules)
      (answered_so (endpoint_of c.args.endpoint.now.eid c.args.endpoint.now.uuid) (Err c.in-Err.fault) (g.R.Read.remaining c.args.reader.now) (g.R.Read.remaining c.answer_stream-end.new.reader)
      (writer_contents g.W.Write.contents c.self.inside.writer) (writer_contents g.W.Write.contents c.answer_stream-end.new.writer) tt c.in-Err.ensures.stopped c.in-Err.ensures.broken) c.flush.ensures.bytes;
}
