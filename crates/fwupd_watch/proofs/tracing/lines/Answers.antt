use Rattle.std.proofs.Common.{sym, ◌+◌}
use Rattle.fw_steps.specs.Packets.{sent_of}
use Rattle.fwupd_watch.specs.Traces.{reader_past, trace_text}
use Rattle.fwupd_watch.proofs.Traced.{lines_more, past_more}
use Rattle.fwupd_watch.proofs.tracing.lines.Goals as goal

pub loop-place-preserved : goal.loop-place-preserved
loop-place-preserved c = record {
  text =
      lines_more c.args.form c.loop-place.reader c.push_packet.new.reader c.args.device c.args.written c.loop-place.place c.args.packets.now (sent_of c.in-Some.packet) c.loop-place.text.items c.push_packet.new.text.items
      (trace_text c.args.form c.args.reader.now c.args.device (c.args.written + 1) c.args.packets.now) (sym c.in-Some.ensures.packet) c.loop-place.invariant.text c.in_ok-push_packet.ensures.text.is c.in_ok-push_packet.ensures.after;
  reader =
      past_more c.args.form c.loop-place.reader c.push_packet.new.reader c.loop-place.place c.args.packets.now (sent_of c.in-Some.packet) (reader_past c.args.form c.args.reader.now c.args.packets.now)
      (sym c.in-Some.ensures.packet) c.loop-place.invariant.reader c.in_ok-push_packet.ensures.after;
}
