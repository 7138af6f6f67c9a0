use Rattle.std.proofs.Common.{sym}
use Rattle.std.specs.Prelude.{slice_get}
use Rattle.fwupd_watch.proofs.Traced.{pair_done, pair_read, pair_written, read_done}
use Rattle.fwupd_watch.proofs.tracing.write_pair.Goals as goal

pub returns-then-len-written-clause-lines : goal.returns-then-len-written-clause-lines
returns-then-len-written-clause-lines g c =
    pair_done c.args.form c.args.reader.now (g.W.Write.contents c.args.writer.now) (slice_get c.args.world.now.sites c.args.place) c.in-Some-Some.node.now c.in-Some-Some.packets c.args.written (rw c.len.ensures at c.if-len-written.true)
    (sym (rw c.in-Some-Some.is-0 at c.device_at.ensures)) (sym (rw c.in-Some-Some.is-1 at c.packets_at.ensures))

pub returns-then-len-written-clause-read : goal.returns-then-len-written-clause-read
returns-then-len-written-clause-read g c =
    read_done c.args.form c.args.reader.now (slice_get c.args.world.now.sites c.args.place) c.in-Some-Some.packets c.args.written (rw c.len.ensures at c.if-len-written.true) (sym (rw c.in-Some-Some.is-1 at c.packets_at.ensures))

pub returns-in-Ok-write_all-clause-lines : goal.returns-in-Ok-write_all-clause-lines
returns-in-Ok-write_all-clause-lines g c =
    pair_written c.args.form c.args.reader.now (g.W.Write.contents c.args.writer.now) (g.W.Write.contents c.write_all.new.self) (slice_get c.args.world.now.sites c.args.place) c.in-Some-Some.node.now c.in-Some-Some.packets
    _ c.args.written c.eid.result c.deref.result.now c.in-Ok.text.items c.in-Ok-write_all.ensures.bytes c.deref.ensures.value c.in-Ok.ensures.text c.behind.ensures
    (sym (rw c.in-Some-Some.is-0 at c.device_at.ensures)) (sym (rw c.in-Some-Some.is-1 at c.packets_at.ensures)) c.eid.ensures.eid

pub returns-in-Ok-write_all-clause-read : goal.returns-in-Ok-write_all-clause-read
returns-in-Ok-write_all-clause-read g c =
    pair_read c.args.form c.args.reader.now c.lines.new.reader (slice_get c.args.world.now.sites c.args.place) c.in-Some-Some.packets _ c.args.written c.in-Ok.ensures.after c.behind.ensures
    (sym (rw c.in-Some-Some.is-1 at c.packets_at.ensures))
