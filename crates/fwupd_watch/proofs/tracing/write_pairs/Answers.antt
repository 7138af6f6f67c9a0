use Rattle.std.proofs.Common.{rules, ◌≡◌, ◌<◌, ◌∙◌, Some, ap, get_or, length, refl, sym}
use Rattle.std.specs.Prelude.{slice_get}
use Rattle.std.proofs.lemmas.List.{length-set}
use Rattle.std.proofs.lemmas.Option.{slice_get_read}
use Rattle.fwupd_watch.proofs.Traced.{counts_more, others_kept, pairs_more, reader_kept}
use Rattle.fwupd_watch.proofs.Turns.{read_more}
use Rattle.fwupd_watch.proofs.tracing.write_pairs.Goals as goal

pub loop-place-preserved : goal.loop-place-preserved
loop-place-preserved g c =
    let lt : c.loop-place.place < length c.loop-place.readers = search rules in
    let x = get_or c.loop-place.readers c.loop-place.place c.index-readers-place.result in
    let reader : slice_get c.args.readers.now c.loop-place.place ≡ Some x =
    reader_kept c.loop-place.place c.loop-place.readers c.args.readers.now x c.loop-place.invariant.readers
    (slice_get_read c.loop-place.readers (length c.loop-place.readers) c.loop-place.place x refl lt (ap (get_or c.loop-place.readers c.loop-place.place) c.index-readers-place.is)) in
    record {
      lines =
          pairs_more c.args.form c.args.readers.now (g.W.Write.contents c.args.writer.now) (g.W.Write.contents c.loop-place.writer) (g.W.Write.contents c.write_pair.new.writer) c.args.written.now c.args.world.now.sites c.loop-place.place
          c.loop-place.invariant.lines (rw (reader, sym c.written_at.ensures) c.in-Ok.ensures.lines);
      counts =
          counts_more c.loop-place.counts.items c.push.new.self.items c.args.world.now.sites c.loop-place.place c.in-Ok.count (search rules) c.loop-place.invariant.counts c.in-Ok.ensures.count c.push.ensures.items;
      few = search rules;
      readers = others_kept c.loop-place.place c.loop-place.readers c.args.readers.now c.write_pair.new.reader c.loop-place.invariant.readers;
      size = length-set c.loop-place.readers c.loop-place.place c.write_pair.new.reader ∙ c.loop-place.invariant.size;
      read =
          read_more c.args.form c.args.written.now c.args.world.now.sites c.loop-place.place c.args.readers.now c.loop-place.readers x c.write_pair.new.reader c.loop-place.invariant.read reader
          (rw (sym c.written_at.ensures) c.in-Ok.ensures.read) lt;
    }
