use Rattle.std.proofs.Common.{[], ◌∙◌, arith}
use Rattle.std.proofs.KnownBytes.{Keeps-refl}
use Rattle.fwupd_base.proofs.Servers.{end_broken, end_stopped, finished, map_err, map_ok, part_broken, part_kept, reads_more, reads_start, stopped_within, turn_broken, turn_stopped}
use Rattle.fwupd_base.proofs.serving.serve_stream.Goals as goal

pub returns-in_default-clause-stopped : goal.returns-in_default-clause-stopped
returns-in_default-clause-stopped g c = λ _. stopped_within _ _ _ _ 0 _ _ _ _ _ [] _ _ (reads_start _ _ _ _ _) (omega arith) (Keeps-refl _)

pub returns-in_default-reserve-clause-stopped : goal.returns-in_default-reserve-clause-stopped
returns-in_default-reserve-clause-stopped g c = λ _. stopped_within _ _ _ _ 0 _ _ _ _ _ [] _ _ (reads_start _ _ _ _ _) (omega arith) (Keeps-refl _)

pub returns-in-Err-clause-stopped : goal.returns-in-Err-clause-stopped
returns-in-Err-clause-stopped g c = λ _. stopped_within _ _ _ _ _ _ _ _ _ _ _ _ _ (part_kept _ _ _ _ _ _ _ _ _ _ _ c.loop-count.invariant.reads c.prepare_read.ensures.kept) c.loop-count-test.true (Keeps-refl _)

pub returns-in-Err-clause-broken : goal.returns-in-Err-clause-broken
returns-in-Err-clause-broken g c = λ _. part_broken _ _ _ _ _ _ _ _ _ _ _ c.loop-count.invariant.reads c.prepare_read.ensures.kept

pub returns-in-Err-read_piece-clause-stopped : goal.returns-in-Err-read_piece-clause-stopped
returns-in-Err-read_piece-clause-stopped g c = λ _.
    let r = part_kept _ _ _ _ _ _ _ _ _ _ _ c.loop-count.invariant.reads c.prepare_read.ensures.kept in
    stopped_within _ _ _ _ _ _ _ _ _ _ _ _ _ r c.loop-count-test.true c.in-Err-read_piece.ensures.kept

pub returns-in-Ok-eq0-clause-ok : goal.returns-in-Ok-eq0-clause-ok
returns-in-Ok-eq0-clause-ok g c =
    let r = part_kept _ _ _ _ _ _ _ _ _ _ _ c.loop-count.invariant.reads c.prepare_read.ensures.kept in
    map_ok c.finish.result _ _
    (finished _ _ _ _ _ _ _ _ _ _ _ _ _ r c.loop-count-test.true (rw c.in-Ok-eq0.field-0-test at c.in-Ok-eq0.ensures.bytes)
    (c.in-Ok-eq0.ensures.end c.in-Ok-eq0.field-0-test (omega (arith, c.loop-count-test.true))))
    (rw (c.deref.ensures.value, c.prepare_read.ensures.same) at c.finish.ensures.ok _ r.text _ r.stands)

pub returns-in-Ok-eq0-clause-stopped : goal.returns-in-Ok-eq0-clause-stopped
returns-in-Ok-eq0-clause-stopped g c =
    let r = part_kept _ _ _ _ _ _ _ _ _ _ _ c.loop-count.invariant.reads c.prepare_read.ensures.kept in
    map_err c.finish.result _ _ _
    (λ e stops not some. end_stopped _ _ _ _ _ _ _ _ _ _ _ _ _ e _ r not (stops some).0 c.loop-count-test.true (rw c.in-Ok-eq0.field-0-test at c.in-Ok-eq0.ensures.bytes) (stops some).1)
    (rw (c.deref.ensures.value, c.prepare_read.ensures.same) at c.finish.ensures.stopped _ r.text _ r.stands)
    c.finish.ensures.fault

pub returns-in-Ok-eq0-clause-broken : goal.returns-in-Ok-eq0-clause-broken
returns-in-Ok-eq0-clause-broken g c =
    let r = part_kept _ _ _ _ _ _ _ _ _ _ _ c.loop-count.invariant.reads c.prepare_read.ensures.kept in
    map_err c.finish.result _ _ _
    (λ e breaks not is. end_broken _ _ _ _ _ _ _ _ _ _ _ _ _ r c.loop-count-test.true (rw c.in-Ok-eq0.field-0-test at c.in-Ok-eq0.ensures.bytes) (breaks is))
    (rw (c.deref.ensures.value, c.prepare_read.ensures.same) at c.finish.ensures.broken _ r.text _ r.stands)
    c.finish.ensures.fault

pub returns-in-Err-serve_piece-clause-stopped : goal.returns-in-Err-serve_piece-clause-stopped
returns-in-Err-serve_piece-clause-stopped g c = λ some.
    let r = part_kept _ _ _ _ _ _ _ _ _ _ _ c.loop-count.invariant.reads c.prepare_read.ensures.kept in
    let stops = (rw c.prepare_read.ensures.same at c.in-Err-serve_piece.ensures.stopped _ r.text _ r.stands) some in
    turn_stopped _ _ _ _ _ _ _ _ _ _ _ _ _ _ _ _ _ _ r c.in-Err-serve_piece.ensures.fault stops.0 c.loop-count-test.true c.in-Ok-read_piece.ensures.bytes (omega (arith, c.in-Ok-read_piece.ensures.within, c.loop-count-test.true)) c.min-within.ensures
    (omega (arith, c.in-Ok-read_piece.ensures.within, c.read_piece.ensures.size, c.loop-count.invariant.buffer))
    stops.1

pub returns-in-Err-serve_piece-clause-broken : goal.returns-in-Err-serve_piece-clause-broken
returns-in-Err-serve_piece-clause-broken g c = λ is.
    let r = part_kept _ _ _ _ _ _ _ _ _ _ _ c.loop-count.invariant.reads c.prepare_read.ensures.kept in
    turn_broken _ _ _ _ _ _ _ _ _ _ _ _ _ _ _ _ r c.loop-count-test.true c.in-Ok-read_piece.ensures.bytes (omega (arith, c.in-Ok-read_piece.ensures.within, c.loop-count-test.true)) c.min-within.ensures
    (omega (arith, c.in-Ok-read_piece.ensures.within, c.read_piece.ensures.size, c.loop-count.invariant.buffer))
    ((rw c.prepare_read.ensures.same at c.in-Err-serve_piece.ensures.broken _ r.text _ r.stands) is)

pub loop-count-preserved : goal.loop-count-preserved
loop-count-preserved g c =
    let r = part_kept _ _ _ _ _ _ _ _ _ _ _ c.loop-count.invariant.reads c.prepare_read.ensures.kept in
    record {
      small = omega (arith, c.in-Ok-read_piece.ensures.within, c.loop-count-test.true);
      buffer = c.read_piece.ensures.size ∙ c.loop-count.invariant.buffer;
      room = λ lack. (let before = c.loop-count.invariant.room lack in let more = c.serve_piece.ensures.text_room lack in omega (arith, before, more));
      reads = reads_more _ _ _ _ _ _ _ _ _ _ _ _ _ _ _ _ _ r c.loop-count-test.true c.in-Ok-read_piece.ensures.bytes (omega (arith, c.in-Ok-read_piece.ensures.within, c.loop-count-test.true)) c.min-within.ensures
          (omega (arith, c.in-Ok-read_piece.ensures.within, c.read_piece.ensures.size, c.loop-count.invariant.buffer))
          (rw c.prepare_read.ensures.same at c.in-Ok-serve_piece.ensures.ok _ r.text _ r.stands);
    }

pub returns-clause-broken : goal.returns-clause-broken
returns-clause-broken g c = λ _. part_broken _ _ _ _ _ _ _ _ _ _ _ c.loop-count.invariant.reads c.flush.ensures.kept
