use Rattle.std.proofs.KnownBytes.{Appends-kept}
use Rattle.fwupd_base.proofs.Streams.{appends_more, slice_rest, within_more}
use Rattle.fwupd_base.proofs.retries.write_whole.Goals as goal
use Rattle.fwupd_base.proofs.retries.write_whole.Goals.{in-Ok, in-Err+else-ne}

pub loop-preserved : goal.loop-preserved
loop-preserved g c = elim c.match-write.branch [
  | in-Ok w ↦ rw w.written-is (record {
    within = within_more _ _ c.args.bytes.now c.loop.invariant.within w.in-Ok.ensures.bound;
    so_far = appends_more _ _ _ c.args.bytes.now _ _ c.loop.invariant.so_far (rw (slice_rest c.loop.written c.args.bytes.now) at w.in-Ok.ensures.bytes);
  })
  | in-Err+else-ne w ↦ rw w.written-is (record {
    within = c.loop.invariant.within;
    so_far = Appends-kept _ _ _ _ c.loop.invariant.so_far w.in-Err.ensures.bytes;
  })
]
