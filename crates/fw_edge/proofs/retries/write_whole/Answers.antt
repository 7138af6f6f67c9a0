use Rattle.std.proofs.KnownBytes.{Appends-kept}
use Rattle.fw_edge.proofs.Pieces.{appends_more, below_all, slice_rest}
use Rattle.fw_edge.proofs.retries.write_whole.Goals as goal
use Rattle.fw_edge.proofs.retries.write_whole.Goals.{in-Err+else-ne, in-Ok+else-written-bytes}

pub loop-preserved : goal.loop-preserved
loop-preserved g c = elim c.match-write.branch [
  | in-Ok+else-written-bytes w ↦ rw w.written-is (record {
    within = below_all _ _ c.args.bytes.now c.loop.invariant.within w.in-Ok.ensures.bound w.if-written-bytes.false;
    so_far = appends_more _ _ _ c.args.bytes.now _ _ c.loop.invariant.so_far (rw (slice_rest c.loop.written c.args.bytes.now) at w.in-Ok.ensures.bytes);
  })
  | in-Err+else-ne w ↦ rw w.written-is (record {
    within = c.loop.invariant.within;
    so_far = Appends-kept _ _ _ _ c.loop.invariant.so_far w.in-Err.ensures.bytes;
  })
]
