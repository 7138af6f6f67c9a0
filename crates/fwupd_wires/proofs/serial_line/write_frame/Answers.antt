use Rattle.std.proofs.Common.{rules}
use Rattle.fwupd_wires.proofs.Writing.{writes_kept, writes_more}
use Rattle.fwupd_wires.proofs.serial_line.write_frame.Goals.{in-Ok, in-Err}
use Rattle.fwupd_wires.proofs.serial_line.write_frame.Goals as goal

pub loop-preserved : goal.loop-preserved
loop-preserved g c =
    let (within, before) = c.loop.invariant in
    elim c.match-write.branch [
      | in-Ok w ↦ rw w.written-is (search rules, writes_more _ _ _ c.args.frame.now c.loop.written w.in-Ok.count before w.in-Ok.ensures.bytes)
      | in-Err w ↦ rw w.written-is (within, writes_kept _ _ _ c.args.frame.now c.loop.written before w.in-Err.ensures.bytes)
    ]
