use Rattle.fwupd_watch.proofs.Lines.{place_lined}
use Rattle.fwupd_watch.proofs.progress.lines_at.Goals as goal

pub loop-place-preserved : goal.loop-place-preserved
loop-place-preserved c =
    place_lined c.loop-place.place c.args.firsts.now c.loop-place.firsts c.args.loads.now c.args.now c.loop-place.lines.items c.push_line_at.new.lines.items c.push_line_at.new.first _ _
    c.loop-place.invariant c.loop-place-test.true c.push_line_at.ensures.lines c.push_line_at.ensures.first
