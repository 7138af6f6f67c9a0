use Rattle.fwupd_watch.proofs.Lines.{LinesUpTo}
use Rattle.fwupd_watch.proofs.progress.lines_at.Given as goal

abbrev pub invariant-loop-place : goal.invariant-loop-place
invariant-loop-place l = LinesUpTo l.place l.fn.firsts l.firsts l.loads l.now l.lines.items
