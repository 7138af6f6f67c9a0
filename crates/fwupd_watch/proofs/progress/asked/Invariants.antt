use Rattle.std.proofs.Common.{◌≡◌, drop}
use Rattle.fwupd_watch.specs.Progress.{last_end}
use Rattle.fwupd_watch.proofs.progress.asked.Given as goal

-- by the packets so far, and by those that follow, the end is that of all
abbrev pub invariant-loop-place : goal.invariant-loop-place
invariant-loop-place l = last_end l.device l.end (drop l.place l.latest) ≡ last_end l.device 0 l.latest
