use Rattle.fwupd_watch.proofs.Lines.{LoadsUpTo}
use Rattle.fwupd_watch.proofs.progress.loads_of.Given as goal

abbrev pub invariant-loop-place : goal.invariant-loop-place
invariant-loop-place g l = LoadsUpTo l.place l.loads l.world.sites
