use Rattle.std.proofs.Common.{◌≡◌, ◌++◌, drop, map}
use Rattle.fwupd_watch.specs.Traces.{reader_for, readers_for}
use Rattle.fwupd_watch.proofs.tracing.add_readers.Given as goal

-- the readers so far, then those to add
abbrev pub invariant-loop-place : goal.invariant-loop-place
invariant-loop-place g l = l.readers.items ++ map (reader_for l.world) (drop l.place l.world.sites) ≡ readers_for l.fn.readers.items l.world
