use Rattle.std.proofs.Common.{◌≡◌, drop}
use Rattle.fwupd_nodes.specs.Sessions.{devices_at, undone_after, undone_in}
use Rattle.fwupd_nodes.proofs.sessions.undone_in.Given as goal

-- the sessions so far, with the remaining ones after them, are all
abbrev pub invariant-loop-place : goal.invariant-loop-place
invariant-loop-place g l = undone_after l.undone l.world.agent (devices_at (drop l.place l.world.sites)) ≡ undone_in l.world
