use Rattle.std.proofs.Common.{◌≡◌, drop}
use Rattle.fd_core.specs.Areas.{place_for}
use Rattle.fd_core.proofs.memory.position.Given as goal

-- the component isn't among the places so far
abbrev pub invariant-loop-i : goal.invariant-loop-i
invariant-loop-i l = place_for (drop l.i l.places) l.key ≡ place_for l.places l.key
