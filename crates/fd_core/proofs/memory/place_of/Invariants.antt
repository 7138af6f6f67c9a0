use Rattle.std.proofs.Common.{◌≡◌, drop}
use Rattle.fd_core.specs.Areas.{place_for}
use Rattle.fd_core.proofs.memory.place_of.Given as goal

-- the component isn't among the places so far
abbrev pub invariant-loop-place : goal.invariant-loop-place
invariant-loop-place l = place_for (drop l.place-index l.places) l.key ≡ place_for l.places l.key
