use Rattle.std.proofs.Common.{◌++◌, ◌≡◌, drop, map, take}
use Rattle.fd_core.specs.Areas.{place_after_switch}
use Rattle.fd_core.proofs.memory.activate_all.Given as goal

abbrev pub invariant-loop-place : goal.invariant-loop-place
invariant-loop-place l = l.places ≡ map place_after_switch (take l.place-index l.fn.places) ++ drop l.place-index l.fn.places
