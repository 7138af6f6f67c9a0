use Rattle.std.proofs.Common.{◌++◌, ◌≡◌, drop, map, take}
use Rattle.fd_core.specs.Areas.{place_after_drop}
use Rattle.fd_core.proofs.memory.forget_all.Given as goal

abbrev pub invariant-loop-place : goal.invariant-loop-place
invariant-loop-place l = l.places ≡ map place_after_drop (take l.place-index l.fn.places) ++ drop l.place-index l.fn.places
