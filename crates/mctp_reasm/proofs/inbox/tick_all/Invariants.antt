use Rattle.std.proofs.Common.{◌≡◌, map, ◌++◌, take, drop}
use Rattle.mctp_reasm.specs.Inboxes.{assembly_after_tick}
use Rattle.mctp_reasm.proofs.inbox.tick_all.Given as goal

-- the assemblies so far have ticked
abbrev pub invariant-loop-place : goal.invariant-loop-place
invariant-loop-place l = l.places ≡ map assembly_after_tick (take l.place-index l.fn.places) ++ drop l.place-index l.fn.places
