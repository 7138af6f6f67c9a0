use Rattle.std.proofs.Common.{replicate, ◌≡◌, ◌++◌}
use Rattle.ua_core.proofs.piece.pad.Given as goal

-- as many zeros are appended as turns are done
abbrev pub invariant-loop-added : goal.invariant-loop-added
invariant-loop-added l = l.piece.items ≡ l.fn.piece.items ++ replicate l._added 0
