use Rattle.std.proofs.Common.{◌≡◌, ◌++◌, map, take}
use Rattle.fw_store.specs.Keeping.{entry_for as line_for}
use Rattle.fw_store.proofs.lines.push_new.Given as goal

-- the lines so far are there
abbrev pub invariant-loop-image : goal.invariant-loop-image
invariant-loop-image l = l.entries.items ≡ l.fn.entries.items ++ map (line_for l.number) (take l.image-index l.images)
