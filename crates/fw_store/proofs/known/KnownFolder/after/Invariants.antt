use Rattle.std.proofs.Common.{◌≡◌, take}
use Rattle.fw_store.proofs.known.KnownFolder.after.Given as goal

-- the changes so far are made
abbrev pub invariant-loop-place : goal.invariant-loop-place
invariant-loop-place l = l.folder.changes.items ≡ take l.place l.self.changes.items
