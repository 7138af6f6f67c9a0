use Rattle.std.proofs.Common.{◌≡◌, ◌-◌, length, take}
use Rattle.fw_store.specs.Changes.{files_of}
use Rattle.fw_store.proofs.known.KnownFolder.bytes.Given as goal

-- the last `back` changes are seen
abbrev pub invariant-loop-back : goal.invariant-loop-back
invariant-loop-back l = files_of (take (length l.self.changes.items - l.back) l.self.changes.items) l.wanted ≡ files_of l.self.changes.items l.name
