use Rattle.std.proofs.Common.{map, take}
use Rattle.fw_store.specs.Changes.{files_of}
use Rattle.fw_store.proofs.Listing.{ListsNew}
use Rattle.fw_store.proofs.known.KnownFolderFolder.names.Given as goal

-- the names that the changes so far may have created are listed, if their files exist
abbrev pub invariant-loop-change : goal.invariant-loop-change
invariant-loop-change l = ListsNew (files_of l.self.changes.items) (take l.change-index l.self.changes.items) (map (λ n. n.items) l.names.items)
