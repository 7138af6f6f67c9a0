use Rattle.std.proofs.Common.{◌≡◌, drop, true}
use Rattle.fw_store.specs.Folders.{images_of as images_by}
use Rattle.fw_store.proofs.FoundImages.{in_front}
use Rattle.fw_store.proofs.looking.images.Given as goal

-- the images so far are there, and the others are left
abbrev pub invariant-loop-entry : goal.invariant-loop-entry
invariant-loop-entry g l = g.F.Folder.is_known l.folder ≡ true
    → in_front l.images.items (images_by (g.F.Folder.files l.folder) (drop l.entry-index l.entries)) ≡ images_by (g.F.Folder.files l.folder) l.entries
