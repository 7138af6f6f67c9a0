use Rattle.std.proofs.Common.{◌≡◌, take, true}
use Rattle.fw_store.specs.Keeping.{IsStoring, IsWriting}
use Rattle.fw_store.proofs.putting.write_images.Given as goal

-- the images so far are written
abbrev pub invariant-loop-image : goal.invariant-loop-image
invariant-loop-image g l = record {
  known : g.F.Folder.is_known l.folder ≡ g.F.Folder.is_known l.fn.folder;
  writing : g.F.Folder.is_known l.fn.folder ≡ true
      → IsWriting l.number (take l.image-index l.images) (g.F.Folder.files l.fn.folder) (g.F.Folder.files l.folder) (g.F.Folder.moments l.fn.folder) (g.F.Folder.moments l.folder);
  storing : g.F.Folder.is_known l.fn.folder ≡ true → IsStoring l.number (take l.image-index l.images) (g.F.Folder.stored l.fn.folder) (g.F.Folder.stored l.folder);
}
