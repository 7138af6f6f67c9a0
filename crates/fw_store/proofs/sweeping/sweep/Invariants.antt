use Rattle.std.proofs.Common.{◌≡◌, false, map, take, true}
use Rattle.fw_store.specs.Folders.{PassesStates}
use Rattle.fw_store.specs.Opening.{IsUntouched}
use Rattle.fw_store.specs.Strays.{ChangesOnlyStrays, SweepsNames}
use Rattle.fw_store.proofs.sweeping.sweep.Given as goal

-- the files that the lines name are as before, and were at each moment; the strays so far are
-- removed
abbrev pub invariant-loop-name : goal.invariant-loop-name
invariant-loop-name g l = record {
  known : g.F.Folder.is_known l.folder ≡ g.F.Folder.is_known l.fn.folder;
  fails : g.F.Folder.may_fail l.folder ≡ g.F.Folder.may_fail l.fn.folder;
  untouched : g.F.Folder.is_known l.fn.folder ≡ true → IsUntouched l.entries (g.F.Folder.files l.fn.folder) (g.F.Folder.files l.folder);
  passes : g.F.Folder.is_known l.fn.folder ≡ true
      → PassesStates (IsUntouched l.entries (g.F.Folder.files l.fn.folder)) (g.F.Folder.moments l.fn.folder) (g.F.Folder.moments l.folder);
  only : g.F.Folder.is_known l.fn.folder ≡ true → ChangesOnlyStrays l.entries (g.F.Folder.files l.fn.folder) (g.F.Folder.files l.folder);
  swept : g.F.Folder.is_known l.fn.folder ≡ true
      → g.F.Folder.may_fail l.fn.folder ≡ false
      → SweepsNames l.entries (map (λ n. n.items) (take l.name-index l.names)) (g.F.Folder.files l.fn.folder) (g.F.Folder.files l.folder);
}
