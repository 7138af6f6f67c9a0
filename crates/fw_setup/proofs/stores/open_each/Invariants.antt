use Rattle.std.proofs.Common.{◌≡◌, map, take, true}
use Rattle.std.specs.List.{AllByRecursion}
use Rattle.fw_script.specs.Seen.{device_of}
use Rattle.fw_script.specs.Whole.{eids_of}
use Rattle.fw_setup.specs.Stocks.{stores_in}
use Rattle.fw_setup.proofs.Stocking.{AreSeenSoFar}
use Rattle.fw_setup.proofs.stores.open_each.Given as goal

-- the devices so far have the images that their stores keep, and the stores are theirs
abbrev pub invariant-loop-device : goal.invariant-loop-device
invariant-loop-device g l = record {
  kept : AreSeenSoFar (stores_in (g.S.ReadStores.is_known l.stores) (g.S.ReadStores.files l.stores) l.root) l.fn.devices l.devices l.device-index;
  order : map (λ s. s.device) l.banks.stores.items ≡ eids_of (map device_of (take l.device-index l.fn.devices));
  folders : g.S.ReadStores.is_known l.stores ≡ true → AllByRecursion (λ s. g.F.Folder.files s.store.folder ≡ g.S.ReadStores.files l.stores l.root s.device) l.banks.stores.items;
}
