use Rattle.std.proofs.Common.{◌≡◌, ◌++◌, map, take, true}
use Rattle.std.specs.List.{AllByRecursion}
use Rattle.fw_script.specs.Seen.{device_of}
use Rattle.fw_setup.specs.Stocks.{store_paths}
use Rattle.fw_setup.proofs.stores.make_folders.Given as goal

-- the folders of the devices so far can be made, and were made
abbrev pub invariant-loop-device : goal.invariant-loop-device
invariant-loop-device g l = record {
  made : AllByRecursion (λ x. g.S.Stores.makes l.fn.stores l.root x.endpoint.eid ≡ true) (map device_of (take l.device-index l.devices));
  log :
      g.S.ReadStores.is_known l.fn.stores ≡ true
      → g.S.Stores.made_paths l.stores ≡ g.S.Stores.made_paths l.fn.stores ++ store_paths l.root (map device_of (take l.device-index l.devices));
  known : g.S.ReadStores.is_known l.stores ≡ g.S.ReadStores.is_known l.fn.stores;
  files : g.S.ReadStores.files l.stores ≡ g.S.ReadStores.files l.fn.stores;
  agent_files : g.S.Stores.agent_files l.stores ≡ g.S.Stores.agent_files l.fn.stores;
  makes : g.S.Stores.makes l.stores ≡ g.S.Stores.makes l.fn.stores;
}
