use Rattle.fw_setup.specs.Stocks.{stores_in}
use Rattle.fw_setup.proofs.Stocking.{AreSeenSoFar}
use Rattle.fw_setup.proofs.stores.read_stores.Given as goal

-- the devices so far have the images that their folders keep
abbrev pub invariant-loop-device : goal.invariant-loop-device
invariant-loop-device g l = AreSeenSoFar (stores_in (g.S.ReadStores.is_known l.stores) (g.S.ReadStores.files l.stores) l.root) l.fn.devices l.devices l.device-index
