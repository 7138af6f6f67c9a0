use Rattle.std.proofs.Common.{[], ◌++◌, ◌∷◌, ◌∙◌, ap, arith, get_or, map, refl}
use Rattle.std.proofs.lemmas.List.{map-append, take_all}
use Rattle.fw_script.specs.Seen.{device_of}
use Rattle.fw_script.specs.Whole.{eids_of}
use Rattle.fw_setup.specs.Stocks.{stores_in}
use Rattle.fw_setup.specs.declared.store_banks.DeviceStore.{DeviceStore}
use Rattle.fw_setup.proofs.Stocking.{all_end, eids_more, memory_so, seen_all, seen_more, seen_unopened, whole_stocked}
use Rattle.fw_setup.proofs.stores.open_each.Goals as goal

pub returns-in-Err-clause-fault : goal.returns-in-Err-clause-fault
returns-in-Err-clause-fault g c =
    let i = c.loop-device.device-index in
    let xs = c.loop-device.devices in
    seen_unopened (stores_in (g.S.ReadStores.is_known c.args.stores.now) (g.S.ReadStores.files c.args.stores.now) c.args.root.now) c.args.devices.now xs i (get_or xs i c.device-item.result) _ (omega arith) (omega arith)
    (ap (get_or xs i) c.device-item.is) refl c.in-Err.ensures.fault c.loop-device.invariant.kept

pub returns-in_default-clause-fault : goal.returns-in_default-clause-fault
returns-in_default-clause-fault g c =
    let i = c.loop-device.device-index in
    let xs = c.loop-device.devices in
    let s = stores_in (g.S.ReadStores.is_known c.args.stores.now) (g.S.ReadStores.files c.args.stores.now) c.args.root.now in
    seen_unopened s c.args.devices.now xs i (get_or xs i c.device-item.result) _ (omega arith) (omega arith)
    (ap (get_or xs i) c.device-item.is) refl (memory_so s (device_of (get_or xs i c.device-item.result))) c.loop-device.invariant.kept

pub loop-device-preserved : goal.loop-device-preserved
loop-device-preserved g c =
    let i = c.loop-device.device-index in
    let xs = c.loop-device.devices in
    let s = stores_in (g.S.ReadStores.is_known c.args.stores.now) (g.S.ReadStores.files c.args.stores.now) c.args.root.now in
    record {
      kept =
          seen_more s c.args.devices.now xs i (get_or xs i c.device-item.result) c.open_device.new.device (omega arith) (omega arith) (ap (get_or xs i) c.device-item.is) c.in-Ok.ensures.stocked
          c.loop-device.invariant.kept;
      order =
          ap (map (λ (x : DeviceStore g.row.F.Denot). x.device)) c.in-Ok-push.ensures
          ∙ map-append (λ (x : DeviceStore g.row.F.Denot). x.device) c.loop-device.banks.stores.items _
          ∙ ap (λ es. es ++ (get_or xs i c.device-item.result).endpoint.eid ∷ []) c.loop-device.invariant.order
          ∙ eids_more c.args.devices.now xs i (get_or xs i c.device-item.result) s (omega arith) (omega arith) (ap (get_or xs i) c.device-item.is) c.loop-device.invariant.kept;
      folders = λ known. rw c.in-Ok-push.ensures (all_end _ _ _ (c.loop-device.invariant.folders known) (c.in-Ok.ensures.untouched known));
    }

pub returns-clause-stocked : goal.returns-clause-stocked
returns-clause-stocked g c =
    seen_all (stores_in (g.S.ReadStores.is_known c.args.stores.now) (g.S.ReadStores.files c.args.stores.now) c.args.root.now) c.args.devices.now c.loop-device.devices c.loop-device.device-index (omega arith)
    c.loop-device.invariant.kept

pub returns-clause-whole : goal.returns-clause-whole
returns-clause-whole g c agent whole =
    let s = stores_in (g.S.ReadStores.is_known c.args.stores.now) (g.S.ReadStores.files c.args.stores.now) c.args.root.now in
    whole_stocked s agent (map device_of c.args.devices.now) (map device_of c.loop-device.devices)
    (seen_all s c.args.devices.now c.loop-device.devices c.loop-device.device-index (omega arith) c.loop-device.invariant.kept) whole

pub returns-clause-order : goal.returns-clause-order
returns-clause-order g c =
    c.loop-device.invariant.order ∙ ap (λ ds. eids_of (map device_of ds)) (take_all c.loop-device.device-index c.args.devices.now (omega arith))
