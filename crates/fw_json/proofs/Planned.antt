-- The value of a plan nests seven levels deep.
use Rattle.mctp_wire.specs.declared.unit.Unit.TheVariants.{U64}
use Rattle.std.proofs.Common.{◌≤◌, ◌+◌, ℕ, codes, List, Option, Some, None, Result, Ok, Err, map, arith}
use Rattle.json.specs.Json.{Json, Items, max_depth, no_items, null}
use Rattle.json.specs.Tree.{depth, items_depth}
use Rattle.fd_core.specs.Images.{RowOf, row_of}
use Rattle.fd_core.specs.States.{DeviceState}
use Rattle.fw_package.specs.Choice.{component_at, plan_of, record_at, record_number}
use Rattle.fw_package.specs.Package.{ComponentOf, DescriptorOf, PackageText, RecordOf}
use Rattle.fw_package.specs.declared.fault.PlanFault.{PlanFault}
use Rattle.fw_script.specs.Configs.{DeviceConfigOf}
use Rattle.fw_setup.specs.Forecasts.{first_lacked, plan_word, update_word}
use Rattle.fw_setup.specs.Nodes.{device_made}
use Rattle.ua_core.specs.Lent.{key_of, package_descriptor}
use Rattle.fw_json.specs.Inspections.{descriptor_value}
use Rattle.fw_json.specs.Plans.{configured_value, device_forecast, found_value, lack_value, offer_items, offer_value, plan_value, planned_value, running_value}
use Rattle.fw_json.specs.Values.{number_value, numbered_items, optional_value, text_value}
use Rattle.fw_json.proofs.Inspected.{descriptor_shallow}
use Rattle.fw_json.proofs.Reading.{counted_shallow, items_shallow}

optional_shallow : {A : Type 0} (f : A → Json) (n : ℕ) (o : Option A) → ((x : A) → depth (f x) ≤ n) → depth (optional_value f o) ≤ n
optional_shallow f n None h = omega arith
optional_shallow f n (Some x) h = h x

lack_shallow : (device : List DescriptorOf) (n : ℕ) (r : RecordOf) → depth (lack_value device n r) ≤ 2
unfolding lack_value
lack_shallow device n r =
    let lacked = optional_shallow descriptor_value 1 (first_lacked device r.descriptors) descriptor_shallow in
    omega (arith, lacked)

running_shallow : (row : RowOf) → depth (running_value row) ≤ 1
unfolding running_value
running_shallow row = omega arith

offer_shallow : (rows : List RowOf) (c : ComponentOf) → depth (offer_value rows c) ≤ 2
unfolding offer_value
offer_shallow rows c =
    let active = optional_shallow running_value 1 (row_of rows (key_of c)) running_shallow in
    omega (arith, active)

offers_shallow : (p : PackageText) (rows : List RowOf) (ns : List ℕ) → items_depth (offer_items p rows ns) ≤ 2
offers_shallow p rows ns = items_shallow (λ n. offer_value rows (component_at p n)) 2 (λ n. offer_shallow rows (component_at p n)) ns

forecast_shallow : (eid : ℕ) (chosen set : Json) (word : List ℕ) (lacks components : Items) → depth chosen ≤ 0 → depth set ≤ 0 → items_depth lacks ≤ 2
    → items_depth components ≤ 2 → depth (device_forecast eid chosen set word lacks components) ≤ 4
unfolding device_forecast
forecast_shallow eid chosen set word lacks components flat_chosen flat_set few some = omega (arith, flat_chosen, flat_set, few, some)

planned_shallow : (eid chosen : ℕ) (p : PackageText) (rows : List RowOf) (r : Result (List ℕ) PlanFault) → depth (planned_value eid chosen p rows r) ≤ 4
planned_shallow eid chosen p rows (Err fault) =
    forecast_shallow eid (number_value (chosen + 1)) (text_value (record_at p chosen).set_text.bytes) (plan_word fault) no_items no_items (omega arith) (omega arith) (omega arith) (omega arith)
planned_shallow eid chosen p rows (Ok ns) =
    forecast_shallow eid (number_value (chosen + 1)) (text_value (record_at p chosen).set_text.bytes) (update_word p rows ns) no_items (offer_items p rows ns)
    (omega arith) (omega arith) (omega arith) (offers_shallow p rows ns)

found_shallow : (eid : ℕ) (p : PackageText) (v : DeviceState) (o : Option ℕ) → depth (found_value eid p v o) ≤ 4
found_shallow eid p v None =
    let device = map package_descriptor v.descriptors in
    forecast_shallow eid null null (codes "NoRecord") (numbered_items (lack_value device) 1 p.records) no_items (omega arith) (omega arith)
    (counted_shallow (lack_value device) 2 (lack_shallow device) 1 p.records) (omega arith)
found_shallow eid p v (Some chosen) = planned_shallow eid chosen p v.rows (plan_of p chosen)

configured_shallow : (p : PackageText) (x : DeviceConfigOf) → depth (configured_value p x) ≤ 4
configured_shallow p x =
    found_shallow x.endpoint.eid p (device_made U64 x).device (record_number p (map package_descriptor (device_made U64 x).device.descriptors))

pub plan_shallow : (number : ℕ) (p : PackageText) (devices : List DeviceConfigOf) → depth (plan_value number p devices) ≤ max_depth
plan_shallow number p devices =
    let all = items_shallow (configured_value p) 4 (configured_shallow p) devices in
    omega (arith, all)
