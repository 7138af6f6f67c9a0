-- The value of devices and their active images nests five levels deep.
use Rattle.std.proofs.Common.{◌≤◌, List, arith}
use Rattle.json.specs.Json.{max_depth}
use Rattle.json.specs.Tree.{depth}
use Rattle.fw_script.specs.Configs.{ComponentConfigOf, DeviceConfigOf}
use Rattle.fw_json.specs.Statuses.{component_status_value, device_status_value, status_value}
use Rattle.fw_json.proofs.Reading.{items_shallow}

component_shallow : (c : ComponentConfigOf) → depth (component_status_value c) ≤ 1
unfolding component_status_value
component_shallow c = omega arith

device_shallow : (x : DeviceConfigOf) → depth (device_status_value x) ≤ 3
unfolding device_status_value
device_shallow x =
    let components = items_shallow component_status_value 1 component_shallow x.components in
    omega (arith, components)

pub status_shallow : (xs : List DeviceConfigOf) → depth (status_value xs) ≤ max_depth
status_shallow xs =
    let devices = items_shallow device_status_value 3 device_shallow xs in
    omega (arith, devices)
