-- The nodes of a configuration.
use Rattle.std.specs.Prelude.{ℕ, List, None, map}
use Rattle.mctp_wire.specs.declared.unit.Unit.{«Unit»}
use Rattle.fd_core.specs.Images.{RowOf}
use Rattle.fd_core.specs.States.{DeviceOf, new_device}
use Rattle.fw_node.specs.Nodes.{DeviceNodeOf, new_device_node}
use Rattle.fw_script.specs.Configs.{ComponentConfigOf, DeviceConfigOf}

-- a component with its running image, and nothing applied
abbrev pub row_made : ComponentConfigOf → RowOf
row_made c = record { key = c.component.key; active = record { label = c.label; bytes = c.image }; applied = None }

-- a device in a network with this transmission unit
abbrev pub device_made : «Unit» → DeviceConfigOf → DeviceOf
device_made u x = record {
  device = new_device u x.descriptors (map (λ c. c.component) x.components) (map row_made x.components);
  idle = 0;
  faults = 0;
}

-- a device's node before its first packet
abbrev pub node_made : «Unit» → (agent : ℕ) → DeviceConfigOf → DeviceNodeOf
node_made u agent x = new_device_node x.endpoint agent (device_made u x)

abbrev pub nodes_made : «Unit» → (agent : ℕ) → List DeviceConfigOf → List DeviceNodeOf
nodes_made u agent xs = map (node_made u agent) xs
