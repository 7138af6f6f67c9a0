use Rattle.std.proofs.Common.{◌≡◌, drop, map, take}
use Rattle.std.specs.List.{AllByRecursion}
use Rattle.fw_script.specs.Seen.{device_of}
use Rattle.fw_script.specs.Whole.{IsDevice}
use Rattle.fw_setup.specs.Nodes.{nodes_made}
use Rattle.fw_steps.specs.Opening.{IsNewNode}
use Rattle.fw_setup.proofs.nodes.node_all.Given as goal

-- the nodes of the devices that were passed
abbrev pub invariant-loop-config : goal.invariant-loop-config
invariant-loop-config g l = record {
  is : l.nodes.items ≡ nodes_made l.unit l.agent (map device_of (take l.config-index l.devices));
  new : AllByRecursion (IsNewNode l.unit l.agent) l.nodes.items;
  left : AllByRecursion IsDevice (map device_of (drop l.config-index l.devices));
}
