use Rattle.std.proofs.Common.{◌++◌, ◌∷◌, ◌∙◌, [], ap, map, rules, take}
use Rattle.fw_script.specs.Seen.{device_of}
use Rattle.fw_setup.specs.Nodes.{nodes_made}
use Rattle.fw_setup.proofs.Making.{device_at, new_more, nodes_next}
use Rattle.fw_setup.proofs.nodes.node_all.Goals as goal

pub device_node-requires : goal.device_node-requires
device_node-requires g c = (device_at c.args.devices.now c.loop-config.config-index c.config-item.result (search rules) c.config-item.is c.loop-config.invariant.left).0

pub loop-config-preserved : goal.loop-config-preserved
loop-config-preserved g c = record {
  is =
      c.in-Ok.ensures.items ∙ ap (λ xs. xs ++ c.in_ok-node.node ∷ []) c.loop-config.invariant.is
      ∙ ap (λ n. nodes_made c.args.unit c.args.agent (map device_of (take c.loop-config.config-index c.args.devices.now)) ++ n ∷ []) c.in_ok-node.ensures.is
      ∙ nodes_next c.args.unit c.args.agent c.args.devices.now c.loop-config.config-index c.config-item.result (search rules) c.config-item.is;
  new =
      new_more c.args.unit c.args.agent c.loop-config.nodes.items c.push.new.self.items c.in_ok-node.node c.in-Ok.ensures.items c.loop-config.invariant.new
      c.in_ok-node.ensures.new;
  left = (device_at c.args.devices.now c.loop-config.config-index c.config-item.result (search rules) c.config-item.is c.loop-config.invariant.left).1;
}
