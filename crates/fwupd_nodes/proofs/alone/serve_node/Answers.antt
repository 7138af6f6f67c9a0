use Rattle.std.proofs.Common.{refl, ◌∙◌}
use Rattle.fwupd_nodes.proofs.Lone.{node_lacks, node_served, node_stops, node_unreported}
use Rattle.fwupd_nodes.proofs.alone.serve_node.Goals as goal

pub returns-in-Err-clause-fault : goal.returns-in-Err-clause-fault
returns-in-Err-clause-fault g c = node_stops c.args.job c.args.node c.in-Ok.filter c.serve.new.server c.in-Err.fault _ _ (c.in-Ok.ensures ∙ rw c.requires.front refl) c.in-Err.ensures.fault refl

pub returns-in_default-end_turn-clause-fault : goal.returns-in_default-end_turn-clause-fault
returns-in_default-end_turn-clause-fault g c = node_lacks c.args.job c.args.node c.in-Ok.filter c.serve.new.server _ _ (c.in-Ok.ensures ∙ rw c.requires.front refl) c.in-Ok-serve.ensures.ok refl

pub returns-clause-ok : goal.returns-clause-ok
returns-clause-ok g c =
    node_served c.keep_device.result c.args.job c.args.node c.in-Ok.filter c.serve.new.server c.end_turn.new.self.device _ _ (c.in-Ok.ensures ∙ rw c.requires.front refl) c.in-Ok-serve.ensures.ok c.in-Ok-end_turn.ensures.due
    c.keep_device.ensures.reported

pub returns-clause-fault : goal.returns-clause-fault
returns-clause-fault g c = node_unreported c.keep_device.result c.args.job c.args.node c.in-Ok.filter c.serve.new.server _ _ (c.in-Ok.ensures ∙ rw c.requires.front refl) c.in-Ok-serve.ensures.ok c.keep_device.ensures.fault c.keep_device.ensures.unmade
