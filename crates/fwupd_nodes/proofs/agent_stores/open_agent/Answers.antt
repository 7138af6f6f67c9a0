use Rattle.fwupd_nodes.specs.AgentStores.{agent_setup_seen}
use Rattle.fwupd_nodes.proofs.AgentStores.{begins_with}
use Rattle.fwupd_nodes.proofs.agent_stores.open_agent.Goals as goal

pub returns-in-Ok-claimed_node-clause-begins : goal.returns-in-Ok-claimed_node-clause-begins
returns-in-Ok-claimed_node-clause-begins g c =
    begins_with (g.T.ReadStores.is_known c.args.stores.now) (g.T.Stores.agent_files c.args.stores.now) c.args.root.now (g.F.Folder.is_known c.in-Ok.folder)
    (g.F.Folder.files c.in-Ok.folder) (agent_setup_seen c.args.setup.now) c.in-Ok-claimed_node.node
    c.in-Ok.ensures.known c.in-Ok.ensures.files c.in-Ok-claimed_node.ensures.begins
