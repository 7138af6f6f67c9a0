use Rattle.fwupd_nodes.proofs.agent_serving.serve_observed.Goals as goal

pub returns-clause-ended : goal.returns-clause-ended
returns-clause-ended g c = (c.serve_started-served.new.joined.line.observer, c.end.ensures.ends)
