use Rattle.fwupd_nodes.proofs.alone.device_setup.Goals as goal

pub returns-in-Ok-only_device-clause-whole : goal.returns-in-Ok-only_device-clause-whole
returns-in-Ok-only_device-clause-whole g c = c.in-Ok-only_device.ensures.whole c.in-Ok.config.agent.eid c.in-Ok.ensures.whole
