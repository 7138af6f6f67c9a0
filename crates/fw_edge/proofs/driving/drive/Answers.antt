use Rattle.std.proofs.Common.{◌∙◌, sym}
use Rattle.fw_edge.proofs.Alive.{drives_living}
use Rattle.fw_edge.proofs.Gaining.{as_many_sites}
use Rattle.fw_edge.proofs.driving.drive.Goals as goal

pub returns-clause-drives : goal.returns-clause-drives
returns-clause-drives g c =
    drives_living c.args.world.now c.args.steps.now.items c.take_turns.new.world c.take_turns.new.steps.items c.take_turns.ensures.drives

pub returns-clause-devices : goal.returns-clause-devices
returns-clause-devices g c =
    c.take_turns.ensures.links ∙ c.requires
    ∙ sym (as_many_sites c.args.world.now c.args.steps.now.items c.take_turns.new.world c.take_turns.new.steps.items c.take_turns.ensures.drives)
