use Rattle.fw_steps.specs.Steps.{Run}
use Rattle.fw_world.proofs.Taken.{all_taken}
use Rattle.fw_world.proofs.isolation.replay_two.Goals as goal

pub returns-clause-isolated : goal.returns-clause-isolated
returns-clause-isolated g c =
    λ agree same first second fine sound.
    c.devices_are_isolated.ensures.law c.args.device c.args.first.now c.args.second.now c.replay-first_result.new.world c.replay-second_result.new.world c.args.first_steps.now c.args.second_steps.now
    c.is_promised.ensures.reached c.is_promised-2.ensures.reached
    (all_taken c.replay-first_result.result (Run c.args.first.now c.args.first_steps.now c.replay-first_result.new.world) first c.replay-first_result.ensures.ok)
    (all_taken c.replay-second_result.result (Run c.args.second.now c.args.second_steps.now c.replay-second_result.new.world) second c.replay-second_result.ensures.ok)
    agree same fine sound
