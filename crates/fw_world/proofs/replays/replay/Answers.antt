use Rattle.std.proofs.Common.{◌++◌}
use Rattle.fw_steps.proofs.Running.{run_append}
use Rattle.fw_world.proofs.Timely.{keeps_until, keeps_when}
use Rattle.fw_world.proofs.replays.replay.Goals as goal

pub returns-clause-grown : goal.returns-clause-grown
returns-clause-grown g c =
    c.moments_are_tied.ensures.grow c.args.world.now c.take_all-taken.new.world c.take_all-taken.ensures.led.steps c.take_all-taken.ensures.led.run

pub returns-clause-tied : goal.returns-clause-tied
returns-clause-tied g c =
    let r = c.is_promised.ensures.reached in
    c.moments_are_tied.ensures.tied r.opening c.args.world.now c.take_all-taken.new.world r.before c.take_all-taken.ensures.led.steps r.opens r.run c.take_all-taken.ensures.led.run

pub returns-clause-moments : goal.returns-clause-moments
returns-clause-moments g c =
    λ opening earlier later before between begins first second. (
      c.packets_are_safe.ensures.law opening later (before ++ between) begins (run_append opening earlier later before between first second),
      c.moments_are_tied.ensures.tied opening earlier later before between begins first second,
    )

pub returns-clause-time : goal.returns-clause-time
returns-clause-time g c =
    λ opening earlier later before between begins first second eid known.
    c.clocks_keep_time.ensures.law opening earlier later before between begins first second eid known

pub returns-clause-clocks : goal.returns-clause-clocks
returns-clause-clocks g c =
    keeps_when c.take_all-taken.result c.args.world.now c.take_all-taken.new.world c.args.steps.now c.is_promised.ensures.reached c.clocks_keep_time.ensures.law c.take_all-taken.ensures.ok

pub returns-clause-clocks_stopped : goal.returns-clause-clocks_stopped
returns-clause-clocks_stopped g c =
    keeps_until c.take_all-taken.result c.args.world.now c.take_all-taken.new.world c.args.steps.now c.is_promised.ensures.reached c.clocks_keep_time.ensures.law c.take_all-taken.ensures.stopped
