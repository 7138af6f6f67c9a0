use Rattle.fw_steps.proofs.PlaysAreRuns.Runs.{plays_are_safe}
use Rattle.fw_steps.proofs.processes.plays_are_safe.Goals as goal

pub returns : goal.returns
returns c = record { law = plays_are_safe c.packets_are_safe.ensures.law }
