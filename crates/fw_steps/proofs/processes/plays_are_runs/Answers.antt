use Rattle.fw_steps.proofs.PlaysAreRuns.Runs.{plays_are_runs}
use Rattle.fw_steps.proofs.processes.plays_are_runs.Goals as goal

pub returns : goal.returns
returns c = record { law = plays_are_runs }
