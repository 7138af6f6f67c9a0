use Rattle.fw_message.proofs.Moments.{runs_grow, runs_join, runs_stay_tied}
use Rattle.fw_message.proofs.laws.runs_stay_tied.Goals as goal

pub returns : goal.returns
returns c = record { join = runs_join; grow = runs_grow; tied = runs_stay_tied c.worlds_are_safe.ensures.law }
