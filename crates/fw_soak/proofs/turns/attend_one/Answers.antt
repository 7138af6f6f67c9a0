use Rattle.fw_soak.proofs.turns.attend_one.Goals as goal

pub returns-clause-attends : goal.returns-clause-attends
returns-clause-attends c = record { judged = c.judge.new.course; verdict = c.in-Ok.ensures.verdict; activation = c.in-Ok-activate.ensures.activation; drawn = c.judge.ensures.after }
