use Rattle.std.proofs.Common.{◌∙◌, ap, sym}
use Rattle.fwupd_watch.specs.Progress.{firsts_left}
use Rattle.fwupd_watch.proofs.progress.ProgressDisplay.see_on.Goals as goal

pub returns-clause-firsts : goal.returns-clause-firsts
returns-clause-firsts g c =
    rw (sym c.due.ensures ∙ c.in-Some.is)
    (c.draw_on.ensures.firsts ∙ (c.lines_at-lines.ensures.firsts ∙ ap (λ loads. firsts_left c.args.self.now.firsts loads c.in-Some.now) c.loads_of-loads.ensures))
