use Rattle.std.proofs.Common.{subst}
use Rattle.fw_steps.specs.Sites.{HandlesVerdictAtSite}
use Rattle.fw_steps.proofs.Judging.{judged_here}
use Rattle.fw_steps.proofs.site.Site.judge_now.Goals as goal

pub returns-clause-judged : goal.returns-clause-judged
returns-clause-judged g c =
    subst (λ s. HandlesVerdictAtSite s.site c.args.verdict (record { node = c.verdict.new.self; since_miss = c.self.inside.since_miss; packets = c.self.inside.packets.packets })) c.self.view_is
    (judged_here c.self.inside.node c.verdict.new.self c.self.inside.since_miss c.self.inside.packets.packets c.args.verdict c.in-Ok.ensures.judged c.verdict.ensures.tid c.verdict.ensures.endpoint)
