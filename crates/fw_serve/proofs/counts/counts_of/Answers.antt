use Rattle.std.proofs.Common.{◌∙◌, ◌++◌, ap, arith, slice_get, sym}
use Rattle.fw_serve.specs.Agents.{count_of_half}
use Rattle.fw_serve.proofs.NodeCounts.{counts_more}
use Rattle.fw_serve.proofs.counts.counts_of.Goals as goal

pub loop-place-preserved : goal.loop-place-preserved
loop-place-preserved c =
    c.in_ok-push_count.ensures ∙ ap (λ cs. cs ++ count_of_half (slice_get c.args.agent.now.halves c.loop-place.place)) c.loop-place.invariant
    ∙ sym (counts_more c.args.agent.now.halves c.loop-place.place (omega (arith, c.loop-place-test.true, c.device_count-place-end.ensures.count)))
