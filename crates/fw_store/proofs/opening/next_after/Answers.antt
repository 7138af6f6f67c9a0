use Rattle.std.proofs.Common.{rules, ◌∙◌, ◌+◌, ap, max}
use Rattle.fw_store.proofs.Swept.{below_more, next_more}
use Rattle.fw_store.proofs.opening.next_after.Goals as goal

pub loop-entry-preserved : goal.loop-entry-preserved
loop-entry-preserved c = record {
  above =
      below_more c.args.entries.now c.loop-entry.entry-index c.entry-item.result c.loop-entry.next c.max-next.result c.loop-entry-test.true c.loop-entry.invariant.above (search rules)
      (search rules);
  value =
      next_more c.args.entries.now c.loop-entry.entry-index c.entry-item.result c.loop-entry.next c.max-next.result _ c.loop-entry-test.true
      (c.max-next.ensures ∙ ap (λ k. max c.loop-entry.next (k + 1)) (c.from.ensures ∙ ap (λ e. e.number) (c.entry.view_is ∙ c.entry-item.is))) c.loop-entry.invariant.value;
}
