use Rattle.std.proofs.Common.{◌∙◌, sym}
use Rattle.fw_store.proofs.Swept.{stray_unnamed, swept_more, untouched_more}
use Rattle.fw_store.proofs.sweeping.sweep_one.Goals as goal

pub returns-clause-untouched : goal.returns-clause-untouched
returns-clause-untouched g c = λ known first touched.
    untouched_more c.args.entries.now first _ _ c.args.name.now touched (stray_unnamed c.args.entries.now c.args.name.now (sym c.in-Ok-true.ensures ∙ c.in-Ok-true.field-0-test)) (c.remove.ensures.others known)

pub returns-clause-moments : goal.returns-clause-moments
returns-clause-moments g c = λ known first past touched passes.
    swept_more c.args.entries.now first _ _ c.args.name.now past _ _ touched (stray_unnamed c.args.entries.now c.args.name.now (sym c.in-Ok-true.ensures ∙ c.in-Ok-true.field-0-test)) (c.remove.ensures.others known) passes (c.remove.ensures.moment known)
