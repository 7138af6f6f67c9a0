use Rattle.std.proofs.Common.{◌∙◌, ap, arith}
use Rattle.fw_store.specs.Kept.{KeptOf}
use Rattle.fw_store.proofs.Left.{apart_whole, none_found}
use Rattle.fw_store.proofs.lines.+are_apart.Goals as goal

pub returns-then-is_none : goal.returns-then-is_none
returns-then-is_none t c = λ all.
    apart_whole c.args.images.now _ (omega (arith, c.in-len1-up.len_at_least)) (ap (λ (k : KeptOf). k.key) (c.first.view_is ∙ c.first-item.is))
    (none_found _ c.find.result _ c.find.ensures c.if-is_none.ensures) (c.are_apart.ensures all)
