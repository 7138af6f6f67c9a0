use Rattle.std.proofs.Common.{◌≤◌, All, length, subst, sym}
use Rattle.fw_package.specs.Reading.{IsUsing}
use Rattle.fw_package.proofs.Using.{all_using, few_components}
use Rattle.fw_package.proofs.contents.Contents.read.Goals as goal

pub returns-clause-using : goal.returns-clause-using
returns-clause-using c =
    subst (λ n. All (IsUsing n) c.in_ok-records.records) (sym c.from-2.ensures)
    (all_using c.in_ok-bitmap_size.bitmap_size c.in-Some.layout.component_count c.in-Some.layout.record_count c.in-Some.layout.records.now c.in_ok-records.records c.in_ok-records.ensures)

pub returns-clause-few : goal.returns-clause-few
returns-clause-few c =
    subst (λ n. n ≤ 2978) (sym c.from-2.ensures)
    (few_components c.in-Some.layout.component_count c.in-Some.layout.components.now (length c.in_ok-header.header.now) c.in-Some.ensures.components c.in-Some.ensures.inside c.in_ok-header.ensures.small)
