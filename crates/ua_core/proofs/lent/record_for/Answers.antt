use Rattle.std.proofs.Common.{ap, map, take, ◌∙◌}
use Rattle.fw_package.specs.Choice.{record_number}
use Rattle.fw_package.specs.Package.{descriptor_of}
use Rattle.ua_core.proofs.lent.record_for.Goals as goal

pub returns-clause-number : goal.returns-clause-number
returns-clause-number c =
    c.record_for.ensures.number
    ∙ ap (λ n. record_number c.args.«package».now (map descriptor_of (take n c.known-known.result))) c.len.ensures.count
    ∙ ap (record_number c.args.«package».now) c.known-known.ensures
