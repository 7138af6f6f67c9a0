use Rattle.std.proofs.Common.{◌≡◌, ◌<◌, ◌∙◌, All, ap, arith, length, subst, sym}
use Rattle.fw_package.specs.Lent.{record_seen}
use Rattle.fw_package.specs.Package.{PackageText}
use Rattle.fw_package.proofs.Walked.{nothing_behind, using_at}
use Rattle.fw_package.proofs.packages.Package.record_at.Goals as goal

pub unreachable-requires : goal.unreachable-requires
unreachable-requires c =
    let same : length c.args.self.now.records ≡ length c.self.inside.records = ap (λ (p : PackageText). length p.records) (sym c.self.view_is) in
    let within : c.args.number < length c.self.inside.records = omega (arith, same, c.requires) in
    nothing_behind c.args.number c.self.inside.records within (sym c.from.ensures ∙ c.in_default.ensures.steps.0)

pub returns-clause-rising : goal.returns-clause-rising
returns-clause-rising c =
    let same : length c.args.self.now.records ≡ length c.self.inside.records = ap (λ (p : PackageText). length p.records) (sym c.self.view_is) in
    let within : c.args.number < length c.self.inside.records = omega (arith, same, c.requires) in
    (using_at (length c.self.inside.components) c.self.inside.records c.args.number (record_seen c.in-Some.«record») _ c.self.invariant.0 within (sym c.from.ensures ∙ c.in-Some.ensures.steps)).rising

pub returns-clause-there : goal.returns-clause-there
returns-clause-there c =
    let same : length c.args.self.now.records ≡ length c.self.inside.records = ap (λ (p : PackageText). length p.records) (sym c.self.view_is) in
    let within : c.args.number < length c.self.inside.records = omega (arith, same, c.requires) in
    let there = (using_at (length c.self.inside.components) c.self.inside.records c.args.number (record_seen c.in-Some.«record») _ c.self.invariant.0 within (sym c.from.ensures ∙ c.in-Some.ensures.steps)).there in
    subst (λ k. All (λ n. n < k) c.in-Some.«record».uses) (ap (λ (p : PackageText). length p.components) c.self.view_is) there
