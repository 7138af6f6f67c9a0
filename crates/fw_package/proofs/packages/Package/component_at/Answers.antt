use Rattle.std.proofs.Common.{◌≡◌, ◌<◌, ◌∙◌, ap, arith, length, sym}
use Rattle.fw_package.specs.Package.{PackageText}
use Rattle.fw_package.proofs.Walked.{nothing_behind}
use Rattle.fw_package.proofs.packages.Package.component_at.Goals as goal

pub unreachable-requires : goal.unreachable-requires
unreachable-requires c =
    let same : length c.args.self.now.components ≡ length c.self.inside.components = ap (λ (p : PackageText). length p.components) (sym c.self.view_is) in
    let within : c.args.number < length c.self.inside.components = omega (arith, same, c.requires) in
    nothing_behind c.args.number c.self.inside.components within (sym c.from.ensures ∙ c.in_default.ensures.steps.0)
