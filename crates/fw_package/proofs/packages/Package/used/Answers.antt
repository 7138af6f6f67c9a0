use Rattle.std.proofs.Common.{◌<◌, ◌∙◌, All, ap, length, map, subst, sym}
use Rattle.fw_package.specs.Choice.{component_at}
use Rattle.fw_package.specs.Package.{PackageText}
use Rattle.fw_package.proofs.Walked.{few_used, walked}
use Rattle.fw_package.proofs.packages.Package.used.Goals as goal

pub new-requires : goal.new-requires
new-requires c =
    (walked c.self.inside.components c.args.uses.now c.requires.rising
    (subst (λ k. All (λ n. n < k) c.args.uses.now) (ap (λ (p : PackageText). length p.components) (sym c.self.view_is)) c.requires.there)).0

pub returns-clause-value : goal.returns-clause-value
returns-clause-value c =
    c.new.ensures
    ∙ (walked c.self.inside.components c.args.uses.now c.requires.rising
    (subst (λ k. All (λ n. n < k) c.args.uses.now) (ap (λ (p : PackageText). length p.components) (sym c.self.view_is)) c.requires.there)).1
    ∙ ap (λ (p : PackageText). map (component_at p) c.args.uses.now) c.self.view_is

pub returns-clause-few : goal.returns-clause-few
returns-clause-few c =
    few_used c.self.inside.components c.args.uses.now c.new.result c.requires.rising
    (subst (λ k. All (λ n. n < k) c.args.uses.now) (ap (λ (p : PackageText). length p.components) (sym c.self.view_is)) c.requires.there) c.self.invariant.1 c.new.ensures
