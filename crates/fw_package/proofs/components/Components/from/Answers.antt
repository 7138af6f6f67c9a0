use Rattle.std.proofs.Common.{◌≡◌, ◌≤◌, ◌∙◌, drop, length, sym, ap, arith}
use Rattle.fw_package.proofs.Rows.{components_count, components_from}
use Rattle.fw_package.proofs.components.Components.from.Goals as goal

pub invariant_of-result : goal.invariant_of-result
invariant_of-result c =
    let all : length c.args.self.now ≡ c.self.inside.count = ap length (sym c.self.view_is) ∙ components_count c.self.inside.file.now c.self.inside.count c.self.inside.rest.now c.self.invariant in
    let within : c.args.number ≤ c.self.inside.count = omega (arith, all, c.requires) in
    (components_from c.self.inside.file.now c.self.inside.count c.args.number c.self.inside.rest.now c.in-Some.rest.now within c.self.invariant (sym c.in-Some.ensures)).are

pub returns : goal.returns
returns c =
    let all : length c.args.self.now ≡ c.self.inside.count = ap length (sym c.self.view_is) ∙ components_count c.self.inside.file.now c.self.inside.count c.self.inside.rest.now c.self.invariant in
    let within : c.args.number ≤ c.self.inside.count = omega (arith, all, c.requires) in
    (components_from c.self.inside.file.now c.self.inside.count c.args.number c.self.inside.rest.now c.in-Some.rest.now within c.self.invariant (sym c.in-Some.ensures)).list
    ∙ ap (drop c.args.number) c.self.view_is
