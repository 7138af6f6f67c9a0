use Rattle.std.proofs.Common.{◌≡◌, ◌≤◌, ◌∙◌, drop, length, sym, ap, arith}
use Rattle.fw_package.proofs.Rows.{records_count, records_from}
use Rattle.fw_package.proofs.records.Records.from.Goals as goal

pub invariant_of-result : goal.invariant_of-result
invariant_of-result c =
    let r = c.self.inside in
    let all : length c.args.self.now ≡ c.self.inside.count = ap length (sym c.self.view_is) ∙ records_count r.bitmap_size r.component_count r.count r.rest.now c.self.invariant in
    let within : c.args.number ≤ c.self.inside.count = omega (arith, all, c.requires) in
    (records_from r.bitmap_size r.component_count r.count c.args.number r.rest.now c.in-Some.rest.now within c.self.invariant (sym c.in-Some.ensures)).are

pub returns : goal.returns
returns c =
    let r = c.self.inside in
    let all : length c.args.self.now ≡ c.self.inside.count = ap length (sym c.self.view_is) ∙ records_count r.bitmap_size r.component_count r.count r.rest.now c.self.invariant in
    let within : c.args.number ≤ c.self.inside.count = omega (arith, all, c.requires) in
    (records_from r.bitmap_size r.component_count r.count c.args.number r.rest.now c.in-Some.rest.now within c.self.invariant (sym c.in-Some.ensures)).list
    ∙ ap (drop c.args.number) c.self.view_is
