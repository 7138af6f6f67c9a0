use Rattle.std.proofs.Common.{map, length, ap, sym, ◌≡◌, ◌<◌, ◌∙◌, arith}
use Rattle.fw_package.specs.Choice.{is_for}
use Rattle.fw_package.specs.Lent.{record_seen}
use Rattle.fw_package.specs.Package.{descriptor_of}
use Rattle.fw_package.proofs.Walked.{less_behind, nothing, place_found, place_none}
use Rattle.fw_package.proofs.Rows.{records_count}
use Rattle.fw_package.proofs.records.Records.position_for.Goals as goal

pub returns-then-is_for-clause-number : goal.returns-then-is_for-clause-number
returns-then-is_for-clause-number c =
    let some = less_behind c.loop-number.self c.next.new.self (record_seen c.in-Some.«record») c.in-Some.ensures.steps in
    let within : c.loop-number.number < length c.args.self = omega (arith, some, c.loop-number.invariant.counted) in
    place_found (is_for (map descriptor_of c.args.device.now)) c.loop-number.number c.loop-number.self c.args.self (record_seen c.in-Some.«record») c.next.new.self c.loop-number.invariant.same within
    c.in-Some.ensures.steps c.if-is_for.ensures

pub returns-in_default-clause-number : goal.returns-in_default-clause-number
returns-in_default-clause-number c =
    place_none (is_for (map descriptor_of c.args.device.now)) c.loop-number.number c.loop-number.self c.args.self c.loop-number.invariant.same c.loop-number.invariant.counted c.in_default.ensures.steps.0

pub returns-clause-number : goal.returns-clause-number
returns-clause-number c =
    let r = c.self.inside in
    let all : length c.args.self ≡ c.self.inside.count = ap length (sym c.self.view_is) ∙ records_count r.bitmap_size r.component_count r.count r.rest.now c.self.invariant in
    place_none (is_for (map descriptor_of c.args.device.now)) c.loop-number.number c.loop-number.self c.args.self c.loop-number.invariant.same c.loop-number.invariant.counted
    (nothing c.loop-number.self (omega (arith, all, c.loop-number.invariant.counted, c.loop-number-test.false)))
