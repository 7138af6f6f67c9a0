use Rattle.std.proofs.Common.{◌≡◌, arith}
use Rattle.exch_lane.proofs.LaneRows.{asker_reads}
use Rattle.exch_lane.proofs.lane.asker_on_packet.Goals as goal

pub returns-clause-asker : goal.returns-clause-asker
returns-clause-asker c =
    let hears : c.args.deaf ≡ 0 = omega (arith, c.if-deaf-gt0.false) in
    rw (asker_reads c.args.deaf c.args.asker.now c.unit.result c.args.bytes.now c.in-Ok.packet hears c.in-Ok.ensures.value, hears) c.asker_learns.ensures.asker

pub returns-clause-entries : goal.returns-clause-entries
returns-clause-entries c =
    let hears : c.args.deaf ≡ 0 = omega (arith, c.if-deaf-gt0.false) in
    rw (asker_reads c.args.deaf c.args.asker.now c.unit.result c.args.bytes.now c.in-Ok.packet hears c.in-Ok.ensures.value) c.asker_learns.ensures.entries
