use Rattle.std.proofs.Common.{◌≡◌, arith}
use Rattle.exch_lane.proofs.LaneRows.{taker_reads}
use Rattle.exch_lane.proofs.lane.taker_on_packet.Goals as goal

pub returns-clause-taker : goal.returns-clause-taker
returns-clause-taker c =
    let hears : c.args.deaf ≡ 0 = omega (arith, c.if-deaf-gt0.false) in
    rw (taker_reads c.args.deaf c.args.taker.now c.unit.result c.args.bytes.now c.in-Ok.packet hears c.in-Ok.ensures.value, hears) c.taker_answers.ensures.taker

pub returns-clause-packets : goal.returns-clause-packets
returns-clause-packets c =
    let hears : c.args.deaf ≡ 0 = omega (arith, c.if-deaf-gt0.false) in
    rw (taker_reads c.args.deaf c.args.taker.now c.unit.result c.args.bytes.now c.in-Ok.packet hears c.in-Ok.ensures.value) c.taker_answers.ensures.packets

pub returns-clause-entries : goal.returns-clause-entries
returns-clause-entries c =
    let hears : c.args.deaf ≡ 0 = omega (arith, c.if-deaf-gt0.false) in
    rw (taker_reads c.args.deaf c.args.taker.now c.unit.result c.args.bytes.now c.in-Ok.packet hears c.in-Ok.ensures.value) c.taker_answers.ensures.entries
