use Rattle.std.proofs.Common.{arith}
use Rattle.fw_edge.proofs.Latest.{last_lives, none_behind_all, none_behind_less, none_lives}
use Rattle.fw_edge.proofs.hearing.last_living.Goals as goal

pub loop-number-init : goal.loop-number-init
loop-number-init c = none_behind_all c.args.now c.args.packets.now c.args.packet.now.items c.len-number.result c.len-number.ensures

pub loop-number-preserved : goal.loop-number-preserved
loop-number-preserved c =
    none_behind_less c.args.now c.args.packets.now c.args.packet.now.items c.loop-number.number (omega (arith, c.loop-number-test.true))
    (c.is_living.ensures.no c.if-is_living.false) c.loop-number.invariant

pub returns-then-is_living : goal.returns-then-is_living
returns-then-is_living c =
    last_lives c.args.now c.args.packets.now c.args.packet.now.items c.loop-number.number (omega (arith, c.loop-number-test.true))
    (c.is_living.ensures.yes c.if-is_living.true) c.loop-number.invariant

pub returns : goal.returns
returns c = none_lives c.args.now c.args.packets.now c.args.packet.now.items c.loop-number.number c.args.dead c.loop-number-test.false c.requires c.loop-number.invariant
