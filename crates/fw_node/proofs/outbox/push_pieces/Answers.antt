use Rattle.std.proofs.Common.{arith}
use Rattle.fw_node.specs.Packets.{packets_of}
use Rattle.fw_node.proofs.Pushed.{few, pushed_all}
use Rattle.fw_node.proofs.outbox.push_pieces.Goals as goal

pub returns-clause-packets : goal.returns-clause-packets
returns-clause-packets c =
    let most = few c.args.unit c.args.message.now in
    pushed_all _ _ (packets_of c.args.unit c.args.message.now) c.loop-number.number c.loop-number.invariant.sent (omega (arith, most, c.loop-number-test.false))
