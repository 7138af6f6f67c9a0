use Rattle.mctp_wire.specs.Packet.{spelling}
use Rattle.fw_node.specs.Brings.{incoming_of}
use Rattle.fw_node.proofs.NodeHears.{calls_brings, hears_brings}
use Rattle.fw_node.proofs.half.Half.incoming.Goals as goal

pub returns-clause-brings : goal.returns-clause-brings
returns-clause-brings g c given works =
    hears_brings (g.C.Core.does given) works (g.C.Core.seen c.args.self.now.core) c.args.self.now.ends c.receive.new.self (spelling c.args.packet.now) (incoming_of c.receive.result c.receive.new.message)
    c.receive.ensures.lawful.0 c.receive.ensures.lawful.1 c.receive.ensures.lawful.2 c.receive.ensures.incoming c.receive.ensures.asking c.receive.ensures.answering

pub returns-clause-calls : goal.returns-clause-calls
returns-clause-calls g c given =
    calls_brings (g.C.Core.does given) (g.C.Core.seen c.args.self.now.core) c.args.self.now.ends c.receive.new.self (spelling c.args.packet.now) (incoming_of c.receive.result c.receive.new.message)
    c.receive.ensures.lawful.0 c.receive.ensures.lawful.1 c.receive.ensures.lawful.2 c.receive.ensures.incoming c.receive.ensures.asking
