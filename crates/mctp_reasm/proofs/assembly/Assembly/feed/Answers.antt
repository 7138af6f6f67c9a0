use Rattle.mctp_reasm.specs.Pieces.{packet_of}
use Rattle.mctp_reasm.proofs.Exact.{exact}
use Rattle.mctp_reasm.proofs.assembly.Assembly.feed.Goals as goal

pub returns-in-Open-clause-exact : goal.returns-in-Open-clause-exact
returns-in-Open-clause-exact c =
    exact c.args.self.now.unit c.args.self.now.held (packet_of c.args.packet.now.head c.args.packet.now.body.now) _ c.in-Open.ensures.lawful c.requires.same c.requires.body.0 c.requires.body.1 c.in-Open.ensures.joins c.in-Open.ensures.answer

pub returns-in-Whole-clause-exact : goal.returns-in-Whole-clause-exact
returns-in-Whole-clause-exact c =
    exact c.args.self.now.unit c.args.self.now.held (packet_of c.args.packet.now.head c.args.packet.now.body.now) _ c.in-Whole.ensures.lawful c.requires.same c.requires.body.0 c.requires.body.1 c.in-Whole.ensures.joins c.in-Whole.ensures.answer

pub returns-in-Dropped-clause-exact : goal.returns-in-Dropped-clause-exact
returns-in-Dropped-clause-exact c =
    exact c.args.self.now.unit c.args.self.now.held (packet_of c.args.packet.now.head c.args.packet.now.body.now) _ c.in-Dropped.ensures.lawful c.requires.same c.requires.body.0 c.requires.body.1 c.in-Dropped.ensures.joins c.in-Dropped.ensures.answer
