use Rattle.std.proofs.Common.{length}
use Rattle.fw_steps.proofs.Spans.{ends_rest, packets_none, packets_rest}
use Rattle.fw_steps.proofs.packets.SentPackets.behind.Goals as goal

pub returns-then-self-count : goal.returns-then-self-count
returns-then-self-count c =
    packets_none c.self.inside.start c.self.inside.places.now c.self.inside.bytes.now c.args.count c.args.self.now c.self.view_is c.if-self-count.true

pub invariant_of-result-2 : goal.invariant_of-result-2
invariant_of-result-2 c =
    ends_rest c.self.inside.start c.self.inside.places.now (length c.self.inside.bytes.now) c.args.count c.start_at.result c.self.invariant c.start_at.ensures

pub returns : goal.returns
returns c =
    packets_rest c.self.inside.start c.self.inside.places.now c.self.inside.bytes.now c.args.count c.start_at.result c.args.self.now c.self.view_is c.start_at.ensures
