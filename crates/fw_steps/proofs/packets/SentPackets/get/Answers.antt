use Rattle.std.proofs.Common.{◌∙◌, arith, length, sym}
use Rattle.fw_steps.proofs.Spans.{ends_at, packet_found, packet_missing}
use Rattle.fw_steps.proofs.packets.SentPackets.get.Goals as goal

pub returns-in_default-clause-packet : goal.returns-in_default-clause-packet
returns-in_default-clause-packet c =
    packet_missing c.self.inside.start c.self.inside.places.now c.self.inside.bytes.now c.args.place c.args.self.now c.self.view_is (sym c.place_at.ensures ∙ c.in_default.is)

pub part-requires-clause-order : goal.part-requires-clause-order
part-requires-clause-order c =
    let ends =
    ends_at c.self.inside.start c.self.inside.places.now (length c.self.inside.bytes.now) c.args.place c.in-Some.found c.self.invariant (sym c.place_at.ensures ∙ c.in-Some.is) in
    omega (arith, ends.0, c.start_at-start.ensures)

pub part-requires-clause-within : goal.part-requires-clause-within
part-requires-clause-within c =
    (ends_at c.self.inside.start c.self.inside.places.now (length c.self.inside.bytes.now) c.args.place c.in-Some.found c.self.invariant (sym c.place_at.ensures ∙ c.in-Some.is)).2

pub returns-clause-packet : goal.returns-clause-packet
returns-clause-packet c =
    packet_found c.self.inside.start c.self.inside.places.now c.self.inside.bytes.now c.args.place c.start_at-start.result c.in-Some.found _ c.args.self.now
    c.self.view_is (sym c.place_at.ensures ∙ c.in-Some.is) c.start_at-start.ensures c.part.ensures.packet

pub returns-clause-short : goal.returns-clause-short
returns-clause-short c =
    let ends =
    ends_at c.self.inside.start c.self.inside.places.now (length c.self.inside.bytes.now) c.args.place c.in-Some.found c.self.invariant (sym c.place_at.ensures ∙ c.in-Some.is) in
    omega (arith, ends.1, c.start_at-start.ensures, c.part.ensures.size)
