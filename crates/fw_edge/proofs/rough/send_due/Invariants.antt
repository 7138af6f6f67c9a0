use Rattle.std.proofs.Common.{◌≡◌, length, take}
use Rattle.std.specs.List.{filter}
use Rattle.fw_edge.specs.Ledgers.{TakesPackets}
use Rattle.fw_edge.specs.Roughening.{GoOut, helds_of, is_due}
use Rattle.fw_edge.proofs.rough.send_due.Given as goal

-- the due packets before the index were passed on, and nothing was given
abbrev pub invariant-loop-packet : goal.invariant-loop-packet
invariant-loop-packet g l = record {
  out : GoOut (filter (is_due l.turn) (helds_of (take l.packet-index l.held))) (g.L.Link.taken l.fn.link) (g.L.Link.taken l.link);
  counts : TakesPackets (length (filter (is_due l.turn) (helds_of (take l.packet-index l.held)))) (g.L.Link.tally l.fn.link) (g.L.Link.tally l.link);
  gave : g.L.Link.gave l.link ≡ g.L.Link.gave l.fn.link;
}
