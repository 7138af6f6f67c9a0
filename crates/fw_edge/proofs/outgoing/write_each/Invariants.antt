use Rattle.std.proofs.Common.{map, take}
use Rattle.fw_edge.specs.Outcomes.{LinkWriteOk}
use Rattle.fw_edge.specs.Outgoing.{LinkTakesAll}
use Rattle.fw_edge.proofs.Taking.{bytes_in}
use Rattle.fw_edge.proofs.outgoing.write_each.Given as goal

-- the packets before the place were taken, and nothing was given
abbrev pub invariant-loop-place : goal.invariant-loop-place
invariant-loop-place g l = record {
  wrote : LinkWriteOk g.L.Link.tally g.L.Link.gave l.place l.fn.link l.link;
  took : LinkTakesAll l.device (g.L.Link.taken l.fn.link) (map bytes_in (take l.place l.packets)) (g.L.Link.taken l.link);
}
