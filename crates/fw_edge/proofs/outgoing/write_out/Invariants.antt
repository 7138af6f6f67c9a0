use Rattle.std.proofs.Common.{◌≡◌, drop, map}
use Rattle.fw_edge.specs.Ledgers.{packet_counts}
use Rattle.fw_edge.specs.Outcomes.{LinksWriteOk}
use Rattle.fw_edge.proofs.Sending.{WrittenBefore}
use Rattle.fw_edge.proofs.Taking.{TookBefore}
use Rattle.fw_edge.proofs.outgoing.write_out.Given as goal

-- No link failed, was asked, or gave a frame. The links before the place took the unwritten
-- packets, and the others are unchanged.
abbrev pub invariant-loop-place : goal.invariant-loop-place
invariant-loop-place g l = record {
  took : TookBefore l.place l.world.sites l.fn.written l.written (map g.L.Link.taken l.fn.links) (map g.L.Link.taken l.links);
  gave : map g.L.Link.gave l.links ≡ map g.L.Link.gave l.fn.links;
  behind : drop l.place l.links ≡ drop l.place l.fn.links;
  wrote : LinksWriteOk g.L.Link.tally l.fn.written l.written l.fn.links l.links;
  written : WrittenBefore l.place l.written (packet_counts l.world.sites);
}
