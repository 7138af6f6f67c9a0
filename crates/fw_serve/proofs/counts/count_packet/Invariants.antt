use Rattle.std.proofs.Common.{◌≡◌, ◌++◌, drop, map, take}
use Rattle.fw_serve.specs.Agents.{count_with}
use Rattle.fw_serve.proofs.counts.count_packet.Given as goal

-- the counts before the index are those after the packet
abbrev pub invariant-loop-sent : goal.invariant-loop-sent
invariant-loop-sent l = l.counts ≡ map (count_with l.packet) (take l.sent-index l.fn.counts) ++ drop l.sent-index l.fn.counts
