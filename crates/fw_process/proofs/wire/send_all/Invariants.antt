use Rattle.std.proofs.Common.{[], ◌≡◌, map, length}
use Rattle.exch_lane.specs.Steps.{sent_at}
use Rattle.fw_process.specs.Processes.{line_with}
use Rattle.fw_process.proofs.wire.send_all.Given as goal

-- what was sent, and what is still to be sent, is what was to be sent
abbrev pub invariant-loop-packet : goal.invariant-loop-packet
invariant-loop-packet g l = record {
  line : line_with (g.L.Line.known l.line) [] (map (sent_at l.unit) l.outbox) ≡ line_with (g.L.Line.known l.fn.line) [] (map (sent_at l.fn.unit) l.fn.outbox);
}

abbrev pub decreases-loop-packet : goal.decreases-loop-packet
decreases-loop-packet g l = length l.outbox
