use Rattle.std.proofs.Common.{◌≡◌, ◌≤◌, ◌+◌, ◌*◌, ◌++◌, drop, flat_map, length, map, take}
use Rattle.fw_node.specs.AgentViews.{half_in}
use Rattle.fw_node.specs.Agents.{begin_messages, session_half_after, ended_packets, log_after_part, session_half_idle}
use Rattle.fw_node.proofs.agent_node.wait_all.Given as goal

-- the halves so far have done their second and third parts, their packets are sent and their events
-- are noted
abbrev pub invariant-loop-half : goal.invariant-loop-half
invariant-loop-half l =
    record {
      halves : map (half_in 0) l.halves ≡ map (session_half_after l.packages) (take l.half-index (map (half_in 0) l.fn.halves)) ++ drop l.half-index (map (half_in 0) l.fn.halves);
      sent : l.outbox ≡ l.fn.outbox ++ flat_map (ended_packets l.packages) (take l.half-index (map (half_in 0) l.fn.halves));
      log : l.log ≡ log_after_part (session_half_idle l.packages) l.now l.fn.log (take l.half-index (map (half_in 0) l.fn.halves));
      room : length l.outbox ≤ length l.fn.outbox + 4 * length (flat_map (begin_messages l.packages) (take l.half-index (map (half_in 0) l.fn.halves)));
      count : length l.halves ≡ length l.fn.halves;
    }
