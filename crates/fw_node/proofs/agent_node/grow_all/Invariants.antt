use Rattle.std.proofs.Common.{◌≡◌, ◌≤◌, ◌+◌, ◌*◌, ◌++◌, drop, flat_map, length, map, take}
use Rattle.std.specs.List.{AllByRecursion}
use Rattle.fw_node.specs.AgentViews.{half_in}
use Rattle.fw_node.specs.Agents.{IsAddressed, again_packets, begin_messages, session_half_aged, log_after_part}
use Rattle.fw_node.proofs.agent_node.grow_all.Given as goal

-- the halves so far are aged, their packets are sent and their events are noted
abbrev pub invariant-loop-half : goal.invariant-loop-half
invariant-loop-half l =
    record {
      halves : map (half_in 0) l.halves ≡ map (session_half_aged l.packages) (take l.half-index (map (half_in 0) l.fn.halves)) ++ drop l.half-index (map (half_in 0) l.fn.halves);
      sent : l.outbox ≡ l.fn.outbox ++ flat_map again_packets (take l.half-index (map (half_in 0) l.fn.halves));
      log : l.log ≡ log_after_part (session_half_aged l.packages) l.now l.fn.log (take l.half-index (map (half_in 0) l.fn.halves));
      room : length l.outbox + 4 * length (flat_map (begin_messages l.packages) (map (session_half_aged l.packages) (take l.half-index (map (half_in 0) l.fn.halves)))) ≤ length l.fn.outbox + 4 * l.half-index;
      addressed : AllByRecursion (IsAddressed l.packages) (take l.half-index (map (half_in 0) l.fn.halves));
      count : length l.halves ≡ length l.fn.halves;
    }
