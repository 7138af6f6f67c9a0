use Rattle.std.proofs.Common.{◌≡◌, ◌≤◌, ◌++◌, length}
use Rattle.fw_steps.specs.Worlds.{sent_now}
use Rattle.fw_steps.proofs.packets.Packets.drain.Given as goal

-- the packets there and the packets left in the outbox are those of before; there is room for them
abbrev pub invariant-loop-packet : goal.invariant-loop-packet
invariant-loop-packet l =
    record {
      packets : l.self.packets ++ sent_now l.date l.outbox ≡ l.fn.self.packets ++ sent_now l.date l.fn.outbox;
      room : length l.outbox ≤ l.self.room;
    }

abbrev pub decreases-loop-packet : goal.decreases-loop-packet
decreases-loop-packet l = length l.outbox
