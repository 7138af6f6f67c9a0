use Rattle.std.proofs.Common.{◌≡◌, ◌+◌, ◌++◌, take, length, map}
use Rattle.fw_node.specs.Packets.{packets_of}
use Rattle.fw_node.proofs.outbox.push_pieces.Given as goal

-- the pieces so far are after the packets that were there
abbrev pub invariant-loop-number : goal.invariant-loop-number
invariant-loop-number l =
    record {
      sent : map (λ p. p.items) l.out.items ≡ map (λ p. p.items) l.fn.out.items ++ take l.number (packets_of l.unit l.message);
      count : length l.out.items ≡ length l.fn.out.items + l.number;
      capacity : l.out.capacity ≡ l.fn.out.capacity;
    }
