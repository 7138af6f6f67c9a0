use Rattle.std.proofs.Common.{◌≡◌, ◌++◌, drop, map, take}
use Rattle.fw_message.specs.Replays.{counted_restarted}
use Rattle.fw_message.proofs.messages.restart_each.Given as goal

-- the sessions so far have restarted
abbrev pub invariant-loop-pair : goal.invariant-loop-pair
invariant-loop-pair g l =
    l.pairs ≡ map (counted_restarted l.packages) (take l.pair-index l.fn.pairs) ++ drop l.pair-index l.fn.pairs
