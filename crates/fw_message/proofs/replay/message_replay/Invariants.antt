use Rattle.std.proofs.Common.{take}
use Rattle.fw_message.specs.Replays.{MessageRun}
use Rattle.fw_message.proofs.replay.message_replay.Given as goal

-- the steps so far are taken
abbrev pub invariant-loop-i : goal.invariant-loop-i
invariant-loop-i g l = MessageRun l.fn.world (take l.i l.steps) l.world
