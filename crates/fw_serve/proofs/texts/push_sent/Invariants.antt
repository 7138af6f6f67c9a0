use Rattle.std.proofs.Common.{◌≡◌, ◌++◌, length}
use Rattle.fw_serve.specs.Texts.{packets_spaced}
use Rattle.fw_serve.proofs.texts.push_sent.Given as goal

-- what is written and what is still to be sent are what was to be sent
abbrev pub invariant-loop-packet : goal.invariant-loop-packet
invariant-loop-packet l = l.text.items ++ packets_spaced l.outbox ≡ l.fn.text.items ++ packets_spaced l.fn.outbox

abbrev pub decreases-loop-packet : goal.decreases-loop-packet
decreases-loop-packet l = length l.outbox
