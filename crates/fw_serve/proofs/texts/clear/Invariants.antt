use Rattle.std.proofs.Common.{length}
use Rattle.fw_serve.proofs.texts.clear.Given as goal

abbrev pub decreases-loop : goal.decreases-loop
decreases-loop l = length l.outbox
