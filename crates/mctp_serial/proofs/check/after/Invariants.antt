use Rattle.std.proofs.Common.{◌≡◌, drop}
use Rattle.mctp_serial.specs.Check.{check_after}
use Rattle.mctp_serial.proofs.check.after.Given as goal

abbrev pub invariant-loop-byte : goal.invariant-loop-byte
invariant-loop-byte l = check_after l.check (drop l.byte-index l.bytes) ≡ check_after l.start l.bytes
