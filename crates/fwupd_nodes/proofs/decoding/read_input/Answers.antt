use Rattle.std.proofs.Common.{arith}
use Rattle.fwupd_nodes.proofs.decoding.read_input.Goals as goal

pub returns-clause-over : goal.returns-clause-over
returns-clause-over g c is = record { bytes = c.loop-piece.bytes.items; read = c.loop-piece.invariant.came; over = omega (arith, c.loop-piece-test.false, c.len.ensures) }
