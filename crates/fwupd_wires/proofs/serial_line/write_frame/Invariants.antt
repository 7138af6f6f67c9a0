use Rattle.std.proofs.Common.{◌≤◌, length, take}
use Rattle.std.specs.Io.KnownBytes.{Appends}
use Rattle.fwupd_wires.proofs.serial_line.write_frame.Given as goal

abbrev pub invariant-loop : goal.invariant-loop
invariant-loop g l =
    (l.written ≤ length l.frame)
    × Appends (g.S.Write.contents l.fn.stream) (g.S.Write.contents l.stream) (take l.written l.frame)
