use Rattle.std.proofs.Common.{◌≡◌, ◌≤◌, ◌+◌, ◌-◌, ◌*◌, ◌++◌, length, drop}
use Rattle.mctp_serial.specs.Frames.{data_of}
use Rattle.mctp_serial.specs.declared.writer.TheConstants.{FRAME_MAX}
use Rattle.mctp_serial.proofs.writer.push_data.Given as goal

abbrev pub invariant-loop-byte : goal.invariant-loop-byte
invariant-loop-byte l =
    (l.frame.items ++ data_of (drop l.byte-index l.packet) ≡ l.fn.frame.items ++ data_of l.packet)
    × (length l.frame.items + 2 * (length l.packet - l.byte-index) ≤ FRAME_MAX)
