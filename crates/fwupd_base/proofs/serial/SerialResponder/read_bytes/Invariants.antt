use Rattle.std.proofs.Common.{◌≡◌, ◌++◌, drop}
use Rattle.fwupd_base.specs.Serial.{serial_after, serial_text}
use Rattle.fwupd_base.proofs.serial.SerialResponder.read_bytes.Given as goal

-- the output so far, then that for the bytes that are left
abbrev pub invariant-loop-byte : goal.invariant-loop-byte
invariant-loop-byte l = record {
  text : l.text.items ++ serial_text l.self (drop l.byte-index l.bytes) ≡ l.fn.text.items ++ serial_text l.fn.self l.bytes;
  after : serial_after l.self (drop l.byte-index l.bytes) ≡ serial_after l.fn.self l.bytes;
}
