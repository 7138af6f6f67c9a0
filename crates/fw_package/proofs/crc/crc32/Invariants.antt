use Rattle.std.proofs.Common.{◌≡◌, drop}
use Rattle.fw_package.specs.Crc.{after_bytes}
use Rattle.fw_package.proofs.crc.crc32.Given as goal

-- the bytes left take the register to its value after all bytes
abbrev pub invariant-loop-byte : goal.invariant-loop-byte
invariant-loop-byte l = after_bytes l.register (drop l.byte-index l.bytes) ≡ after_bytes 0xFFFFFFFF l.bytes
