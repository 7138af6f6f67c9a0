use Rattle.std.proofs.Common.{◌≡◌, ◌++◌, take}
use Rattle.std.specs.List.{flat_map}
use Rattle.fw_text.specs.Printing.{escaped_byte}
use Rattle.fw_text.proofs.push_all_escaped.Given as goal

-- the bytes before the index are appended
abbrev pub invariant-loop-byte : goal.invariant-loop-byte
invariant-loop-byte l = l.text.items ≡ l.fn.text.items ++ flat_map escaped_byte (take l.byte-index l.bytes)
