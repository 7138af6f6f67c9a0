use Rattle.std.proofs.Common.{◌≡◌, ◌++◌, drop, string_bytes}
use Rattle.std.specs.List.{flat_map}
use Rattle.fw_text.specs.Printing.{escaped_byte}
use Rattle.fw_json.proofs.fields.spelling.Given as goal

-- the text so far, then the rest to append
abbrev pub invariant-loop-byte : goal.invariant-loop-byte
invariant-loop-byte l = string_bytes l.text ++ flat_map escaped_byte (drop l.byte-index l.bytes) ≡ flat_map escaped_byte l.bytes
