-- An encoded command reads back, for a command that equals it.
use Rattle.std.proofs.Common.{Ok, ◌≡◌, rules}
use Rattle.fwup_wire.specs.Commands.{HasCommandWidths, IsCommand, IsWritable, command_bytes, command_code, command_read}
use Rattle.fwup_wire.specs.Values.{CommandOf}

pub writes_back : (c : CommandOf) → HasCommandWidths c → IsWritable c → command_read (command_code c) (command_bytes c) ≡ Ok c
writes_back c w f = search rules

pub writes_member : (c : CommandOf) → HasCommandWidths c → IsWritable c → IsCommand (command_code c) (command_bytes c) c
writes_member c w f = search rules
