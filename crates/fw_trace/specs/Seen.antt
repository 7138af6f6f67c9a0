-- Packets to decode whose bytes are borrowed.
use Rattle.fw_trace.specs.Inputs.{SeenOf}
use Rattle.fw_trace.specs.declared.decoder.SeenPacket.{SeenPacket}

abbrev pub seen_of : SeenPacket → SeenOf
seen_of s = record { turn = s.turn; device = s.device; bytes = s.bytes.now }
