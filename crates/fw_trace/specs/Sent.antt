-- Packets whose bytes are borrowed.
use Rattle.fw_trace.specs.Lines.{SentOf}
use Rattle.fw_trace.specs.declared.lists.Sent.{Sent}

abbrev pub sent_of : Sent → SentOf
sent_of s = record { turn = s.turn; bytes = s.bytes.now }
