-- A line for each packet between an agent and a device.
use Rattle.std.specs.Prelude.{ℕ, ◌+◌, ◌==◌, if◌then◌else◌, List, [], ◌∷◌, ◌++◌, codes, length, Result, Ok, Err}
use Rattle.fw_text.specs.Printing.{word_and_number}
use Rattle.mctp_wire.specs.Packet as wire
use Rattle.mctp_wire.specs.declared.fault.WireFault.{WireFault}
use Rattle.mctp_wire.specs.declared.layout.Head.{Head}
use Rattle.mctp_wire.specs.declared.unit.Unit.{«Unit»}
use Rattle.mctp_reasm.specs.Pieces.{PacketOf, packet_of}
use Rattle.mctp_reasm.specs.declared.outcomes.Fed.{Fed}
use Rattle.mctp_reasm.specs.declared.outcomes.Fed.TheVariants as outcomes
use Rattle.fw_trace.specs.Hearings.{Assemblies, fed_in, held_in, no_assemblies}
use Rattle.fw_trace.specs.Messages.{message_text}
use Rattle.fw_trace.specs.Names.{cause_name}
use Rattle.fw_trace.specs.Pieces.{in_digits}
use Rattle.fw_trace.specs.declared.hearing.PacketOutcome.{PacketOutcome}
use Rattle.fw_trace.specs.declared.hearing.PacketOutcome.TheVariants as heards

-- A reader: the network's unit, both ends, and the content of each end's assemblies, which doesn't
-- age.
pub record ReaderOf : Type 0 where
  pub unit : «Unit»
  pub agent : ℕ
  pub device : ℕ
  pub at_agent : Assemblies
  pub at_device : Assemblies

-- before the first packet
abbrev pub new_reader : «Unit» → (agent device : ℕ) → ReaderOf
new_reader u agent device =
    record { unit = u; agent = agent; device = device; at_agent = no_assemblies; at_device = no_assemblies }

-- the outcome of a packet
unfoldable pub outcome_of_packet : ReaderOf → PacketOf → PacketOutcome
outcome_of_packet r p =
    if p.head.dest == r.device
    then (if p.head.source == r.agent then heards.Fed (fed_in r.unit r.at_device p) else heards.Source)
    else if p.head.dest == r.agent
    then (if p.head.source == r.device then heards.Fed (fed_in r.unit r.at_agent p) else heards.Source)
    else heards.Destination

-- the reader after it
unfoldable pub after_packet : ReaderOf → PacketOf → ReaderOf
after_packet r p =
    if p.head.dest == r.device
    then (if p.head.source == r.agent then record r { at_device = held_in r.unit r.at_device p } else r)
    else if p.head.dest == r.agent
    then (if p.head.source == r.device then record r { at_agent = held_in r.unit r.at_agent p } else r)
    else r

abbrev pub after_read : ReaderOf → Result (Head × List ℕ) WireFault → ReaderOf
after_read r (Ok p) = after_packet r (packet_of p.0 p.1)
after_read r (Err fault) = r

-- the reader after bytes that were sent as a packet
unfoldable pub reader_after : ReaderOf → List ℕ → ReaderOf
reader_after r bytes = after_read r (wire.packet_of r.unit bytes)

-- a packet that doesn't end its message: its number within the message and the size of its body
unfoldable pub part_text : PacketOf → List ℕ
part_text p = word_and_number (codes " part ") p.head.seq ++ word_and_number (codes " of ") (length p.body) ++ codes " bytes"

-- the text of a packet: a part, the message that it completes, or the reason why it is dropped
abbrev pub fed_text : PacketOf → Fed → List ℕ
fed_text p outcomes.Open = part_text p
fed_text p (outcomes.Whole m) = codes " " ++ message_text m.bytes
fed_text p (outcomes.Dropped cause) = codes " drop " ++ cause_name cause

abbrev pub outcome_text : PacketOf → PacketOutcome → List ℕ
outcome_text p heards.Destination = codes " drop Destination"
outcome_text p heards.Source = codes " drop Source"
outcome_text p (heards.Fed fed) = fed_text p fed

-- the packet's source and destination, and its tag
unfoldable pub head_text : Head → List ℕ
head_text h = word_and_number (codes " ") h.source ++ word_and_number (codes " > ") h.dest ++ word_and_number (codes " tag ") h.tag

unfoldable pub packet_text : PacketOf → PacketOutcome → List ℕ
packet_text p heard = head_text p.head ++ outcome_text p heard

-- the text of bytes that were sent as a packet
abbrev pub read_text : ReaderOf → Result (Head × List ℕ) WireFault → List ℕ → List ℕ
read_text r (Ok p) bytes = packet_text (packet_of p.0 p.1) (outcome_of_packet r (packet_of p.0 p.1))
read_text r (Err fault) bytes = in_digits (codes " bytes ") bytes

-- the tick of sending, the device, and the packet's number among those of the pair, from 1
unfoldable pub place_text : (turn device number : ℕ) → List ℕ
place_text turn device number = word_and_number [] turn ++ word_and_number (codes " ") device ++ word_and_number (codes " ") number

-- the line of a packet
unfoldable pub packet_line : ReaderOf → (turn number : ℕ) → List ℕ → List ℕ
packet_line r turn number bytes =
    place_text turn r.device number ++ read_text r (wire.packet_of r.unit bytes) bytes ++ codes "\n"

-- bytes that were sent as a packet, and the tick of sending
pub record SentOf : Type 0 where
  pub turn : ℕ
  pub bytes : List ℕ

-- the lines of packets, in the order of sending, numbered from `number` on
abbrev pub lines_of : ReaderOf → (number : ℕ) → List SentOf → List ℕ
lines_of r number [] = []
lines_of r number (s ∷ sent) = packet_line r s.turn number s.bytes ++ lines_of (reader_after r s.bytes) (number + 1) sent

-- the reader after a list of packets
abbrev pub reader_along : ReaderOf → List SentOf → ReaderOf
reader_along r [] = r
reader_along r (s ∷ sent) = reader_along (reader_after r s.bytes) sent
