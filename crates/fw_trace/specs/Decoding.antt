-- The packets of any pairs of endpoints, decoded one after the other.
use Rattle.std.specs.Prelude.{◌≡◌, ℕ, ◌<◌, ◌+◌, ◌^◌, ◌==◌, ◌&&◌, ◌||◌, nat_lt, not, Bool, if◌then◌else◌, IsSomeAnd, List, [], ◌∷◌, ◌++◌, codes, length, map, min, Option, None, Some, Result, Ok, Err, true}
use Rattle.std.specs.List.{AllByRecursion, list_any}
use Rattle.fw_text.specs.Printing.{word_and_number}
use Rattle.mctp_wire.specs.Packet as wire
use Rattle.mctp_wire.specs.declared.fault.WireFault.{WireFault}
use Rattle.mctp_wire.specs.declared.layout.Head.{Head}
use Rattle.mctp_wire.specs.declared.unit.Unit.{«Unit»}
use Rattle.mctp_reasm.specs.Pieces.{packet_of}
use Rattle.fw_trace.specs.Captures.{CapturedOf, IsCapturable, capture_file}
use Rattle.fw_trace.specs.Inputs.{Input, SeenOf, inputs_of}
use Rattle.fw_trace.specs.Lines.{ReaderOf, SentOf, head_text, lines_of, new_reader, outcome_of_packet, outcome_text, reader_after}
use Rattle.fw_trace.specs.Pieces.{in_digits}
use Rattle.fw_trace.specs.declared.decoder.Facts.{Facts}
use Rattle.fw_trace.specs.declared.decoder.Facts.TheVariants as facts
use Rattle.fw_trace.specs.declared.decoder.PacketFacts.{PacketFacts}
use Rattle.fw_trace.specs.declared.inputs.InputFault.{InputFault}
use Rattle.fw_trace.specs.declared.inputs.InputFault.TheVariants as faults
use Rattle.fw_trace.specs.declared.pairs.Ends.{Ends}
use Rattle.fw_trace.specs.declared.pairs.Pair.{Pair}

-- ---- pairs

-- The ends of a packet's pair. The source is the agent, unless the device is known: then the agent
-- is the other end.
abbrev pub ends_by : Option ℕ → (source dest : ℕ) → Ends
ends_by None source dest = record { agent = source; device = dest }
ends_by (Some device) source dest = record { agent = if source == device then dest else source; device = device }

-- of a packet's bytes; fewer than four have none
abbrev pub ends_of : Option ℕ → List ℕ → Option Ends
ends_of device (version ∷ dest ∷ source ∷ flags ∷ rest) = Some (ends_by device source dest)
ends_of device bytes = None

-- a reader's pair has these ends, in either order
abbrev pub reads_pair : Ends → ReaderOf → Bool
reads_pair ends r =
    ((r.agent == ends.agent) && (r.device == ends.device)) || ((r.agent == ends.device) && (r.device == ends.agent))

abbrev pub has_ends : Ends → Pair → Bool
has_ends ends p = reads_pair ends p.reader

-- before the first packet
abbrev pub new_pair : «Unit» → Ends → Pair
new_pair u ends = record { reader = new_reader u ends.agent ends.device; count = 0 }

-- the number of the next packet, from 1; no number is greater than 2^64 - 1
abbrev pub next_number : Pair → ℕ
next_number p = min (p.count + 1) 18446744073709551615

-- the pair after a packet
abbrev pub pair_after : Pair → List ℕ → Pair
pair_after p bytes = record { reader = reader_after p.reader bytes; count = next_number p }

-- the first pair with these ends, or a new one
abbrev pub pair_with : «Unit» → Ends → List Pair → Pair
pair_with u ends [] = new_pair u ends
pair_with u ends (p ∷ ps) = if has_ends ends p then p else pair_with u ends ps

-- the pairs after a packet with these ends
abbrev pub pairs_after : «Unit» → Ends → List ℕ → List Pair → List Pair
pairs_after u ends bytes [] = pair_after (new_pair u ends) bytes ∷ []
pairs_after u ends bytes (p ∷ ps) =
    if has_ends ends p then pair_after p bytes ∷ ps else p ∷ pairs_after u ends bytes ps

-- ---- facts

-- the head of a packet, if the bytes are one
abbrev pub head_in : Result (Head × List ℕ) WireFault → Option Head
head_in (Ok p) = Some p.0
head_in (Err fault) = None

-- what a packet says
abbrev pub text_in : ReaderOf → Result (Head × List ℕ) WireFault → List ℕ → List ℕ
text_in r (Ok p) bytes = outcome_text (packet_of p.0 p.1) (outcome_of_packet r (packet_of p.0 p.1))
text_in r (Err fault) bytes = in_digits (codes " bytes ") bytes

-- what bytes say that were sent as a packet
unfoldable pub packet_says : ReaderOf → List ℕ → List ℕ
packet_says r bytes = text_in r (wire.packet_of r.unit bytes) bytes

-- the facts of a pair's next packet
abbrev pub facts_of_packet : Pair → Option ℕ → List ℕ → PacketFacts
facts_of_packet p turn bytes = record {
  turn = turn;
  device = p.reader.device;
  number = next_number p;
  head = head_in (wire.packet_of p.reader.unit bytes);
}

-- ---- decoders

-- A decoder: the network's unit, and the pairs whose packets it has read.
pub record DecoderOf : Type 0 where
  pub unit : «Unit»
  pub pairs : List Pair

-- there is no room for a pair with these ends
abbrev pub lacks_pair_room : Ends → List Pair → Bool
lacks_pair_room ends pairs = not (list_any (has_ends ends) pairs) && not (nat_lt (length pairs) 1024)

abbrev pub facts_by_ends : DecoderOf → SeenOf → Option Ends → Facts
facts_by_ends d s None = facts.Unread faults.Short
facts_by_ends d s (Some ends) =
    if lacks_pair_room ends d.pairs then facts.Unread faults.Pairs
    else facts.Packet (facts_of_packet (pair_with d.unit ends d.pairs) s.turn s.bytes)

abbrev pub text_by_ends : DecoderOf → SeenOf → Option Ends → List ℕ
text_by_ends d s None = []
text_by_ends d s (Some ends) =
    if lacks_pair_room ends d.pairs then [] else packet_says (pair_with d.unit ends d.pairs).reader s.bytes

abbrev pub decoder_by_ends : DecoderOf → SeenOf → Option Ends → DecoderOf
decoder_by_ends d s None = d
decoder_by_ends d s (Some ends) =
    if lacks_pair_room ends d.pairs then d else record d { pairs = pairs_after d.unit ends s.bytes d.pairs }

-- the facts of a packet, what it says, and the decoder after it
unfoldable pub facts_of_seen : DecoderOf → SeenOf → Facts
facts_of_seen d s = facts_by_ends d s (ends_of s.device s.bytes)

unfoldable pub text_of_seen : DecoderOf → SeenOf → List ℕ
text_of_seen d s = text_by_ends d s (ends_of s.device s.bytes)

unfoldable pub decoder_after_seen : DecoderOf → SeenOf → DecoderOf
decoder_after_seen d s = decoder_by_ends d s (ends_of s.device s.bytes)

-- the same of an input; one that is no packet leaves the decoder as it is
abbrev pub facts_of_input : DecoderOf → Input → Facts
facts_of_input d (Ok s) = facts_of_seen d s
facts_of_input d (Err fault) = facts.Unread fault

abbrev pub text_of_input : DecoderOf → Input → List ℕ
text_of_input d (Ok s) = text_of_seen d s
text_of_input d (Err fault) = []

abbrev pub decoder_after : DecoderOf → Input → DecoderOf
decoder_after d (Ok s) = decoder_after_seen d s
decoder_after d (Err fault) = d

-- ---- lines

-- the tick of sending, or a dash if it isn't known
abbrev pub turn_text : Option ℕ → List ℕ
turn_text None = codes "-"
turn_text (Some turn) = word_and_number [] turn

-- the source and destination of a packet, and its tag
abbrev pub ends_text : Option Head → List ℕ
ends_text None = []
ends_text (Some h) = head_text h

-- the name of a fault
abbrev pub fault_name : InputFault → List ℕ
fault_name faults.Fields = codes "Fields"
fault_name faults.Number = codes "Number"
fault_name faults.Hex = codes "Hex"
fault_name faults.Short = codes "Short"
fault_name faults.Pairs = codes "Pairs"
fault_name faults.LinkType = codes "LinkType"
fault_name faults.Protocol = codes "Protocol"
fault_name faults.Cut = codes "Cut"

-- the line of an input: a packet's as in a trace, or the fault
unfoldable pub packet_facts_line : PacketFacts → List ℕ → List ℕ
packet_facts_line f text =
    turn_text f.turn ++ word_and_number (codes " ") f.device ++ word_and_number (codes " ") f.number ++ ends_text f.head ++ text ++ codes "\n"

abbrev pub facts_line : Facts → List ℕ → List ℕ
facts_line (facts.Packet f) text = packet_facts_line f text
facts_line (facts.Unread fault) text = codes "drop " ++ fault_name fault ++ codes "\n"

-- the lines of inputs, in order, each in the given form
abbrev pub decoded_lines : (line : Facts → List ℕ → List ℕ) → DecoderOf → List Input → List ℕ
decoded_lines line d [] = []
decoded_lines line d (i ∷ inputs) = line (facts_of_input d i) (text_of_input d i) ++ decoded_lines line (decoder_after d i) inputs

-- the decoder after a list of inputs
abbrev pub decoder_along : DecoderOf → List Input → DecoderOf
decoder_along d [] = d
decoder_along d (i ∷ inputs) = decoder_along (decoder_after d i) inputs

-- before the first packet
abbrev pub new_decoder : «Unit» → DecoderOf
new_decoder u = record { unit = u; pairs = [] }

-- the text of a file
abbrev pub decoded_text : (line : Facts → List ℕ → List ℕ) → «Unit» → List ℕ → List ℕ
decoded_text line u bytes = decoded_lines line (new_decoder u) (inputs_of bytes)

-- ---- laws

-- a packet of a trace or a capture as an input: the device is known, or it isn't
abbrev pub input_of : Option ℕ → SentOf → Input
input_of device s = Ok (record { turn = Some s.turn; device = device; bytes = s.bytes })

-- a packet is one of a pair, by the reader of the pair
abbrev pub IsOfPair : ReaderOf → Option ℕ → SentOf → Type 0
IsOfPair r device s = IsSomeAnd (ends_of device s.bytes) (λ ends. reads_pair ends r ≡ true)

-- the first packet names the ends in their order
abbrev pub BeginsWithEnds : Ends → Option ℕ → List SentOf → Type 0
BeginsWithEnds ends device [] = Prim.Unit {0}
BeginsWithEnds ends device (s ∷ sent) = ends_of device s.bytes ≡ Some ends

-- The packets of one pair, in order, get the lines of the trace of that pair.
abbrev pub DecodesAsTraced : Type 0
DecodesAsTraced =
    (u : «Unit») (ends : Ends) (device : Option ℕ) (sent : List SentOf) → BeginsWithEnds ends device sent
    → AllByRecursion (IsOfPair (new_reader u ends.agent ends.device) device) sent → length sent < 2 ^ 64
    → decoded_lines facts_line (new_decoder u) (map (input_of device) sent) ≡ lines_of (new_reader u ends.agent ends.device) 1 sent

-- a captured packet as an input
abbrev pub captured_input : CapturedOf → Input
captured_input p = Ok (record { turn = Some p.turn; device = None; bytes = p.bytes })

-- A capture that was written is decoded as its packets.
abbrev pub DecodesCaptures : Type 0
DecodesCaptures = (ps : List CapturedOf) → AllByRecursion IsCapturable ps → inputs_of (capture_file ps) ≡ map captured_input ps
