-- The packets of one pair get the lines of that pair's trace.
use Rattle.std.proofs.Common.{◌≡◌, ◌∙◌, ◌<◌, ◌+◌, ◌^◌, ◌==◌, ℕ, Bool, true, false, if◌then◌else◌, IsSomeAnd, List, [], ◌∷◌, ◌++◌, append_assoc, append-nil, codes, length, map, Option, None, Some, Result, Ok, Err, refl, ap, ap₂, arith}
use Rattle.std.specs.List.{AllByRecursion, position}
use Rattle.fw_text.specs.Printing.{word_and_number}
use Rattle.mctp_wire.specs.Packet as wire
use Rattle.mctp_wire.specs.declared.fault.WireFault.{WireFault}
use Rattle.mctp_wire.specs.declared.layout.Head.{Head}
use Rattle.mctp_wire.specs.declared.unit.Unit.{«Unit»}
use Rattle.mctp_reasm.specs.Pieces.{PacketOf, packet_of}
use Rattle.fw_trace.specs.Decoding.{DecoderOf, DecodesAsTraced, IsOfPair, decoded_lines, ends_of, ends_text, facts_line, facts_of_packet, has_ends, head_in, input_of, new_decoder, new_pair, next_number, packet_facts_line, packet_says, reads_pair, text_in, turn_text}
use Rattle.fw_trace.specs.Hearings.{held_in}
use Rattle.fw_trace.specs.Inputs.{SeenOf}
use Rattle.fw_trace.specs.Lines.{ReaderOf, SentOf, after_packet, after_read, lines_of, new_reader, packet_line, packet_text, place_text, read_text, reader_after}
use Rattle.fw_trace.specs.declared.decoder.Facts.TheVariants as facts
use Rattle.fw_trace.specs.declared.pairs.Ends.{Ends}
use Rattle.fw_trace.specs.declared.pairs.Pair.{Pair}
use Rattle.fw_trace.proofs.PairPlaces.{ReadAt, ReadNew, read_at, read_new}

-- ---- the line of a packet

line_by : (r : ReaderOf) (turn number : ℕ) (bytes : List ℕ) (read : Result (Head × List ℕ) WireFault)
    → turn_text (Some turn) ++ word_and_number (codes " ") r.device ++ word_and_number (codes " ") number ++ ends_text (head_in read) ++ text_in r read bytes ++ codes "\n"
    ≡ place_text turn r.device number ++ read_text r read bytes ++ codes "\n"
unfolding place_text packet_text
line_by r turn number bytes (Ok p) =
    ap (λ (text : List ℕ). text ++ codes "\n") (append_assoc (place_text turn r.device number) (ends_text (Some p.0)) (text_in r (Ok p) bytes))
line_by r turn number bytes (Err fault) =
    ap (λ (text : List ℕ). text ++ text_in r (Err fault) bytes ++ codes "\n") (append-nil (place_text turn r.device number))

line_is : (p : Pair) (turn : ℕ) (bytes : List ℕ)
    → facts_line (facts.Packet (facts_of_packet p (Some turn) bytes)) (packet_says p.reader bytes) ≡ packet_line p.reader turn (next_number p) bytes
unfolding packet_facts_line packet_says packet_line
line_is p turn bytes = line_by p.reader turn (next_number p) bytes (wire.packet_of p.reader.unit bytes)

-- ---- the ends of a reader stay

kept_by : (f : ReaderOf → ℕ) (a b c d : Bool) (r x y : ReaderOf) → f x ≡ f r → f y ≡ f r
    → f (if a then (if b then x else r) else if c then (if d then y else r) else r) ≡ f r
kept_by f true true c d r x y one other = one
kept_by f true false c d r x y one other = refl
kept_by f false b true true r x y one other = other
kept_by f false b true false r x y one other = refl
kept_by f false b false d r x y one other = refl

kept_packet : (f : ReaderOf → ℕ) (r : ReaderOf) (p : PacketOf) → f (record r { at_device = held_in r.unit r.at_device p }) ≡ f r
    → f (record r { at_agent = held_in r.unit r.at_agent p }) ≡ f r → f (after_packet r p) ≡ f r
unfolding after_packet
kept_packet f r p one other =
    kept_by f (p.head.dest == r.device) (p.head.source == r.agent) (p.head.dest == r.agent) (p.head.source == r.device) r
    (record r { at_device = held_in r.unit r.at_device p }) (record r { at_agent = held_in r.unit r.at_agent p }) one other

agent_by : (r : ReaderOf) (read : Result (Head × List ℕ) WireFault) → (after_read r read).agent ≡ r.agent
agent_by r (Ok p) = kept_packet (λ x. x.agent) r (packet_of p.0 p.1) refl refl
agent_by r (Err fault) = refl

device_by : (r : ReaderOf) (read : Result (Head × List ℕ) WireFault) → (after_read r read).device ≡ r.device
device_by r (Ok p) = kept_packet (λ x. x.device) r (packet_of p.0 p.1) refl refl
device_by r (Err fault) = refl

agent_kept : (r : ReaderOf) (bytes : List ℕ) → (reader_after r bytes).agent ≡ r.agent
unfolding reader_after
agent_kept r bytes = agent_by r (wire.packet_of r.unit bytes)

device_kept : (r : ReaderOf) (bytes : List ℕ) → (reader_after r bytes).device ≡ r.device
unfolding reader_after
device_kept r bytes = device_by r (wire.packet_of r.unit bytes)

pair_kept : (ends : Ends) (r : ReaderOf) (bytes : List ℕ) → reads_pair ends (reader_after r bytes) ≡ reads_pair ends r
pair_kept ends r bytes = rw (agent_kept r bytes, device_kept r bytes) refl

of_pair_by : (o : Option Ends) (r : ReaderOf) (bytes : List ℕ) → IsSomeAnd o (λ ends. reads_pair ends r ≡ true)
    → IsSomeAnd o (λ ends. reads_pair ends (reader_after r bytes) ≡ true)
of_pair_by None r bytes is = is
of_pair_by (Some ends) r bytes is = pair_kept ends r bytes ∙ is

all_kept : (r : ReaderOf) (bytes : List ℕ) (device : Option ℕ) (sent : List SentOf) → AllByRecursion (IsOfPair r device) sent
    → AllByRecursion (IsOfPair (reader_after r bytes) device) sent
all_kept r bytes device [] all = tt
all_kept r bytes device (s ∷ sent) all = (of_pair_by (ends_of device s.bytes) r bytes all.0, all_kept r bytes device sent all.1)

-- ---- the next packet of the only pair

seen : Option ℕ → SentOf → SeenOf
seen device s = record { turn = Some s.turn; device = device; bytes = s.bytes }

only : «Unit» → ReaderOf → ℕ → DecoderOf
only u r n = record { unit = u; pairs = record { reader = r; count = n } ∷ [] }

at_first : (ends : Ends) (p : Pair) → has_ends ends p ≡ true → position (has_ends ends) (p ∷ []) ≡ Some 0
at_first ends p here = rw here refl

read_by : (o : Option Ends) (u : «Unit») (r : ReaderOf) (n : ℕ) (s : SeenOf) → ends_of s.device s.bytes ≡ o → IsSomeAnd o (λ ends. reads_pair ends r ≡ true)
    → ReadAt (record { unit = u; pairs = record { reader = r; count = n } ∷ [] }) s 0 (record { reader = r; count = n })
read_by None u r n s named is = absurd is
read_by (Some ends) u r n s named is =
    read_at (record { unit = u; pairs = record { reader = r; count = n } ∷ [] }) s ends 0 (record { reader = r; count = n }) named
    (at_first ends (record { reader = r; count = n }) is) refl

number_is : (r : ReaderOf) (n : ℕ) → n + 1 < 2 ^ 64 → next_number (record { reader = r; count = n }) ≡ n + 1
number_is r n small = omega arith

traced_on : (u : «Unit») (device : Option ℕ) (sent : List SentOf) (r : ReaderOf) (n : ℕ) → AllByRecursion (IsOfPair r device) sent → n + length sent < 2 ^ 64
    → decoded_lines facts_line (record { unit = u; pairs = record { reader = r; count = n } ∷ [] }) (map (input_of device) sent) ≡ lines_of r (n + 1) sent
traced_on u device [] r n all fits = refl
traced_on u device (s ∷ sent) r n all fits =
    let next = read_by (ends_of device s.bytes) u r n (record { turn = Some s.turn; device = device; bytes = s.bytes }) refl all.0 in
    let number = number_is r n (omega arith) in
    let rest = traced_on u device sent (reader_after r s.bytes) (n + 1) (all_kept r s.bytes device sent all.1) (omega arith) in
    rw (next.facts_are, next.text_is, next.after)
    (ap₂ (λ (a b : List ℕ). a ++ b) (line_is (record { reader = r; count = n }) s.turn s.bytes ∙ ap (λ k. packet_line r s.turn k s.bytes) number)
    (ap (λ k. decoded_lines facts_line (record { unit = u; pairs = record { reader = reader_after r s.bytes; count = k } ∷ [] }) (map (input_of device) sent)) number ∙ rest))

first_read : (u : «Unit») (ends : Ends) (s : SeenOf) → ends_of s.device s.bytes ≡ Some ends → ReadNew (new_decoder u) s ends
first_read u ends s named = read_new (new_decoder u) s ends named refl

pub traced_decoded : DecodesAsTraced
traced_decoded u ends device [] begins all fits = refl
traced_decoded u ends device (s ∷ sent) begins all fits =
    let first = first_read u ends (record { turn = Some s.turn; device = device; bytes = s.bytes }) begins in
    let r = new_reader u ends.agent ends.device in
    let rest = traced_on u device sent (reader_after (new_reader u ends.agent ends.device) s.bytes) 1
    (all_kept (new_reader u ends.agent ends.device) s.bytes device sent all.1) (omega arith) in
    rw (first.facts_are, first.text_is, first.after)
    (ap₂ (λ (a b : List ℕ). a ++ b) (line_is (new_pair u ends) s.turn s.bytes) rest)
