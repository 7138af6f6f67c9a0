-- The text of a trace of a world's packets.
use Rattle.std.specs.Prelude.{ℕ, zero, suc, ◌≡◌, ◌<◌, ◌+◌, if◌then◌else◌, List, [], ◌∷◌, ◌++◌, Option, None, Some, drop, length, map, slice_get, take}
use Rattle.std.specs.Io.KnownBytes.{Appends}
use Rattle.exch_lane.specs.Lanes.{Sent}
use Rattle.fw_edge.specs.Ledgers.{packet_counts}
use Rattle.fw_trace.specs.Captures.{capture_record}
use Rattle.fw_trace.specs.Lines.{ReaderOf, SentOf, lines_of, new_reader, packet_line, reader_after}
use Rattle.fw_steps.specs.Worlds.{SiteOf, WorldOf}
use Rattle.fwupd_traces.specs.PacketLines.{trace_line}
use Rattle.fwupd_traces.specs.Traces.{captured_as, head_of}
use Rattle.fwupd_base.specs.declared.forms.TraceForm.{TraceForm}
use Rattle.fwupd_base.specs.declared.forms.TraceForm.TheVariants as forms

-- a packet in a format: decoded lines have the packet's number, and depend on the reader of the
-- packets before it
abbrev pub packet_text : TraceForm → ReaderOf → (device number : ℕ) → Sent → List ℕ
packet_text forms.Hex reader device number p = trace_line device p
packet_text forms.Text reader device number p = packet_line reader p.date number p.bytes
packet_text forms.Capture reader device number p = capture_record (captured_as device p)

-- the reader after it
abbrev pub reader_next : TraceForm → ReaderOf → Sent → ReaderOf
reader_next forms.Hex reader p = reader
reader_next forms.Text reader p = reader_after reader p.bytes
reader_next forms.Capture reader p = reader

-- the text of packets numbered from `number`
abbrev pub trace_text : TraceForm → ReaderOf → (device number : ℕ) → List Sent → List ℕ
trace_text form reader device number [] = []
trace_text form reader device number (p ∷ ps) = packet_text form reader device number p ++ trace_text form (reader_next form reader p) device (number + 1) ps

-- and the reader after them
abbrev pub reader_past : TraceForm → ReaderOf → List Sent → ReaderOf
reader_past form reader [] = reader
reader_past form reader (p ∷ ps) = reader_past form (reader_next form reader p) ps

-- the text of a pair's packets after the first `written`, by the reader that read those
abbrev pub pair_text : TraceForm → Option ReaderOf → Option SiteOf → (written : ℕ) → List ℕ
pair_text form (Some reader) (Some x) written = trace_text form reader x.node.endpoint.eid (written + 1) (drop written x.packets)
pair_text form reader site written = []

-- and the reader after them
abbrev pub reader_of_pair : TraceForm → ReaderOf → Option SiteOf → (written : ℕ) → ReaderOf
reader_of_pair form reader None written = reader
reader_of_pair form reader (Some x) written = reader_past form reader (drop written x.packets)

-- a reader for each pair: the existing ones, then new ones
abbrev pub reader_for : WorldOf → SiteOf → ReaderOf
reader_for w x = new_reader x.node.half.unit w.agent.endpoint.eid x.node.endpoint.eid

abbrev pub readers_for : List ReaderOf → WorldOf → List ReaderOf
readers_for readers w = readers ++ map (reader_for w) (drop (length readers) w.sites)

-- the number of written packets of the pair at a place, or 0 if it isn't listed
abbrev or_none : Option ℕ → ℕ
or_none None = 0
or_none (Some n) = n

abbrev pub written_at : (written : List ℕ) → (place : ℕ) → ℕ
written_at written place = or_none (slice_get written place)

-- the text of the first pairs, in configured order
abbrev pub pairs_text : TraceForm → List ReaderOf → (written : List ℕ) → List SiteOf → ℕ → List ℕ
pairs_text form readers written sites zero = []
pairs_text form readers written sites (suc n) = pairs_text form readers written sites n ++ pair_text form (slice_get readers n) (slice_get sites n) (written_at written n)

-- The readers of the first `count` pairs have read their unwritten packets.
pub record ReadOn (form : TraceForm) (written : List ℕ) (sites : List SiteOf) (count : ℕ) (old new : List ReaderOf) : Type 0 where
  pub size : length new ≡ length old
  pub each : (place : ℕ) (r : ReaderOf) → place < count → slice_get old place ≡ Some r → slice_get new place ≡ Some (reader_of_pair form r (slice_get sites place) (written_at written place))

-- a new reader that has read the first `read` packets of a pair, in order
abbrev pub reader_after_packets : TraceForm → WorldOf → SiteOf → (read : ℕ) → ReaderOf
reader_after_packets form w x read = reader_past form (reader_for w x) (take read x.packets)

-- Each pair has such a reader, which has read the written packets.
pub record AreReaders (form : TraceForm) (w : WorldOf) (written : List ℕ) (readers : List ReaderOf) : Type 0 where
  pub size : length readers ≡ length w.sites
  pub each : (place : ℕ) (x : SiteOf) → slice_get w.sites place ≡ Some x → slice_get readers place ≡ Some (reader_after_packets form w x (written_at written place))

-- The lines of a pair's packets after the first `written`. Each has its number among all packets of
-- the pair, and is decoded after all before it.
abbrev pub pair_news : TraceForm → WorldOf → Option SiteOf → (written : ℕ) → List ℕ
pair_news form w None written = []
pair_news form w (Some x) written = trace_text form (reader_after_packets form w x written) x.node.endpoint.eid (written + 1) (drop written x.packets)

-- the lines of the first pairs, in configured order
abbrev pub news_text : TraceForm → WorldOf → (written : List ℕ) → ℕ → List ℕ
news_text form w written zero = []
news_text form w written (suc n) = news_text form w written n ++ pair_news form w (slice_get w.sites n) (written_at written n)

-- the number of packets of each pair in the latest world, which is first in the list
abbrev pub counts_of : List WorldOf → List ℕ
counts_of [] = []
counts_of (w ∷ ws) = packet_counts w.sites

-- The text of a trace that has observed these worlds, the latest first: its header, and then for
-- each world the lines of the packets that the world before it didn't have.
abbrev pub trace_of : TraceForm → List WorldOf → List ℕ
trace_of form [] = head_of form
trace_of form (w ∷ ws) = trace_of form ws ++ news_text form w (counts_of ws) (length w.sites)

-- A pair continues another: its ends are the same, and its packets begin with the other's.
pub record ContinuesPair (x y : SiteOf) : Type 0 where
  pub unit : y.node.half.unit ≡ x.node.half.unit
  pub eid : y.node.endpoint.eid ≡ x.node.endpoint.eid
  pub packets : take (length x.packets) y.packets ≡ x.packets

-- So does each pair of a world.
pub record ContinuesPairs (v w : WorldOf) : Type 0 where
  pub agent : w.agent.endpoint.eid ≡ v.agent.endpoint.eid
  pub size : length w.sites ≡ length v.sites
  pub each : (place : ℕ) (x y : SiteOf) → slice_get v.sites place ≡ Some x → slice_get w.sites place ≡ Some y → ContinuesPair x y

abbrev pub ContinuesPairsIfAny : List WorldOf → WorldOf → Type 0
ContinuesPairsIfAny [] w = Prim.Unit {0}
ContinuesPairsIfAny (v ∷ vs) w = ContinuesPairs v w

-- the readers of a trace that has observed these worlds
abbrev pub AreReadersOf : TraceForm → List WorldOf → List ReaderOf → Type 0
AreReadersOf form [] readers = readers ≡ []
AreReadersOf form (w ∷ ws) readers = AreReaders form w (packet_counts w.sites) readers

-- A trace has observed these worlds, the latest first: the numbers of written packets are those of
-- the latest, and each reader has read them.
pub record HasReadWorlds (form : TraceForm) (seen : List WorldOf) (written : List ℕ) (readers : List ReaderOf) : Type 0 where
  pub counts : written ≡ counts_of seen
  pub readers_are : AreReadersOf form seen readers

-- And the written text is the lines of the packets sent so far.
pub record HasTracedWorlds (form : TraceForm) (seen : List WorldOf) (written : List ℕ) (readers : List ReaderOf) (before now : Option (List ℕ)) : Type 0 where
  pub read : HasReadWorlds form seen written readers
  pub text : Appends before now (trace_of form seen)

-- each world in the list continues the next one, which came before it
abbrev pub ContinueInOrder : List WorldOf → Type 0
ContinueInOrder [] = Prim.Unit {0}
ContinueInOrder (w ∷ ws) = ContinuesPairsIfAny ws w × ContinueInOrder ws

-- a packet as the input of a reader
abbrev pub read_as : Sent → SentOf
read_as p = record { turn = p.date; bytes = p.bytes }

-- A text trace that has observed a world of one device is the lines of all its packets.
abbrev pub TextsAreLines : Type 0
TextsAreLines = (w : WorldOf) (before : List WorldOf) (x : SiteOf) → w.sites ≡ x ∷ [] → ContinueInOrder (w ∷ before)
    → trace_of forms.Text (w ∷ before) ≡ lines_of (reader_for w x) 1 (map read_as x.packets)
