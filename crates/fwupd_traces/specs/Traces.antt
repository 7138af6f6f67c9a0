-- The text of a trace of a process.
use Rattle.std.specs.Prelude.{ℕ, ◌≡◌, ◌≢◌, ◌⊎◌, IfErr, IfSome, not, List, [], OnOk, Option, None, Result, Some}
use Rattle.std.specs.Io.KnownBytes.{Appends, Keeps}
use Rattle.exch_lane.specs.Lanes.{Sent}
use Rattle.fw_trace.specs.Captures.{CapturedOf, capture_header, capture_record}
use Rattle.fw_trace.specs.Decoding.{DecoderOf, decoder_after_seen, facts_line, facts_of_seen, text_of_seen}
use Rattle.fw_trace.specs.Inputs.{SeenOf}
use Rattle.fwupd_traces.specs.PacketLines.{device_in, is_to_agent, trace_line}
use Rattle.fwupd_traces.specs.declared.packet_lines.TracedNode.{TracedNode}
use Rattle.fwupd_traces.specs.declared.process_watch.WatchFault.{WatchFault}
use Rattle.fwupd_traces.specs.declared.process_watch.WatchFault.TheVariants as faults
use Rattle.fwupd_base.specs.declared.forms.TraceForm.{TraceForm}
use Rattle.fwupd_base.specs.declared.forms.TraceForm.TheVariants as forms

-- a packet as the input of a decoder
abbrev pub decoded_as : (device : ℕ) → Sent → SeenOf
decoded_as device p = record { turn = Some p.date; device = Some device; bytes = p.bytes }

-- a packet of a capture: what goes to a device is sent by us
abbrev pub captured_as : (device : ℕ) → Sent → CapturedOf
captured_as device p = record { turn = p.date; is_sent = not (is_to_agent device p.bytes); bytes = p.bytes }

-- A packet in a format. What it says depends on the decoder of the packets before it.
abbrev pub packet_piece : TraceForm → (device : ℕ) → DecoderOf → Sent → List ℕ
packet_piece forms.Hex device decoder p = trace_line device p
packet_piece forms.Text device decoder p = facts_line (facts_of_seen decoder (decoded_as device p)) (text_of_seen decoder (decoded_as device p))
packet_piece forms.Capture device decoder p = capture_record (captured_as device p)

-- the decoder after it
abbrev pub decoder_next : TraceForm → (device : ℕ) → DecoderOf → Sent → DecoderOf
decoder_next forms.Hex device decoder p = decoder
decoder_next forms.Text device decoder p = decoder_after_seen decoder (decoded_as device p)
decoder_next forms.Capture device decoder p = decoder

-- the beginning of a trace
abbrev pub head_of : TraceForm → List ℕ
head_of forms.Hex = []
head_of forms.Text = []
head_of forms.Capture = capture_header

-- A trace: its format, its node, the decoder of the packets before, what its writer has, which of
-- that isn't in its file yet, and its first fault.
pub record PacketTraceOf : Type 0 where
  pub form : TraceForm
  pub node : TracedNode
  pub decoder : DecoderOf
  pub text : Option (List ℕ)
  pub behind : List ℕ
  pub fault : Option WatchFault

-- A packet is written, with the unit in which it was sent, unless there is a fault. After the first
-- nothing changes.
pub record WritesPacket (s : PacketTraceOf) (p : Sent) (t : PacketTraceOf) : Type 0 where
  pub whole : s.fault ≡ None
  pub text : Appends s.text t.text (packet_piece s.form (device_in s.node p.bytes) s.decoder p)
  pub decoder : t.decoder ≡ decoder_next s.form (device_in s.node p.bytes) s.decoder p

-- A fault of a trace: memory was refused, and nothing was written; or it can't be written.
abbrev pub IsTraceFault : PacketTraceOf → WatchFault → PacketTraceOf → Type 0
IsTraceFault s e t = ((e ≡ faults.Memory) × (t.text ≡ s.text)) ⊎ (e ≡ faults.Trace)

pub record TracesPacket (s : PacketTraceOf) (p : Sent) (t : PacketTraceOf) : Type 0 where
  pub form : t.form ≡ s.form
  pub node : t.node ≡ s.node
  pub writes : t.fault ≡ None → WritesPacket s p t
  pub fails : s.fault ≡ None → IfSome t.fault (λ e. IsTraceFault s e t)
  pub stopped : s.fault ≢ None → t ≡ s

-- Nothing is written, and all that was written is in the file, unless there is a fault.
pub record KeepsTrace (s t : PacketTraceOf) : Type 0 where
  pub form : t.form ≡ s.form
  pub node : t.node ≡ s.node
  pub decoder : t.decoder ≡ s.decoder
  pub whole : t.fault ≡ None → s.fault ≡ None
  pub text : t.fault ≡ None → Keeps s.text t.text
  pub filed : t.fault ≡ None → t.behind ≡ []
  pub fails : s.fault ≡ None → IfSome t.fault (λ e. e ≡ faults.Trace)
  pub stopped : s.fault ≢ None → t ≡ s

-- It ends so, and its result is its first fault, if there is one.
pub record EndsTrace (s : PacketTraceOf) (result : Result (Prim.Unit {0}) WatchFault) (t : PacketTraceOf) : Type 0 where
  pub kept : KeepsTrace s t
  pub ok : OnOk result (t.fault ≡ None)
  pub first : IfErr result (λ e. t.fault ≡ Some e)
