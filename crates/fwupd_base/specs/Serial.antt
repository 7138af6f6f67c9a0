-- An endpoint without a device on a serial line: each line holds bytes of a stream of frames
-- (DSP0253), and an answer is printed as a frame.
use Rattle.std.specs.Prelude.{ℕ, ◌≡◌, List, [], ◌∷◌, ◌++◌, Result, Ok, Err}
use Rattle.hex.specs.Hex.{decode_of}
use Rattle.hex.specs.declared.error.FromHexError.{FromHexError}
use Rattle.mctp_ctl.specs.declared.answers.Endpoint.{Endpoint}
use Rattle.mctp_serial.specs.Frames.{frame_of}
use Rattle.mctp_serial.specs.Reader.{ReaderOf, packets_in, reader_after}
use Rattle.mctp_wire.specs.Packet.{packet_of}
use Rattle.mctp_wire.specs.declared.unit.Unit.TheVariants.{U64}
use Rattle.fwupd_base.specs.Answers.{LineOutcome, line_text_of, wire_reply}
use Rattle.fwupd_base.specs.declared.drops.LineDropCause.{LineDropCause}
use Rattle.fwupd_base.specs.declared.drops.LineDropCause.TheVariants as drops

-- An endpoint on a serial line: its identifier and UUID, its terminus identifier, and the reader of
-- the frames that it receives.
pub record SerialResponderOf : Type 0 where
  pub endpoint : Endpoint
  pub tid : ℕ
  pub reader : ReaderOf

-- the outcome of a packet that was received
unfoldable pub packet_outcome : Endpoint → ℕ → List ℕ → LineOutcome
packet_outcome e tid packet = wire_reply e tid (packet_of U64 packet)

-- the frame of an answer, or why there is no answer
abbrev pub framed_reply : Result (List ℕ) LineDropCause → Result (List ℕ) LineDropCause
framed_reply (Err cause) = Err cause
framed_reply (Ok packet) = Ok (frame_of packet)

-- the output for a packet: the digits of its answer's frame, or the cause why there is no answer
abbrev pub packet_text : Endpoint → ℕ → List ℕ → List ℕ
packet_text e tid packet = line_text_of (framed_reply (packet_outcome e tid packet).reply)

-- the output for packets, in order; each gets the terminus identifier after the packet before it
unfoldable pub packets_text : Endpoint → ℕ → List (List ℕ) → List ℕ
packets_text e tid [] = []
packets_text e tid (packet ∷ packets) =
    packet_text e tid packet ++ packets_text e (packet_outcome e tid packet).tid packets

-- the terminus identifier after packets
unfoldable pub tid_after_packets : Endpoint → ℕ → List (List ℕ) → ℕ
tid_after_packets e tid [] = tid
tid_after_packets e tid (packet ∷ packets) = tid_after_packets e (packet_outcome e tid packet).tid packets

-- the output for bytes of the stream: that for each packet whose frame ends in them
abbrev pub serial_text : SerialResponderOf → List ℕ → List ℕ
serial_text s bytes = packets_text s.endpoint s.tid (packets_in s.reader bytes)

-- the endpoint after bytes of the stream
abbrev pub serial_after : SerialResponderOf → List ℕ → SerialResponderOf
serial_after s bytes =
    record s {
      tid = tid_after_packets s.endpoint s.tid (packets_in s.reader bytes);
      reader = reader_after s.reader bytes;
    }

-- The output for a line of digits, and the endpoint after it. A line that isn't digits is dropped,
-- and the stream goes on with the next line.
abbrev pub serial_line_text : SerialResponderOf → Result (List ℕ) FromHexError → List ℕ
serial_line_text s (Err _) = line_text_of (Err drops.Hex)
serial_line_text s (Ok bytes) = serial_text s bytes

abbrev pub serial_after_line : SerialResponderOf → Result (List ℕ) FromHexError → SerialResponderOf
serial_after_line s (Err _) = s
serial_after_line s (Ok bytes) = serial_after s bytes

-- It answers the packets whose frames end in a line, and is `t` afterwards.
pub record AnswersSerialLine (s : SerialResponderOf) (line : List ℕ) (t : SerialResponderOf) (text : List ℕ) : Type 0 where
  pub printed : text ≡ serial_line_text s (decode_of line)
  pub after : t ≡ serial_after_line s (decode_of line)

-- It read bytes of the stream, and is `t` afterwards; their output is appended.
pub record ReadsSerial (s : SerialResponderOf) (bytes : List ℕ) (t : SerialResponderOf) (before now : List ℕ) : Type 0 where
  pub printed : now ≡ before ++ serial_text s bytes
  pub after : t ≡ serial_after s bytes
