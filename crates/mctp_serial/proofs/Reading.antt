-- A frame is read back.
use Rattle.std.proofs.Common.{◌≡◌, ◌∙◌, ℕ, ◌+◌, ◌*◌, ◌/◌, ◌%◌, ◌<◌, ◌≤◌, List, [], ◌∷◌, ◌++◌, length, refl, sym, ap, inl, inr, None, arith, append_assoc, append-nil, length-append}
use Rattle.std.proofs.lemmas.Nat.{div-add-mod'}
use Rattle.std.proofs.lemmas.Bool.{eq-eqb, ne_eqb, le-leb, cases_eq}
use Rattle.mctp_wire.specs.Units.{bytes_of}
use Rattle.mctp_wire.specs.declared.layout.TheConstants.{HEAD_SIZE}
use Rattle.mctp_serial.specs.Check.{check_of}
use Rattle.mctp_serial.specs.Frames.{HasFrameAt, data_of, data_of_byte, frame_of}
use Rattle.mctp_serial.specs.Reader.{ReaderOf, packet_after_byte, packet_from, packets_in, reader_after, reader_after_byte, reader_at, reader_from, reader_with}
use Rattle.mctp_serial.specs.Laws.{IsReady, ReadsFrame}
use Rattle.mctp_serial.specs.declared.stage.Stage.{Stage}
use Rattle.mctp_serial.specs.declared.stage.Stage.TheVariants as stages

-- a reader after some bytes, with the packets that it returned
record Read : Type 0 where
  reader : ReaderOf
  packets : List (List ℕ)

abbrev read : ReaderOf → List ℕ → Read
read r bytes = record { reader = reader_after r bytes; packets = packets_in r bytes }

-- reading on after a byte that returns no packet
read_quietly : (r s : ReaderOf) (b : ℕ) (bs : List ℕ) → reader_after_byte r b ≡ s → packet_after_byte r b ≡ None → read r (b ∷ bs) ≡ read s bs
unfolding reader_after packets_in
read_quietly r s b bs to quiet = rw (to, quiet) refl

-- a reader in the data, with this byte count and this packet so far
abbrev filling : ReaderOf → (count : ℕ) → List ℕ → ReaderOf
filling r count done = record r { stage = stages.Filling; count = count; packet = done }

abbrev at_high : ReaderOf → (count : ℕ) → List ℕ → ReaderOf
at_high r count done = record r { stage = stages.High; count = count; packet = done }

-- the data of a byte of a packet in a frame are read as one byte more
takes_one : (r : ReaderOf) (count : ℕ) (done : List ℕ) (b : ℕ) (tail : List ℕ)
    → read (filling r count done) (data_of_byte b ++ tail) ≡ read (reader_with (filling r count done) b) tail
takes_one r count done b tail = elim (cases_eq b 0x7E) [
  | inl flag ↦ rw flag (read_quietly _ _ 0x7D _ refl refl ∙ read_quietly _ _ 0x5E _ refl refl)
  | inr other ↦ elim (cases_eq b 0x7D) [
    | inl escape ↦ rw escape (read_quietly _ _ 0x7D _ refl refl ∙ read_quietly _ _ 0x5D _ refl refl)
    | inr plain ↦ rw (ne_eqb b 0x7E other, ne_eqb b 0x7D plain) (read_quietly _ _ b tail (rw (ne_eqb b 0x7E other, ne_eqb b 0x7D plain) refl) refl)
  ]
]

-- the last byte of a packet, and one before it
takes_last : (r : ReaderOf) (count : ℕ) (done : List ℕ) (b : ℕ) (tail : List ℕ) → count ≡ length done + 1
    → read (filling r count done) (data_of_byte b ++ tail) ≡ read (at_high r count (done ++ b ∷ [])) tail
takes_last r count done b tail is =
    takes_one r count done b tail ∙ rw (eq-eqb (length done + 1) count (sym is)) refl

takes_more : (r : ReaderOf) (count : ℕ) (done : List ℕ) (b : ℕ) (tail : List ℕ) → length done + 1 < count
    → read (filling r count done) (data_of_byte b ++ tail) ≡ read (filling r count (done ++ b ∷ [])) tail
takes_more r count done b tail lt =
    takes_one r count done b tail ∙ rw (ne_eqb (length done + 1) count (λ e. absurd (omega (arith, lt, e)))) refl

-- the rest of a packet is read
fills : (r : ReaderOf) (count : ℕ) (done rest tail : List ℕ) → 1 ≤ length rest → count ≡ length done + length rest
    → read (filling r count done) (data_of rest ++ tail) ≡ read (at_high r count (done ++ rest)) tail
unfolding data_of
fills r count done [] tail some is = absurd (omega (arith, some))
fills r count done (b ∷ []) tail some is = rw (append-nil (data_of_byte b)) (takes_last r count done b tail is)
fills r count done (b ∷ c ∷ rest) tail some is =
    let long = length-append done (b ∷ []) in
    rw (append_assoc (data_of_byte b) (data_of (c ∷ rest)) tail) (takes_more r count done b (data_of (c ∷ rest) ++ tail) (omega (arith, is)))
    ∙ (fills r count (done ++ b ∷ []) (c ∷ rest) tail (omega arith) (omega (arith, is, long))
    ∙ rw (append_assoc done (b ∷ []) (c ∷ rest)) refl)

-- the end of a frame whose check sequence is right
ends : (r : ReaderOf) (high low : ℕ) (packet : List ℕ) → check_of packet ≡ high * 256 + low
    → read (record r { stage = stages.Closing; high = high; low = low; packet = packet }) (0x7E ∷ [])
    ≡ record { reader = record r { stage = stages.Idle; high = high; low = low; packet = packet }; packets = packet ∷ [] }
unfolding reader_after packets_in
ends r high low packet is = rw (eq-eqb (check_of packet) (high * 256 + low) is) refl

-- the reader after a frame of a packet
pub reader_after_frame : ReaderOf → List ℕ → ReaderOf
reader_after_frame r packet =
    record r { stage = stages.Idle; count = length packet; high = check_of packet / 256; low = check_of packet % 256; packet = packet }

-- a flag begins a frame
opens : (s : Stage) (r : ReaderOf) → IsReady s → reader_from s r 0x7E ≡ reader_at stages.Opened r
opens stages.Idle r ready = refl
opens stages.Opened r ready = refl
opens stages.Filling r ready = refl
opens stages.Lost r ready = refl
opens stages.Revised r ready = absurd ready
opens stages.Escaped r ready = absurd ready
opens stages.High r ready = absurd ready
opens stages.Low r ready = absurd ready
opens stages.Closing r ready = absurd ready

opens_quietly : (s : Stage) (r : ReaderOf) → IsReady s → packet_from s r 0x7E ≡ None
opens_quietly stages.Closing r ready = absurd ready
opens_quietly s r ready = refl

reads_frame : (r : ReaderOf) (packet : List ℕ) → IsReady r.stage → HasFrameAt r.unit packet
    → read r (frame_of packet) ≡ record { reader = reader_after_frame r packet; packets = packet ∷ [] }
unfolding reader_after_frame
reads_frame r packet ready fits =
    let halves : check_of packet ≡ check_of packet / 256 * 256 + check_of packet % 256 = sym (div-add-mod' (check_of packet) 256) in
    read_quietly r (reader_at stages.Opened r) 0x7E _ (opens r.stage r ready) (opens_quietly r.stage r ready)
    ∙ (read_quietly _ _ 1 _ refl refl
    ∙ (read_quietly _ (filling r (length packet) []) (length packet) _
    (rw (le-leb 1 (length packet) fits.0, le-leb (length packet) (HEAD_SIZE + bytes_of r.unit) fits.1) refl) refl
    ∙ (fills r (length packet) [] packet (check_of packet / 256 ∷ check_of packet % 256 ∷ 0x7E ∷ []) fits.0 (omega arith)
    ∙ (read_quietly _ _ (check_of packet / 256) _ refl refl ∙ (read_quietly _ _ (check_of packet % 256) _ refl refl
    ∙ ends (record r { count = length packet }) (check_of packet / 256) (check_of packet % 256) packet halves)))))

pub reads_frame_law : ReadsFrame
unfolding reader_after_frame
reads_frame_law r packet ready fits =
    let e = reads_frame r packet ready fits in
    (ap (λ (t : Read). t.packets) e, ap (λ (t : Read). t.reader.stage) e)
