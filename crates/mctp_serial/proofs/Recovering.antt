-- A reader in any state is between frames after two frames, or after three.
use Rattle.std.proofs.Common.{◌≡◌, ◌≢◌, ◌⊎◌, ◌∙◌, ℕ, ◌+◌, ◌/◌, ◌%◌, ◌<◌, ◌≤◌, ◌==◌, ◌||◌, ◌&&◌, Bool, true, false, nat_le, if◌then◌else◌, List, [], ◌∷◌, ◌++◌, length, refl, sym, ap, subst, inl, inr, suc, arith, append_assoc, length-append}
use Rattle.std.proofs.lemmas.Bool.{cases_eq, cond_both, eq-eqb, eqb-true, leb-true, ne_eqb}
use Rattle.mctp_wire.specs.Units.{bytes_of}
use Rattle.mctp_wire.specs.declared.layout.TheConstants.{HEAD_SIZE}
use Rattle.mctp_wire.specs.declared.unit.Unit.{«Unit»}
use Rattle.mctp_wire.specs.declared.unit.Unit.TheVariants as units
use Rattle.mctp_serial.specs.Check.{check_of}
use Rattle.mctp_serial.specs.Frames.{HasFrameAt, data_of, data_of_byte, end_of, frame_of}
use Rattle.mctp_serial.specs.Reader.{ReaderOf, packets_in, reader_after, reader_after_byte, reader_at, reader_before_data, reader_from, reader_with}
use Rattle.mctp_serial.specs.Laws.{IsReady, LosesOneFrame, LosesTwoFrames, TakesNoFlagAsCount}
use Rattle.mctp_serial.specs.declared.stage.Stage.{Stage}
use Rattle.mctp_serial.specs.declared.stage.Stage.TheVariants as stages
use Rattle.mctp_serial.proofs.Reading.{reads_frame_law}
use Rattle.mctp_serial.proofs.Streams.{either, packets_in_append, reader_after_append, unit_after}

-- After the last byte of a frame but the flag: after a flag here, the next flag begins a frame.
abbrev IsBeforeFlag : Stage → Type 0
IsBeforeFlag stages.High = ⊥
IsBeforeFlag stages.Low = ⊥
IsBeforeFlag s = Prim.Unit {0}

flag_readies : (s : Stage) (r : ReaderOf) → IsBeforeFlag s → IsReady (reader_from s r 0x7E).stage
flag_readies stages.Idle r h = tt
flag_readies stages.Opened r h = tt
flag_readies stages.Revised r h = either (nat_le 1 0x7E && nat_le 0x7E (HEAD_SIZE + bytes_of r.unit)) (λ q. IsReady q.stage) (reader_before_data r 0x7E) (reader_at stages.Lost r) tt tt
flag_readies stages.Filling r h = tt
flag_readies stages.Escaped r h = tt
flag_readies stages.High r h = absurd h
flag_readies stages.Low r h = absurd h
flag_readies stages.Closing r h = tt
flag_readies stages.Lost r h = tt

-- After the high byte of the check sequence: a byte more of the packet doesn't end it.
abbrev IsBeforeLow : Stage → ReaderOf → Type 0
IsBeforeLow stages.High r = ⊥
IsBeforeLow stages.Filling r = length r.packet + 1 < r.count
IsBeforeLow stages.Escaped r = length r.packet + 1 < r.count
IsBeforeLow s r = Prim.Unit {0}

with_more : (r : ReaderOf) (b : ℕ) → length r.packet + 1 < r.count → reader_with r b ≡ record r { stage = stages.Filling; packet = r.packet ++ b ∷ [] }
with_more r b more = rw (ne_eqb (length r.packet + 1) r.count (λ e. absurd (omega (arith, more, e)))) refl

low_passes : (s : Stage) (r : ReaderOf) (b : ℕ) → IsBeforeLow s r → IsBeforeFlag (reader_from s r b).stage
low_passes stages.Idle r b h = either (b == 0x7E) (λ q. IsBeforeFlag q.stage) (reader_at stages.Opened r) (reader_at stages.Lost r) tt tt
low_passes stages.Lost r b h = either (b == 0x7E) (λ q. IsBeforeFlag q.stage) (reader_at stages.Opened r) (reader_at stages.Lost r) tt tt
low_passes stages.Opened r b h =
    either (b == 1) (λ q. IsBeforeFlag q.stage) (reader_at stages.Revised r) (if b == 0x7E then reader_at stages.Opened r else reader_at stages.Lost r) tt
    (either (b == 0x7E) (λ q. IsBeforeFlag q.stage) (reader_at stages.Opened r) (reader_at stages.Lost r) tt tt)
low_passes stages.Revised r b h =
    either (nat_le 1 b && nat_le b (HEAD_SIZE + bytes_of r.unit)) (λ q. IsBeforeFlag q.stage) (reader_before_data r b) (reader_at stages.Lost r) tt tt
low_passes stages.Filling r b h =
    rw (with_more r b h) (either (b == 0x7D) (λ q. IsBeforeFlag q.stage) (reader_at stages.Escaped r)
    (if b == 0x7E then reader_at stages.Opened r else record r { stage = stages.Filling; packet = r.packet ++ b ∷ [] }) tt
    (either (b == 0x7E) (λ q. IsBeforeFlag q.stage) (reader_at stages.Opened r) (record r { stage = stages.Filling; packet = r.packet ++ b ∷ [] }) tt tt))
low_passes stages.Escaped r b h =
    rw (with_more r (b + 0x20) h) (either ((b == 0x5D) || (b == 0x5E)) (λ q. IsBeforeFlag q.stage)
    (record r { stage = stages.Filling; packet = r.packet ++ (b + 0x20) ∷ [] }) (reader_at stages.Lost r) tt tt)
low_passes stages.High r b h = absurd h
low_passes stages.Low r b h = tt
low_passes stages.Closing r b h = either (b == 0x7E) (λ q. IsBeforeFlag q.stage) (reader_at stages.Idle r) (reader_at stages.Lost r) tt tt

-- After the data, if `left` bytes of the packet are still to come: neither byte of the check
-- sequence ends the packet that the reader is in.
abbrev IsPast : Stage → ReaderOf → (left : ℕ) → Type 0
IsPast stages.Opened r left = ⊥
IsPast stages.Revised r left = ⊥
IsPast stages.Escaped r left = ⊥
IsPast stages.Filling r left =
    (length r.packet < r.count) × (r.count ≢ length r.packet + left + 1) × (r.count ≢ length r.packet + left + 2)
IsPast s r left = Prim.Unit {0}

high_passes : (s : Stage) (r : ReaderOf) (b : ℕ) → IsPast s r 0 → IsBeforeLow (reader_from s r b).stage (reader_from s r b)
high_passes stages.Idle r b h = either (b == 0x7E) (λ q. IsBeforeLow q.stage q) (reader_at stages.Opened r) (reader_at stages.Lost r) tt tt
high_passes stages.Lost r b h = either (b == 0x7E) (λ q. IsBeforeLow q.stage q) (reader_at stages.Opened r) (reader_at stages.Lost r) tt tt
high_passes stages.Opened r b h = absurd h
high_passes stages.Revised r b h = absurd h
high_passes stages.Escaped r b h = absurd h
high_passes stages.High r b h = tt
high_passes stages.Low r b h = tt
high_passes stages.Closing r b h = either (b == 0x7E) (λ q. IsBeforeLow q.stage q) (reader_at stages.Idle r) (reader_at stages.Lost r) tt tt
high_passes stages.Filling r b h =
    let few = h.0 in
    let one = h.1 in
    let two = h.2 in
    let long = length-append r.packet (b ∷ []) in
    rw (with_more r b (omega (arith, few, one)))
    (either (b == 0x7D) (λ q. IsBeforeLow q.stage q) (reader_at stages.Escaped r)
    (if b == 0x7E then reader_at stages.Opened r else record r { stage = stages.Filling; packet = r.packet ++ b ∷ [] }) (omega (arith, few, one))
    (either (b == 0x7E) (λ q. IsBeforeLow q.stage q) (reader_at stages.Opened r) (record r { stage = stages.Filling; packet = r.packet ++ b ∷ [] }) tt
    (omega (arith, few, one, two, long))))

-- the end of a frame
end_readies : (r : ReaderOf) (high low : ℕ) → IsPast r.stage r 0 → IsReady (reader_after r (high ∷ low ∷ 0x7E ∷ [])).stage
unfolding reader_after
end_readies r high low h =
    let first = reader_after_byte r high in
    let second = reader_after_byte first low in
    flag_readies second.stage second (low_passes first.stage first low (high_passes r.stage r high h))

-- the same, of the reader's own stage
abbrev Passes : ReaderOf → (left : ℕ) → Type 0
Passes r left = IsPast r.stage r left

-- the reader takes a byte of the packet
taken_passes : (r : ReaderOf) (b left : ℕ) → IsPast stages.Filling r (suc left) → Passes (reader_with r b) left
taken_passes r b left h =
    let few = h.0 in
    let one = h.1 in
    let two = h.2 in
    let long = length-append r.packet (b ∷ []) in
    elim (cases_eq (length r.packet + 1) r.count) [
      | inl last ↦ rw (eq-eqb (length r.packet + 1) r.count last) tt
      | inr more ↦ rw (ne_eqb (length r.packet + 1) r.count more)
          (omega (arith, few, more, long), (λ e. absurd (omega (arith, one, long, e))), (λ e. absurd (omega (arith, two, long, e))))
    ]

-- a byte that isn't escaped
plain_passes : (s : Stage) (r : ReaderOf) (b left : ℕ) → (b == 0x7E) ≡ false → (b == 0x7D) ≡ false → IsPast s r (suc left) → Passes (reader_from s r b) left
plain_passes stages.Idle r b left flag escape h = rw flag tt
plain_passes stages.Lost r b left flag escape h = rw flag tt
plain_passes stages.Closing r b left flag escape h = rw flag tt
plain_passes stages.High r b left flag escape h = tt
plain_passes stages.Low r b left flag escape h = tt
plain_passes stages.Filling r b left flag escape h = rw (escape, flag) (taken_passes r b left h)
plain_passes stages.Opened r b left flag escape h = absurd h
plain_passes stages.Revised r b left flag escape h = absurd h
plain_passes stages.Escaped r b left flag escape h = absurd h

-- an escape sequence
escape_passes : (s : Stage) (r : ReaderOf) (b left : ℕ) → (b == 0x7E) ≡ false → ((b == 0x5D) || (b == 0x5E)) ≡ true → IsPast s r (suc left)
    → Passes (reader_after_byte (reader_from s r 0x7D) b) left
escape_passes stages.Idle r b left flag second h = rw flag tt
escape_passes stages.Lost r b left flag second h = rw flag tt
escape_passes stages.Closing r b left flag second h = rw flag tt
escape_passes stages.High r b left flag second h = tt
escape_passes stages.Low r b left flag second h = rw flag tt
escape_passes stages.Filling r b left flag second h = rw second (taken_passes r (b + 0x20) left h)
escape_passes stages.Opened r b left flag second h = absurd h
escape_passes stages.Revised r b left flag second h = absurd h
escape_passes stages.Escaped r b left flag second h = absurd h

-- a byte of the packet, as it is in the data
byte_passes : (r : ReaderOf) (b left : ℕ) → Passes r (suc left) → Passes (reader_after r (data_of_byte b)) left
unfolding reader_after
byte_passes r b left h = elim (cases_eq b 0x7E) [
  | inl flag ↦ rw flag (escape_passes r.stage r 0x5E left refl refl h)
  | inr other ↦ elim (cases_eq b 0x7D) [
    | inl escape ↦ rw escape (escape_passes r.stage r 0x5D left refl refl h)
    | inr plain ↦ rw (ne_eqb b 0x7E other, ne_eqb b 0x7D plain) (plain_passes r.stage r b left (ne_eqb b 0x7E other) (ne_eqb b 0x7D plain) h)
  ]
]

data_passes : (packet : List ℕ) (r : ReaderOf) → Passes r (length packet) → Passes (reader_after r (data_of packet)) 0
unfolding data_of reader_after
data_passes [] r h = h
data_passes (b ∷ packet) r h =
    rw (reader_after_append r (data_of_byte b) (data_of packet))
    (data_passes packet (reader_after r (data_of_byte b)) (byte_passes r b (length packet) h))

abbrev IsReadyAfter : ReaderOf → List ℕ → Type 0
IsReadyAfter r bytes = IsReady (reader_after r bytes).stage

rest_readies : (r : ReaderOf) (packet whole : List ℕ) → Passes r (length packet) → IsReadyAfter r (data_of packet ++ end_of whole)
rest_readies r packet whole h =
    rw (reader_after_append r (data_of packet) (end_of whole))
    (end_readies (reader_after r (data_of packet)) (check_of whole / 256) (check_of whole % 256) (data_passes packet r h))

-- a byte that isn't escaped, if a byte count is expected
counted_passes : (r : ReaderOf) (b : ℕ) (c d : Bool) → b ≢ 0x7E → b ≢ 0x7D → (c ≡ true → 1 ≤ b)
    → Passes (if c && d then reader_before_data r b else reader_at stages.Lost r) 124
counted_passes r b true true other plain some = (omega (arith, some refl), (λ e. plain (omega (arith, e))), (λ e. other (omega (arith, e))))
counted_passes r b true false other plain some = tt
counted_passes r b false d other plain some = tt

-- A reader takes the byte count 126 for a flag, and the packet for a frame. It takes the packet's
-- second byte for a byte count, which can be neither 125, if it isn't escaped, nor 126.
revised_passes : (r : ReaderOf) (b : ℕ) → Passes (reader_after (reader_at stages.Revised r) (data_of_byte b)) 124
unfolding reader_after
revised_passes r b = elim (cases_eq b 0x7E) [
  | inl flag ↦ rw flag (either (nat_le 125 (HEAD_SIZE + bytes_of r.unit)) (λ q. Passes (reader_after_byte q 0x5E) 124) (reader_before_data r 125) (reader_at stages.Lost r)
      (omega arith, (λ e. absurd (omega (arith, e))), (λ e. absurd (omega (arith, e)))) tt)
  | inr other ↦ elim (cases_eq b 0x7D) [
    | inl escape ↦ rw escape (either (nat_le 125 (HEAD_SIZE + bytes_of r.unit)) (λ q. Passes (reader_after_byte q 0x5D) 124) (reader_before_data r 125) (reader_at stages.Lost r)
        (omega arith, (λ e. absurd (omega (arith, e))), (λ e. absurd (omega (arith, e)))) tt)
    | inr plain ↦ rw (ne_eqb b 0x7E other, ne_eqb b 0x7D plain) (counted_passes r b (nat_le 1 b) (nat_le b (HEAD_SIZE + bytes_of r.unit)) other plain (leb-true 1 b))
  ]
]

opened_passes : (r : ReaderOf) (b c : ℕ) → Passes (reader_after (reader_after (reader_at stages.Opened r) (data_of_byte b)) (data_of_byte c)) 124
unfolding reader_after
opened_passes r b c = elim (cases_eq b 0x7E) [
  | inl flag ↦ rw flag (byte_passes (reader_at stages.Lost r) c 124 tt)
  | inr other ↦ elim (cases_eq b 0x7D) [
    | inl escape ↦ rw escape (byte_passes (reader_at stages.Lost r) c 124 tt)
    | inr plain ↦ rw (ne_eqb b 0x7E other, ne_eqb b 0x7D plain)
        (either (b == 1) (λ q. Passes (reader_after q (data_of_byte c)) 124) (reader_at stages.Revised r)
        (if b == 0x7E then reader_at stages.Opened r else reader_at stages.Lost r)
        (revised_passes r c) (rw (ne_eqb b 0x7E other) (byte_passes (reader_at stages.Lost r) c 124 tt)))
  ]
]

opened_readies : (r : ReaderOf) (packet whole : List ℕ) → length packet ≡ 126 → IsReadyAfter (reader_at stages.Opened r) (data_of packet ++ end_of whole)
unfolding data_of
opened_readies r [] whole long = absurd (omega (arith, long))
opened_readies r (b ∷ []) whole long = absurd (omega (arith, long))
opened_readies r (b ∷ c ∷ packet) whole long =
    let left : length packet ≡ 124 = omega (arith, long) in
    let start = reader_at stages.Opened r in
    let rest = data_of packet ++ end_of whole in
    let parts : data_of (b ∷ c ∷ packet) ++ end_of whole ≡ data_of_byte b ++ (data_of_byte c ++ rest) =
    append_assoc (data_of_byte b) (data_of_byte c ++ data_of packet) (end_of whole)
    ∙ ap (λ (end : List ℕ). data_of_byte b ++ end) (append_assoc (data_of_byte c) (data_of packet) (end_of whole)) in
    let after = ap (reader_after start) parts ∙ (reader_after_append start (data_of_byte b) (data_of_byte c ++ rest)
    ∙ reader_after_append (reader_after start (data_of_byte b)) (data_of_byte c) rest) in
    subst (λ (q : ReaderOf). IsReady q.stage) (sym after)
    (rest_readies (reader_after (reader_after start (data_of_byte b)) (data_of_byte c)) packet whole (rw left (opened_passes r b c)))

-- the frame from its byte count on
abbrev counted_rest : List ℕ → List ℕ
counted_rest packet = length packet ∷ (data_of packet ++ end_of packet)

lost_readies : (r : ReaderOf) (packet : List ℕ) → IsReadyAfter (reader_at stages.Lost r) (counted_rest packet)
unfolding reader_after
lost_readies r packet =
    cond_both (length packet == 0x7E) (reader_at stages.Opened r) (reader_at stages.Lost r) (λ q. IsReadyAfter q (data_of packet ++ end_of packet))
    (λ e. opened_readies r packet packet (eqb-true (length packet) 0x7E e)) (λ _. rest_readies (reader_at stages.Lost r) packet packet tt)

closing_readies : (r : ReaderOf) (packet : List ℕ) → IsReadyAfter (reader_at stages.Closing r) (counted_rest packet)
unfolding reader_after
closing_readies r packet =
    either (length packet == 0x7E) (λ q. IsReadyAfter q (data_of packet ++ end_of packet)) (reader_at stages.Idle r) (reader_at stages.Lost r)
    (rest_readies (reader_at stages.Idle r) packet packet tt) (rest_readies (reader_at stages.Lost r) packet packet tt)

-- After a frame, the next flag begins a frame.
frame_readies : (s : Stage) (r : ReaderOf) (packet : List ℕ) → (s ≢ stages.Revised) ⊎ (r.unit ≡ units.U64)
    → (IsReady s → IsReadyAfter (reader_from s r 0x7E) (1 ∷ counted_rest packet)) → IsReadyAfter (reader_from s r 0x7E) (1 ∷ counted_rest packet)
unfolding reader_after
frame_readies stages.Idle r packet takes read = read tt
frame_readies stages.Opened r packet takes read = read tt
frame_readies stages.Filling r packet takes read = read tt
frame_readies stages.Lost r packet takes read = read tt
frame_readies stages.Escaped r packet takes read = lost_readies r packet
frame_readies stages.High r packet takes read = closing_readies (record r { high = 0x7E; low = 1 }) packet
frame_readies stages.Low r packet takes read = lost_readies (record r { low = 0x7E }) packet
frame_readies stages.Closing r packet takes read = lost_readies r packet
frame_readies stages.Revised r packet (inl elsewhere) read = absurd (elsewhere refl)
frame_readies stages.Revised r packet (inr unit) read =
    let long : (nat_le 1 0x7E && nat_le 0x7E (HEAD_SIZE + bytes_of r.unit)) ≡ false = rw unit refl in
    rw long (lost_readies r packet)

readies : (r : ReaderOf) (p : List ℕ) → TakesNoFlagAsCount r → HasFrameAt r.unit p → IsReadyAfter r (frame_of p)
unfolding reader_after
readies r p takes fits = frame_readies r.stage r p takes (λ ready. subst IsReady (sym (reads_frame_law r p ready fits).1) tt)

fits_after : (r : ReaderOf) (bytes q : List ℕ) → HasFrameAt r.unit q → HasFrameAt (reader_after r bytes).unit q
fits_after r bytes q fits = subst (λ (u : «Unit»). HasFrameAt u q) (sym (unit_after r bytes)) fits

pub loses_one_law : LosesOneFrame
loses_one_law r p q takes fits_p fits_q =
    let read = reads_frame_law (reader_after r (frame_of p)) q (readies r p takes fits_p) (fits_after r (frame_of p) q fits_q) in (
      packets_in_append r (frame_of p) (frame_of q) ∙ ap (λ (end : List (List ℕ)). packets_in r (frame_of p) ++ end) read.0,
      ap (λ (a : ReaderOf). a.stage) (reader_after_append r (frame_of p) (frame_of q)) ∙ read.1,
    )

-- after a flag, a reader isn't before a byte count
abbrev IsNotRevised : Stage → Type 0
IsNotRevised stages.Revised = ⊥
IsNotRevised s = Prim.Unit {0}

flag_passes : (s : Stage) (r : ReaderOf) → IsNotRevised (reader_from s r 0x7E).stage
flag_passes stages.Idle r = tt
flag_passes stages.Opened r = tt
flag_passes stages.Revised r =
    either (nat_le 1 0x7E && nat_le 0x7E (HEAD_SIZE + bytes_of r.unit)) (λ q. IsNotRevised q.stage) (reader_before_data r 0x7E) (reader_at stages.Lost r) tt tt
flag_passes stages.Filling r = tt
flag_passes stages.Escaped r = tt
flag_passes stages.High r = tt
flag_passes stages.Low r = tt
flag_passes stages.Closing r = tt
flag_passes stages.Lost r = tt

not_revised : (r : ReaderOf) (packet : List ℕ) → IsNotRevised (reader_after r (frame_of packet)).stage
unfolding reader_after
not_revised r packet =
    let before = 0x7E ∷ 1 ∷ length packet ∷ (data_of packet ++ check_of packet / 256 ∷ check_of packet % 256 ∷ []) in
    let parts : frame_of packet ≡ before ++ 0x7E ∷ [] =
    rw (append_assoc (data_of packet) (check_of packet / 256 ∷ check_of packet % 256 ∷ []) (0x7E ∷ [])) refl in
    let q = reader_after r before in
    subst (λ (a : ReaderOf). IsNotRevised a.stage) (sym (ap (reader_after r) parts ∙ reader_after_append r before (0x7E ∷ []))) (flag_passes q.stage q)

pub loses_two_law : LosesTwoFrames
loses_two_law r o p q fits_o fits_p fits_q =
    let after = reader_after r (frame_of o) in
    let takes : TakesNoFlagAsCount after = inl (λ e. subst IsNotRevised e (not_revised r o)) in
    let one = loses_one_law after p q takes (fits_after r (frame_of o) p fits_p) (fits_after r (frame_of o) q fits_q) in (
      packets_in_append r (frame_of o) (frame_of p ++ frame_of q)
          ∙ (ap (λ (end : List (List ℕ)). packets_in r (frame_of o) ++ end) one.0
          ∙ (sym (append_assoc (packets_in r (frame_of o)) (packets_in after (frame_of p)) (q ∷ []))
          ∙ ap (λ (first : List (List ℕ)). first ++ q ∷ []) (sym (packets_in_append r (frame_of o) (frame_of p))))),
      ap (λ (a : ReaderOf). a.stage) (reader_after_append r (frame_of o) (frame_of p ++ frame_of q)) ∙ one.1,
    )
