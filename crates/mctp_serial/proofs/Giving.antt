-- Each packet that a reader returns is the packet of a frame.
use Rattle.std.proofs.Common.{◌≡◌, ◌∙◌, ℕ, ◌+◌, ◌*◌, ◌<◌, ◌≤◌, ◌&&◌, Bool, true, false, nat_le, if◌then◌else◌, List, [], ◌∷◌, ◌++◌, length, Some, None, refl, sym, ap, subst, inl, inr, arith, append_assoc, append-nil, length-append}
use Rattle.std.proofs.lemmas.Bool.{cases_eq, eq-eqb, leb-true, ne_eqb}
use Rattle.mctp_wire.specs.Units.{bytes_of}
use Rattle.mctp_wire.specs.declared.layout.TheConstants.{HEAD_SIZE}
use Rattle.mctp_wire.specs.declared.unit.Unit.{«Unit»}
use Rattle.mctp_wire.specs.declared.unit.Unit.TheVariants as units
use Rattle.mctp_serial.specs.Check.{check_of}
use Rattle.mctp_serial.specs.Frames.{ESCAPE, FLAG, HasFrameAt, data_of, data_of_byte}
use Rattle.mctp_serial.specs.Reader.{ReaderOf, new_reader, packet_from, reader_after, reader_after_byte, reader_at, reader_before_data, reader_from, reader_with}
use Rattle.mctp_serial.specs.Laws.{EndsWithFrame, GivesFramed}
use Rattle.mctp_serial.specs.declared.stage.Stage.{Stage}
use Rattle.mctp_serial.specs.declared.stage.Stage.TheVariants as stages
use Rattle.mctp_serial.proofs.Framing.{data_is}
use Rattle.mctp_serial.proofs.Streams.{unit_after}

-- the bytes of a frame up to the data, and the data that the reader has
abbrev begun_with : ReaderOf → List ℕ → List ℕ
begun_with r bytes = FLAG ∷ 1 ∷ r.count ∷ (data_of r.packet ++ bytes)

abbrev part_of : Stage → ReaderOf → List ℕ
part_of stages.Opened r = FLAG ∷ []
part_of stages.Revised r = FLAG ∷ 1 ∷ []
part_of stages.Filling r = begun_with r []
part_of stages.Escaped r = begun_with r (ESCAPE ∷ [])
part_of stages.High r = begun_with r []
part_of stages.Low r = begun_with r (r.high ∷ [])
part_of stages.Closing r = begun_with r (r.high ∷ r.low ∷ [])
part_of s r = []

-- the bounds of the byte count
abbrev IsCounted : Stage → ReaderOf → Type 0
IsCounted stages.Filling r = (length r.packet < r.count) × (r.count ≤ HEAD_SIZE + bytes_of r.unit)
IsCounted stages.Escaped r = (length r.packet < r.count) × (r.count ≤ HEAD_SIZE + bytes_of r.unit)
IsCounted stages.High r = (length r.packet ≡ r.count) × (1 ≤ r.count) × (r.count ≤ HEAD_SIZE + bytes_of r.unit)
IsCounted stages.Low r = (length r.packet ≡ r.count) × (1 ≤ r.count) × (r.count ≤ HEAD_SIZE + bytes_of r.unit)
IsCounted stages.Closing r = (length r.packet ≡ r.count) × (1 ≤ r.count) × (r.count ≤ HEAD_SIZE + bytes_of r.unit)
IsCounted s r = Prim.Unit {0}

-- a reader with this stage has read the end of the stream
record EndsWithPart (s : Stage) (r : ReaderOf) (stream : List ℕ) : Type 0 where
  before : List ℕ
  parts : stream ≡ before ++ part_of s r
  counted : IsCounted s r

abbrev HasRead : ReaderOf → List ℕ → Type 0
HasRead r stream = EndsWithPart r.stage r stream

-- one more byte of a stream
parts_more : (stream before part : List ℕ) (b : ℕ) → stream ≡ before ++ part → stream ++ b ∷ [] ≡ before ++ (part ++ b ∷ [])
parts_more stream before part b is = rw is (append_assoc before part (b ∷ []))

part_more : (r : ReaderOf) (stream before bytes : List ℕ) (b : ℕ) → stream ≡ before ++ begun_with r bytes
    → stream ++ b ∷ [] ≡ before ++ begun_with r (bytes ++ b ∷ [])
part_more r stream before bytes b is =
    parts_more stream before (begun_with r bytes) b is
    ∙ ap (λ (end : List ℕ). before ++ FLAG ∷ 1 ∷ r.count ∷ end) (append_assoc (data_of r.packet) bytes (b ∷ []))

-- the data of a packet and a byte
data_append : (xs ys : List ℕ) → data_of (xs ++ ys) ≡ data_of xs ++ data_of ys
unfolding data_of
data_append [] ys = refl
data_append (x ∷ xs) ys =
    ap (λ (end : List ℕ). data_of_byte x ++ end) (data_append xs ys) ∙ sym (append_assoc (data_of_byte x) (data_of xs) (data_of ys))

data_one : (b : ℕ) → data_of (b ∷ []) ≡ data_of_byte b
unfolding data_of
data_one b = append-nil (data_of_byte b)

-- no part of a frame, and a flag
lost : (r : ReaderOf) (stream : List ℕ) → HasRead (reader_at stages.Lost r) stream
lost r stream = record { before = stream; parts = sym (append-nil stream); counted = tt }

idle : (r : ReaderOf) (stream : List ℕ) → HasRead (reader_at stages.Idle r) stream
idle r stream = record { before = stream; parts = sym (append-nil stream); counted = tt }

opened : (r : ReaderOf) (stream : List ℕ) → HasRead (reader_at stages.Opened r) (stream ++ 0x7E ∷ [])
opened r stream = record { before = stream; parts = refl; counted = tt }

seeks : (r : ReaderOf) (b : ℕ) (stream : List ℕ) → HasRead (reader_from stages.Lost r b) (stream ++ b ∷ [])
seeks r b stream = elim (cases_eq b 0x7E) [
  | inl flag ↦ rw flag (opened r stream)
  | inr other ↦ rw (ne_eqb b 0x7E other) (lost r (stream ++ b ∷ []))
]

-- a byte of the packet; the data so far end with `bytes`
with_byte : (r : ReaderOf) (b : ℕ) (stream before bytes : List ℕ) → data_of_byte b ≡ bytes → stream ≡ before ++ begun_with r bytes
    → length r.packet < r.count → r.count ≤ HEAD_SIZE + bytes_of r.unit → HasRead (reader_with r b) stream
with_byte r b stream before bytes spelled is few fits =
    let long = length-append r.packet (b ∷ []) in
    let same : data_of r.packet ++ bytes ≡ data_of (r.packet ++ b ∷ []) ++ [] =
    sym (append-nil (data_of (r.packet ++ b ∷ [])) ∙ (data_append r.packet (b ∷ []) ∙ ap (λ (end : List ℕ). data_of r.packet ++ end) (data_one b ∙ spelled))) in
    let whole = is ∙ ap (λ (end : List ℕ). before ++ FLAG ∷ 1 ∷ r.count ∷ end) same in
    elim (cases_eq (length r.packet + 1) r.count) [
      | inl last ↦ rw (eq-eqb (length r.packet + 1) r.count last)
          (record { before = before; parts = whole; counted = (omega (arith, long, last), omega (arith, few), fits) })
      | inr more ↦ rw (ne_eqb (length r.packet + 1) r.count more)
          (record { before = before; parts = whole; counted = (omega (arith, long, more, few), fits) })
    ]

-- the byte count
counts : (r : ReaderOf) (b : ℕ) (stream before : List ℕ) (c d : Bool) → stream ≡ before ++ FLAG ∷ 1 ∷ [] → (c ≡ true → 1 ≤ b)
    → (d ≡ true → b ≤ HEAD_SIZE + bytes_of r.unit)
    → HasRead (if c && d then reader_before_data r b else reader_at stages.Lost r) (stream ++ b ∷ [])
unfolding data_of
counts r b stream before true true is some fits =
    record { before = before; parts = parts_more stream before (FLAG ∷ 1 ∷ []) b is; counted = (some refl, fits refl) }
counts r b stream before true false is some fits = lost r (stream ++ b ∷ [])
counts r b stream before false d is some fits = lost r (stream ++ b ∷ [])

step : (s : Stage) (r : ReaderOf) (b : ℕ) (stream : List ℕ) → EndsWithPart s r stream → HasRead (reader_from s r b) (stream ++ b ∷ [])
step stages.Idle r b stream h = seeks r b stream
step stages.Lost r b stream h = seeks r b stream
step stages.Opened r b stream h = elim (cases_eq b 1) [
  | inl one ↦ rw one (record { before = h.before; parts = parts_more stream h.before (FLAG ∷ []) 1 h.parts; counted = tt })
  | inr other ↦ rw (ne_eqb b 1 other) (seeks r b stream)
]
step stages.Revised r b stream h =
    counts r b stream h.before (nat_le 1 b) (nat_le b (HEAD_SIZE + bytes_of r.unit)) h.parts (leb-true 1 b) (leb-true b (HEAD_SIZE + bytes_of r.unit))
step stages.Filling r b stream h = elim (cases_eq b 0x7D) [
  | inl escape ↦ rw escape (record { before = h.before; parts = part_more r stream h.before [] 0x7D h.parts; counted = h.counted })
  | inr plain ↦ elim (cases_eq b 0x7E) [
    | inl flag ↦ rw flag (opened r stream)
    | inr other ↦ rw (ne_eqb b 0x7D plain, ne_eqb b 0x7E other)
        (with_byte r b (stream ++ b ∷ []) h.before (b ∷ []) (rw (ne_eqb b 0x7D plain, ne_eqb b 0x7E other) refl)
        (part_more r stream h.before [] b h.parts) h.counted.0 h.counted.1)
  ]
]
step stages.Escaped r b stream h = elim (cases_eq b 0x5D) [
  | inl escape ↦ rw escape (with_byte r 0x7D (stream ++ 0x5D ∷ []) h.before (0x7D ∷ 0x5D ∷ []) refl
      (part_more r stream h.before (0x7D ∷ []) 0x5D h.parts) h.counted.0 h.counted.1)
  | inr plain ↦ elim (cases_eq b 0x5E) [
    | inl flag ↦ rw flag (with_byte r 0x7E (stream ++ 0x5E ∷ []) h.before (0x7D ∷ 0x5E ∷ []) refl
        (part_more r stream h.before (0x7D ∷ []) 0x5E h.parts) h.counted.0 h.counted.1)
    | inr other ↦ rw (ne_eqb b 0x5D plain, ne_eqb b 0x5E other) (lost r (stream ++ b ∷ []))
  ]
]
step stages.High r b stream h = record { before = h.before; parts = part_more r stream h.before [] b h.parts; counted = h.counted }
step stages.Low r b stream h = record { before = h.before; parts = part_more r stream h.before (r.high ∷ []) b h.parts; counted = h.counted }
step stages.Closing r b stream h = elim (cases_eq b 0x7E) [
  | inl flag ↦ rw flag (idle r (stream ++ 0x7E ∷ []))
  | inr other ↦ rw (ne_eqb b 0x7E other) (lost r (stream ++ b ∷ []))
]

steps : (bytes : List ℕ) (r : ReaderOf) (stream : List ℕ) → HasRead r stream → HasRead (reader_after r bytes) (stream ++ bytes)
unfolding reader_after
steps [] r stream h = rw (append-nil stream) h
steps (b ∷ bytes) r stream h =
    subst (HasRead (reader_after (reader_after_byte r b) bytes)) (append_assoc stream (b ∷ []) bytes)
    (steps bytes (reader_after_byte r b) (stream ++ b ∷ []) (step r.stage r b stream h))

-- facts about a packet that a reader returns
record GivesPacket (s : Stage) (r : ReaderOf) (b : ℕ) (packet : List ℕ) : Type 0 where
  closing : s ≡ stages.Closing
  flag : b ≡ 0x7E
  check : check_of r.packet ≡ r.high * 256 + r.low
  same : r.packet ≡ packet

some_same : (x y : List ℕ) → Some x ≡ Some y → x ≡ y
some_same x y e = cc

gives : (s : Stage) (r : ReaderOf) (b : ℕ) (packet : List ℕ) → packet_from s r b ≡ Some packet → GivesPacket s r b packet
gives stages.Closing r b packet given = elim (cases_eq b 0x7E) [
  | inr other ↦ let e : None ≡ Some packet = rw (ne_eqb b 0x7E other) at given in absurd (cc)
  | inl flag ↦ elim (cases_eq (check_of r.packet) (r.high * 256 + r.low)) [
    | inl check ↦ let e : Some r.packet ≡ Some packet = rw (flag, eq-eqb (check_of r.packet) (r.high * 256 + r.low) check) at given in
        record { closing = refl; flag = flag; check = check; same = some_same r.packet packet e }
    | inr wrong ↦ let e : None ≡ Some packet = rw (flag, ne_eqb (check_of r.packet) (r.high * 256 + r.low) wrong) at given in absurd (cc)
  ]
]
gives stages.Idle r b packet given = absurd (cc)
gives stages.Opened r b packet given = absurd (cc)
gives stages.Revised r b packet given = absurd (cc)
gives stages.Filling r b packet given = absurd (cc)
gives stages.Escaped r b packet given = absurd (cc)
gives stages.High r b packet given = absurd (cc)
gives stages.Low r b packet given = absurd (cc)
gives stages.Lost r b packet given = absurd (cc)

most : (u : «Unit») → bytes_of u ≤ 128
most units.U64 = omega arith
most units.U128 = omega arith

closes : (r : ReaderOf) (stream : List ℕ) → EndsWithPart stages.Closing r stream → check_of r.packet ≡ r.high * 256 + r.low
    → EndsWithFrame (stream ++ 0x7E ∷ []) r.packet × HasFrameAt r.unit r.packet
closes r stream h check =
    let long = h.counted.0 in
    let some = h.counted.1 in
    let few = h.counted.2 in
    let unit = most r.unit in (
      record {
        before = h.before;
        frame = begun_with r (r.high ∷ r.low ∷ FLAG ∷ []);
        whole = record {
          escaped = data_of r.packet;
          high = r.high;
          low = r.low;
          layout = rw long refl;
          size = (omega (arith, long, some), omega (arith, long, few, unit));
          holds = data_is r.packet;
          check = sym check;
        };
        parts = part_more r stream h.before (r.high ∷ r.low ∷ []) 0x7E h.parts;
      },
      (omega (arith, long, some), omega (arith, long, few)),
    )

pub gives_framed_law : GivesFramed
gives_framed_law u bytes b packet given =
    let r = reader_after (new_reader u) bytes in
    let start : HasRead (new_reader u) [] = record { before = []; parts = refl; counted = tt } in
    let h : HasRead r bytes = steps bytes (new_reader u) [] start in
    let g = gives r.stage r b packet given in
    let here : EndsWithPart stages.Closing r bytes = subst (λ (s : Stage). EndsWithPart s r bytes) g.closing h in
    let e : EndsWithFrame (bytes ++ 0x7E ∷ []) r.packet × HasFrameAt r.unit r.packet = closes r bytes here g.check in
    rw g.flag (subst (λ (q : List ℕ). EndsWithFrame (bytes ++ 0x7E ∷ []) q × HasFrameAt u q) g.same
    (subst (λ (v : «Unit»). EndsWithFrame (bytes ++ 0x7E ∷ []) r.packet × HasFrameAt v r.packet) (unit_after (new_reader u) bytes) e))
