-- A packet that isn't for a half, or is delivered to a deaf one, changes nothing.
use Rattle.std.proofs.Common.{◌≡◌, ◌≢◌, ◌⊎◌, ◌≤◌, ◌+◌, ◌%◌, ◌∙◌, ℕ, ◌==◌, ◌&&◌, not, nat_lt, Bool, true, false, if◌then◌else◌, List, [], ◌∷◌, length, Some, None, Ok, Err, Result, inl, inr, refl, ap, arith}
use Rattle.std.proofs.lemmas.Bool.{cases_lt, eqb-true, le-ltb, lt-ltb, ne_eqb}
use Rattle.mctp_wire.specs.declared.unit.Unit.{«Unit»}
use Rattle.mctp_wire.specs.declared.unit.Unit.TheVariants.{U64, U128}
use Rattle.mctp_wire.specs.declared.fault.WireFault.TheVariants.{Version, Empty, TooLong}
use Rattle.fw_node.specs.Agents.{any_packet}
use Rattle.mctp_wire.specs.Packet as wire
use Rattle.mctp_wire.specs.declared.fault.WireFault.{WireFault}
use Rattle.mctp_wire.specs.declared.layout.Head.{Head}
use Rattle.mctp_reasm.specs.Inboxes.{for_end, is_for}
use Rattle.pldm_exch.specs.Sides.{AskerRow, TakerRow, asker_row, taker_row}
use Rattle.exch_lane.specs.Laws.{in_lane, read_between}
use Rattle.fw_node.specs.Halves.{CoreOf, HalfOutcome, HalfOf, half_on_packet, half_on_rows}
use Rattle.exch_lane.specs.Lanes.{Sent, item_numbered}
use Rattle.fw_steps.specs.Lanes.{LinkExplained}
use Rattle.fw_steps.specs.Links.{LinkOf}
use Rattle.fw_steps.proofs.LinksAreLanes.Comings.{fact_of}
use Rattle.fw_steps.proofs.LinksAreLanes.Ways.{IsOfEither}
use Rattle.fw_steps.proofs.LinksAreLanes.Routes.{both_hold, silent_asker, silent_taker}

-- neither end of the half does anything
silent_half : {C : Type 0} (core : CoreOf C) (works : Bool) (h : HalfOf C) (bytes : List ℕ)
    → asker_row h.unit h.own h.peer h.asker bytes ≡ AskerRow.Ignores h.asker.replies → taker_row h.unit h.own h.peer h.taker bytes ≡ TakerRow.Silent h.taker.requests
    → half_on_packet core works h bytes ≡ HalfOutcome.Went h []
silent_half core works h bytes asks answers =
    ap (λ r. half_on_rows core works h r (taker_row h.unit h.own h.peer h.taker bytes)) asks
    ∙ ap (half_on_rows core works h (AskerRow.Ignores h.asker.replies)) answers

-- bytes that are a packet at one transmission unit are a packet for reading its source
if_short : {A : Type 0} (version empty long longer : Bool) (x y : A) → (long ≡ false → longer ≡ false)
    → ◌≡◌ {A = Result A WireFault} (if version then Err Version else if empty then Err Empty else if long then Err TooLong else Ok x) (Ok y)
    → ◌≡◌ {A = Result A WireFault} (if version then Err Version else if empty then Err Empty else if longer then Err TooLong else Ok x) (Ok y)
if_short true empty long longer x y short e = absurd (cc)
if_short false true long longer x y short e = absurd (cc)
if_short false false true longer x y short e = absurd (cc)
if_short false false false longer x y short e = rw (short refl) e

short_too : (n : ℕ) → nat_lt 64 n ≡ false → nat_lt 128 n ≡ false
short_too n e = elim (cases_lt 64 n) [
  | inl more ↦ let long : nat_lt 64 n ≡ true = lt-ltb 64 n more in absurd (cc)
  | inr few ↦ le-ltb 128 n (omega arith)
]

pub reads_any : (u : «Unit») (bytes : List ℕ) (p : Head × List ℕ) → wire.packet_of u bytes ≡ Ok p → any_packet bytes ≡ Ok p
reads_any U128 bytes p e = e
reads_any U64 (version ∷ dest ∷ source ∷ flags ∷ body) p e =
    if_short (not (version % 16 == 1)) (length body == 0) (nat_lt 64 (length body)) (nat_lt 128 (length body)) (wire.head_of dest source flags, body) p (short_too (length body)) e
reads_any U64 bytes p e = absurd (cc)

-- the packet goes elsewhere
elsewhere : (dest source own peer : ℕ) (b : Bool) → dest ≢ own → ((dest == own) && (source == peer) && b) ≡ false
elsewhere dest source own peer b differ = rw (ne_eqb dest own differ) refl

missed_by : (own peer : ℕ) (to : Bool) (r : Result (Head × List ℕ) WireFault) → ((p : Head × List ℕ) → r ≡ Ok p → p.0.dest ≢ own) → for_end own peer to r ≡ None
missed_by own peer to (Ok p) far =
    let misses : is_for own peer to p.0 ≡ false = elsewhere p.0.dest p.0.source own peer (if to then p.0.to else not p.0.to) (far p refl) in
    rw misses refl
missed_by own peer to (Err fault) far = refl

-- A packet to another node changes nothing.
pub others_packet : {C : Type 0} (core : CoreOf C) (works : Bool) (h : HalfOf C) (bytes : List ℕ)
    → ((p : Head × List ℕ) → any_packet bytes ≡ Ok p → p.0.dest ≢ h.own) → half_on_packet core works h bytes ≡ HalfOutcome.Went h []
others_packet core works h bytes far =
    let misses : (p : Head × List ℕ) → wire.packet_of h.unit bytes ≡ Ok p → p.0.dest ≢ h.own = λ p e. far p (reads_any h.unit bytes p e) in
    silent_half core works h bytes
    (silent_asker h.unit h.asker h.own h.peer bytes (missed_by h.own h.peer false (wire.packet_of h.unit bytes) misses))
    (silent_taker h.unit h.taker h.own h.peer bytes (missed_by h.own h.peer true (wire.packet_of h.unit bytes) misses))

-- A deaf half handles nothing.
pub deaf_hears_nothing : {C : Type 0} (core : CoreOf C) (works : Bool) (h : HalfOf C) (bytes : List ℕ) → h.asker.deaf ≢ 0 → h.taker.deaf ≢ 0
    → half_on_packet core works h bytes ≡ HalfOutcome.Went h []
deaf_hears_nothing core works h bytes asker taker =
    silent_half core works h bytes (rw (ne_eqb h.asker.deaf 0 asker) refl) (rw (ne_eqb h.taker.deaf 0 taker) refl)

-- A packet of a lane goes from one of its ends to the other.
pub record GoesBetween (x y : ℕ) (bytes : List ℕ) : Type 0 where
  pub head : Head
  pub body : List ℕ
  pub reads : any_packet bytes ≡ Ok (head, body)
  pub ends : ((head.source ≡ x) × (head.dest ≡ y)) ⊎ ((head.source ≡ y) × (head.dest ≡ x))

ends_of : (to : Bool) (dest source x y : ℕ) → (if to then (source == x) && (dest == y) else (source == y) && (dest == x)) ≡ true
    → ((source ≡ x) × (dest ≡ y)) ⊎ ((source ≡ y) × (dest ≡ x))
ends_of true dest source x y e = let both = both_hold (source == x) (dest == y) e in inl (eqb-true source x both.0, eqb-true dest y both.1)
ends_of false dest source x y e = let both = both_hold (source == y) (dest == x) e in inr (eqb-true source y both.0, eqb-true dest x both.1)

between_read : (u : «Unit») (x y : ℕ) (bytes : List ℕ) (r : Result (Head × List ℕ) WireFault) → wire.packet_of u bytes ≡ r → read_between x y r ≡ true → GoesBetween x y bytes
between_read u x y bytes (Ok p) is e = record { head = p.0; body = p.1; reads = reads_any u bytes p is; ends = ends_of p.0.to p.0.dest p.0.source x y e }
between_read u x y bytes (Err fault) is e = absurd (cc)

pub goes_between : (u : «Unit») (x y : ℕ) (bytes : List ℕ) → in_lane u x y bytes ≡ true → GoesBetween x y bytes
goes_between u x y bytes e = between_read u x y bytes (wire.packet_of u bytes) refl e

-- the same, of the other lane
turned_ends : (source dest x y : ℕ) → ((source ≡ y) × (dest ≡ x)) ⊎ ((source ≡ x) × (dest ≡ y)) → ((source ≡ x) × (dest ≡ y)) ⊎ ((source ≡ y) × (dest ≡ x))
turned_ends source dest x y (inl e) = inr e
turned_ends source dest x y (inr e) = inl e

between_turned : (x y : ℕ) (bytes : List ℕ) → GoesBetween y x bytes → GoesBetween x y bytes
between_turned x y bytes g = record { head = g.head; body = g.body; reads = g.reads; ends = turned_ends g.head.source g.head.dest x y g.ends }

between_either : (u v : «Unit») (x y : ℕ) (bytes : List ℕ) → (in_lane u x y bytes ≡ true) ⊎ (in_lane v y x bytes ≡ true) → GoesBetween x y bytes
between_either u v x y bytes (inl e) = goes_between u x y bytes e
between_either u v x y bytes (inr e) = between_turned x y bytes (goes_between v y x bytes e)

-- A packet of a link that can still be received goes between its two nodes.
pub link_packet_between : (now : ℕ) (l : LinkOf) (number : ℕ) (s : Sent) → LinkExplained now l → item_numbered l.packets number ≡ Some s → now ≤ s.date + 8
    → GoesBetween l.agent.own l.device.own s.bytes
link_packet_between now l number s e is soon =
    between_either l.agent.unit l.device.unit l.agent.own l.device.own s.bytes (fact_of (IsOfEither l.agent.unit l.device.unit now l.agent.own l.device.own) l.packets number s e.packets is soon)
