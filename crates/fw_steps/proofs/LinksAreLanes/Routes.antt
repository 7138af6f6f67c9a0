-- A packet of one of a link's lanes isn't for the ends of the other.
use Rattle.std.proofs.Common.{◌≡◌, ◌≢◌, ◌∙◌, ℕ, ◌==◌, ◌&&◌, not, Bool, true, false, if◌then◌else◌, List, None, Ok, Err, Result, refl, sym, inl, inr}
use Rattle.std.proofs.lemmas.Bool.{ne_eqb}
use Rattle.std.proofs.lemmas.Bool.Decides.{eqb_tells}
use Rattle.mctp_wire.specs.declared.unit.Unit.{«Unit»}
use Rattle.mctp_wire.specs.Packet as wire
use Rattle.mctp_wire.specs.declared.fault.WireFault.{WireFault}
use Rattle.mctp_wire.specs.declared.layout.Head.{Head}
use Rattle.mctp_reasm.specs.Inboxes.{for_end, is_for, packet_for}
use Rattle.pldm_exch.specs.Ends.{AskerOf, TakerOf}
use Rattle.pldm_exch.specs.Sides.{AskerRow, TakerRow, asker_row, taker_row}
use Rattle.exch_lane.specs.Laws.{in_lane, read_between}

pub both_hold : (a b : Bool) → (a && b) ≡ true → (a ≡ true) × (b ≡ true)
both_hold true true e = (refl, refl)
both_hold true false e = absurd (cc)
both_hold false b e = absurd (cc)

-- a number is one of two different ones
not_both : (n x y : ℕ) → x ≢ y → (n == x) ≡ true → (n == y) ≡ false
not_both n x y differ e = elim (eqb_tells n x) [
  | inl same ↦ ne_eqb n y (λ z. differ (sym same.1 ∙ z))
  | inr other ↦ absurd (let o = other.0 in cc)
]

and_false : (b : Bool) → (b && false) ≡ false
and_false true = refl
and_false false = refl

-- a head of one lane isn't one for the asker of the other
no_reply : (to : Bool) (dest source x y : ℕ) → x ≢ y
    → (if to then (source == x) && (dest == y) else (source == y) && (dest == x)) ≡ true
    → ((dest == y) && (source == x) && (if false then to else not to)) ≡ false
no_reply true dest source x y differ e = and_false ((dest == y) && (source == x))
no_reply false dest source x y differ e =
    let far : (dest == y) ≡ false = not_both dest x y differ (both_hold (source == y) (dest == x) e).1 in
    rw far refl

-- nor for its taker
no_request : (to : Bool) (dest source x y : ℕ) → x ≢ y
    → (if to then (source == x) && (dest == y) else (source == y) && (dest == x)) ≡ true
    → ((dest == x) && (source == y) && (if true then to else not to)) ≡ false
no_request true dest source x y differ e =
    let far : (dest == x) ≡ false = not_both dest y x (λ z. differ (sym z)) (both_hold (source == x) (dest == y) e).1 in
    rw far refl
no_request false dest source x y differ e = and_false ((dest == x) && (source == y))

-- nor is it of the other lane
other_head : (to : Bool) (dest source x y : ℕ) → x ≢ y
    → (if to then (source == x) && (dest == y) else (source == y) && (dest == x)) ≡ true
    → (if to then (source == y) && (dest == x) else (source == x) && (dest == y)) ≡ false
other_head true dest source x y differ e =
    let far : (source == y) ≡ false = not_both source x y differ (both_hold (source == x) (dest == y) e).0 in
    rw far refl
other_head false dest source x y differ e =
    let far : (source == x) ≡ false = not_both source y x (λ z. differ (sym z)) (both_hold (source == y) (dest == x) e).0 in
    rw far refl

reply_misses : (x y : ℕ) (r : Result (Head × List ℕ) WireFault) → x ≢ y → read_between x y r ≡ true → for_end y x false r ≡ None
reply_misses x y (Ok p) differ e =
    let far : is_for y x false p.0 ≡ false = no_reply p.0.to p.0.dest p.0.source x y differ e in
    rw far refl
reply_misses x y (Err fault) differ e = refl

request_misses : (x y : ℕ) (r : Result (Head × List ℕ) WireFault) → x ≢ y → read_between x y r ≡ true → for_end x y true r ≡ None
request_misses x y (Ok p) differ e =
    let far : is_for x y true p.0 ≡ false = no_request p.0.to p.0.dest p.0.source x y differ e in
    rw far refl
request_misses x y (Err fault) differ e = refl

other_read : (x y : ℕ) (r : Result (Head × List ℕ) WireFault) → x ≢ y → read_between x y r ≡ true → read_between y x r ≡ false
other_read x y (Ok p) differ e = other_head p.0.to p.0.dest p.0.source x y differ e
other_read x y (Err fault) differ e = refl

-- a packet is of one lane only
pub other_lane : (u : «Unit») (x y : ℕ) (bytes : List ℕ) → x ≢ y → in_lane u x y bytes ≡ true → in_lane u y x bytes ≡ false
other_lane u x y bytes differ e = other_read x y (wire.packet_of u bytes) differ e

pub silent_asker : (u : «Unit») (a : AskerOf) (own peer : ℕ) (bytes : List ℕ) → packet_for u own peer false bytes ≡ None → asker_row u own peer a bytes ≡ AskerRow.Ignores a.replies
silent_asker u a own peer bytes e = elim (eqb_tells a.deaf 0) [
  | inl same ↦ rw (same.0, e) refl
  | inr other ↦ rw other.0 refl
]

pub silent_taker : (u : «Unit») (t : TakerOf) (own peer : ℕ) (bytes : List ℕ) → packet_for u own peer true bytes ≡ None → taker_row u own peer t bytes ≡ TakerRow.Silent t.requests
silent_taker u t own peer bytes e = elim (eqb_tells t.deaf 0) [
  | inl same ↦ rw (same.0, e) refl
  | inr other ↦ rw other.0 refl
]

-- A packet of the lane in which a node answers changes nothing at its end that asks.
pub asks_nothing : (u : «Unit») (a : AskerOf) (own peer : ℕ) (bytes : List ℕ) → peer ≢ own → in_lane u peer own bytes ≡ true → asker_row u own peer a bytes ≡ AskerRow.Ignores a.replies
asks_nothing u a own peer bytes differ e = silent_asker u a own peer bytes (reply_misses peer own (wire.packet_of u bytes) differ e)

-- A packet of the lane in which it asks changes nothing at its end that answers.
pub answers_nothing : (u : «Unit») (t : TakerOf) (own peer : ℕ) (bytes : List ℕ) → own ≢ peer → in_lane u own peer bytes ≡ true → taker_row u own peer t bytes ≡ TakerRow.Silent t.requests
answers_nothing u t own peer bytes differ e = silent_taker u t own peer bytes (request_misses own peer (wire.packet_of u bytes) differ e)
