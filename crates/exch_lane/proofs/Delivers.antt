-- A packet is delivered to an end.
use Rattle.std.proofs.Common.{◌≡◌, ◌+◌, ◌-◌, ◌≤◌, ◌<◌, ℕ, true, false, List, Option, Some, None, IsSomeAnd, length, slice_get, inl, inr, refl, sym, arith}
use Rattle.pldm_base.specs.Limits.{reply_limit}
use Rattle.std.proofs.lemmas.Bool.{cases_lt, le-ltb, lt-ltb}
use Rattle.std.proofs.lemmas.Bool.Decides.{eqb_tells}
use Rattle.exch_lane.specs.Cells.{cell_delivers, cell_after_packet}
use Rattle.exch_lane.specs.Lanes.{LaneOf, Sent, item_numbered}
use Rattle.mctp_reasm.specs.Inboxes.{packet_for}
use Rattle.exch_lane.specs.Steps.{asker_row_in, lane_after_deliver, lane_after_packet, may_deliver, taker_row_in}
use Rattle.exch_lane.specs.declared.step.End.{End}
use Rattle.exch_lane.specs.declared.step.End.TheVariants as ends
use Rattle.exch_lane.specs.declared.step.LaneFault.TheVariants as faults
use Rattle.exch_lane.proofs.Arrivals.{packet_misses}
use Rattle.exch_lane.proofs.AskerRows.{asker_silent, few_of, hears_reply}
use Rattle.exch_lane.proofs.Below.{Laws}
use Rattle.exch_lane.proofs.Deliveries.{reply_is, request_is}
use Rattle.exch_lane.proofs.Ghosts.{Ghost, GoesOn, IsExplained, IsLiving, IsOfExchange, IsPacketOf, LaneGood, ends_of, run_of}
use Rattle.exch_lane.proofs.Lifts.{all_at}
use Rattle.exch_lane.proofs.TakerRows.{hears_request, taker_silent}
use Rattle.exch_lane.proofs.TakerTakes.{came_of}
use Rattle.exch_lane.proofs.Views.{Exchange, reply_of, request_of}

-- the effect of bytes on an end and on the cell
abbrev pub Hears : LaneOf → Ghost → End → List ℕ → List ℕ → Type 0
Hears w g end reply bytes = GoesOn (lane_after_packet w end bytes reply) (cell_after_packet w end reply bytes (run_of w g))

-- a packet that isn't for an end
asker_misses : (w : LaneOf) (g : Ghost) (reply bytes : List ℕ) → packet_for w.unit w.asker_eid w.taker_eid false bytes ≡ None → LaneGood w g → Hears w g ends.Asker reply bytes
asker_misses w g reply bytes misses h = elim (eqb_tells w.asker.deaf 0) [
  | inl same ↦ asker_silent w g (asker_row_in w bytes) (rw (same.0, misses) refl) h
  | inr other ↦ asker_silent w g (asker_row_in w bytes) (rw other.0 refl) h
]

taker_misses : (w : LaneOf) (g : Ghost) (reply bytes : List ℕ) → packet_for w.unit w.taker_eid w.asker_eid true bytes ≡ None → LaneGood w g → Hears w g ends.Taker reply bytes
taker_misses w g reply bytes misses h = elim (eqb_tells w.taker.deaf 0) [
  | inl same ↦ taker_silent w g reply (taker_row_in w bytes) (rw (same.0, misses) refl) h
  | inr other ↦ taker_silent w g reply (taker_row_in w bytes) (rw other.0 refl) h
]

-- a packet of a request
request_comes : (l : Laws) (w : LaneOf) (g : Ghost) (tag : ℕ) (e : Exchange) (end : End) (reply : List ℕ) (s : Sent)
    → IsPacketOf w.unit (request_of (ends_of w tag) e) s.bytes → s.date ≤ e.last → w.now ≤ s.date + 8 → tag < 8 → g.exchanges tag ≡ Some e
    → length reply ≤ reply_limit w.unit → LaneGood w g
    → Hears w g end reply s.bytes
request_comes l w g tag e ends.Asker reply s p before soon low is few h =
    asker_misses w g reply s.bytes
    (packet_misses l w.unit w.asker_eid w.taker_eid false (request_of (ends_of w tag) e) p.number p.packet s.bytes (request_is (ends_of w tag) e (came_of w g tag e low is h).wording) low (λ same. h.body.differ (sym same)) p.at p.is) h
request_comes l w g tag e ends.Taker reply s p before soon low is few h = elim (eqb_tells w.taker.deaf 0) [
  | inl same ↦ hears_request l w g tag e reply s p few (record { low = low; is = is; hears = same.1; soon = omega arith }) h
  | inr other ↦ taker_silent w g reply (taker_row_in w s.bytes) (rw other.0 refl) h
]

-- a packet of a reply
reply_comes : (l : Laws) (w : LaneOf) (g : Ghost) (tag : ℕ) (e : Exchange) (r : List ℕ) (end : End) (reply : List ℕ) (s : Sent)
    → IsPacketOf w.unit (reply_of (ends_of w tag) e r) s.bytes → s.date ≤ e.last + 8 → w.now ≤ s.date + 8 → tag < 8 → g.exchanges tag ≡ Some e
    → e.reply ≡ Some r → LaneGood w g
    → Hears w g end reply s.bytes
reply_comes l w g tag e r ends.Asker reply s p before soon low is answered h = elim (eqb_tells w.asker.deaf 0) [
  | inl same ↦ hears_reply l w g tag e r s p (record { low = low; is = is; answered = answered; hears = same.1; soon = omega arith }) h
  | inr other ↦ asker_silent w g (asker_row_in w s.bytes) (rw other.0 refl) h
]
reply_comes l w g tag e r ends.Taker reply s p before soon low is answered h =
    taker_misses w g reply s.bytes
    (packet_misses l w.unit w.taker_eid w.asker_eid true (reply_of (ends_of w tag) e r) p.number p.packet s.bytes (reply_is (ends_of w tag) e r (few_of w.unit e r answered (came_of w g tag e low is h).wording)) low h.body.differ p.at p.is) h

-- a living packet is one of an exchange
reply_from : (l : Laws) (w : LaneOf) (g : Ghost) (tag : ℕ) (e : Exchange) (o : Option (List ℕ)) (end : End) (reply : List ℕ) (s : Sent) → e.reply ≡ o
    → IsSomeAnd o (λ r. IsPacketOf w.unit (reply_of (ends_of w tag) e r) s.bytes × (s.date ≤ e.last + 8)) → w.now ≤ s.date + 8 → tag < 8
    → g.exchanges tag ≡ Some e → LaneGood w g
    → Hears w g end reply s.bytes
reply_from l w g tag e None end reply s answered of soon low is h = absurd of
reply_from l w g tag e (Some r) end reply s answered of soon low is h = reply_comes l w g tag e r end reply s of.0 of.1 soon low is answered h

packet_from : (l : Laws) (w : LaneOf) (g : Ghost) (tag : ℕ) (e : Exchange) (end : End) (reply : List ℕ) (s : Sent) → IsOfExchange (ends_of w tag) e s
    → w.now ≤ s.date + 8 → tag < 8 → g.exchanges tag ≡ Some e → length reply ≤ reply_limit w.unit → LaneGood w g
    → Hears w g end reply s.bytes
packet_from l w g tag e end reply s (inl of) soon low is few h = request_comes l w g tag e end reply s of.0 of.1 soon low is few h
packet_from l w g tag e end reply s (inr of) soon low is few h = reply_from l w g tag e e.reply end reply s refl of soon low is h

exchange_from : (l : Laws) (w : LaneOf) (g : Ghost) (tag : ℕ) (o : Option Exchange) (end : End) (reply : List ℕ) (s : Sent) → g.exchanges tag ≡ o
    → IsSomeAnd o (λ e. IsOfExchange (ends_of w tag) e s) → w.now ≤ s.date + 8 → tag < 8 → length reply ≤ reply_limit w.unit → LaneGood w g
    → Hears w g end reply s.bytes
exchange_from l w g tag None end reply s is of soon low few h = absurd of
exchange_from l w g tag (Some e) end reply s is of soon low few h = packet_from l w g tag e end reply s of soon low is few h

living_comes : (l : Laws) (w : LaneOf) (g : Ghost) (end : End) (reply : List ℕ) (s : Sent) → IsExplained w.unit w.asker_eid w.taker_eid g.exchanges s
    → w.now ≤ s.date + 8 → length reply ≤ reply_limit w.unit → LaneGood w g → Hears w g end reply s.bytes
living_comes l w g end reply s k soon few h = exchange_from l w g k.tag (g.exchanges k.tag) end reply s refl k.of soon k.low few h

-- the packet with a number
at_number : (packets : List Sent) (number : ℕ) (s : Sent) → item_numbered packets number ≡ Some s → slice_get packets (number - 1) ≡ Some s
at_number packets number s e = elim (cases_lt 0 number) [
  | inl some ↦ rw (lt-ltb 0 number some) at e
  | inr none ↦ let no : None ≡ Some s = rw (le-ltb 0 number none) at e in absurd (cc)
]

still_living : (now : ℕ) (s : Sent) → may_deliver now (Some s) ≡ None → now ≤ s.date + 8
still_living now s e = elim (cases_lt (s.date + 8) now) [
  | inl dead ↦ let no : Some faults.Dead ≡ None = rw (lt-ltb (s.date + 8) now dead) at e in absurd (cc)
  | inr lives ↦ lives
]

delivers_from : (l : Laws) (w : LaneOf) (g : Ghost) (number : ℕ) (end : End) (reply : List ℕ) (o : Option Sent) → item_numbered w.packets number ≡ o
    → may_deliver w.now o ≡ None → length reply ≤ reply_limit w.unit → LaneGood w g
    → GoesOn (lane_after_deliver w end reply o) (cell_delivers w end reply o (run_of w g))
delivers_from l w g number end reply None is may few h = absurd (cc)
delivers_from l w g number end reply (Some s) is may few h =
    let soon = still_living w.now s may in
    living_comes l w g end reply s (all_at (IsLiving w.unit w.now w.asker_eid w.taker_eid g.exchanges) w.packets (number - 1) s h.body.packets (at_number w.packets number s is) soon) soon few h

pub goes_deliver : (l : Laws) (w : LaneOf) (g : Ghost) (number : ℕ) (end : End) (reply : List ℕ)
    → may_deliver w.now (item_numbered w.packets number) ≡ None → length reply ≤ reply_limit w.unit → LaneGood w g
    → GoesOn (lane_after_deliver w end reply (item_numbered w.packets number)) (cell_delivers w end reply (item_numbered w.packets number) (run_of w g))
goes_deliver l w g number end reply may few h = delivers_from l w g number end reply (item_numbered w.packets number) refl may few h
