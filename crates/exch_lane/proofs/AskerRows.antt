-- The outcome of a packet of a reply at the asker.
use Rattle.std.proofs.Common.{◌≡◌, ◌∙◌, ◌≤◌, ◌<◌, ◌==◌, ℕ, false, List, Option, Some, None, IfSome, length, slice_set, inl, inr, refl, sym, ap, subst}
use Rattle.pldm_base.specs.Limits.{reply_limit}
use Rattle.mctp_wire.specs.declared.unit.Unit.{«Unit»}
use Rattle.std.proofs.lemmas.Bool.{eq-eqb}
use Rattle.std.proofs.lemmas.Bool.Decides.{eqb_tells}
use Rattle.mctp_reasm.specs.Held.{Held, feed_outcome, held_after}
use Rattle.mctp_reasm.specs.declared.outcomes.Fed.{Fed}
use Rattle.mctp_reasm.specs.declared.outcomes.Fed.TheVariants.{Dropped, Whole}
use Rattle.mctp_reasm.specs.declared.outcomes.Fed.TheVariants as outcomes
use Rattle.pldm_exch.specs.Caller.{Open, answer_body, answer_in, closed_by, answer_outcome_for}
use Rattle.exch_lane.specs.Cells.{cell_at_asker}
use Rattle.exch_lane.specs.Clocks.{Clock}
use Rattle.exch_lane.specs.Lanes.{LaneOf, Sent, asker_clock}
use Rattle.mctp_reasm.specs.Inboxes.{held_at}
use Rattle.pldm_exch.specs.Sides.{AskerRow, asker_answered, asker_fed}
use Rattle.exch_lane.specs.Steps.{asker_does, asker_row_in}
use Rattle.exch_lane.proofs.Arrivals.{packet_arrives, piece_tag}
use Rattle.exch_lane.proofs.AskerHears.{ReplyCame, asker_holds, asker_learns}
use Rattle.exch_lane.proofs.Below.{Laws}
use Rattle.exch_lane.proofs.Deliveries.{holds_replies, reply_is, reply_reads}
use Rattle.exch_lane.proofs.Ghosts.{Ghost, GoesOn, IsAskedOf, IsOpenOf, IsPacketOf, LaneGood, ends_of, run_of}
use Rattle.exch_lane.proofs.Pieces.{Comes, piece_comes}
use Rattle.exch_lane.proofs.TakerHears.{goes_nowhere}
use Rattle.exch_lane.proofs.TakerTakes.{came_of}
use Rattle.exch_lane.proofs.Views.{Ends, Exchange, IsPart, IsReplies, IsWording, reply_of}

-- the effect of an outcome on the asker and on the cell
abbrev pub HearsRow : LaneOf → Ghost → AskerRow → Type 0
HearsRow w g row = GoesOn (asker_does w row) (cell_at_asker row (run_of w g))

-- whether a reply answers the open request
answers : (l : Laws) (x : Ends) (e : Exchange) (r : List ℕ) (o : Open) (c : Clock) → IsWording x.unit e → x.tag ≡ o.tag → IsOpenOf c x o e
    → answer_body o (reply_of x e r) ≡ Some r
answers l x e r o c wording same h =
    rw (eq-eqb x.tag o.tag same)
    (ap (answer_in o) (reply_reads l x e r wording) ∙ rw (eq-eqb e.identifier o.identifier (sym h.identifier), eq-eqb 5 o.pldm_type (sym h.kind), eq-eqb e.command o.command (sym h.command)) refl)

no_answer : (x : Ends) (e : Exchange) (r : List ℕ) (o : Open) → (x.tag == o.tag) ≡ false → answer_body o (reply_of x e r) ≡ None
no_answer x e r o other = rw other refl

-- a complete reply
ignored_row : (w : LaneOf) (g : Ghost) (tag : ℕ) (e : Exchange) (r : List ℕ) → ReplyCame w g tag e r → LaneGood w g
    → HearsRow w g (AskerRow.Ignores (slice_set w.asker.replies tag None))
ignored_row w g tag e r c h = asker_holds w g tag e r None c tt h

row_open : (l : Laws) (w : LaneOf) (g : Ghost) (tag : ℕ) (e : Exchange) (r : List ℕ) (o : Open) → w.asker.caller.asked ≡ Some o → IsAskedOf w g o
    → ReplyCame w g tag e r → LaneGood w g
    → HearsRow w g (asker_answered (slice_set w.asker.replies tag None) (closed_by w.asker.caller o (answer_body o (reply_of (ends_of w tag) e r))).0 (closed_by w.asker.caller o (answer_body o (reply_of (ends_of w tag) e r))).1)
row_open l w g tag e r o asked k c h =
    let motive : Option (List ℕ) → Type 0 = λ answer. HearsRow w g (asker_answered (slice_set w.asker.replies tag None) (closed_by w.asker.caller o answer).0 (closed_by w.asker.caller o answer).1) in
    elim (eqb_tells tag o.tag) [
      | inl same ↦
          let there : g.exchanges o.tag ≡ Some e = ap g.exchanges (sym same.1) ∙ c.is in
          let of : IsOpenOf (asker_clock w) (ends_of w o.tag) o e = rw there at k.of in
          let here : IsOpenOf (asker_clock w) (ends_of w tag) o e = subst (λ t. IsOpenOf (asker_clock w) (ends_of w t) o e) (sym same.1) of in
          let wording = (came_of w g tag e c.low c.is h).wording in
          let current : g.current ≡ Some tag = k.current ∙ ap Some (sym same.1) in
          subst motive (sym (answers l (ends_of w tag) e r o (asker_clock w) wording same.1 here)) (asker_learns w g tag e r o asked c current h)
      | inr other ↦ subst motive (sym (no_answer (ends_of w tag) e r o other.0)) (ignored_row w g tag e r c h)
    ]

row_heard : (l : Laws) (w : LaneOf) (g : Ghost) (tag : ℕ) (e : Exchange) (r : List ℕ) (o : Option Open) → w.asker.caller.asked ≡ o
    → IfSome o (IsAskedOf w g) → ReplyCame w g tag e r → LaneGood w g
    → HearsRow w g (asker_answered (slice_set w.asker.replies tag None) (answer_outcome_for w.asker.caller o (reply_of (ends_of w tag) e r)).0 (answer_outcome_for w.asker.caller o (reply_of (ends_of w tag) e r)).1)
row_heard l w g tag e r None asked k c h = ignored_row w g tag e r c h
row_heard l w g tag e r (Some o) asked k c h = row_open l w g tag e r o asked k c h

-- the outcome of a packet of a reply, from that of its assembly
row_fed : (l : Laws) (w : LaneOf) (g : Ghost) (tag : ℕ) (e : Exchange) (r : List ℕ) (f : Fed) (o : Option Held)
    → Comes w.unit (reply_of (ends_of w tag) e r) f o → ReplyCame w g tag e r → LaneGood w g
    → HearsRow w g (asker_fed (slice_set w.asker.replies tag o) w.asker.caller f)
row_fed l w g tag e r (Whole m) o comes c h =
    subst (λ o. HearsRow w g (asker_fed (slice_set w.asker.replies tag o) w.asker.caller (Whole m))) (sym comes.1)
    (subst (λ m. HearsRow w g (asker_fed (slice_set w.asker.replies tag None) w.asker.caller (Whole m))) (sym comes.0) (row_heard l w g tag e r w.asker.caller.asked refl h.body.asked c h))
row_fed l w g tag e r outcomes.Open o comes c h =
    asker_holds w g tag e r o c (holds_replies (asker_clock w) (ends_of w tag) e r outcomes.Open o c.answered h.body.asker_time c.soon comes) h
row_fed l w g tag e r (Dropped cause) o comes c h =
    asker_holds w g tag e r o c (holds_replies (asker_clock w) (ends_of w tag) e r (Dropped cause) o c.answered h.body.asker_time c.soon comes) h

-- the outcome of a packet of a reply
row_is : (l : Laws) (w : LaneOf) (tag : ℕ) (e : Exchange) (r : List ℕ) (s : Sent) (p : IsPacketOf w.unit (reply_of (ends_of w tag) e r) s.bytes)
    → w.asker.deaf ≡ 0 → length r ≤ reply_limit w.unit → tag < 8
    → asker_row_in w s.bytes ≡ asker_fed (slice_set w.asker.replies tag (held_after w.unit (held_at w.asker.replies tag) p.packet)) w.asker.caller (feed_outcome w.unit (held_at w.asker.replies tag) p.packet)
row_is l w tag e r s p hears few low =
    let lawful = reply_is (ends_of w tag) e r few in
    let arrives = packet_arrives l w.unit w.asker_eid w.taker_eid false (reply_of (ends_of w tag) e r) p.number p.packet s.bytes lawful low refl refl refl p.at p.is in
    let under : p.packet.head.tag ≡ tag = piece_tag l w.unit (reply_of (ends_of w tag) e r) p.number p.packet lawful p.at in
    rw (hears, arrives, under) refl

-- the held packets are part of the reply
part_from : (c : Clock) (x : Ends) (e : Exchange) (r : List ℕ) (o : Option Held) → e.reply ≡ Some r → IfSome o (IsReplies c x e)
    → IfSome o (λ h. IsPart x.unit (reply_of x e r) h.packets)
part_from c x e r None is h = tt
part_from c x e r (Some held) is h = rw is at h.part

pub few_of : (u : «Unit») (e : Exchange) (r : List ℕ) → e.reply ≡ Some r → IsWording u e → length r ≤ reply_limit u
few_of u e r is h = rw is at h.reply

-- a packet of a reply arrives at an asker that isn't deaf
pub hears_reply : (l : Laws) (w : LaneOf) (g : Ghost) (tag : ℕ) (e : Exchange) (r : List ℕ) (s : Sent)
    → IsPacketOf w.unit (reply_of (ends_of w tag) e r) s.bytes → ReplyCame w g tag e r → LaneGood w g → HearsRow w g (asker_row_in w s.bytes)
hears_reply l w g tag e r s p c h =
    let k = came_of w g tag e c.low c.is h in
    let few = few_of w.unit e r c.answered k.wording in
    let part = part_from (asker_clock w) (ends_of w tag) e r (held_at w.asker.replies tag) c.answered k.asker.replies in
    let comes = piece_comes l w.unit (reply_of (ends_of w tag) e r) p.number p.packet (held_at w.asker.replies tag) (reply_is (ends_of w tag) e r few) p.at part in
    subst (HearsRow w g) (sym (row_is l w tag e r s p c.hears few c.low))
    (row_fed l w g tag e r (feed_outcome w.unit (held_at w.asker.replies tag) p.packet) (held_after w.unit (held_at w.asker.replies tag) p.packet) comes c h)

-- a deaf asker, and a packet that isn't for it
pub asker_silent : (w : LaneOf) (g : Ghost) (row : AskerRow) → row ≡ AskerRow.Ignores w.asker.replies → LaneGood w g → HearsRow w g row
asker_silent w g row is h = subst (HearsRow w g) (sym is) (goes_nowhere w g h)
