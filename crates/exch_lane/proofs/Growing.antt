-- The facts about the open request and about the cell's exchange hold as an exchange grows.
use Rattle.std.proofs.Common.{◌≡◌, ◌∙◌, ℕ, true, List, Option, Some, None, inl, inr, refl, sym, ap}
use Rattle.mctp_wire.specs.declared.unit.Unit.{«Unit»}
use Rattle.std.proofs.lemmas.Bool.{eq-eqb, eqb-true}
use Rattle.std.proofs.lemmas.Bool.Decides.{eqb_tells}
use Rattle.pldm_exch.specs.Caller.{Open}
use Rattle.exch_lane.specs.Clocks.{Clock}
use Rattle.exch_lane.proofs.Ghosts.{Ghost, IsCurrent, IsOpenOf, IsOpenRequest, is_at, put}
use Rattle.exch_lane.proofs.Packets.{grown}
use Rattle.exch_lane.proofs.Views.{Ends, Exchange}

pub put_here : (tag : ℕ) (e : Exchange) (exchanges : ℕ → Option Exchange) → put tag e exchanges tag ≡ Some e
put_here tag e exchanges = rw (eq-eqb tag tag refl) refl

open_grows : (c : Clock) (x : Ends) (o : Open) (e : Exchange) (last : ℕ) (reply : Option (List ℕ)) → IsOpenOf c x o e → IsOpenOf c x o (grown last reply e)
open_grows c x o e last reply h = record { identifier = h.identifier; kind = h.kind; command = h.command; message = h.message; soon = h.soon }

pub asked_grows : (u : «Unit») (c : Clock) (a b deaf : ℕ) (g : Ghost) (tag : ℕ) (e : Exchange) (last : ℕ) (reply : Option (List ℕ)) (o : Open) → g.exchanges tag ≡ Some e
    → IsOpenRequest u c a b deaf g o → IsOpenRequest u c a b deaf (record { exchanges = put tag (grown last reply e) g.exchanges; current = g.current }) o
asked_grows u c a b deaf g tag e last reply o is h = record {
  hears = h.hears;
  current = h.current;
  of = elim (eqb_tells o.tag tag) [
    | inl same ↦
        let there : g.exchanges o.tag ≡ Some e = ap g.exchanges same.1 ∙ is in
        rw same.0 (open_grows c (record { unit = u; asker = a; taker = b; tag = o.tag }) o e last reply (rw there at h.of))
    | inr other ↦ rw other.0 h.of
  ];
}

pub current_grows : (g : Ghost) (current : Option ℕ) (tag : ℕ) (e : Exchange) (t : ℕ) → IsCurrent g t
    → IsCurrent (record { exchanges = put tag e g.exchanges; current = current }) t
current_grows g current tag e t h = record {
  low = h.low;
  there = elim (eqb_tells t tag) [
    | inl same ↦ rw same.0 refl
    | inr other ↦ rw other.0 h.there
  ];
}

-- the tag that is current
pub current_is : (current : Option ℕ) (t : ℕ) → is_at current t ≡ true → current ≡ Some t
current_is None t e = absurd (cc)
current_is (Some s) t e = ap Some (sym (eqb-true t s e))
