-- A packet of a reply arrives at the asker: it is held or dropped, or it completes the reply, which
-- is that of the cell.
use Rattle.std.proofs.Common.{◌≡◌, ◌∙◌, ◌+◌, ◌≤◌, ◌<◌, ◌++◌, ◌∷◌, [], ℕ, true, false, List, Option, Some, None, IfSome, slice_set, inl, inr, refl, sym, ap, subst, arith}
use Rattle.std.proofs.lemmas.Bool.Decides.{eqb_tells}
use Rattle.std.proofs.lemmas.Cmp.{nat_list_eq_equiv}
use Rattle.mctp_reasm.specs.Held.{Held}
use Rattle.pldm_exch.specs.Caller.{CallerState, Open}
use Rattle.exch_lane.specs.Cells.{cell_learn}
use Rattle.exch_lane.specs.Lanes.{LaneEntryOf, LaneOf, asker_clock}
use Rattle.exch_lane.proofs.Deliveries.{view_asker_holds}
use Rattle.exch_lane.proofs.Ghosts.{Ghost, GoesOn, LaneGood, ends_of, run_of, view_of}
use Rattle.exch_lane.proofs.Lifts.{set_here, set_length, set_there}
use Rattle.exch_lane.proofs.Tags.{view_leaves}
use Rattle.exch_lane.proofs.Views.{Exchange, IsReplies, IsSettled, TagOf, TagView}

-- a packet of the reply of an exchange arrived at the asker, which isn't deaf
pub record ReplyCame (w : LaneOf) (g : Ghost) (tag : ℕ) (e : Exchange) (r : List ℕ) : Type 0 where
  pub low : tag < 8
  pub is : g.exchanges tag ≡ Some e
  pub answered : e.reply ≡ Some r
  pub hears : w.asker.deaf ≡ 0
  pub soon : w.now ≤ e.last + 16

-- the held packets of a reply change
abbrev pub replies_lane : LaneOf → ℕ → Option Held → LaneOf
replies_lane w tag o = record w { asker = record w.asker { replies = slice_set w.asker.replies tag o } }

reply_tags : (w : LaneOf) (g : Ghost) (tag : ℕ) (e : Exchange) (o : Option Held) → tag < 8 → g.exchanges tag ≡ Some e → w.asker.deaf ≡ 0
    → IfSome o (IsReplies (asker_clock w) (ends_of w tag) e) → LaneGood w g
    → (t : ℕ) → t < 8 → TagOf (view_of (replies_lane w tag o) g.current t) (g.exchanges t)
reply_tags w g tag e o low is hears holds h t lt = elim (eqb_tells t tag) [
  | inl same ↦
      let here : TagOf (view_of (replies_lane w tag o) g.current tag) (g.exchanges tag)
      = rw (is, set_here w.asker.replies tag o h.body.replies low) (view_asker_holds (view_of w g.current tag) e o hears holds (rw is at (h.body.tags tag low))) in
      subst (λ t. TagOf (view_of (replies_lane w tag o) g.current t) (g.exchanges t)) (sym same.1) here
  | inr other ↦ rw (set_there w.asker.replies tag t o other.1) (h.body.tags t lt)
]

pub asker_holds : (w : LaneOf) (g : Ghost) (tag : ℕ) (e : Exchange) (r : List ℕ) (o : Option Held) → ReplyCame w g tag e r
    → IfSome o (IsReplies (asker_clock w) (ends_of w tag) e) → LaneGood w g → GoesOn (replies_lane w tag o) (Some (run_of w g))
asker_holds w g tag e r o c holds h = record {
  ghost = g;
  good = record {
    body = record {
      differ = h.body.differ;
      own = h.body.own;
      peer = h.body.peer;
      replies = set_length w.asker.replies tag o h.body.replies;
      kept = h.body.kept;
      requests = h.body.requests;
      asker_time = h.body.asker_time;
      taker_time = h.body.taker_time;
      caller = h.body.caller;
      tags = reply_tags w g tag e o c.low c.is c.hears holds h;
      packets = h.body.packets;
      asked = h.body.asked;
      current = h.body.current;
      deaf = λ z. absurd (omega (arith, z, c.hears));
    };
    last = h.last;
    quiet = h.quiet;
  };
  runs = refl;
}

-- the reply is received
abbrev pub learnt_caller : CallerState → CallerState
learnt_caller c = record c { asked = None; answered = true }

abbrev pub learnt_lane : LaneOf → ℕ → List ℕ → LaneOf
learnt_lane w tag r = record w { asker = record w.asker { caller = learnt_caller w.asker.caller; replies = slice_set w.asker.replies tag None }; entries = w.entries ++ LaneEntryOf.Learnt r ∷ [] }

pub settled_of : (o : Option Exchange) (v : TagView) → v.is_current ≡ false → TagOf v o → IfSome o (IsSettled v.now)
settled_of None v other h = tt
settled_of (Some e) v other h = h.settled other

settled_at : (w : LaneOf) (g : Ghost) (tag : ℕ) (e : Exchange) (r : List ℕ) → ReplyCame w g tag e r → g.current ≡ Some tag → LaneGood w g → (t : ℕ)
    → t < 8 → IfSome (g.exchanges t) (IsSettled w.now)
settled_at w g tag e r c current h t lt = elim (eqb_tells t tag) [
  | inl same ↦ let there : g.exchanges t ≡ Some e = ap g.exchanges same.1 ∙ c.is in rw there (inl (rw c.answered refl))
  | inr other ↦ settled_of (g.exchanges t) (view_of w g.current t) (rw (current, other.0) refl) (h.body.tags t lt)
]

learns_runs : (w : LaneOf) (g : Ghost) (tag : ℕ) (e : Exchange) (r : List ℕ) (o : Open) → w.asker.caller.asked ≡ Some o → ReplyCame w g tag e r → g.current ≡ Some tag
    → cell_learn r (run_of w g) ≡ Some (run_of (learnt_lane w tag r) (record { exchanges = g.exchanges; current = None }))
learns_runs w g tag e r o asked c current = rw (asked, current, c.is, c.answered, nat_list_eq_equiv.refl r) refl

pub asker_learns : (w : LaneOf) (g : Ghost) (tag : ℕ) (e : Exchange) (r : List ℕ) (o : Open) → w.asker.caller.asked ≡ Some o → ReplyCame w g tag e r
    → g.current ≡ Some tag → LaneGood w g
    → GoesOn (learnt_lane w tag r) (cell_learn r (run_of w g))
asker_learns w g tag e r o asked c current h = record {
  ghost = record { exchanges = g.exchanges; current = None };
  good = record {
    body = record {
      differ = h.body.differ;
      own = h.body.own;
      peer = h.body.peer;
      replies = set_length w.asker.replies tag None h.body.replies;
      kept = h.body.kept;
      requests = h.body.requests;
      asker_time = h.body.asker_time;
      taker_time = h.body.taker_time;
      caller = record { number = h.body.caller.number; rests = h.body.caller.rests; asked = tt };
      tags = λ t lt. view_leaves (g.exchanges t) (view_of (replies_lane w tag None) g.current t) (settled_at w g tag e r c current h t lt) (reply_tags w g tag e None c.low c.is c.hears tt h t lt);
      packets = h.body.packets;
      asked = tt;
      current = tt;
      deaf = λ z. absurd (omega (arith, z, c.hears));
    };
    last = λ _. tt;
    quiet = λ _. refl;
  };
  runs = learns_runs w g tag e r o asked c current;
}
