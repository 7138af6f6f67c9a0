-- A step of the device at a place.
use Rattle.std.proofs.Common.{◌≡◌, ◌∷◌, ◌++◌, ◌+◌, ◌-◌, ◌==◌, ◌≤◌, ℕ, zero, suc, Bool, true, false, if◌then◌else◌, List, [], Option, Some, None, ap, arith, map, refl, set, sym, inl, inr}
use Rattle.std.specs.Prelude.{is_some, option_map, slice_get}
use Rattle.std.proofs.lemmas.Bool.Decides.{eqb_tells}
use Rattle.fw_message.specs.Pairs.{PairOf, StepOf, Stepped, pair_after}
use Rattle.fw_message.specs.Replays.{place_at, place_from}
use Rattle.fw_message.specs.Worlds.{NodeOf, NotedOf, PairNoted, MessageWorldOf, WorldStepOf, node_at, noted_of, noted_on, went_on, with_pair, message_world_after}
use Rattle.fw_message.proofs.Allowing.{some_map}

-- the first device with this identifier is at this place
abbrev pub IsAt : List NodeOf → ℕ → ℕ → Type 0
IsAt [] eid place = ⊥
IsAt (n ∷ ns) eid zero = n.eid ≡ eid
IsAt (n ∷ ns) eid (suc place) = ((n.eid == eid) ≡ false) × IsAt ns eid place

-- places are counted from `i`
pub record IsFrom (i : ℕ) (ns : List NodeOf) (eid place : ℕ) : Type 0 where
  pub from : i ≤ place
  pub at : IsAt ns eid (place - i)

from_here : (i : ℕ) (n : NodeOf) (ns : List NodeOf) (eid place : ℕ) → (n.eid == eid) ≡ true → n.eid ≡ eid → place_from i (n ∷ ns) eid ≡ Some place → IsFrom i (n ∷ ns) eid place
from_here i n ns eid place t same e =
    let is : Some i ≡ Some place = rw t at e in
    let at : i ≡ place = cc in
    let none : place - i ≡ 0 = omega (arith, at) in
    record { from = omega (arith, at); at = rw none same }

from_there : (i : ℕ) (n : NodeOf) (ns : List NodeOf) (eid place : ℕ) → (n.eid == eid) ≡ false → (place_from (i + 1) ns eid ≡ Some place → IsFrom (i + 1) ns eid place)
    → place_from i (n ∷ ns) eid ≡ Some place → IsFrom i (n ∷ ns) eid place
from_there i n ns eid place t rest e =
    let is : place_from (i + 1) ns eid ≡ Some place = rw t at e in
    let r : IsFrom (i + 1) ns eid place = rest is in
    let le : i + 1 ≤ place = r.from in
    let more : place - i ≡ suc (place - (i + 1)) = omega (arith, le) in
    record { from = omega (arith, le); at = rw more (t, r.at) }

is_from : (i : ℕ) (ns : List NodeOf) (eid place : ℕ) → place_from i ns eid ≡ Some place → IsFrom i ns eid place
is_from i [] eid place e = absurd (cc)
is_from i (n ∷ ns) eid place e =
    elim (eqb_tells n.eid eid) [
      | inl same ↦ from_here i n ns eid place same.0 same.1 e
      | inr other ↦ from_there i n ns eid place other.0 (is_from (i + 1) ns eid place) e
    ]

pub is_at : (ns : List NodeOf) (eid place : ℕ) → place_at ns eid ≡ Some place → IsAt ns eid place
is_at ns eid place e =
    let f : IsFrom 0 ns eid place = is_from 0 ns eid place e in
    let same : place - 0 ≡ place = omega arith in
    rw (sym same) f.at

not_there : (t : Bool) (i : ℕ) (n : NodeOf) (ns : List NodeOf) (eid : ℕ) → (place_from (i + 1) ns eid ≡ None → node_at ns eid ≡ None)
    → (if t then Some i else place_from (i + 1) ns eid) ≡ None → (if t then Some n else node_at ns eid) ≡ None
not_there true i n ns eid rest e = absurd (cc)
not_there false i n ns eid rest e = rest e

pub not_at : (i : ℕ) (ns : List NodeOf) (eid : ℕ) → place_from i ns eid ≡ None → node_at ns eid ≡ None
not_at i [] eid e = refl
not_at i (n ∷ ns) eid e = not_there (n.eid == eid) i n ns eid (not_at (i + 1) ns eid) e

equal_self : (a b : ℕ) → a ≡ b → (a == b) ≡ true
equal_self a b e = elim (eqb_tells a b) [ inl same ↦ same.0 | inr other ↦ absurd (other.1 e) ]

pub at_node : (ns : List NodeOf) (eid place : ℕ) (n : NodeOf) → IsAt ns eid place → slice_get ns place ≡ Some n → node_at ns eid ≡ Some n
at_node [] eid place n at e = absurd at
at_node (m ∷ ns) eid zero n at e = rw (equal_self m.eid eid at) e
at_node (m ∷ ns) eid (suc place) n at e = rw at.0 (at_node ns eid place n at.1 e)

pub at_eid : (ns : List NodeOf) (eid place : ℕ) (n : NodeOf) → IsAt ns eid place → slice_get ns place ≡ Some n → n.eid ≡ eid
at_eid [] eid place n at e = absurd at
at_eid (m ∷ ns) eid zero n at e = let same : m ≡ n = cc in rw (sym same) at
at_eid (m ∷ ns) eid (suc place) n at e = at_eid ns eid place n at.1 e

at_put : (ns : List NodeOf) (eid place : ℕ) (n : NodeOf) (m : PairOf) → IsAt ns eid place → slice_get ns place ≡ Some n → with_pair ns eid m ≡ set ns place (record n { pair = m })
at_put [] eid place n m at e = absurd at
at_put (k ∷ ns) eid zero n m at e = let same : k ≡ n = cc in rw (equal_self k.eid eid at, same) refl
at_put (k ∷ ns) eid (suc place) n m at e = rw at.0 (ap (λ ms. k ∷ ms) (at_put ns eid place n m at.1 e))

went : (w : MessageWorldOf) (eid : ℕ) (n : NodeOf) (o : Option Stepped) (after : PairOf) (later : List NotedOf) → option_map (noted_on eid w.history) o ≡ Some (record { pair = after; history = later })
    → option_map (went_on w eid) o ≡ Some (record w { nodes = with_pair w.nodes eid after; history = later })
went w eid n None after later e = absurd (cc)
went w eid n (Some t) after later e =
    let both : ◌≡◌ {A = PairNoted} (record { pair = t.after; history = w.history ++ map (noted_of eid) t.noted }) (record { pair = after; history = later }) = cc in
    let pair : t.after ≡ after = ap (λ p. p.pair) both in
    let all : w.history ++ map (noted_of eid) t.noted ≡ later = ap (λ p. p.history) both in
    rw (pair, all) refl

-- a step of the device at a place is a step of the world
pub world_step : (w : MessageWorldOf) (eid place : ℕ) (s : StepOf) (n : NodeOf) (after : PairOf) (later : List NotedOf) → IsAt w.nodes eid place → slice_get w.nodes place ≡ Some n
    → option_map (noted_on n.eid w.history) (pair_after w.packages n.pair s) ≡ Some (record { pair = after; history = later })
    → message_world_after w (WorldStepOf.OfPair eid s) ≡ Some (record w { nodes = set w.nodes place (record n { pair = after }); history = later })
unfolding message_world_after
world_step w eid place s n after later at found e =
    let is : n.eid ≡ eid = at_eid w.nodes eid place n at found in
    rw (at_node w.nodes eid place n at found)
    (rw (sym (at_put w.nodes eid place n after at found)) (went w eid n (pair_after w.packages n.pair s) after later (rw is at e)))

pub world_refuses : (w : MessageWorldOf) (eid place : ℕ) (s : StepOf) (n : NodeOf) → IsAt w.nodes eid place → slice_get w.nodes place ≡ Some n → pair_after w.packages n.pair s ≡ None
    → message_world_after w (WorldStepOf.OfPair eid s) ≡ None
unfolding message_world_after
world_refuses w eid place s n at found e = rw (at_node w.nodes eid place n at found, e) refl

pub world_allows : (w : MessageWorldOf) (eid place : ℕ) (s : StepOf) (n : NodeOf) → IsAt w.nodes eid place → slice_get w.nodes place ≡ Some n → is_some (pair_after w.packages n.pair s) ≡ true
    → is_some (message_world_after w (WorldStepOf.OfPair eid s)) ≡ true
unfolding message_world_after
world_allows w eid place s n at found e = rw (at_node w.nodes eid place n at found) (some_map (went_on w eid) (pair_after w.packages n.pair s) e)
