-- The agent's tick for one of its devices.
use Rattle.std.proofs.Common.{◌≡◌, ◌≢◌, ◌∙◌, ◌+◌, ◌==◌, ◌≤◌, ◌<◌, ℕ, true, if◌then◌else◌, List, [], ◌∷◌, ◌++◌, flat_map, map, slice_set, Option, Some, None, IfSome, inl, inr, refl, sym, ap, subst}
use Rattle.std.specs.List.{AllByRecursion, filter}
use Rattle.std.specs.Option.{option_map}
use Rattle.std.proofs.lemmas.Bool.{cases_lt, le-leb, lt-leb}
use Rattle.std.proofs.lemmas.Bool.Decides.{eqb_tells}
use Rattle.std.proofs.lemmas.List.{append-nil}
use Rattle.std.proofs.lemmas.List.Elements.{filter-append}
use Rattle.fw_package.specs.Package.{PackageText}
use Rattle.ua_core.specs.Session.{TimedOf}
use Rattle.fw_node.specs.Agents.{AgentOf, again_packets, agent_tick_sends, agent_ticks, ended_packets, session_half_aged, half_at, half_for, place_from, place_of}
use Rattle.fw_node.specs.Cores.{session_core}
use Rattle.fw_node.specs.Halves.{HalfOf, half_ticks}
use Rattle.fw_node.specs.Packets.{all_packets}
use Rattle.fw_steps.proofs.LinksAreLanes.Firsts.{at_place, first_changed, first_fact, first_key, first_of, first_put, first_set, is_first, place_by, put_at}
use Rattle.fw_steps.proofs.LinksAreLanes.Phases.{AreSoon, agent_half_sends, agent_halves_after, deaf_sends_nothing}
use Rattle.fw_steps.proofs.LinksAreLanes.Posting.{all_mine, is_to, none_mine}
use Rattle.fw_steps.proofs.LinksAreLanes.Sendings.{GoesTo, IsRoutedHalf, packets_to, tick_sends_to}
use Rattle.fw_steps.proofs.LinksAreLanes.Sorted.{all_behind, each_all}
use Rattle.fw_steps.proofs.LinksAreLanes.Ticks.{same_ticked}

-- the device of a half
abbrev pub half_peer : HalfOf TimedOf → ℕ
half_peer h = h.peer

-- the first half for this device
abbrev pub first_half : List (HalfOf TimedOf) → ℕ → Option (HalfOf TimedOf)
first_half hs eid = first_of half_peer hs eid

same_place : (n : ℕ) (hs : List (HalfOf TimedOf)) (eid : ℕ) → place_from n hs eid ≡ place_by half_peer n hs eid
same_place n [] eid = refl
same_place n (h ∷ hs) eid = ap (λ o. if h.peer == eid then Some n else o) (same_place (n + 1) hs eid)

pub same_half : (hs : List (HalfOf TimedOf)) (o : Option ℕ) → half_at hs o ≡ at_place hs o
same_half hs None = refl
same_half hs (Some i) = refl

pub half_is_first : (hs : List (HalfOf TimedOf)) (eid : ℕ) → half_at hs (place_of hs eid) ≡ first_half hs eid
half_is_first hs eid = same_half hs (place_of hs eid) ∙ ap (at_place hs) (same_place 0 hs eid) ∙ is_first half_peer hs eid

-- If a half is replaced by another for the same device, the other halves stay.
pub half_set : (hs : List (HalfOf TimedOf)) (y : HalfOf TimedOf) (own eid p : ℕ) → place_of hs own ≡ Some p → y.peer ≡ own
    → half_at (slice_set hs p y) (place_of (slice_set hs p y) eid) ≡ (if own == eid then Some y else half_at hs (place_of hs eid))
half_set hs y own eid p there is =
    half_is_first (slice_set hs p y) eid ∙ first_set half_peer hs y own eid p (sym (same_place 0 hs own) ∙ there) is
    ∙ ap (λ o. if own == eid then Some y else o) (sym (half_is_first hs eid))

-- a half is for the device by which it was found
pub half_found : (hs : List (HalfOf TimedOf)) (eid : ℕ) (h : HalfOf TimedOf) → half_at hs (place_of hs eid) ≡ Some h → h.peer ≡ eid
half_found hs eid h e = subst (λ o. IfSome o (λ y. half_peer y ≡ eid)) (sym (half_is_first hs eid) ∙ e) (first_key half_peer hs eid)

-- One half changes, or all do.
pub half_put : (g : HalfOf TimedOf → HalfOf TimedOf) → ((h : HalfOf TimedOf) → (g h).peer ≡ h.peer) → (hs : List (HalfOf TimedOf)) (own eid : ℕ)
    → half_at (put_at g hs (place_of hs own) (half_at hs (place_of hs own))) (place_of (put_at g hs (place_of hs own) (half_at hs (place_of hs own))) eid)
    ≡ (if own == eid then option_map g (half_at hs (place_of hs eid)) else half_at hs (place_of hs eid))
half_put g same hs own eid =
    half_is_first (put_at g hs (place_of hs own) (half_at hs (place_of hs own))) eid
    ∙ first_put half_peer g same hs own eid (place_of hs own) (half_at hs (place_of hs own)) (sym (same_place 0 hs own)) (sym (half_is_first hs own))
    ∙ ap (λ o. if own == eid then option_map g o else o) (sym (half_is_first hs eid))

pub half_changed : (g : HalfOf TimedOf → HalfOf TimedOf) → ((h : HalfOf TimedOf) → (g h).peer ≡ h.peer) → (hs : List (HalfOf TimedOf)) (eid : ℕ)
    → half_at (map g hs) (place_of (map g hs) eid) ≡ option_map g (half_at hs (place_of hs eid))
half_changed g same hs eid =
    half_is_first (map g hs) eid ∙ first_changed half_peer g same hs eid ∙ ap (option_map g) (sym (half_is_first hs eid))

-- no two halves are for the same device
abbrev pub AreApart : List (HalfOf TimedOf) → Type 0
AreApart [] = Unit {0}
AreApart (h ∷ hs) = AllByRecursion (λ g. h.peer ≢ g.peer) hs × AreApart hs

-- the packets that each half sends go to its device
abbrev pub SendsHome : (HalfOf TimedOf → List (List ℕ)) → HalfOf TimedOf → Type 0
SendsHome g h = AllByRecursion (GoesTo h.peer) (g h)

others_send : (g : HalfOf TimedOf → List (List ℕ)) (eid : ℕ) (hs : List (HalfOf TimedOf)) → AllByRecursion (SendsHome g) hs → AllByRecursion (λ h. eid ≢ h.peer) hs
    → filter (is_to eid) (flat_map g hs) ≡ []
others_send g eid [] k far = refl
others_send g eid (h ∷ hs) k far =
    filter-append (is_to eid) (g h) (flat_map g hs)
    ∙ ap (λ xs. xs ++ filter (is_to eid) (flat_map g hs)) (none_mine eid h.peer (g h) (λ z. far.0 (sym z)) k.0)
    ∙ others_send g eid hs k.1 far.1

abbrev pub sent_for : (HalfOf TimedOf → List (List ℕ)) → Option (HalfOf TimedOf) → List (List ℕ)
sent_for g None = []
sent_for g (Some h) = g h

pub sends_first : (g : HalfOf TimedOf → List (List ℕ)) (hs : List (HalfOf TimedOf)) (eid : ℕ) → AllByRecursion (SendsHome g) hs → AreApart hs
    → filter (is_to eid) (flat_map g hs) ≡ sent_for g (first_half hs eid)
sends_first g [] eid k apart = refl
sends_first g (h ∷ hs) eid k apart = elim (eqb_tells h.peer eid) [
  | inl same ↦
      filter-append (is_to eid) (g h) (flat_map g hs)
      ∙ ap (λ xs. xs ++ filter (is_to eid) (flat_map g hs)) (all_mine eid (g h) (subst (λ d. AllByRecursion (GoesTo d) (g h)) same.1 k.0))
      ∙ ap (λ xs. g h ++ xs) (others_send g eid hs k.1 (subst (λ d. AllByRecursion (λ x. d ≢ x.peer) hs) same.1 apart.0))
      ∙ append-nil (g h) ∙ rw same.0 refl
  | inr other ↦
      filter-append (is_to eid) (g h) (flat_map g hs)
      ∙ ap (λ xs. xs ++ filter (is_to eid) (flat_map g hs)) (none_mine eid h.peer (g h) other.1 k.0)
      ∙ sends_first g hs eid k.1 apart.1 ∙ rw other.0 refl
]

-- a half of an agent that is deaf for `deaf` ticks, which keeps only messages to its peer
pub record IsHalfOf (deaf : ℕ) (h : HalfOf TimedOf) : Type 0 where
  pub asking : h.asker.deaf ≡ deaf
  pub answering : h.taker.deaf ≡ deaf
  pub routed : IsRoutedHalf h

-- the packets of a half's tick, and those of its last part
abbrev pub ticked_packets : List PackageText → HalfOf TimedOf → List (List ℕ)
ticked_packets packages h = all_packets h.unit (half_ticks (session_core packages) true h).sent

abbrev pub last_packets : List PackageText → HalfOf TimedOf → List (List ℕ)
last_packets packages h = ended_packets packages (session_half_aged packages h)

parts_sent : (packages : List PackageText) (deaf : ℕ) (h : HalfOf TimedOf) → deaf ≤ 1 → IsHalfOf deaf h → ticked_packets packages h ≡ again_packets h ++ last_packets packages h
parts_sent packages deaf h soon k = agent_half_sends packages h (rw k.asking soon) (rw k.answering soon)

parts_home : (packages : List PackageText) (deaf : ℕ) (h : HalfOf TimedOf) → deaf ≤ 1 → IsHalfOf deaf h → AllByRecursion (GoesTo h.peer) (again_packets h ++ last_packets packages h)
parts_home packages deaf h soon k =
    subst (AllByRecursion (GoesTo h.peer)) (parts_sent packages deaf h soon k)
    (packets_to h.unit h.peer (half_ticks (session_core packages) true h).sent (tick_sends_to (session_core packages) h k.routed))

all_front : {A : Type 0} (P : A → Type 0) (xs ys : List A) → AllByRecursion P (xs ++ ys) → AllByRecursion P xs
all_front P [] ys h = tt
all_front P (x ∷ xs) ys h = (h.0, all_front P xs ys h.1)

again_home : (packages : List PackageText) (deaf : ℕ) (hs : List (HalfOf TimedOf)) → deaf ≤ 1 → AllByRecursion (IsHalfOf deaf) hs → AllByRecursion (SendsHome again_packets) hs
again_home packages deaf hs soon k =
    each_all (IsHalfOf deaf) (SendsHome again_packets) hs k (λ h is. all_front (GoesTo h.peer) (again_packets h) (last_packets packages h) (parts_home packages deaf h soon is))

last_home : (packages : List PackageText) (deaf : ℕ) (hs : List (HalfOf TimedOf)) → deaf ≤ 1 → AllByRecursion (IsHalfOf deaf) hs → AllByRecursion (SendsHome (last_packets packages)) hs
last_home packages deaf hs soon k =
    each_all (IsHalfOf deaf) (SendsHome (last_packets packages)) hs k (λ h is. all_behind (GoesTo h.peer) (again_packets h) (last_packets packages h) (parts_home packages deaf h soon is))

last_of_all : (packages : List PackageText) (hs : List (HalfOf TimedOf)) → flat_map (ended_packets packages) (map (session_half_aged packages) hs) ≡ flat_map (last_packets packages) hs
last_of_all packages [] = refl
last_of_all packages (h ∷ hs) = ap (λ xs. last_packets packages h ++ xs) (last_of_all packages hs)

-- both parts are the tick's
parts_for : (packages : List PackageText) (deaf : ℕ) (o : Option (HalfOf TimedOf)) → deaf ≤ 1 → IfSome o (IsHalfOf deaf)
    → sent_for again_packets o ++ sent_for (last_packets packages) o ≡ sent_for (ticked_packets packages) o
parts_for packages deaf None soon k = refl
parts_for packages deaf (Some h) soon k = sym (parts_sent packages deaf h soon k)

silent_for : (packages : List PackageText) (deaf : ℕ) (o : Option (HalfOf TimedOf)) → 1 < deaf → IfSome o (IsHalfOf deaf) → [] ≡ sent_for (ticked_packets packages) o
silent_for packages deaf None more k = refl
silent_for packages deaf (Some h) more k = ap (all_packets h.unit) (sym (deaf_sends_nothing (session_core packages) h (rw k.asking more)))

hearing_sends : (packages : List PackageText) (deaf : ℕ) (hs : List (HalfOf TimedOf)) (eid : ℕ) → deaf ≤ 1 → AllByRecursion (IsHalfOf deaf) hs → AreApart hs
    → filter (is_to eid) (flat_map again_packets hs ++ flat_map (ended_packets packages) (map (session_half_aged packages) hs)) ≡ sent_for (ticked_packets packages) (first_half hs eid)
hearing_sends packages deaf hs eid soon k apart =
    ap (λ xs. filter (is_to eid) (flat_map again_packets hs ++ xs)) (last_of_all packages hs)
    ∙ filter-append (is_to eid) (flat_map again_packets hs) (flat_map (last_packets packages) hs)
    ∙ ap (λ xs. xs ++ filter (is_to eid) (flat_map (last_packets packages) hs)) (sends_first again_packets hs eid (again_home packages deaf hs soon k) apart)
    ∙ ap (λ xs. sent_for again_packets (first_half hs eid) ++ xs) (sends_first (last_packets packages) hs eid (last_home packages deaf hs soon k) apart)
    ∙ parts_for packages deaf (first_half hs eid) soon (first_fact half_peer (IsHalfOf deaf) hs eid k)

-- The packets to a device in the agent's tick are those of the device's half.
pub agent_tick_sends_at : (packages : List PackageText) (n : AgentOf) (eid : ℕ) → AllByRecursion (IsHalfOf n.deaf) n.halves → AreApart n.halves
    → filter (is_to eid) (agent_tick_sends packages n) ≡ sent_for (ticked_packets packages) (half_for n eid)
agent_tick_sends_at packages n eid k apart = elim (cases_lt 1 n.deaf) [
  | inl more ↦
      rw (lt-leb n.deaf 1 more) (silent_for packages n.deaf (first_half n.halves eid) more (first_fact half_peer (IsHalfOf n.deaf) n.halves eid k))
      ∙ ap (sent_for (ticked_packets packages)) (sym (half_is_first n.halves eid))
  | inr soon ↦
      rw (le-leb n.deaf 1 soon) (hearing_sends packages n.deaf n.halves eid soon k apart)
      ∙ ap (sent_for (ticked_packets packages)) (sym (half_is_first n.halves eid))
]

all_soon : (deaf : ℕ) (hs : List (HalfOf TimedOf)) → deaf ≤ 1 → AllByRecursion (IsHalfOf deaf) hs → AreSoon hs
all_soon deaf [] soon k = tt
all_soon deaf (h ∷ hs) soon k = (rw k.0.asking soon, rw k.0.answering soon, all_soon deaf hs soon k.1)

-- a half after its tick
abbrev pub half_after_tick : List PackageText → HalfOf TimedOf → HalfOf TimedOf
half_after_tick packages h = (half_ticks (session_core packages) true h).half

pub halves_after_tick : (packages : List PackageText) (now : ℕ) (n : AgentOf) → AllByRecursion (IsHalfOf n.deaf) n.halves → (agent_ticks packages now n).halves ≡ map (half_after_tick packages) n.halves
halves_after_tick packages now n k = elim (cases_lt 1 n.deaf) [
  | inl more ↦ rw (lt-leb n.deaf 1 more) refl
  | inr soon ↦ rw (le-leb n.deaf 1 soon) (agent_halves_after packages n.halves (all_soon n.deaf n.halves soon k))
]

-- The agent's half for a device, after the agent's tick, is that half after its own tick.
pub agent_ticks_at : (packages : List PackageText) (now : ℕ) (n : AgentOf) (eid : ℕ) → AllByRecursion (IsHalfOf n.deaf) n.halves
    → half_for (agent_ticks packages now n) eid ≡ option_map (half_after_tick packages) (half_for n eid)
agent_ticks_at packages now n eid k =
    half_is_first (agent_ticks packages now n).halves eid
    ∙ ap (λ hs. first_half hs eid) (halves_after_tick packages now n k)
    ∙ first_changed half_peer (half_after_tick packages) (λ h. (same_ticked (session_core packages) h).2) n.halves eid
    ∙ ap (option_map (half_after_tick packages)) (sym (half_is_first n.halves eid))
