-- Named steps of a world are a run of message steps.
use Rattle.std.specs.Prelude.{ℕ, ◌≡◌, ◌<◌, ◌+◌, ◌==◌, ◌||◌, Bool, true, false, not, if◌then◌else◌, is_some, get_or, set, List, [], ◌∷◌, length, map, Option, Some, None, IfSome}
use Rattle.std.specs.Option.{option_map}
use Rattle.std.specs.List.{AllByRecursion}
use Rattle.std.proofs.Common.{refl, sym, ap, subst, ◌∙◌, suc, zero, arith, inl, inr}
use Rattle.std.proofs.lemmas.Bool.{eq-eqb}
use Rattle.std.proofs.lemmas.Bool.Decides.{eqb_tells}
use Rattle.std.proofs.lemmas.List.{get_or-set_same, length-map, length-set}
use Rattle.fd_core.specs.Banks.{CountsFailure}
use Rattle.fw_message.specs.BankCalls.{message_step_calls_bank}
use Rattle.fw_message.specs.Names.{HasName, IsNamedStep}
use Rattle.fw_message.specs.Pairs.{PairOf, StepOf, Stepped, pair_after}
use Rattle.fw_message.specs.Replays.{CountedWorldOf, StepsToCounted, MessageRun, place_at}
use Rattle.fw_message.specs.Worlds.{NodeOf, MessageWorldOf, WorldStepOf, agent_restarted, device_of, named_step, node_at, step_at, went_on, with_pair, message_world_after, world_along}
use Rattle.fw_message.specs.declared.side.Side.TheVariants as sides
use Rattle.fw_message.specs.declared.side.Way.TheVariants as ways
use Rattle.fw_message.specs.declared.step.MessageStep.{MessageStep}
use Rattle.fw_message.specs.declared.step.MessageStep.TheVariants as steps
use Rattle.fw_message.proofs.BankCalls.{called_if_fails, works_if_uncalled}
use Rattle.fw_message.proofs.Moments.{Later, later_step}
use Rattle.fw_message.proofs.Places.{IsAt, is_at}

-- NAMES

-- the name of a step, and whether its call of a bank works
abbrev name_of : ℕ → WorldStepOf → MessageStep
name_of agent (WorldStepOf.OfPair device StepOf.AskDown) = steps.Ask device ways.Down
name_of agent (WorldStepOf.OfPair device StepOf.AskUp) = steps.Ask device ways.Up
name_of agent (WorldStepOf.OfPair device (StepOf.TakeDown quiet works)) = steps.Take device ways.Down quiet
name_of agent (WorldStepOf.OfPair device StepOf.TakeUp) = steps.Take device ways.Up false
name_of agent (WorldStepOf.OfPair device StepOf.LearnDown) = steps.Learn device ways.Down
name_of agent (WorldStepOf.OfPair device (StepOf.LearnUp works)) = steps.Learn device ways.Up
name_of agent (WorldStepOf.OfPair device (StepOf.GiveUp way)) = steps.GiveUp device way
name_of agent (WorldStepOf.OfPair device (StepOf.Drop way)) = steps.Drop device way
name_of agent (WorldStepOf.OfPair device (StepOf.Start number)) = steps.Start device number
name_of agent (WorldStepOf.OfPair device StepOf.Cancel) = steps.Cancel device
name_of agent (WorldStepOf.OfPair device StepOf.Activate) = steps.Activate device
name_of agent (WorldStepOf.OfPair device (StepOf.Judge verdict works)) = steps.Verdict device verdict
name_of agent (WorldStepOf.OfPair device (StepOf.TimeOut side)) = steps.TimeOut device side
name_of agent (WorldStepOf.OfPair device (StepOf.Restart side)) = steps.Restart device
name_of agent WorldStepOf.RestartAgent = steps.Restart agent

abbrev works_of : WorldStepOf → Bool
works_of (WorldStepOf.OfPair device (StepOf.TakeDown quiet works)) = works
works_of (WorldStepOf.OfPair device (StepOf.LearnUp works)) = works
works_of (WorldStepOf.OfPair device (StepOf.Judge verdict works)) = works
works_of s = true

-- whether the call of a bank works, for the named step: true if no bank is called
abbrev works_in : MessageWorldOf → WorldStepOf → Bool
works_in w s = works_of s || not (message_step_calls_bank w (name_of w.agent s))

pair_named : (agent device : ℕ) (s : StepOf) → HasName s → (device == agent) ≡ false
    → named_step agent (works_of (WorldStepOf.OfPair device s)) (name_of agent (WorldStepOf.OfPair device s)) ≡ WorldStepOf.OfPair device s
pair_named agent device (StepOf.Restart sides.Device) k far = rw far refl
pair_named agent device (StepOf.Restart sides.Agent) k far = absurd k
pair_named agent device s k far = refl

-- the agent is no device
no_device : (w : MessageWorldOf) (device : ℕ) (s : StepOf) (v : MessageWorldOf) → node_at w.nodes w.agent ≡ None → message_world_after w (WorldStepOf.OfPair device s) ≡ Some v → (device == w.agent) ≡ false
unfolding message_world_after
no_device w device s v none e = elim (eqb_tells device w.agent) [
  | inl same ↦
      let absent : step_at w device s (node_at w.nodes device) ≡ None = ap (λ d. step_at w device s (node_at w.nodes d)) same.1 ∙ ap (step_at w device s) none in
      absurd (cc)
  | inr other ↦ other.0
]

named_so : (w v : MessageWorldOf) (s : WorldStepOf) → IsNamedStep s → node_at w.nodes w.agent ≡ None → message_world_after w s ≡ Some v → named_step w.agent (works_of s) (name_of w.agent s) ≡ s
named_so w v (WorldStepOf.OfPair device s) k none e = pair_named w.agent device s k (no_device w device s v none e)
named_so w v WorldStepOf.RestartAgent k none e = rw (eq-eqb w.agent w.agent refl) refl

-- COUNTS

-- a bank's count rises if its call fails
abbrev counts_after : Bool → List ℕ → Option ℕ → List ℕ
counts_after true fs place = fs
counts_after false fs None = fs
counts_after false fs (Some place) = set fs place (get_or fs place 0 + 1)

counts_worked : (works : Bool) (fs : List ℕ) (o : Option ℕ) → works ≡ true → counts_after works fs o ≡ fs
counts_worked works fs o e = rw e refl

abbrev HasFailed : List ℕ → List ℕ → Option ℕ → Type 0
HasFailed fs gs o = IfSome o (λ place. CountsFailure (get_or fs place 0) (get_or gs place 0) × (gs ≡ set fs place (get_or gs place 0)))

risen : (fs : List ℕ) (place : ℕ) → place < length fs → HasFailed fs (set fs place (get_or fs place 0 + 1)) (Some place)
risen fs place lt =
    let is : get_or (set fs place (get_or fs place 0 + 1)) place 0 ≡ get_or fs place 0 + 1 = get_or-set_same fs place (get_or fs place 0 + 1) 0 lt in
    (rw is (inl (omega arith)), rw is refl)

failed_at : (fs : List ℕ) (o : Option ℕ) → IfSome o (λ place. place < length fs) → HasFailed fs (counts_after false fs o) o
failed_at fs None lt = tt
failed_at fs (Some place) lt = risen fs place lt

counts_failed : (works : Bool) (fs : List ℕ) (o : Option ℕ) → IfSome o (λ place. place < length fs) → works ≡ false → HasFailed fs (counts_after works fs o) o
counts_failed works fs o lt e = subst (λ b. HasFailed fs (counts_after b fs o) o) (sym e) (failed_at fs o lt)

-- each device has its count
at_within : (ns : List NodeOf) (eid place : ℕ) → IsAt ns eid place → place < length ns
at_within [] eid place k = absurd k
at_within (n ∷ ns) eid zero k = omega arith
at_within (n ∷ ns) eid (suc place) k = let lt = at_within ns eid place k.1 in omega (arith, lt)

place_by : (ns : List NodeOf) (fs : List ℕ) (eid : ℕ) (o : Option ℕ) → place_at ns eid ≡ o → length fs ≡ length ns → IfSome o (λ place. place < length fs)
place_by ns fs eid None e same = tt
place_by ns fs eid (Some place) e same = let lt = at_within ns eid place (is_at ns eid place e) in omega (arith, lt, same)

counts_length : (works : Bool) (fs : List ℕ) (o : Option ℕ) → length (counts_after works fs o) ≡ length fs
counts_length true fs o = refl
counts_length false fs None = refl
counts_length false fs (Some place) = length-set fs place (get_or fs place 0 + 1)

-- KEPT PARTS

record Kept (w v : MessageWorldOf) : Type 0 where
  pub agent : v.agent ≡ w.agent
  pub count : length v.nodes ≡ length w.nodes

with_length : (ns : List NodeOf) (eid : ℕ) (m : PairOf) → length (with_pair ns eid m) ≡ length ns
with_length [] eid m = refl
with_length (n ∷ ns) eid m = at_test (n.eid == eid) (with_length ns eid m)
  where
    at_test : (t : Bool) → length (with_pair ns eid m) ≡ length ns → length (if t then record n { pair = m } ∷ ns else n ∷ with_pair ns eid m) ≡ length (n ∷ ns)
    at_test true rest = refl
    at_test false rest = ap suc rest

kept_taken : (w : MessageWorldOf) (device : ℕ) (o : Option Stepped) → IfSome (option_map (went_on w device) o) (Kept w)
kept_taken w device None = tt
kept_taken w device (Some t) = record { agent = refl; count = with_length w.nodes device t.after }

kept_found : (w : MessageWorldOf) (device : ℕ) (s : StepOf) (o : Option NodeOf) → IfSome (step_at w device s o) (Kept w)
kept_found w device s None = tt
kept_found w device s (Some n) = kept_taken w device (pair_after w.packages n.pair s)

kept_step : (w : MessageWorldOf) (s : WorldStepOf) → IfSome (message_world_after w s) (Kept w)
unfolding message_world_after
kept_step w (WorldStepOf.OfPair device s) = kept_found w device s (node_at w.nodes device)
kept_step w WorldStepOf.RestartAgent = record { agent = refl; count = length-map w.nodes (agent_restarted w.packages) }

none_there : (o p : Option NodeOf) → is_some p ≡ is_some o → o ≡ None → p ≡ None
none_there o None same e = refl
none_there o (Some n) same e = absurd (let no : is_some o ≡ false = ap is_some e in cc)

-- RUNS

-- the run, and the counts at its end
pub record Counted (w : CountedWorldOf) (v : MessageWorldOf) : Type 0 where
  pub names : List MessageStep
  pub faults : List ℕ
  pub run : MessageRun w names (record { world = v; faults = faults })

-- the conditions of a world
record MayCount (w : MessageWorldOf) (fs : List ℕ) : Type 0 where
  pub counts : length fs ≡ length w.nodes
  pub none : node_at w.nodes w.agent ≡ None

may_on : (w v : MessageWorldOf) (fs gs : List ℕ) → MayCount w fs → Kept w v → Later w v → length gs ≡ length fs → MayCount v gs
may_on w v fs gs k kept later same = record {
  counts = same ∙ k.counts ∙ sym kept.count;
  none = ap (node_at v.nodes) kept.agent ∙ none_there (node_at w.nodes w.agent) (node_at v.nodes w.agent) (later.there w.agent) k.none;
}

leads_so : (w v : MessageWorldOf) (fs : List ℕ) (s : WorldStepOf) → MayCount w fs → IsNamedStep s → message_world_after w s ≡ Some v
    → StepsToCounted (record { world = w; faults = fs }) (name_of w.agent s) (record { world = v; faults = counts_after (works_in w s) fs (place_at w.nodes (device_of (name_of w.agent s))) })
leads_so w v fs s k named e =
    let place = place_at w.nodes (device_of (name_of w.agent s)) in
    record {
      works = works_in w s;
      after = works_if_uncalled w v (name_of w.agent s) (works_of s) (ap (message_world_after w) (named_so w v s named k.none e) ∙ e);
      worked = λ t. counts_worked (works_in w s) fs place t;
      called = λ f. called_if_fails (works_of s) (message_step_calls_bank w (name_of w.agent s)) f;
      failed = λ f. counts_failed (works_in w s) fs place (place_by w.nodes fs (device_of (name_of w.agent s)) place refl k.counts) f;
    }

counted_by : (w v : MessageWorldOf) (fs : List ℕ) (s : WorldStepOf) (ss : List WorldStepOf) (o : Option MessageWorldOf) → MayCount w fs → IsNamedStep s → message_world_after w s ≡ o → world_along o ss ≡ Some v
    → ((mid : MessageWorldOf) (gs : List ℕ) → MayCount mid gs → world_along (Some mid) ss ≡ Some v → Counted (record { world = mid; faults = gs }) v) → Counted (record { world = w; faults = fs }) v
counted_by w v fs s ss None k named is e rest = absurd (cc)
counted_by w v fs s ss (Some mid) k named is e rest =
    let gs = counts_after (works_in w s) fs (place_at w.nodes (device_of (name_of w.agent s))) in
    let kept : Kept w mid = subst (λ x. IfSome x (Kept w)) is (kept_step w s) in
    let later : Later w mid = subst (λ x. IfSome x (Later w)) is (later_step w s) in
    let r = rest mid gs (may_on w mid fs gs k kept later (counts_length (works_in w s) fs (place_at w.nodes (device_of (name_of w.agent s))))) e in
    record {
      names = name_of w.agent s ∷ r.names;
      faults = r.faults;
      run = (record { world = mid; faults = gs }, leads_so w mid fs s k named is, r.run);
    }

counted_along : (w v : MessageWorldOf) (fs : List ℕ) (ss : List WorldStepOf) → MayCount w fs → AllByRecursion IsNamedStep ss → world_along (Some w) ss ≡ Some v → Counted (record { world = w; faults = fs }) v
counted_along w v fs [] k named e =
    let same : w ≡ v = cc in
    record { names = []; faults = fs; run = ap (λ x. record { world = x; faults = fs }) (sym same) }
counted_along w v fs (s ∷ ss) k named e =
    counted_by w v fs s ss (message_world_after w s) k named.0 refl e (λ mid gs may along. counted_along mid v gs ss may named.1 along)

-- no bank has failed yet
abbrev pub no_failures : MessageWorldOf → CountedWorldOf
no_failures w = record { world = w; faults = map (λ n. 0) w.nodes }

-- Named steps, from a world in which the agent is no device, are a run of their names.
pub named_run : (w v : MessageWorldOf) (ss : List WorldStepOf) → node_at w.nodes w.agent ≡ None → AllByRecursion IsNamedStep ss → world_along (Some w) ss ≡ Some v → Counted (no_failures w) v
named_run w v ss none named e = counted_along w v (map (λ n. 0) w.nodes) ss (record { counts = length-map w.nodes (λ n. 0); none = none }) named e
