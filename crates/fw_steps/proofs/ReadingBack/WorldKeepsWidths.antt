-- A world of messages whose values fit still does after any steps.
use Rattle.std.proofs.Common.{◌==◌, ℕ, Bool, true, false, if◌then◌else◌, List, [], ◌∷◌, map, Option, Some, None, IfSome}
use Rattle.std.specs.List.{AllByRecursion}
use Rattle.std.specs.Option.{option_map}
use Rattle.fw_package.specs.Package.{PackageText}
use Rattle.ua_core.specs.Laws.{LearnsInPlan, ServesInPlan}
use Rattle.fw_message.specs.Pairs.{PairOf, StepOf, Stepped, pair_after}
use Rattle.fw_message.specs.Worlds.{NodeOf, MessageWorldOf, WorldStepOf, after_or, agent_restarted, node_at, step_at, went_on, with_pair, message_world_after, world_along}
use Rattle.fw_message.specs.declared.side.Side.TheVariants as sides
use Rattle.fw_steps.specs.Widths.{HaveMessageWidths, HavePackageWidths, HasPairWidths, HasSteppedWidths}
use Rattle.fw_steps.proofs.ReadingBack.PairKeepsWidths.{pair_speaks}

abbrev AllFit : List PackageText → List NodeOf → Type 0
AllFit packages ns = AllByRecursion (λ n. HasPairWidths packages n.pair) ns

put_speaks : (packages : List PackageText) (ns : List NodeOf) (eid : ℕ) (m : PairOf) → AllFit packages ns → HasPairWidths packages m → AllFit packages (with_pair ns eid m)
put_speaks packages [] eid m h k = tt
put_speaks packages (n ∷ ns) eid m h k = at_test (n.eid == eid) (put_speaks packages ns eid m h.1 k)
  where
    at_test : (t : Bool) → AllFit packages (with_pair ns eid m) → AllFit packages (if t then record n { pair = m } ∷ ns else n ∷ with_pair ns eid m)
    at_test true rest = (k, h.1)
    at_test false rest = (h.0, rest)

node_fits : (packages : List PackageText) (ns : List NodeOf) (eid : ℕ) → AllFit packages ns → IfSome (node_at ns eid) (λ n. HasPairWidths packages n.pair)
node_fits packages [] eid h = tt
node_fits packages (n ∷ ns) eid h = at_test (n.eid == eid) (node_fits packages ns eid h.1)
  where
    at_test : (t : Bool) → IfSome (node_at ns eid) (λ n. HasPairWidths packages n.pair) → IfSome (if t then Some n else node_at ns eid) (λ n. HasPairWidths packages n.pair)
    at_test true rest = h.0
    at_test false rest = rest

after_speaks : (packages : List PackageText) (m : PairOf) (o : Option Stepped) → HasPairWidths packages m → IfSome o (HasSteppedWidths packages) → HasPairWidths packages (after_or m o)
after_speaks packages m None h k = h
after_speaks packages m (Some t) h k = k

restarted_speak : ServesInPlan → LearnsInPlan → (packages : List PackageText) (ns : List NodeOf) → HavePackageWidths packages → AllFit packages ns → AllFit packages (map (agent_restarted packages) ns)
restarted_speak serves learns packages [] ps h = tt
restarted_speak serves learns packages (n ∷ ns) ps h = (
  after_speaks packages n.pair (pair_after packages n.pair (StepOf.Restart sides.Agent)) h.0 (pair_speaks serves learns packages n.pair (StepOf.Restart sides.Agent) ps h.0),
  restarted_speak serves learns packages ns ps h.1,
)

went_speaks : (w : MessageWorldOf) (device : ℕ) (o : Option Stepped) → HaveMessageWidths w → IfSome o (HasSteppedWidths w.packages) → IfSome (option_map (went_on w device) o) HaveMessageWidths
went_speaks w device None h k = tt
went_speaks w device (Some t) h k = record { packages = h.packages; pairs = put_speaks w.packages w.nodes device t.after h.pairs k }

at_speaks : ServesInPlan → LearnsInPlan → (w : MessageWorldOf) (device : ℕ) (s : StepOf) (o : Option NodeOf) → HaveMessageWidths w → IfSome o (λ n. HasPairWidths w.packages n.pair) → IfSome (step_at w device s o) HaveMessageWidths
at_speaks serves learns w device s None h k = tt
at_speaks serves learns w device s (Some n) h k = went_speaks w device (pair_after w.packages n.pair s) h (pair_speaks serves learns w.packages n.pair s h.packages k)

step_speaks : ServesInPlan → LearnsInPlan → (w : MessageWorldOf) (s : WorldStepOf) → HaveMessageWidths w → IfSome (message_world_after w s) HaveMessageWidths
unfolding message_world_after
step_speaks serves learns w (WorldStepOf.OfPair device s) h = at_speaks serves learns w device s (node_at w.nodes device) h (node_fits w.packages w.nodes device h.pairs)
step_speaks serves learns w WorldStepOf.RestartAgent h = record { packages = h.packages; pairs = restarted_speak serves learns w.packages w.nodes h.packages h.pairs }

pub along_speaks : ServesInPlan → LearnsInPlan → (steps : List WorldStepOf) (o : Option MessageWorldOf) → IfSome o HaveMessageWidths → IfSome (world_along o steps) HaveMessageWidths
along_speaks serves learns steps None h = tt
along_speaks serves learns [] (Some w) h = h
along_speaks serves learns (s ∷ steps) (Some w) h = along_speaks serves learns steps (message_world_after w s) (step_speaks serves learns w s h)
