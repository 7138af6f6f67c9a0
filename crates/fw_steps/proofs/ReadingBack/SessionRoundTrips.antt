-- A session's pending command can be encoded.
use Rattle.std.proofs.Common.{◌≡◌, ◌<◌, ◌≤◌, ◌^◌, ℕ, Bool, true, false, if◌then◌else◌, nat_lt, ◌||◌, zero, suc, List, [], ◌∷◌, length, map, slice_index_or, IfSome, Ok, Err, Result, refl, subst, arith}
use Rattle.std.specs.List.{AllByRecursion}
use Rattle.std.proofs.lemmas.List.{length-map, length-take}
use Rattle.std.proofs.lemmas.Bool.{ltb-false}
use Rattle.fw_package.specs.Choice.{component_at, has_large_image, has_long_text, has_twin, no_component, plan_of, record_at}
use Rattle.fw_package.specs.Package.{ComponentOf, PackageText, TextOf}
use Rattle.fw_package.specs.declared.fault.PlanFault.{PlanFault}
use Rattle.fw_package.specs.declared.fault.PlanFault.TheVariants as faults
use Rattle.fwup_wire.specs.Commands.{CommandRoundTrips}
use Rattle.mctp_wire.specs.declared.unit.Unit.{«Unit»}
use Rattle.mctp_wire.specs.declared.unit.Unit.TheVariants.{U64, U128}
use Rattle.ua_core.specs.Laws.{IsPlanned, IsStageInPlan, number_of}
use Rattle.ua_core.specs.Lent.{sent_text, uses_stamp}
use Rattle.ua_core.specs.Session.{JobOf, SessionOf, Stage}
use Rattle.ua_core.specs.Wish.{agent_wish, entry_wish, offer_wish, request_wish, stage_wish}
use Rattle.ua_core.specs.declared.planned.Planned.{Planned}
use Rattle.fw_steps.specs.Widths.{HasPlannedWidths, HasPackageWidths}
use Rattle.ua_core.proofs.Answering.{answers_read}
use Rattle.ua_core.proofs.Fitting.{answers_fit}
use Rattle.ua_core.specs.Serve.{agent_answer}
use Rattle.fwup_wire.specs.Values.{CommandOf}
use Rattle.fw_node.specs.Nodes.{AnswerRoundTrips}

short_text : (t : TextOf) → length (sent_text t).bytes ≤ 200
short_text t = rw (length-take 200 t.bytes) (omega arith)

none_speaks : HasPlannedWidths no_component
none_speaks = record { classification = omega arith; identifier = omega arith; stamp = omega arith }

at_number : (cs : List ComponentOf) (n : ℕ) → AllByRecursion HasPlannedWidths cs → HasPlannedWidths (slice_index_or cs n no_component)
at_number [] n h = none_speaks
at_number (c ∷ cs) zero h = h.0
at_number (c ∷ cs) (suc n) h = at_number cs n h.1

pub package_component_fits : (p : PackageText) (n : ℕ) → HasPackageWidths p → HasPlannedWidths (component_at p n)
package_component_fits p n h = at_number p.components n h

-- a stamp as it is sent
stamp_either : (uses : Bool) (stamp : ℕ) → stamp < 256 ^ 4 → (if uses then stamp else 0xFFFFFFFF) < 256 ^ 4
stamp_either true stamp h = h
stamp_either false stamp h = omega arith

-- a size as it is sent
size_either : (large : Bool) (size : ℕ) → nat_lt 0xFFFFFFFF size ≡ large → (if large then 0xFFFFFFFF else size) < 256 ^ 4
size_either true size e = omega arith
size_either false size e = omega (arith, ltb-false 0xFFFFFFFF size e)

-- a plan that is planned has at most eight components
planned_few : (twin many large long : Bool) (ns ms : List ℕ) → nat_lt 8 (length ns) ≡ many
    → ◌≡◌ {A = Result (List ℕ) PlanFault} (if twin then Err faults.DuplicateComponent else if many then Err faults.TooManyComponents else if large then Err faults.ImageTooLarge else if long then Err faults.TextTooLong else Ok ns) (Ok ms)
    → length ms ≤ 8
planned_few true many large long ns ms e is = absurd (cc)
planned_few false true large long ns ms e is = absurd (cc)
planned_few false false true long ns ms e is = absurd (cc)
planned_few false false false true ns ms e is = absurd (cc)
planned_few false false false false ns ms e is =
    let same : ns ≡ ms = cc in
    subst (λ xs. length xs ≤ 8) same (ltb-false 8 (length ns) e)

plan_few : (p : PackageText) (j : JobOf) → IsPlanned p j → length j.plan ≤ 8
unfolding plan_of
plan_few p j is =
    let few = planned_few (has_twin p (record_at p j.chosen).uses) _ (has_large_image p (record_at p j.chosen).uses) (nat_lt 200 (length (record_at p j.chosen).set_text.bytes) || has_long_text p (record_at p j.chosen).uses) (record_at p j.chosen).uses (map number_of j.plan) refl is in
    subst (λ n. n ≤ 8) (length-map j.plan number_of) few

-- the commands
request_spoken : (unit : «Unit») (p : PackageText) (j : JobOf) → length j.plan ≤ 8 → CommandRoundTrips (request_wish unit p j)
request_spoken U64 p j few = record { writable = omega (arith, short_text (record_at p j.chosen).set_text); widths = (omega arith, omega (arith, few), omega arith) }
request_spoken U128 p j few = record { writable = omega (arith, short_text (record_at p j.chosen).set_text); widths = (omega arith, omega (arith, few), omega arith) }

entry_spoken : (p : PackageText) (j : JobOf) (i : Planned) (left : ℕ) → HasPackageWidths p → CommandRoundTrips (entry_wish p j i left)
entry_spoken p j i left h =
    let c = package_component_fits p i.component h in
    record {
      writable = omega (arith, short_text (component_at p i.component).text);
      widths = (c.classification, c.identifier, stamp_either (uses_stamp (component_at p i.component)) (component_at p i.component).stamp c.stamp);
    }

offer_spoken : (p : PackageText) (i : Planned) → HasPackageWidths p → CommandRoundTrips (offer_wish p i)
offer_spoken p i h =
    let c = package_component_fits p i.component h in
    record {
      writable = omega (arith, short_text (component_at p i.component).text);
      widths = (
        (c.classification, c.identifier, stamp_either (uses_stamp (component_at p i.component)) (component_at p i.component).stamp c.stamp),
        size_either (nat_lt 0xFFFFFFFF (length (component_at p i.component).image)) (length (component_at p i.component).image) refl,
      );
    }

stage_spoken : (unit : «Unit») (p : PackageText) (g : Stage) → HasPackageWidths p → IsStageInPlan p g → IfSome (stage_wish unit p g) CommandRoundTrips
stage_spoken unit p Stage.Query h k = record { writable = omega arith; widths = tt }
stage_spoken unit p (Stage.Params j) h k = record { writable = omega arith; widths = tt }
stage_spoken unit p (Stage.ClearOld j) h k = record { writable = omega arith; widths = tt }
stage_spoken unit p (Stage.Request j) h k = request_spoken unit p j (plan_few p j k)
stage_spoken unit p (Stage.Pass j i left todo) h k = entry_spoken p j i (length left) h
stage_spoken unit p (Stage.Update t) h k = offer_spoken p t.at_hand h
stage_spoken unit p (Stage.Activate j) h k = record { writable = omega arith; widths = tt }
stage_spoken unit p Stage.Cancelling h k = record { writable = omega arith; widths = tt }
stage_spoken unit p g h k = tt

pub session_spoken : (p : PackageText) (s : SessionOf) → HasPackageWidths p → IsStageInPlan p s.stage → IfSome (agent_wish p s) CommandRoundTrips
session_spoken p s h k = stage_spoken s.unit p s.stage h k

-- and its answers round-trip, in any stage
pub session_heard : (p : PackageText) (s : SessionOf) (c : CommandOf) → AnswerRoundTrips s.unit c (agent_answer p s c)
session_heard p s c = record { reads = answers_read p s c; fits = answers_fit p s c }
