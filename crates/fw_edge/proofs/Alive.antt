-- A delivered packet is alive.
use Rattle.std.proofs.Common.{◌≡◌, ◌≤◌, ◌+◌, ◌&&◌, ℕ, List, [], ◌∷◌, Bool, true, false, if◌then◌else◌, nat_lt, Option, Some, None, refl}
use Rattle.std.specs.Prelude.{IsSomeAnd}
use Rattle.std.proofs.lemmas.Bool.{ltb-false}
use Rattle.exch_lane.specs.Lanes.{Sent, item_numbered}
use Rattle.fw_steps.specs.Steps.{Run, is_device, is_node, may_step, packet_fault, where_known}
use Rattle.fw_steps.specs.Worlds.{WorldOf, packets_of}
use Rattle.fw_steps.specs.declared.step.Step.{Step}
use Rattle.fw_steps.specs.declared.step.Step.TheVariants as steps
use Rattle.fw_steps.specs.declared.step.StepFault.{StepFault}
use Rattle.fw_steps.specs.declared.step.StepFault.TheVariants as faults
use Rattle.fw_edge.specs.Drives.{AreLiving, Drives, DrivesLiving, NamesLiving}

by_test : (limit now : ℕ) (b : Bool) → nat_lt limit now ≡ b → (if◌then◌else◌ {A = Option StepFault} b (Some faults.Dead) None) ≡ None → now ≤ limit
by_test limit now true is e = absurd (cc)
by_test limit now false is e = ltb-false limit now is

living_at : (now : ℕ) (p : Option Sent) → packet_fault now p ≡ None → IsSomeAnd p (λ q. now ≤ q.date + 8)
living_at now None e = absurd (cc)
living_at now (Some p) e = by_test (p.date + 8) now (nat_lt (p.date + 8) now) refl e

living_by : (known : Bool) (now : ℕ) (p : Option Sent) → where_known known (packet_fault now p) ≡ None → IsSomeAnd p (λ q. now ≤ q.date + 8)
living_by true now p e = living_at now p e
living_by false now p e = absurd (cc)

names_living : (w : WorldOf) (s : Step) → may_step w s ≡ None → NamesLiving w s
names_living w (steps.Deliver device number node) may = living_by (is_device w device && is_node w node) w.now (item_numbered (packets_of w device) number) may
names_living w (steps.Tick missed) may = tt
names_living w (steps.Start device number) may = tt
names_living w (steps.Cancel device) may = tt
names_living w (steps.Activate device) may = tt
names_living w (steps.Verdict device verdict) may = tt
names_living w (steps.Restart node) may = tt
names_living w (steps.Sel bytes) may = tt

are_living : (w : WorldOf) (ss : List Step) (v : WorldOf) (h : Run w ss v) → AreLiving w ss v h
are_living w [] v h = tt
are_living w (s ∷ ss) v h = (names_living w s h.1.may, are_living h.0 ss v h.2)

pub drives_living : (w : WorldOf) (before : List Step) (v : WorldOf) (after : List Step) → Drives w before v after → DrivesLiving w before v after
drives_living w before v after h = record { drives = h; living = are_living w h.steps v h.run }
