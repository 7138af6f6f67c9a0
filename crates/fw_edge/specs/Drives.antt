-- The steps of a run over links.
use Rattle.std.specs.Prelude.{ℕ, ◌≡◌, ◌+◌, ◌++◌, ◌==◌, ◌&&◌, Bool, true, false, IsSomeAnd, length, List, [], ◌∷◌, Option, Some, None}
use Rattle.std.specs.List.{list_all, sum_by}
use Rattle.exch_lane.specs.Lanes.{IsAlive, item_numbered}
use Rattle.fd_core.specs.declared.states.Verdict.{Verdict}
use Rattle.fd_core.specs.declared.states.Verdict.TheVariants as verdicts
use Rattle.fw_node.specs.Agents.{AgentOf, half_for}
use Rattle.fw_node.specs.Halves.{HalfOf}
use Rattle.ua_core.specs.Session.{TimedOf, state_of}
use Rattle.ua_core.specs.declared.state.SessionState.{SessionState}
use Rattle.ua_core.specs.declared.state.SessionState.TheVariants as states
use Rattle.fw_steps.specs.Steps.{Run}
use Rattle.fw_steps.specs.Worlds.{SiteOf, WorldOf, packets_of}
use Rattle.fw_steps.specs.declared.step.Step.{Step}
use Rattle.fw_steps.specs.declared.step.Step.TheVariants as steps

-- a delivered packet was sent in its pair, and is alive
abbrev pub NamesLiving : WorldOf → Step → Type 0
NamesLiving w (steps.Deliver device number node) = IsSomeAnd (item_numbered (packets_of w device) number) (IsAlive w.now)
NamesLiving w s = Unit {0}

-- this holds for every step of a run
abbrev pub AreLiving : (w : WorldOf) (ss : List Step) (v : WorldOf) → Run w ss v → Type 0
AreLiving w [] v h = Unit {0}
AreLiving w (s ∷ ss) v h = NamesLiving w s × AreLiving h.0 ss v h.2

-- the number of ticks and deliveries in a list
abbrev pub tick_in : Step → ℕ
tick_in (steps.Tick missed) = 1
tick_in s = 0

abbrev pub ticks_in : List Step → ℕ
ticks_in ss = sum_by tick_in ss

abbrev pub deliver_in : Step → ℕ
deliver_in (steps.Deliver device number node) = 1
deliver_in s = 0

abbrev pub delivers_in : List Step → ℕ
delivers_in ss = sum_by deliver_in ss

-- a verdict that is a success
abbrev pub is_good : Verdict → Bool
is_good verdicts.VerifyOk = true
is_good verdicts.ApplyOk = true
is_good verdict = false

-- A step that a run takes by itself: no node misses a tick or restarts, each verdict is a success,
-- no update is started or cancelled, and no event log request is made.
abbrev pub is_driven : Step → Bool
is_driven (steps.Deliver device number node) = true
is_driven (steps.Tick missed) = length missed.items == 0
is_driven (steps.Verdict device verdict) = is_good verdict
is_driven (steps.Activate device) = true
is_driven s = false

abbrev pub AreDriven : List Step → Type 0
AreDriven ss = list_all is_driven ss ≡ true

-- Steps were taken from one world to another, and appended to a list of steps.
pub record Drives (w : WorldOf) (before : List Step) (v : WorldOf) (after : List Step) : Type 0 where
  pub steps : List Step
  pub appended : after ≡ before ++ steps
  pub run : Run w steps v
  pub driven : AreDriven steps

-- as `Drives`, with `ticks` ticks and `delivers` deliveries
pub record DrivesCounted (w : WorldOf) (before : List Step) (v : WorldOf) (after : List Step) (ticks delivers : ℕ) : Type 0 where
  pub drives : Drives w before v after
  pub ticks_rise : ticks_in after ≡ ticks_in before + ticks
  pub delivers_rise : delivers_in after ≡ delivers_in before + delivers

-- as `Drives`, and each delivered packet is alive
pub record DrivesLiving (w : WorldOf) (before : List Step) (v : WorldOf) (after : List Step) : Type 0 where
  pub drives : Drives w before v after
  pub living : AreLiving w drives.steps v drives.run

-- the session with a device is Done or Failed, if there is one
abbrev pub is_over_state : SessionState → Bool
is_over_state states.Done = true
is_over_state (states.Failed cause) = true
is_over_state state = false

abbrev pub is_over : Option (HalfOf TimedOf) → Bool
is_over None = true
is_over (Some h) = is_over_state (state_of h.core.session.stage)

-- each session is over
abbrev pub are_over : AgentOf → List SiteOf → Bool
are_over n [] = true
are_over n (x ∷ xs) = is_over (half_for n x.node.endpoint.eid) && are_over n xs

abbrev pub all_over : WorldOf → Bool
all_over w = are_over w.agent w.sites
