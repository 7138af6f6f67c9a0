-- The world over whole messages: an agent, its packages, its devices with their sessions, and the
-- history.
use Rattle.std.specs.Prelude.{ℕ, ◌≡◌, ◌⊎◌, ◌==◌, Bool, true, false, if◌then◌else◌, is_some, List, [], ◌∷◌, ◌++◌, map, Option, Some, None}
use Rattle.std.specs.Option.{option_map}
use Rattle.fw_package.specs.Package.{PackageText}
use Rattle.fw_message.specs.Headline.{EntryOf}
use Rattle.fw_message.specs.Pairs.{PairOf, StepOf, Stepped, adds_entries, pair_after}
use Rattle.fw_message.specs.declared.side.Side.TheVariants as sides
use Rattle.fw_message.specs.declared.side.Way.TheVariants as ways
use Rattle.fw_message.specs.declared.step.MessageStep.{MessageStep}
use Rattle.fw_message.specs.declared.step.MessageStep.TheVariants as steps
use Rattle.fw_message.specs.declared.step.MessageStepFault.{MessageStepFault}
use Rattle.fw_message.specs.declared.step.MessageStepFault.TheVariants as faults

-- a device by its endpoint identifier, with its session and their cells
pub record NodeOf : Type 0 where
  pub eid : ℕ
  pub pair : PairOf

-- an entry of the history, with its device
pub record NotedOf : Type 0 where
  pub device : ℕ
  pub entry : EntryOf

pub record MessageWorldOf : Type 0 where
  pub agent : ℕ
  pub packages : List PackageText
  pub nodes : List NodeOf
  pub history : List NotedOf

-- a step of the world: of one device and its session, or a restart of the agent, which restarts all
-- sessions
pub data WorldStepOf : Type 0 where
  OfPair : (device : ℕ) (step : StepOf) → WorldStepOf
  RestartAgent : WorldStepOf

-- the device of this identifier
abbrev pub node_at : List NodeOf → ℕ → Option NodeOf
node_at [] eid = None
node_at (n ∷ ns) eid = if n.eid == eid then Some n else node_at ns eid

abbrev pub put_if : Bool → PairOf → NodeOf → NodeOf
put_if true m n = record n { pair = m }
put_if false m n = n

-- the nodes with this pair for the device of this identifier
abbrev pub with_pair : List NodeOf → ℕ → PairOf → List NodeOf
with_pair [] eid m = []
with_pair (n ∷ ns) eid m = if n.eid == eid then record n { pair = m } ∷ ns else n ∷ with_pair ns eid m

abbrev pub noted_of : ℕ → EntryOf → NotedOf
noted_of device entry = record { device = device; entry = entry }

-- a pair, and the history of the world that it is in
pub record PairNoted : Type 0 where
  pub pair : PairOf
  pub history : List NotedOf

abbrev pub noted_on : ℕ → List NotedOf → Stepped → PairNoted
noted_on device history t = record { pair = t.after; history = history ++ map (noted_of device) t.noted }

abbrev pub went_on : MessageWorldOf → ℕ → Stepped → MessageWorldOf
went_on w device t = record w {
  nodes = with_pair w.nodes device t.after;
  history = w.history ++ map (noted_of device) t.noted;
}

abbrev pub step_at : MessageWorldOf → ℕ → StepOf → Option NodeOf → Option MessageWorldOf
step_at w device s None = None
step_at w device s (Some n) = option_map (went_on w device) (pair_after w.packages n.pair s)

-- the pair after a step, which is the same pair if the step isn't taken
abbrev pub after_or : PairOf → Option Stepped → PairOf
after_or m None = m
after_or m (Some t) = t.after

-- the agent restarts, and so each session
abbrev pub agent_restarted : List PackageText → NodeOf → NodeOf
agent_restarted packages n =
    record n { pair = after_or n.pair (pair_after packages n.pair (StepOf.Restart sides.Agent)) }

-- A step of the world, if it may be taken.
unfoldable pub message_world_after : MessageWorldOf → WorldStepOf → Option MessageWorldOf
message_world_after w (WorldStepOf.OfPair device s) = step_at w device s (node_at w.nodes device)
message_world_after w WorldStepOf.RestartAgent = Some (record w { nodes = map (agent_restarted w.packages) w.nodes })

-- A run of the world: each step is taken in the world after the step before it.
abbrev pub world_along : Option MessageWorldOf → List WorldStepOf → Option MessageWorldOf
world_along None steps = None
world_along (Some w) [] = Some w
world_along (Some w) (s ∷ steps) = world_along (message_world_after w s) steps

-- The device of a step. A restart names a node, which may be the agent.
abbrev pub device_of : MessageStep → ℕ
device_of (steps.Ask device way) = device
device_of (steps.Take device way quiet) = device
device_of (steps.Learn device way) = device
device_of (steps.GiveUp device way) = device
device_of (steps.Drop device way) = device
device_of (steps.Start device number) = device
device_of (steps.Cancel device) = device
device_of (steps.Activate device) = device
device_of (steps.Verdict device verdict) = device
device_of (steps.TimeOut device side) = device
device_of (steps.Restart node) = node

-- The step of a device's pair that a message step names. The message step doesn't say whether its
-- call of the bank works.
abbrev pub pair_step : Bool → MessageStep → StepOf
pair_step works (steps.Ask device ways.Down) = StepOf.AskDown
pair_step works (steps.Ask device ways.Up) = StepOf.AskUp
pair_step works (steps.Take device ways.Down quiet) = StepOf.TakeDown quiet works
pair_step works (steps.Take device ways.Up quiet) = StepOf.TakeUp
pair_step works (steps.Learn device ways.Down) = StepOf.LearnDown
pair_step works (steps.Learn device ways.Up) = StepOf.LearnUp works
pair_step works (steps.GiveUp device way) = StepOf.GiveUp way
pair_step works (steps.Drop device way) = StepOf.Drop way
pair_step works (steps.Start device number) = StepOf.Start number
pair_step works (steps.Cancel device) = StepOf.Cancel
pair_step works (steps.Activate device) = StepOf.Activate
pair_step works (steps.Verdict device verdict) = StepOf.Judge verdict works
pair_step works (steps.TimeOut device side) = StepOf.TimeOut side
pair_step works (steps.Restart device) = StepOf.Restart sides.Device

-- its device's pair after a step whose call of the bank works, if there is such a device and the
-- step is allowed
abbrev pub stepped_at : List PackageText → MessageStep → Option NodeOf → Option Stepped
stepped_at packages s None = None
stepped_at packages s (Some n) = pair_after packages n.pair (pair_step true s)

abbrev pub restarts_agent : ℕ → MessageStep → Bool
restarts_agent agent (steps.Restart node) = node == agent
restarts_agent agent s = false

abbrev pub named_step : ℕ → Bool → MessageStep → WorldStepOf
named_step agent works s =
    if restarts_agent agent s then WorldStepOf.RestartAgent else WorldStepOf.OfPair (device_of s) (pair_step works s)

-- the reason why a step isn't taken: `Refused` for Start, Activate and Verdict, `NotNow` for others
abbrev pub refusal_of : MessageStep → MessageStepFault
refusal_of (steps.Start device number) = faults.Refused
refusal_of (steps.Activate device) = faults.Refused
refusal_of (steps.Verdict device verdict) = faults.Refused
refusal_of s = faults.NotNow

-- A step that needs memory: a Start, for the records of its session, and a step that adds to the
-- history if its call of the bank works, for its entries.
abbrev pub needs_memory : MessageStep → Option Stepped → Bool
needs_memory (steps.Start device number) stepped = true
needs_memory s stepped = adds_entries stepped

-- The reason why a device's step isn't taken, from its pair after it: the step isn't allowed,
-- whether the bank works or not; or it is allowed, and memory that it needs is refused.
abbrev pub IsPairRefusal : MessageStep → MessageStepFault → (Bool → Option Stepped) → Type 0
IsPairRefusal s e after =
    ((e ≡ faults.Memory) × (needs_memory s (after true) ≡ true) × ((works : Bool) → is_some (after works) ≡ true))
    ⊎ ((e ≡ refusal_of s) × ((works : Bool) → after works ≡ None))
