-- The laws of every run of messages between an agent and its devices.
use Rattle.std.specs.Prelude.{ℕ, ◌≡◌, ◌==◌, if◌then◌else◌, List, [], ◌∷◌, All, None, Some, IfSome}
use Rattle.std.specs.Option.{option_map}
use Rattle.fd_core.specs.States.{DeviceState}
use Rattle.fd_core.specs.Steps.{device_restart}
use Rattle.ua_core.specs.Calls.{new_session}
use Rattle.fw_message.specs.Headline.{EntryOf, HeadlineHolds, Shown}
use Rattle.fw_message.specs.Laws.{IsOpening, shown_pair}
use Rattle.fw_message.specs.Pairs.{PairRun}
use Rattle.fw_message.specs.Worlds.{NodeOf, NotedOf, MessageWorldOf, WorldStepOf, node_at, world_along}

-- the history of one device, in order
abbrev pub history_of : ℕ → List NotedOf → List EntryOf
history_of eid [] = []
history_of eid (x ∷ xs) = if x.device == eid then x.entry ∷ history_of eid xs else history_of eid xs

-- a device's pair with its history
abbrev pub run_of : NodeOf → List EntryOf → PairRun
run_of n es = record { pair = n.pair; entries = es }

abbrev pub IsOpeningNode : NodeOf → Type 0
IsOpeningNode n = IsOpening (run_of n [])

-- the opening of a world: each device with its session is at its opening, and the history is empty
pub record IsOpeningMessageWorld (w : MessageWorldOf) : Type 0 where
  pub nodes : All IsOpeningNode w.nodes
  pub history : w.history ≡ []

-- a device that starts now, with a new session of its unit and empty cells
abbrev pub new_node : ℕ → DeviceState → NodeOf
new_node eid device =
    record {
      eid = eid;
      pair = record { device = device_restart device; session = (new_session device.unit).session; down = None; up = None };
    }

-- what a world shows
abbrev pub shown_messages : MessageWorldOf → Shown
shown_messages w =
    record {
      packages = w.packages;
      device = λ eid. option_map (λ n. shown_pair n.pair (history_of eid w.history)) (node_at w.nodes eid);
    }

-- the headline of worlds of messages
abbrev pub IsSafeMessageWorld : MessageWorldOf → MessageWorldOf → Type 0
IsSafeMessageWorld opening w = HeadlineHolds (shown_messages opening) (shown_messages w)

-- Message safety: every run of messages keeps the history of each device safe and tied.
abbrev pub WorldsAreSafe : Type 0
WorldsAreSafe = (opening : MessageWorldOf) (steps : List WorldStepOf) → IsOpeningMessageWorld opening
    → IfSome (world_along (Some opening) steps) (IsSafeMessageWorld opening)

-- The same for each run that continues another.
abbrev pub WorldsStaySafe : Type 0
WorldsStaySafe = (opening old new : MessageWorldOf) (before steps : List WorldStepOf) → IsOpeningMessageWorld opening
    → world_along (Some opening) before ≡ Some old → world_along (Some old) steps ≡ Some new → IsSafeMessageWorld opening new
