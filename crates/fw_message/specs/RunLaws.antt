-- The laws of any two moments of a run.
use Rattle.std.specs.Prelude.{ℕ, ◌≡◌, ◌++◌, List, drop, length, map, IfSome, IsSomeAnd}
use Rattle.fw_message.specs.Headline.{EntryOf, recorded_in, running_image, running_after}
use Rattle.fw_message.specs.Replays.{CountedWorldOf, MessageRun}
use Rattle.fw_message.specs.WorldLaws.{IsOpeningMessageWorld, history_of}
use Rattle.fw_message.specs.Worlds.{NodeOf, NotedOf, MessageWorldOf, node_at}
use Rattle.fw_message.specs.declared.step.MessageStep.{MessageStep}

-- the entries added to the history between two moments
abbrev pub message_entries_added : MessageWorldOf → MessageWorldOf → List NotedOf
message_entries_added old new = drop (length old.history) new.history

-- the earlier history is a prefix of the later one
abbrev pub GrowsMessageHistory : MessageWorldOf → MessageWorldOf → Type 0
GrowsMessageHistory old new = new.history ≡ old.history ++ message_entries_added old new

-- A device and its session at two moments, and the device's entries between them: the images that
-- run later are those that ran, replaced by all images activated since; and the agent's records are
-- those of before, with those made since appended.
pub record IsPairTiedFrom (old new : NodeOf) (es : List EntryOf) : Type 0 where
  pub active : map running_image new.pair.device.rows ≡ running_after (map running_image old.pair.device.rows) es
  pub records : new.pair.session.records ≡ old.pair.session.records ++ recorded_in es

-- each device of the earlier world is in the later one, and is tied by its entries since
abbrev pub IsMessageWorldTiedBetween : MessageWorldOf → MessageWorldOf → Type 0
IsMessageWorldTiedBetween old new = (eid : ℕ) → IfSome (node_at old.nodes eid)
    (λ n. IsSomeAnd (node_at new.nodes eid) (λ m. IsPairTiedFrom n m (history_of eid (message_entries_added old new))))

-- A run followed by a run is a run.
abbrev pub MessageRunsJoin : Type 0
MessageRunsJoin = (w v u : CountedWorldOf) (ss ts : List MessageStep) → MessageRun w ss v → MessageRun v ts u → MessageRun w (ss ++ ts) u

-- The history only grows.
abbrev pub MessageRunsGrow : Type 0
MessageRunsGrow = (old new : CountedWorldOf) (steps : List MessageStep) → MessageRun old steps new → GrowsMessageHistory old.world new.world

-- Any two moments of a run are tied.
abbrev pub MessageRunsStayTied : Type 0
MessageRunsStayTied = (opening old new : CountedWorldOf) (before steps : List MessageStep) → IsOpeningMessageWorld opening.world
    → MessageRun opening before old → MessageRun old steps new → IsMessageWorldTiedBetween old.world new.world
