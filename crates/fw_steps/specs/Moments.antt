-- The laws of any two moments of a run of the packet world: the history only grows, and the running
-- images, the applied images and the agent's records of a device at the later moment are those of
-- the earlier moment, changed by the entries between.
use Rattle.std.specs.Prelude.{ℕ, ◌≡◌, ◌++◌, List, drop, length, map, All, IfSome, IsSomeAnd}
use Rattle.fw_message.specs.Headline.{EntryOf, WasApplied, recorded_in, running_image, running_after}
use Rattle.fw_message.specs.Pairs.{PairOf}
use Rattle.fw_message.specs.WorldLaws.{history_of}
use Rattle.fw_message.specs.Worlds.{NotedOf}
use Rattle.fw_steps.specs.Worlds.{WorldOf, pair_for}

-- the entries added to the history between two moments
abbrev pub entries_between : WorldOf → WorldOf → List NotedOf
entries_between old new = drop (length old.history) new.history

-- the earlier history is a prefix of the later one
abbrev pub GrowsHistory : WorldOf → WorldOf → Type 0
GrowsHistory old new = new.history ≡ old.history ++ entries_between old new

-- A device and the agent's session for it at two moments, with all entries of the device up to the
-- later moment, and those since the earlier one. The images that run later are those that ran,
-- replaced by all images activated since; each applied image was applied, with these bytes, after
-- the last activation; and the agent's records are those of before, with those made since appended.
pub record IsTiedFrom (old new : PairOf) (all since : List EntryOf) : Type 0 where
  pub active : map running_image new.device.rows ≡ running_after (map running_image old.device.rows) since
  pub applied : All (WasApplied all) new.device.rows
  pub records : new.session.records ≡ recorded_in all
  pub recorded : new.session.records ≡ old.session.records ++ recorded_in since

-- each device of the earlier world is in the later one, and is tied by its entries since
abbrev pub IsTiedBetween : WorldOf → WorldOf → Type 0
IsTiedBetween old new = (eid : ℕ) → IfSome (pair_for old eid)
    (λ m. IsSomeAnd (pair_for new eid) (λ n. IsTiedFrom m n (history_of eid new.history) (history_of eid (entries_between old new))))
