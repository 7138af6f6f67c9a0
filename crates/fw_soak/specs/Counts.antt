-- The counts of a run.
use Rattle.std.specs.Prelude.{ℕ, ◌+◌, ◌-◌, ◌^◌, ◌==◌, Bool, true, false, if◌then◌else◌, nat_lt, not, List, [], ◌∷◌, Option, Some, None, filter, length, map, min, option_map, replicate, slice_set}
use Rattle.std.specs.List.{sum_by}
use Rattle.fw_message.specs.Headline.{EntryOf}
use Rattle.fw_message.specs.Worlds.{NotedOf}
use Rattle.fw_steps.specs.Worlds.{SiteOf}
use Rattle.fw_steps.specs.declared.step.Step.{Step}
use Rattle.fw_steps.specs.declared.step.Step.TheVariants as steps
use Rattle.fw_soak.specs.Courses.{CourseOf}
use Rattle.fw_soak.specs.declared.counts.SoakUpdate.{SoakUpdate}

-- the images that devices activated, and their number
abbrev pub is_activated : EntryOf → Bool
is_activated (EntryOf.Activated p) = true
is_activated e = false

abbrev pub activations_in : List NotedOf → ℕ
activations_in xs = length (filter (λ x. is_activated x.entry) xs)

-- the restarts of the agent or of a device, and their number
abbrev pub is_restart : Step → Bool
is_restart (steps.Restart node) = true
is_restart s = false

abbrev pub restarts_in : List Step → ℕ
restarts_in ss = length (filter is_restart ss)

-- The packets of a device that were delivered at least once: a delivery marks its packet, whose
-- number is counted from 1.
abbrev pub marks_at : List Bool → (number : ℕ) → List Bool
marks_at marks number = if number == 0 then marks else slice_set marks (number - 1) true

abbrev pub marked_if : Bool → List Bool → (number : ℕ) → List Bool
marked_if true marks number = marks_at marks number
marked_if false marks number = marks

abbrev pub marked_by : (device : ℕ) → List Bool → Step → List Bool
marked_by device marks (steps.Deliver pair number node) = marked_if (pair == device) marks number
marked_by device marks s = marks

abbrev pub marked_along : (device : ℕ) → List Bool → List Step → List Bool
marked_along device marks [] = marks
marked_along device marks (s ∷ ss) = marked_along device (marked_by device marks s) ss

-- the number of a device's packets that were never delivered
abbrev pub lost_at : List Step → SiteOf → ℕ
lost_at ss x = length (filter not (marked_along x.node.endpoint.eid (replicate (length x.packets) false) ss))

-- the number of packets that were never delivered
abbrev pub losses_in : CourseOf → ℕ
losses_in c = sum_by (lost_at c.steps) c.world.sites

-- a count stops at its last value
abbrev pub capped_count : ℕ → ℕ
capped_count n = min n (2 ^ 64 - 1)

-- the greater of two numbers
abbrev pub greater : ℕ → ℕ → ℕ
greater a b = if nat_lt a b then b else a

-- no update is running, and none has ended
abbrev pub no_update : SoakUpdate
no_update = record { since = None; longest = 0 }

abbrev pub starts_if : Bool → SoakUpdate → SoakUpdate
starts_if true u = record { since = Some 0; longest = u.longest }
starts_if false u = u

-- an update that began some ticks ago ends, or there is none
abbrev pub update_after_end : Option ℕ → (longest : ℕ) → SoakUpdate
update_after_end None longest = record { since = None; longest = longest }
update_after_end (Some since) longest = record { since = None; longest = greater longest since }

abbrev pub ends_if : Bool → SoakUpdate → SoakUpdate
ends_if true u = update_after_end u.since u.longest
ends_if false u = u

-- An update begins when the operator starts it, and ends when the operator activates the device.
-- Its duration is counted in ticks.
abbrev pub update_after : (device : ℕ) → SoakUpdate → Step → SoakUpdate
update_after device u (steps.Start eid number) = starts_if (eid == device) u
update_after device u (steps.Activate eid) = ends_if (eid == device) u
update_after device u (steps.Tick missed) = record { since = option_map (λ t. capped_count (t + 1)) u.since; longest = u.longest }
update_after device u s = u

abbrev pub update_along : (device : ℕ) → SoakUpdate → List Step → SoakUpdate
update_along device u [] = u
update_along device u (s ∷ ss) = update_along device (update_after device u s) ss

-- the duration of a device's longest update in ticks
abbrev pub longest_at : List Step → SiteOf → ℕ
longest_at ss x = (update_along x.node.endpoint.eid no_update ss).longest

-- the greatest of some numbers and one more
abbrev pub greatest : (so_far : ℕ) → List ℕ → ℕ
greatest n [] = n
greatest n (m ∷ ms) = greatest (greater n m) ms

-- the duration of the longest update of a run in ticks
abbrev pub longest_in : CourseOf → ℕ
longest_in c = greatest 0 (map (longest_at c.steps) c.world.sites)
