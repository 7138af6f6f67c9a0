-- Time, as an end of a lane counts it.
use Rattle.std.specs.Prelude.{◌≡◌, ◌≤◌, ℕ, ◌+◌, ◌*◌, ◌/◌, ◌==◌, ◌||◌, Bool, true, false, nat_lt, if◌then◌else◌, List, [], ◌∷◌, length}

-- the units since the lane's beginning, and the ticks that the end counted since its last missed
-- one, at most eight
pub record Clock : Type 0 where
  pub now : ℕ
  pub since_miss : ℕ

-- the ticks that an end counted since its last missed one, after a tick that it counts or misses
abbrev pub since_after : Bool → ℕ → ℕ
since_after true n = if nat_lt n 8 then n + 1 else 8
since_after false n = 0

-- an end misses a tick only if it has counted eight since its last missed one
abbrev pub may_beat : Bool → ℕ → Bool
may_beat counts n = counts || (n == 8)

-- a unit passes: the end counts it, or misses it
abbrev pub clock_after_unit : Bool → Clock → Clock
clock_after_unit counts c = record { now = c.now + 1; since_miss = since_after counts c.since_miss }

-- whether the end may count or miss a tick
abbrev pub MayBeat : Bool → Clock → Type 0
MayBeat counts c = may_beat counts c.since_miss ≡ true

-- the invariant of a clock
abbrev pub IsClock : Clock → Type 0
IsClock c = c.since_miss ≤ 8

-- the most units in which an end counts `ticks` ticks
abbrev pub late : ℕ → ℕ
late ticks = ticks + ticks / 8 + 1

-- no more units have passed since `date` than are possible while the end counts `count` ticks
unfoldable pub HasElapsedAtMost : Clock → (date count : ℕ) → Type 0
HasElapsedAtMost c date count = 8 * c.now + c.since_miss ≤ 8 * date + 9 * count + 8

-- a tick that is counted or missed leaves a clock
abbrev pub ClocksStay : Type 0
ClocksStay = (counts : Bool) (c : Clock) → IsClock c → MayBeat counts c → IsClock (clock_after_unit counts c)

-- no ticks are counted at that date
abbrev pub TimeStarts : Type 0
TimeStarts = (c : Clock) (date : ℕ) → IsClock c → c.now ≤ date → HasElapsedAtMost c date 0

-- each counted tick adds one
abbrev pub TimeIsCounted : Type 0
TimeIsCounted = (c : Clock) (date count : ℕ) → MayBeat true c → HasElapsedAtMost c date count → HasElapsedAtMost (clock_after_unit true c) date (count + 1)

-- a missed tick adds none
abbrev pub TimeIsMissed : Type 0
TimeIsMissed = (c : Clock) (date count : ℕ) → MayBeat false c → HasElapsedAtMost c date count → HasElapsedAtMost (clock_after_unit false c) date count

-- after `count` counted ticks, at most `late count` units have passed
abbrev pub TimeIsLate : Type 0
TimeIsLate = (c : Clock) (date count : ℕ) → HasElapsedAtMost c date count → c.now ≤ date + late count

-- after at most `ticks` counted ticks, at most `units` units have passed
abbrev pub PassesWithin : (ticks units : ℕ) → Type 0
PassesWithin ticks units = (c : Clock) (date count : ℕ) → HasElapsedAtMost c date count → count ≤ ticks → c.now ≤ date + units

-- THE LAW

-- The number of counted ticks in a list of a node's ticks between two moments, in order: for each,
-- whether the node counted it.
abbrev pub counted_ticks : List Bool → ℕ
counted_ticks [] = 0
counted_ticks (true ∷ bs) = counted_ticks bs + 1
counted_ticks (false ∷ bs) = counted_ticks bs

-- each tick of the list is allowed, from `n` counted since the last miss on
abbrev pub AreAllowed : List Bool → ℕ → Type 0
AreAllowed [] n = Unit {0}
AreAllowed (b ∷ bs) n = (may_beat b n ≡ true) × AreAllowed bs (since_after b n)

-- the ticks counted since the last miss, after the list
abbrev pub since_all : List Bool → ℕ → ℕ
since_all [] n = n
since_all (b ∷ bs) n = since_all bs (since_after b n)

-- While some units pass, a node counts at most as many ticks as units, and the units are at most
-- `late` of its ticks.
abbrev pub TicksAreLate : Type 0
TicksAreLate = (bs : List Bool) (n : ℕ) → n ≤ 8 → AreAllowed bs n → (counted_ticks bs ≤ length bs) × (length bs ≤ late (counted_ticks bs))
