-- When a display on a terminal is due for an update.
use Rattle.std.specs.Prelude.{ℕ, ◌*◌, ◌-◌, ◌^◌, if◌then◌else◌, Bool, true, List, [], Option, None, Some, nat_le, option_map}
use Rattle.std.specs.Time.{instant_nanos}
use Rattle.std.specs.declared.time.Instant.{Instant}

-- Whether a display is due for an update at a time, by the time of the last one, if there was one:
-- at most ten times a second. Both are in nanoseconds since the clock's start.
abbrev pub is_due : (shown : Option ℕ) → (now : ℕ) → Bool
is_due None now = true
is_due (Some shown) now = nat_le (100 * 10 ^ 6) (now - shown)

-- the time of the update for which a display is due, if the clock could be read
abbrev pub update_due : (shown now : Option Instant) → Option Instant
update_due shown None = None
update_due shown (Some now) = if is_due (option_map instant_nanos shown) (instant_nanos now) then Some now else None

-- what is written, if the display is due for an update
abbrev pub text_if_due : (due : Option Instant) → (text : List ℕ) → List ℕ
text_if_due None text = []
text_if_due (Some now) text = text

-- the time of the last update after that
abbrev pub shown_after : (shown due : Option Instant) → Option Instant
shown_after shown None = shown
shown_after shown (Some now) = Some now
