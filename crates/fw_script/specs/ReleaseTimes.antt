-- The release time of a package.
use Rattle.std.specs.Prelude.{ℕ, ◌*◌, ◌+◌, ◌-◌, ◌%◌, ◌/◌, ◌==◌, ◌&&◌, ◌||◌, nat_le, not, Bool, List, [], ◌∷◌, Option, None, Some, Result, Ok, Err, if◌then◌else◌, length, slice_index}
use Rattle.std.specs.Char.{is_ascii_digit}
use Rattle.hex.specs.Hex.{decode_sized}
use Rattle.fw_script.specs.declared.faults.ScriptCause.{ScriptCause}
use Rattle.fw_script.specs.declared.faults.ScriptCause.TheVariants as causes
use Rattle.fw_script.specs.declared.release_times.DateTime.{DateTime}
use Rattle.fw_script.specs.Values.{decoded_digits}

-- the number of two decimal digits
abbrev pub decimal_pair : (tens ones : ℕ) → Option ℕ
decimal_pair tens ones = if is_ascii_digit tens && is_ascii_digit ones then Some ((tens - 48) * 10 + (ones - 48)) else None

-- Gregorian calendar: each fourth year, but of the centuries each fourth
abbrev pub is_leap_year : (year : ℕ) → Bool
is_leap_year year = year % 4 == 0 && (not (year % 100 == 0) || year % 400 == 0)

abbrev pub days_in : (year month : ℕ) → ℕ
days_in year month =
    if month == 2 then (if is_leap_year year then 29 else 28)
    else if month == 4 || month == 6 || month == 9 || month == 11 then 30
    else 31

abbrev pub is_date : (year month day : ℕ) → Bool
is_date year month day = nat_le 1 month && nat_le month 12 && nat_le 1 day && nat_le day (days_in year month)

-- without leap seconds
abbrev pub is_time : (hour minute second : ℕ) → Bool
is_time hour minute second = nat_le hour 23 && nat_le minute 59 && nat_le second 59

-- a time as timestamp104 of DSP0240: the offset from UTC and the microseconds are zero, and the
-- last byte says that the offset is given to the minute, and the time to the second
abbrev pub timestamp : DateTime → List ℕ
timestamp t =
    0 ∷ 0 ∷ 0 ∷ 0 ∷ 0 ∷ t.second ∷ t.minute ∷ t.hour ∷ t.day ∷ t.month ∷ (t.year % 256) ∷ (t.year / 256) ∷ 22 ∷ []

-- the word has the form `YYYY-MM-DDTHH:MM:SSZ`, with any bytes for digits
abbrev pub is_date_form : (word : List ℕ) → Bool
is_date_form word =
    length word == 20 && slice_index word 4 == 45 && slice_index word 7 == 45 && slice_index word 10 == 84
    && slice_index word 13 == 58 && slice_index word 16 == 58 && slice_index word 19 == 90

-- the two digits at a place of such a word
abbrev pub pair_at : (word : List ℕ) → (place : ℕ) → Option ℕ
pair_at word place = decimal_pair (slice_index word place) (slice_index word (place + 1))

abbrev then_number : Option ℕ → (ℕ → Result DateTime ScriptCause) → Result DateTime ScriptCause
then_number (Some n) next = next n
then_number None next = Err causes.Number

-- the time that such a word gives
abbrev pub time_in : (word : List ℕ) → Result DateTime ScriptCause
time_in word =
    then_number (pair_at word 0) (λ century. then_number (pair_at word 2) (λ year. then_number (pair_at word 5) (λ month. then_number (pair_at word 8) (λ day.
    then_number (pair_at word 11) (λ hour. then_number (pair_at word 14) (λ minute. then_number (pair_at word 17) (λ second.
    Ok (record { year = century * 100 + year; month = month; day = day; hour = hour; minute = minute; second = second }))))))))

-- the timestamp of a time, if the calendar has it
abbrev pub real_timestamp : Result DateTime ScriptCause → Result (List ℕ) ScriptCause
real_timestamp (Ok t) = if is_date t.year t.month t.day && is_time t.hour t.minute t.second then Ok (timestamp t) else Err causes.Range
real_timestamp (Err cause) = Err cause

-- A release time: a date and time of UTC as RFC 3339 has them, to the second, or thirteen bytes.
unfoldable pub release_of : List ℕ → Result (List ℕ) ScriptCause
release_of word = if is_date_form word then real_timestamp (time_in word) else decoded_digits (decode_sized word 13)
