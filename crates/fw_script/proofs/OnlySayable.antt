-- Every schedule reads as steps that a schedule can encode.
use Rattle.std.proofs.Common.{◌≡◌, ◌≢◌, ◌+◌, ◌-◌, ◌<◌, ◌≤◌, ◌^◌, ◌==◌, ◌&&◌, ℕ, zero, suc, Bool, true, false, if◌then◌else◌, List, [], ◌∷◌, ◌++◌, Option, Some, None, Result, Ok, Err, IfOk, length, nat_le, nat_lt, length-append, refl, sym, subst, arith}
use Rattle.std.specs.Char.{is_ascii_digit}
use Rattle.std.specs.List.{AllByRecursion, list_all, list_any, repeat}
use Rattle.std.specs.Str.Parse.{digits_value}
use Rattle.std.proofs.lemmas.Bool.{and_parts, eqb-false, leb-true, ltb-false, or_parts}
use Rattle.std.proofs.lemmas.List.Elements.{All-from_recursion}
use Rattle.hex.proofs.HexLemmas.{decode_of-ok}
use Rattle.hex.specs.Hex.{IsBytes, decode_of}
use Rattle.hex.specs.declared.error.FromHexError.{FromHexError}
use Rattle.exch_lane.specs.Lanes.{IsEid}
use Rattle.fw_steps.specs.Opening.{AreDifferent}
use Rattle.fw_steps.specs.Worlds.{full_tick}
use Rattle.fw_steps.specs.declared.step.Step.{Step}
use Rattle.fw_steps.specs.declared.step.Step.TheVariants as steps
use Rattle.fw_script.specs.Faults.{both}
use Rattle.fw_script.specs.Lines.{fields_in, is_skipped, lines_of, words_of}
use Rattle.fw_script.specs.ScheduleTexts.{StepsRoundTrip, StepRoundTrips, OnlyRoundTripsAreRead}
use Rattle.fw_script.specs.Schedules.{one_step, eids_with, directive_of, eids_from, has_twice, mapped_step, miss, miss_step, most_fields, only_eid_of, place_of, request_step, script_from, step_of, steps_in, steps_named, steps_of, steps_of_directive, then_lines, ticks, ticks_of, verdict_of, with_eid}
use Rattle.fw_script.specs.Values.{bytes_of, decoded_digits, eid_of, is_dash, number_in}
use Rattle.fw_script.specs.declared.faults.ScriptCause.{ScriptCause}
use Rattle.fw_script.specs.declared.faults.ScriptCause.TheVariants as causes
use Rattle.fw_script.specs.declared.faults.ScriptFault.{ScriptFault}
use Rattle.fw_script.specs.declared.schedule.Directive.{Directive}
use Rattle.fw_script.specs.declared.schedule.Directive.TheVariants as directives

-- VALUES

number_if : (digits within : Bool) (least most n : ℕ) → (within ≡ true → (least ≤ n) × (n ≤ most))
    → IfOk (if digits then (if within then Ok n else Err causes.Range) else Err causes.Number) (λ v. (least ≤ v) × (v ≤ most))
number_if true true least most n h = h refl
number_if true false least most n h = tt
number_if false within least most n h = tt

number_ok : (least most : ℕ) (word : List ℕ) → IfOk (number_in least most word) (λ n. (least ≤ n) × (n ≤ most))
unfolding number_in
number_ok least most word =
    number_if (list_all is_ascii_digit word) (nat_le least (digits_value 10 word) && nat_le (digits_value 10 word) most) least most (digits_value 10 word)
    (λ within. let parts = and_parts (nat_le least (digits_value 10 word)) (nat_le (digits_value 10 word) most) within in
    (leb-true least (digits_value 10 word) parts.0, leb-true (digits_value 10 word) most parts.1))

eid_ok : (word : List ℕ) → IfOk (eid_of word) IsEid
eid_ok word = number_ok 8 254 word

place_at : (r : Result ℕ ScriptCause) → IfOk r (λ n. (0 ≤ n) × (n ≤ 2 ^ 64 - 1)) → IfOk r (λ n. n < 2 ^ 64)
place_at (Ok n) h = let high = h.1 in omega arith
place_at (Err cause) h = tt

place_ok : (word : List ℕ) → IfOk (place_of word) (λ n. n < 2 ^ 64)
place_ok word = place_at (place_of word) (number_ok 0 (2 ^ 64 - 1) word)

both_ok : {A B : Type 0} (P : A → Type 0) (Q : B → Type 0) (r : Result A ScriptCause) (s : Result B ScriptCause) → IfOk r P → IfOk s Q
    → IfOk (both r s) (λ v. P v.0 × Q v.1)
both_ok P Q (Ok a) (Ok b) p q = (p, q)
both_ok P Q (Ok a) (Err cause) p q = tt
both_ok P Q (Err cause) (Ok b) p q = tt
both_ok P Q (Err cause) (Err other) p q = tt

made_ok : {A : Type 0} (P : A → Type 0) (f : A → Step) (r : Result A ScriptCause) → ((a : A) → P a → StepRoundTrips (f a)) → IfOk r P → IfOk (mapped_step f r) StepRoundTrips
made_ok P f (Ok a) h p = h a p
made_ok P f (Err cause) h p = tt

-- a value without conditions
any_ok : {A : Type 0} (r : Result A ScriptCause) → IfOk r (λ a. Unit {0})
any_ok (Ok a) = tt
any_ok (Err cause) = tt

only_eid_ok : (fields : List (List ℕ)) → IfOk (only_eid_of fields) IsEid
only_eid_ok [] = tt
only_eid_ok (word ∷ []) = eid_ok word
only_eid_ok (word ∷ next ∷ words) = tt

-- REQUESTS

decoded_ok : (word : List ℕ) (r : Result (List ℕ) FromHexError) → decode_of word ≡ r → IfOk (decoded_digits r) IsBytes
decoded_ok word (Ok bytes) is = (decode_of-ok word bytes is).3
decoded_ok word (Err fault) is = tt

bytes_if : (dash : Bool) (r : Result (List ℕ) ScriptCause) → IfOk r IsBytes → IfOk (if dash then Ok [] else r) IsBytes
bytes_if true r h = λ i. omega arith
bytes_if false r h = h

bytes_ok : (word : List ℕ) → IfOk (bytes_of word) IsBytes
unfolding bytes_of
bytes_ok word = bytes_if (is_dash word) (decoded_digits (decode_of word)) (decoded_ok word (decode_of word) refl)

request_if : (long : Bool) (bytes : List ℕ) → nat_lt 64 (length bytes) ≡ long → IsBytes bytes
    → IfOk (if long then Err causes.Limit else Ok (steps.Sel (record { items = bytes }))) StepRoundTrips
request_if true bytes is h = tt
request_if false bytes is h = record { few = ltb-false 64 (length bytes) is; bytes = h }

request_ok : (r : Result (List ℕ) ScriptCause) → IfOk r IsBytes → IfOk (request_step r) StepRoundTrips
request_ok (Ok bytes) h = request_if (nat_lt 64 (length bytes)) bytes refl h
request_ok (Err cause) h = tt

-- TICKS THAT NODES MISS

push_eid : (eids : List ℕ) (eid : ℕ) → AllByRecursion IsEid eids → IsEid eid → AllByRecursion IsEid (eids ++ eid ∷ [])
push_eid [] eid h k = (k, tt)
push_eid (other ∷ eids) eid h k = (h.0, push_eid eids eid h.1 k)

-- `count` identifiers
pub record AreEids (count : ℕ) (eids : List ℕ) : Type 0 where
  pub each : AllByRecursion IsEid eids
  pub counted : length eids ≡ count

behind_ok : (count : ℕ) (r : Result (List ℕ) ScriptCause) (s : Result ℕ ScriptCause) → IfOk r (AreEids count) → IfOk s IsEid
    → IfOk (eids_with (both r s)) (AreEids (count + 1))
behind_ok count (Ok eids) (Ok eid) h k =
    record { each = push_eid eids eid h.each k; counted = let counted = h.counted in omega (arith, length-append eids (eid ∷ [])) }
behind_ok count (Ok eids) (Err cause) h k = tt
behind_ok count (Err cause) (Ok eid) h k = tt
behind_ok count (Err cause) (Err other) h k = tt

counted_as : (r : Result (List ℕ) ScriptCause) (m n : ℕ) → m ≡ n → IfOk r (AreEids m) → IfOk r (AreEids n)
counted_as r m n e h = subst (λ k. IfOk r (AreEids k)) e h

eids_ok : (count : ℕ) (r : Result (List ℕ) ScriptCause) (words : List (List ℕ)) → IfOk r (AreEids count)
    → IfOk (eids_from r words) (AreEids (count + length words))
eids_ok count r [] h = counted_as r count (count + 0) (omega arith) h
eids_ok count r (word ∷ words) h =
    counted_as (eids_from (with_eid r word) words) (count + 1 + length words) (count + length (word ∷ words)) (omega arith)
    (eids_ok (count + 1) (with_eid r word) words (behind_ok count r (eid_of word) h (eid_ok word)))

none_other : (eid : ℕ) (eids : List ℕ) → list_any (λ other. other == eid) eids ≡ false → AllByRecursion (λ other. eid ≢ other) eids
none_other eid [] h = tt
none_other eid (other ∷ eids) h =
    let parts = or_parts (other == eid) (list_any (λ next. next == eid) eids) h in
    ((λ e. eqb-false other eid parts.0 (sym e)), none_other eid eids parts.1)

different : (eids : List ℕ) → has_twice eids ≡ false → AreDifferent eids
different [] h = tt
different (eid ∷ eids) h =
    let parts = or_parts (list_any (λ other. other == eid) eids) (has_twice eids) h in
    (All-from_recursion (λ other. eid ≢ other) eids (none_other eid eids parts.0), different eids parts.1)

missed_if : (twice : Bool) (count : ℕ) (eids : List ℕ) → has_twice eids ≡ twice → count ≤ 17 → AreEids count eids
    → IfOk (if twice then Err causes.Duplicate else Ok (steps.Tick (record { items = eids }))) StepRoundTrips
missed_if true count eids is few h = tt
missed_if false count eids is few h =
    record { few = let counted = h.counted in omega arith; nodes = h.each; apart = different eids is }

missed_ok : (count : ℕ) (r : Result (List ℕ) ScriptCause) → count ≤ 17 → IfOk r (AreEids count) → IfOk (miss_step r) StepRoundTrips
missed_ok count (Ok eids) few h = missed_if (has_twice eids) count eids refl few h
missed_ok count (Err cause) few h = tt

miss_if : (many : Bool) (words : List (List ℕ)) → nat_lt 17 (length words) ≡ many
    → IfOk (if many then Err causes.Fields else miss_step (eids_from (Ok []) words)) StepRoundTrips
miss_if true words is = tt
miss_if false words is =
    missed_ok (0 + length words) (eids_from (Ok []) words) (let few = ltb-false 17 (length words) is in omega arith)
    (eids_ok 0 (Ok []) words (record { each = tt; counted = refl }))

miss_ok : (words : List (List ℕ)) → IfOk (miss words) StepRoundTrips
miss_ok [] = tt
miss_ok (word ∷ words) = miss_if (nat_lt 17 (length (word ∷ words))) (word ∷ words) refl

-- STEPS

deliver_ok : (fields : List (List ℕ)) → IfOk (step_of directives.Deliver fields) StepRoundTrips
deliver_ok [] = tt
deliver_ok (pair ∷ []) = tt
deliver_ok (pair ∷ number ∷ []) = tt
deliver_ok (pair ∷ number ∷ node ∷ []) =
    made_ok (λ v. IsEid v.0 × ((v.1.0 < 2 ^ 64) × IsEid v.1.1)) (λ v. steps.Deliver v.0 v.1.0 v.1.1) (both (eid_of pair) (both (place_of number) (eid_of node)))
    (λ v h. record { of_pair = h.0; counted = h.1.0; to_node = h.1.1 })
    (both_ok IsEid (λ v. (v.0 < 2 ^ 64) × IsEid v.1) (eid_of pair) (both (place_of number) (eid_of node)) (eid_ok pair)
    (both_ok (λ n. n < 2 ^ 64) IsEid (place_of number) (eid_of node) (place_ok number) (eid_ok node)))
deliver_ok (pair ∷ number ∷ node ∷ next ∷ fields) = tt

start_ok : (fields : List (List ℕ)) → IfOk (step_of directives.Start fields) StepRoundTrips
start_ok [] = tt
start_ok (eid ∷ []) = tt
start_ok (eid ∷ number ∷ []) =
    made_ok (λ v. IsEid v.0 × (v.1 < 2 ^ 64)) (λ v. steps.Start v.0 v.1) (both (eid_of eid) (place_of number)) (λ v h. record { of_device = h.0; counted = h.1 })
    (both_ok IsEid (λ n. n < 2 ^ 64) (eid_of eid) (place_of number) (eid_ok eid) (place_ok number))
start_ok (eid ∷ number ∷ next ∷ fields) = tt

verdict_ok : (fields : List (List ℕ)) → IfOk (step_of directives.Verdict fields) StepRoundTrips
verdict_ok [] = tt
verdict_ok (eid ∷ []) = tt
verdict_ok (eid ∷ verdict ∷ []) =
    made_ok (λ v. IsEid v.0 × Unit {0}) (λ v. steps.Verdict v.0 v.1) (both (eid_of eid) (verdict_of verdict)) (λ v h. h.0)
    (both_ok IsEid (λ v. Unit {0}) (eid_of eid) (verdict_of verdict) (eid_ok eid) (any_ok (verdict_of verdict)))
verdict_ok (eid ∷ verdict ∷ next ∷ fields) = tt

sel_ok : (fields : List (List ℕ)) → IfOk (step_of directives.Sel fields) StepRoundTrips
sel_ok [] = tt
sel_ok (request ∷ []) = request_ok (bytes_of request) (bytes_ok request)
sel_ok (request ∷ next ∷ fields) = tt

alone_ok : (r : Result Step ScriptCause) → IfOk r StepRoundTrips → IfOk (one_step r) StepsRoundTrip
alone_ok (Ok step) h = (h, tt)
alone_ok (Err cause) h = tt

many_ticks : (count : ℕ) → StepsRoundTrip (repeat count (full_tick ∷ []))
many_ticks zero = tt
many_ticks (suc n) = (record { few = omega arith; nodes = tt; apart = tt }, many_ticks n)

ticks_ok : (r : Result ℕ ScriptCause) → IfOk (ticks r) StepsRoundTrip
ticks_ok (Ok count) = many_ticks count
ticks_ok (Err cause) = tt

said_ok : (d : Directive) (fields : List (List ℕ)) → IfOk (steps_of_directive d fields) StepsRoundTrip
said_ok directives.Tick fields = ticks_ok (ticks_of fields)
said_ok directives.Miss fields = alone_ok (miss fields) (miss_ok fields)
said_ok directives.Deliver fields = alone_ok (step_of directives.Deliver fields) (deliver_ok fields)
said_ok directives.Start fields = alone_ok (step_of directives.Start fields) (start_ok fields)
said_ok directives.Cancel fields =
    alone_ok (mapped_step steps.Cancel (only_eid_of fields)) (made_ok IsEid steps.Cancel (only_eid_of fields) (λ eid h. h) (only_eid_ok fields))
said_ok directives.Activate fields =
    alone_ok (mapped_step steps.Activate (only_eid_of fields)) (made_ok IsEid steps.Activate (only_eid_of fields) (λ eid h. h) (only_eid_ok fields))
said_ok directives.Verdict fields = alone_ok (step_of directives.Verdict fields) (verdict_ok fields)
said_ok directives.Restart fields =
    alone_ok (mapped_step steps.Restart (only_eid_of fields)) (made_ok IsEid steps.Restart (only_eid_of fields) (λ eid h. h) (only_eid_ok fields))
said_ok directives.Sel fields = alone_ok (step_of directives.Sel fields) (sel_ok fields)

-- LINES

named_ok : (d : Option Directive) (fields : Option (List (List ℕ))) → IfOk (steps_named d fields) StepsRoundTrip
named_ok None fields = tt
named_ok (Some d) None = tt
named_ok (Some d) (Some fields) = said_ok d fields

words_ok : (words : List (List ℕ)) → IfOk (steps_in words) StepsRoundTrip
words_ok [] = tt
words_ok (name ∷ fields) = named_ok (directive_of name) (fields_in (most_fields (directive_of name)) fields)

line_if : (skipped : Bool) (r : Result (List Step) ScriptCause) → IfOk r StepsRoundTrip → IfOk (if skipped then Ok [] else r) StepsRoundTrip
line_if true r h = tt
line_if false r h = h

line_ok : (line : List ℕ) → IfOk (steps_of line) StepsRoundTrip
unfolding steps_of
line_ok line = line_if (is_skipped line) (steps_in (words_of line)) (words_ok (words_of line))

-- the steps of two lists
pub all_sayable : (front back : List Step) → StepsRoundTrip front → StepsRoundTrip back → StepsRoundTrip (front ++ back)
all_sayable [] back h k = k
all_sayable (step ∷ front) back h k = (h.0, all_sayable front back h.1 k)

then_ok : (number : ℕ) (r : Result (List Step) ScriptCause) (rest : Result (List Step) ScriptFault) → IfOk r StepsRoundTrip → IfOk rest StepsRoundTrip
    → IfOk (then_lines number r rest) StepsRoundTrip
then_ok number (Ok front) (Ok back) h k = all_sayable front back h k
then_ok number (Ok front) (Err fault) h k = tt
then_ok number (Err cause) rest h k = tt

lines_ok : (number : ℕ) (lines : List (List ℕ)) → IfOk (script_from number lines) StepsRoundTrip
lines_ok number [] = tt
lines_ok number (line ∷ lines) = then_ok number (steps_of line) (script_from (number + 1) lines) (line_ok line) (lines_ok (number + 1) lines)

pub only_sayable : OnlyRoundTripsAreRead
only_sayable text ss is = subst (λ r. IfOk r StepsRoundTrip) is (lines_ok 1 (lines_of text))
