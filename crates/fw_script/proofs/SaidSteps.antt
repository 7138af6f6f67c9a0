-- The words of a step read back as the step.
use Rattle.std.proofs.Common.{◌≡◌, ◌∙◌, ◌-◌, ◌<◌, ◌≤◌, ◌^◌, ◌==◌, ℕ, suc, true, false, List, [], ◌∷◌, ◌++◌, Ok, Some, codes, ◌/◌, ◌%◌, inl, inr, length, map, decimal, nat_lt, slice_index, ap, refl, sym, append_assoc, append-nil, true≢false, arith}
use Rattle.std.specs.Char.{is_ascii_digit}
use Rattle.std.specs.List.{AllByRecursion, list_all, list_any, repeat}
use Rattle.std.specs.Str.Parse.{AllDigits}
use Rattle.std.proofs.lemmas.Bool.{and_right, le-leb, le-ltb, ne_eqb, or_from}
use Rattle.std.proofs.lemmas.Bool.Decides.{eqb_tells, nat_tests}
use Rattle.std.proofs.lemmas.Fmt.{decimal_is_IsNumeral}
use Rattle.std.proofs.lemmas.Grind.{common_steps}
use Rattle.std.proofs.lemmas.List.{length-map}
use Rattle.std.proofs.lemmas.List.Folds.{list_any_none}
use Rattle.std.proofs.lemmas.Str.Parse.{digit_from_value}
use Rattle.hex.proofs.HexLemmas.{IsDigits-upper_digits, decode_of-encode_upper, length-encode_with}
use Rattle.hex.specs.Hex.{IsBytes, encode_upper, encode_with, hex_digit_value, upper_digits}
use Rattle.exch_lane.specs.Lanes.{IsEid}
use Rattle.fd_core.specs.declared.states.Verdict.{Verdict}
use Rattle.fd_core.specs.declared.states.Verdict.TheVariants as verdicts
use Rattle.fw_text.specs.Printing.{data_text}
use Rattle.fw_steps.specs.Opening.{AreDifferent}
use Rattle.fw_steps.specs.Worlds.{full_tick}
use Rattle.fw_steps.specs.declared.step.Step.{Step}
use Rattle.fw_steps.specs.declared.step.Step.TheVariants as steps
use Rattle.fw_script.specs.Faults.{both}
use Rattle.fw_script.specs.ScheduleTexts.{AreMissing, IsDelivery, IsLogRequest, StepRoundTrips, IsStart, is_idle, words_with_spaces, verdict_word, words_for, words_for_ticks}
use Rattle.fw_script.specs.Lines.{is_nothing, is_skipped}
use Rattle.fw_script.specs.Schedules.{one_step, eids_with, directive_of, eids_from, has_twice, miss, miss_step, most_fields, place_of, request_step, steps_of, steps_of_directive, ticks, verdict_of}
use Rattle.fw_script.specs.Values.{bytes_of, eid_of, is_dash, number_in}
use Rattle.fw_script.specs.declared.schedule.Directive.{Directive}
use Rattle.fw_script.specs.declared.schedule.Directive.TheVariants as directives
use Rattle.fw_script.proofs.SpacedLines.{AreShown, AreWords, IsWord, all_fields, known_word, number_word, words_spaced}

-- NUMBERS

digits_pass : (digits : List ℕ) → AllDigits 10 digits → list_all is_ascii_digit digits ≡ true
digits_pass [] h = refl
digits_pass (d ∷ digits) h =
    let within = digit_from_value d h.0 in
    let here : is_ascii_digit d ≡ true = grind (arith, common_steps) in
    let rest = digits_pass digits h.1 in
    grind (arith, common_steps)

pub number_back : (least most n : ℕ) → least ≤ n → n ≤ most → n < 2 ^ 64 → number_in least most (decimal n) ≡ Ok n
unfolding number_in
number_back least most n low high small =
    let numeral = decimal_is_IsNumeral n small in
    rw (digits_pass (decimal n) numeral.0.1, numeral.1, le-leb least n low, le-leb n most high) refl

eid_back : (eid : ℕ) → IsEid eid → eid_of (decimal eid) ≡ Ok eid
eid_back eid h = number_back 8 254 eid h.0 h.1 (let high = h.1 in omega arith)

place_back : (n : ℕ) → n < 2 ^ 64 → place_of (decimal n) ≡ Ok n
place_back n small = number_back 0 (2 ^ 64 - 1) n (omega arith) (omega arith) small

eid_word : (eid : ℕ) → IsEid eid → IsWord (decimal eid)
eid_word eid h = number_word eid (let high = h.1 in omega arith)

eid_words : (eids : List ℕ) → AllByRecursion IsEid eids → AreWords (map decimal eids)
eid_words [] h = tt
eid_words (eid ∷ eids) h = (eid_word eid h.0, eid_words eids h.1)

-- BYTES

-- two digits or more are not a dash
no_dash : (b : ℕ) (bytes : List ℕ) → is_dash (encode_upper (b ∷ bytes)) ≡ false
unfolding encode_with
no_dash b bytes = and_right _ _ refl

data_back : (bytes : List ℕ) → IsBytes bytes → bytes_of (data_text bytes) ≡ Ok bytes
unfolding bytes_of
data_back [] h = refl
data_back (b ∷ bytes) h = rw (no_dash b bytes, decode_of-encode_upper (b ∷ bytes) h) refl

-- the code of a digit is above that of a space
digit_shown : (c d : ℕ) → hex_digit_value c ≡ Some d → 32 < c
digit_shown c d h = grind (arith, nat_tests)

shown_digit : (d : ℕ) → d < 16 → 32 < slice_index upper_digits d
shown_digit d small = digit_shown (slice_index upper_digits d) d (IsDigits-upper_digits d small)

shown_bytes : (bytes : List ℕ) → IsBytes bytes → AreShown (encode_upper bytes)
unfolding encode_with
shown_bytes [] h = tt
shown_bytes (b ∷ bytes) h =
    let byte : b < 256 = h 0 in
    (shown_digit (b / 16) (omega arith), (shown_digit (b % 16) (omega arith), shown_bytes bytes (λ i. h (suc i))))

data_word : (bytes : List ℕ) → IsBytes bytes → IsWord (data_text bytes)
data_word [] h = known_word (codes "-") refl
data_word (b ∷ bytes) h = record { some = omega (arith, length-encode_with upper_digits (b ∷ bytes)); shown = shown_bytes (b ∷ bytes) h }

-- A LINE

unskipped : (name : List ℕ) (words : List (List ℕ)) → 0 < length name → is_skipped name ≡ false → is_skipped (words_with_spaces (name ∷ words)) ≡ false
unfolding words_with_spaces
unskipped [] words some h = absurd (omega arith)
unskipped (b ∷ bytes) words some h = h

-- the words of a line that isn't skipped
pub said : (d : Directive) (name : List ℕ) (fields : List (List ℕ)) → directive_of name ≡ Some d → is_skipped name ≡ false
    → length fields ≤ most_fields (Some d) → AreWords (name ∷ fields) → steps_of (words_with_spaces (name ∷ fields)) ≡ steps_of_directive d fields
unfolding steps_of
said d name fields named begun few words =
    rw (unskipped name fields words.0.some begun, words_spaced name fields words, named, all_fields (most_fields (Some d)) fields few words.1) refl

-- STEPS

deliver_back : (pair number node : ℕ) → IsDelivery pair number node
    → steps_of (words_with_spaces (words_for (steps.Deliver pair number node))) ≡ Ok (steps.Deliver pair number node ∷ [])
unfolding directive_of
deliver_back pair number node h =
    said directives.Deliver (codes "deliver") (decimal pair ∷ decimal number ∷ decimal node ∷ []) refl refl (omega arith)
    (known_word (codes "deliver") refl, (eid_word pair h.of_pair, (number_word number h.counted, (eid_word node h.to_node, tt))))
    ∙ rw (eid_back pair h.of_pair, place_back number h.counted, eid_back node h.to_node) refl

start_back : (device number : ℕ) → IsStart device number
    → steps_of (words_with_spaces (words_for (steps.Start device number))) ≡ Ok (steps.Start device number ∷ [])
unfolding directive_of
start_back device number h =
    said directives.Start (codes "start") (decimal device ∷ decimal number ∷ []) refl refl (omega arith)
    (known_word (codes "start") refl, (eid_word device h.of_device, (number_word number h.counted, tt)))
    ∙ rw (eid_back device h.of_device, place_back number h.counted) refl

cancel_back : (device : ℕ) → IsEid device → steps_of (words_with_spaces (words_for (steps.Cancel device))) ≡ Ok (steps.Cancel device ∷ [])
unfolding directive_of
cancel_back device h =
    said directives.Cancel (codes "cancel") (decimal device ∷ []) refl refl (omega arith) (known_word (codes "cancel") refl, (eid_word device h, tt))
    ∙ rw (eid_back device h) refl

activate_back : (device : ℕ) → IsEid device → steps_of (words_with_spaces (words_for (steps.Activate device))) ≡ Ok (steps.Activate device ∷ [])
unfolding directive_of
activate_back device h =
    said directives.Activate (codes "activate") (decimal device ∷ []) refl refl (omega arith) (known_word (codes "activate") refl, (eid_word device h, tt))
    ∙ rw (eid_back device h) refl

restart_back : (node : ℕ) → IsEid node → steps_of (words_with_spaces (words_for (steps.Restart node))) ≡ Ok (steps.Restart node ∷ [])
unfolding directive_of
restart_back node h =
    said directives.Restart (codes "restart") (decimal node ∷ []) refl refl (omega arith) (known_word (codes "restart") refl, (eid_word node h, tt))
    ∙ rw (eid_back node h) refl

verdict_back : (verdict : Verdict) → verdict_of (verdict_word verdict) ≡ Ok verdict
unfolding verdict_of
verdict_back verdicts.VerifyOk = refl
verdict_back verdicts.VerifyFail = refl
verdict_back verdicts.ApplyOk = refl
verdict_back verdicts.ApplyFail = refl

word_of_verdict : (verdict : Verdict) → IsWord (verdict_word verdict)
word_of_verdict verdicts.VerifyOk = known_word (codes "verify-ok") refl
word_of_verdict verdicts.VerifyFail = known_word (codes "verify-fail") refl
word_of_verdict verdicts.ApplyOk = known_word (codes "apply-ok") refl
word_of_verdict verdicts.ApplyFail = known_word (codes "apply-fail") refl

judge_back : (device : ℕ) (verdict : Verdict) → IsEid device
    → steps_of (words_with_spaces (words_for (steps.Verdict device verdict))) ≡ Ok (steps.Verdict device verdict ∷ [])
unfolding directive_of
judge_back device verdict h =
    said directives.Verdict (codes "verdict") (decimal device ∷ verdict_word verdict ∷ []) refl refl (omega arith)
    (known_word (codes "verdict") refl, (eid_word device h, (word_of_verdict verdict, tt)))
    ∙ rw (eid_back device h, verdict_back verdict) refl

request_back : (request : List ℕ) → IsLogRequest request → request_step (Ok request) ≡ Ok (steps.Sel (record { items = request }))
request_back request h = rw (le-ltb 64 (length request) h.few) refl

sel_back : (request : List ℕ) → IsLogRequest request
    → steps_of (words_with_spaces (codes "sel" ∷ data_text request ∷ [])) ≡ Ok (steps.Sel (record { items = request }) ∷ [])
unfolding directive_of
sel_back request h =
    said directives.Sel (codes "sel") (data_text request ∷ []) refl refl (omega arith) (known_word (codes "sel") refl, (data_word request h.bytes, tt))
    ∙ ap (λ r. one_step (request_step r)) (data_back request h.bytes) ∙ ap one_step (request_back request h)

-- TICKS THAT NODES MISS

eids_back : (front eids : List ℕ) → AllByRecursion IsEid eids → eids_from (Ok front) (map decimal eids) ≡ Ok (front ++ eids)
eids_back front [] h = ap Ok (sym (append-nil front))
eids_back front (eid ∷ eids) h =
    ap (λ r. eids_from (eids_with (both (Ok front) r)) (map decimal eids)) (eid_back eid h.0)
    ∙ eids_back (front ++ eid ∷ []) eids h.1 ∙ ap Ok (append_assoc front (eid ∷ []) eids)

none_twice : (eids : List ℕ) → AreDifferent eids → has_twice eids ≡ false
none_twice [] h = refl
none_twice (eid ∷ eids) h =
    or_from (list_any (λ other. other == eid) eids) (has_twice eids)
    (list_any_none (λ other. other == eid) eids (λ k d inside. ne_eqb _ eid (λ e. h.0 k d inside (sym e)))) (none_twice eids h.1)

missed_back : (eids : List ℕ) → AreMissing eids → miss_step (eids_from (Ok []) (map decimal eids)) ≡ Ok (steps.Tick (record { items = eids }))
missed_back eids h = ap miss_step (eids_back [] eids h.nodes) ∙ rw (none_twice eids h.apart) refl

miss_back : (eid : ℕ) (eids : List ℕ) → AreMissing (eid ∷ eids) → miss (map decimal (eid ∷ eids)) ≡ Ok (steps.Tick (record { items = eid ∷ eids }))
miss_back eid eids h =
    let few : nat_lt 17 (length (map decimal (eid ∷ eids))) ≡ false = le-ltb 17 _ (let few = h.few in omega (arith, length-map (eid ∷ eids) decimal)) in
    rw few (missed_back (eid ∷ eids) h)

missing_back : (eids : List ℕ) → is_nothing eids ≡ false → AreMissing eids
    → steps_of (words_with_spaces (codes "miss" ∷ map decimal eids)) ≡ Ok (steps.Tick (record { items = eids }) ∷ [])
unfolding directive_of
missing_back [] some h = absurd (true≢false some)
missing_back (eid ∷ eids) some h =
    said directives.Miss (codes "miss") (map decimal (eid ∷ eids)) refl refl (let few = h.few in omega (arith, length-map (eid ∷ eids) decimal))
    (known_word (codes "miss") refl, eid_words (eid ∷ eids) h.nodes)
    ∙ ap one_step (miss_back eid eids h)

-- ALL STEPS

pub step_back : (step : Step) → is_idle step ≡ false → StepRoundTrips step → steps_of (words_with_spaces (words_for step)) ≡ Ok (step ∷ [])
step_back (steps.Deliver pair number node) some h = deliver_back pair number node h
step_back (steps.Tick missed) some h = missing_back missed.items some h
step_back (steps.Start device number) some h = start_back device number h
step_back (steps.Cancel device) some h = cancel_back device h
step_back (steps.Activate device) some h = activate_back device h
step_back (steps.Verdict device verdict) some h = judge_back device verdict h
step_back (steps.Restart node) some h = restart_back node h
step_back (steps.Sel request) some h = sel_back request.items h

pub step_words : (step : Step) → is_idle step ≡ false → StepRoundTrips step → AreWords (words_for step)
step_words (steps.Deliver pair number node) some h =
    (known_word (codes "deliver") refl, (eid_word pair h.of_pair, (number_word number h.counted, (eid_word node h.to_node, tt))))
step_words (steps.Tick missed) some h = (known_word (codes "miss") refl, eid_words missed.items h.nodes)
step_words (steps.Start device number) some h = (known_word (codes "start") refl, (eid_word device h.of_device, (number_word number h.counted, tt)))
step_words (steps.Cancel device) some h = (known_word (codes "cancel") refl, (eid_word device h, tt))
step_words (steps.Activate device) some h = (known_word (codes "activate") refl, (eid_word device h, tt))
step_words (steps.Verdict device verdict) some h = (known_word (codes "verdict") refl, (eid_word device h, (word_of_verdict verdict, tt)))
step_words (steps.Restart node) some h = (known_word (codes "restart") refl, (eid_word node h, tt))
step_words (steps.Sel request) some h = (known_word (codes "sel") refl, (data_word request.items h.bytes, tt))

-- TICKS THAT NOBODY MISSES

one_tick_back : steps_of (words_with_spaces (codes "tick" ∷ [])) ≡ Ok (repeat 1 (full_tick ∷ []))
unfolding directive_of
one_tick_back = said directives.Tick (codes "tick") [] refl refl (omega arith) (known_word (codes "tick") refl, tt) ∙ refl

more_ticks_back : (count : ℕ) → 1 ≤ count → count ≤ 1000
    → steps_of (words_with_spaces (codes "tick" ∷ decimal count ∷ [])) ≡ Ok (repeat count (full_tick ∷ []))
unfolding directive_of
more_ticks_back count some few =
    said directives.Tick (codes "tick") (decimal count ∷ []) refl refl (omega arith) (known_word (codes "tick") refl, (number_word count (omega arith), tt))
    ∙ ap ticks (number_back 1 1000 count some few (omega arith))

pub ticks_back : (count : ℕ) → 1 ≤ count → count ≤ 1000 → steps_of (words_with_spaces (words_for_ticks count)) ≡ Ok (repeat count (full_tick ∷ []))
ticks_back count some few =
    elim (eqb_tells count 1) [
      | inl one ↦ rw one.1 one_tick_back
      | inr more ↦ rw more.0 (more_ticks_back count some few)
    ]

pub tick_words : (count : ℕ) → count ≤ 1000 → AreWords (words_for_ticks count)
tick_words count few =
    elim (eqb_tells count 1) [
      | inl one ↦ rw one.0 (known_word (codes "tick") refl, tt)
      | inr more ↦ rw more.0 (known_word (codes "tick") refl, (number_word count (omega arith), tt))
    ]
