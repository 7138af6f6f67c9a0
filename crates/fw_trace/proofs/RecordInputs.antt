-- The inputs of records, one after the other.
use Rattle.std.proofs.Common.{◌≡◌, ◌∙◌, ◌≤◌, ◌+◌, ◌-◌, ℕ, zero, suc, Bool, true, false, if◌then◌else◌, List, [], ◌∷◌, ◌++◌, append-nil, drop, length, take, None, Some, OnOk, Result, Ok, Err, refl, sym, ap, arith}
use Rattle.std.proofs.lemmas.List.{length-drop, take_all}
use Rattle.fw_text.proofs.Chains.{told_all, told_more}
use Rattle.fw_text.specs.Printing.{AppendsText}
use Rattle.fw_trace.specs.Decoding.{DecoderOf, decoded_lines, decoder_after, facts_of_input, text_of_input}
use Rattle.fw_trace.specs.declared.decoder.Facts.{Facts}
use Rattle.fw_trace.specs.declared.decoder.Facts.TheVariants as facts
use Rattle.fw_trace.specs.Inputs.{Input, all_record_inputs, captured_size_in, lacks_record, record_input, record_inputs}
use Rattle.fw_trace.specs.declared.capture_reading.ByteOrder.{ByteOrder}
use Rattle.fw_trace.specs.declared.inputs.InputFault.TheVariants as faults

-- more fuel than bytes changes nothing
fuel_free : (f g : ℕ) (order : ByteOrder) (bytes : List ℕ) → length bytes ≤ f → length bytes ≤ g → record_inputs f order bytes ≡ record_inputs g order bytes
unfolding record_inputs
fuel_free f g order [] enough many = refl
fuel_free zero g order (b ∷ bytes) enough many = absurd (omega arith)
fuel_free (suc f) zero order (b ∷ bytes) enough many = absurd (omega arith)
fuel_free (suc f) (suc g) order (b ∷ bytes) enough many =
    let size = 16 + captured_size_in order (b ∷ bytes) in
    ap (λ (rest : List Input). if lacks_record order (b ∷ bytes) then Err faults.Cut ∷ [] else record_input order (b ∷ bytes) ∷ rest)
    (fuel_free f g order (drop (16 + captured_size_in order (b ∷ bytes)) (b ∷ bytes))
    (omega (arith, length-drop (16 + captured_size_in order (b ∷ bytes)) (b ∷ bytes))) (omega (arith, length-drop (16 + captured_size_in order (b ∷ bytes)) (b ∷ bytes))))

-- the first record is whole
records_more_on : (f : ℕ) (order : ByteOrder) (bytes : List ℕ) → 1 ≤ length bytes → length bytes ≡ suc f → lacks_record order bytes ≡ false
    → record_inputs (suc f) order bytes ≡ record_input order bytes ∷ all_record_inputs order (drop (16 + captured_size_in order bytes) bytes)
unfolding record_inputs
records_more_on f order [] some is whole = absurd (omega arith)
records_more_on f order (b ∷ bytes) some is whole =
    rw whole
    (ap (λ (rest : List Input). record_input order (b ∷ bytes) ∷ rest)
    (fuel_free f (length (drop (16 + captured_size_in order (b ∷ bytes)) (b ∷ bytes))) order (drop (16 + captured_size_in order (b ∷ bytes)) (b ∷ bytes))
    (omega (arith, is, length-drop (16 + captured_size_in order (b ∷ bytes)) (b ∷ bytes))) (omega arith)))

pub records_more : (order : ByteOrder) (bytes : List ℕ) → 1 ≤ length bytes → lacks_record order bytes ≡ false
    → all_record_inputs order bytes ≡ record_input order bytes ∷ all_record_inputs order (drop (16 + captured_size_in order bytes) bytes)
records_more order bytes some whole =
    let one : length bytes ≡ suc (length bytes - 1) = omega arith in
    ap (λ n. record_inputs n order bytes) one ∙ records_more_on (length bytes - 1) order bytes some one whole

-- it isn't
records_cut_on : (f : ℕ) (order : ByteOrder) (bytes : List ℕ) → 1 ≤ length bytes → length bytes ≡ suc f → lacks_record order bytes ≡ true
    → record_inputs (suc f) order bytes ≡ Err faults.Cut ∷ []
unfolding record_inputs
records_cut_on f order [] some is cut = absurd (omega arith)
records_cut_on f order (b ∷ bytes) some is cut = rw cut refl

pub records_cut : (order : ByteOrder) (bytes : List ℕ) → 1 ≤ length bytes → lacks_record order bytes ≡ true → all_record_inputs order bytes ≡ Err faults.Cut ∷ []
records_cut order bytes some cut =
    let one : length bytes ≡ suc (length bytes - 1) = omega arith in
    ap (λ n. record_inputs n order bytes) one ∙ records_cut_on (length bytes - 1) order bytes some one cut

pub records_none : (order : ByteOrder) → all_record_inputs order [] ≡ []
unfolding record_inputs
records_none order = refl

-- ---- their lines

size_some : (b : Bool) (n size : ℕ) → Some size ≡ (if b then None else Some n) → (b ≡ false) × (size ≡ n)
size_some true n size is = absurd (cc)
size_some false n size is = (refl, cc)

size_none : (b : Bool) (n : ℕ) → None ≡ (if b then None else Some n) → b ≡ true
size_none true n is = refl
size_none false n is = absurd (cc)

some_whole : (order : ByteOrder) (bytes : List ℕ) (size : ℕ) → Some size ≡ (if lacks_record order bytes then None else Some (16 + captured_size_in order bytes))
    → (lacks_record order bytes ≡ false) × (size ≡ 16 + captured_size_in order bytes)
some_whole order bytes size is = size_some (lacks_record order bytes) (16 + captured_size_in order bytes) size is

-- one more record is decoded
pub record_told : (line : Facts → List ℕ → List ℕ) (order : ByteOrder) (left all text after : List ℕ) (d : DecoderOf) (size : ℕ) → 1 ≤ length left
    → Some size ≡ (if lacks_record order left then None else Some (16 + captured_size_in order left)) → text ++ decoded_lines line d (all_record_inputs order left) ≡ all
    → AppendsText text after (line (facts_of_input d (record_input order left)) (text_of_input d (record_input order left)))
    → after ++ decoded_lines line (decoder_after d (record_input order left)) (all_record_inputs order (take (length left - size) (drop size left))) ≡ all
record_told line order left all text after d size some is told adds =
    let whole = some_whole order left size is in
    let rest : take (length left - size) (drop size left) ≡ drop (16 + captured_size_in order left) left =
    take_all (length left - size) (drop size left) (omega (arith, length-drop size left)) ∙ ap (λ n. drop n left) whole.1 in
    let more = records_more order left some whole.0 in
    let inputs = all_record_inputs order (take (length left - size) (drop size left)) in
    told_more text after (decoded_lines line (decoder_after d (record_input order left)) (all_record_inputs order (take (length left - size) (drop size left)))) all
    (line (facts_of_input d (record_input order left)) (text_of_input d (record_input order left)))
    (ap (λ bytes. text ++ (line (facts_of_input d (record_input order left)) (text_of_input d (record_input order left))
    ++ decoded_lines line (decoder_after d (record_input order left)) (all_record_inputs order bytes))) rest
    ∙ ap (λ (inputs : List Input). text ++ decoded_lines line d inputs) (sym more) ∙ told) adds

-- the rest is cut off
pub cut_told : (line : Facts → List ℕ → List ℕ) (order : ByteOrder) (left all before text after : List ℕ) (d : DecoderOf) → 1 ≤ length left
    → None ≡ (if lacks_record order left then None else Some (16 + captured_size_in order left)) → text ++ decoded_lines line d (all_record_inputs order left) ≡ before ++ all
    → AppendsText text after (line (facts.Unread faults.Cut) []) → AppendsText before after all
cut_told line order left all before text after d some is told adds =
    let cut = records_cut order left some (size_none (lacks_record order left) (16 + captured_size_in order left) is) in
    record {
      is = adds.is ∙ ap (λ (xs : List ℕ). text ++ xs) (sym (append-nil (line (facts.Unread faults.Cut) [])))
          ∙ ap (λ (inputs : List Input). text ++ decoded_lines line d inputs) (sym cut) ∙ told;
    }

pub cut_told_ok : {T E : Type 0} (r : Result T E) (line : Facts → List ℕ → List ℕ) (order : ByteOrder) (left all before text after : List ℕ) (d : DecoderOf) → 1 ≤ length left
    → None ≡ (if lacks_record order left then None else Some (16 + captured_size_in order left)) → text ++ decoded_lines line d (all_record_inputs order left) ≡ before ++ all
    → OnOk r (AppendsText text after (line (facts.Unread faults.Cut) [])) → OnOk r (AppendsText before after all)
cut_told_ok (Ok x) line order left all before text after d some is told adds = cut_told line order left all before text after d some is told adds
cut_told_ok (Err e) line order left all before text after d some is told adds = tt

-- none is left
pub none_told : (line : Facts → List ℕ → List ℕ) (order : ByteOrder) (left all before text : List ℕ) (d : DecoderOf) → length left ≡ 0
    → text ++ decoded_lines line d (all_record_inputs order left) ≡ before ++ all → AppendsText before text all
none_told line order [] all before text d none told =
    told_all before text all (ap (λ (inputs : List Input). text ++ decoded_lines line d inputs) (sym (records_none order)) ∙ told)
none_told line order (b ∷ left) all before text d none told = absurd (omega arith)
