-- Words that are appended one after another form a line.
use Rattle.std.proofs.Common.{◌≡◌, ◌∙◌, ℕ, List, [], ◌∷◌, ◌++◌, map, decimal, append_assoc, append-nil, ap, sym}
use Rattle.std.specs.List.{flat_map}
use Rattle.std.proofs.lemmas.Grind.{flat_map-append}
use Rattle.std.proofs.lemmas.List.Folds.{flat_map-map}
use Rattle.fw_text.specs.Printing.{AppendsText}
use Rattle.fw_text.proofs.Chains.{adds_more, adds_same}
use Rattle.fw_script.specs.ScheduleTexts.{words_with_spaces}

-- the first word
pub said_name : {t t1 name : List ℕ} → AppendsText t t1 name → AppendsText t t1 (words_with_spaces (name ∷ []))
unfolding words_with_spaces
said_name {t} {t1} {name} h = adds_same h (sym (append-nil name))

spaced_more : (name : List ℕ) (words : List (List ℕ)) (word : List ℕ) → words_with_spaces (name ∷ words) ++ 32 ∷ word ≡ words_with_spaces (name ∷ words ++ word ∷ [])
unfolding words_with_spaces
spaced_more name words word =
    append_assoc name (flat_map (λ w. 32 ∷ w) words) (32 ∷ word)
    ∙ ap (λ t. name ++ t) (ap (λ t. flat_map (λ w. 32 ∷ w) words ++ t) (sym (append-nil (32 ∷ word))) ∙ sym (flat_map-append (λ w. 32 ∷ w) words (word ∷ [])))

said_more : {t t1 t2 : List ℕ} (name : List ℕ) (words : List (List ℕ)) {word : List ℕ} → AppendsText t t1 (words_with_spaces (name ∷ words)) → AppendsText t1 t2 (32 ∷ word)
    → AppendsText t t2 (words_with_spaces (name ∷ words ++ word ∷ []))
said_more {t} {t1} {t2} name words {word} before more = adds_same (adds_more before more) (spaced_more name words word)

-- one more word, two and three
pub said_one : {t t1 t2 name a : List ℕ} → AppendsText t t1 name → AppendsText t1 t2 (32 ∷ a) → AppendsText t t2 (words_with_spaces (name ∷ a ∷ []))
said_one {t} {t1} {t2} {name} {a} before first = said_more name [] (said_name before) first

pub said_two : {t t1 t2 t3 name a b : List ℕ} → AppendsText t t1 name → AppendsText t1 t2 (32 ∷ a) → AppendsText t2 t3 (32 ∷ b) → AppendsText t t3 (words_with_spaces (name ∷ a ∷ b ∷ []))
said_two {t} {t1} {t2} {t3} {name} {a} {b} before first second = said_more name (a ∷ []) (said_one before first) second

pub said_three : {t t1 t2 t3 t4 name a b d : List ℕ} → AppendsText t t1 name → AppendsText t1 t2 (32 ∷ a) → AppendsText t2 t3 (32 ∷ b) → AppendsText t3 t4 (32 ∷ d)
    → AppendsText t t4 (words_with_spaces (name ∷ a ∷ b ∷ d ∷ []))
said_three {t} {t1} {t2} {t3} {t4} {name} {a} {b} {d} before first second third = said_more name (a ∷ b ∷ []) (said_two before first second) third

-- a space, and a word
pub said_word : {t t1 t2 word : List ℕ} → AppendsText t t1 (32 ∷ []) → AppendsText t1 t2 word → AppendsText t t2 (32 ∷ word)
said_word space word = adds_more space word

-- numbers
pub said_numbers : {t t1 t2 name : List ℕ} (ns : List ℕ) → AppendsText t t1 name → AppendsText t1 t2 (flat_map (λ n. 32 ∷ decimal n) ns)
    → AppendsText t t2 (words_with_spaces (name ∷ map decimal ns))
unfolding words_with_spaces
said_numbers {t} {t1} {t2} {name} ns before more =
    adds_same (adds_more before more) (ap (λ bytes. name ++ bytes) (sym (flat_map-map (λ w. 32 ∷ w) decimal ns)))
