-- The written value decodes to that value.
use Rattle.std.proofs.Common.{◌≡◌, ◌≤◌, ℕ, ◌+◌, List, [], ◌∷◌, option_and_then, sym, ap, ◌∙◌, arith, append-nil, Result, Ok, Err, OnOk}
use Rattle.json.specs.Json.{Json, if_last, value, max_depth}
use Rattle.json.specs.Lex.{tokens}
use Rattle.json.specs.Print.{print}
use Rattle.json.specs.Token.{Token}
use Rattle.json.specs.Tree.{json_tokens, depth, items_depth}
use Rattle.json.proofs.Printed.Trees.{value-json_tokens}
use Rattle.fw_json.specs.Values.{ReadsBack, numbered_items, items}

-- tokens that decode from their text decode to their value
pub read_back : (j : Json) (ts : List Token) → ts ≡ json_tokens j → tokens (print ts) ≡ ts → depth j ≤ max_depth → ReadsBack j
read_back j ts of found shallow =
    ap (option_and_then (λ p. if_last p.0 p.1))
    (ap (value max_depth) (ap (λ us. tokens (print us)) (sym of) ∙ found ∙ of ∙ sym (append-nil (json_tokens j)))
    ∙ value-json_tokens j max_depth [] shallow)

-- a list nests no deeper than its elements do
pub items_shallow : {A : Type 0} (f : A → Json) (n : ℕ) → ((x : A) → depth (f x) ≤ n) → (xs : List A) → items_depth (items f xs) ≤ n
items_shallow f n h [] = omega arith
items_shallow f n h (x ∷ xs) = omega (arith, h x, items_shallow f n h xs)

pub counted_shallow : {A : Type 0} (f : ℕ → A → Json) (n : ℕ) → ((k : ℕ) (x : A) → depth (f k x) ≤ n) → (k : ℕ) (xs : List A) → items_depth (numbered_items f k xs) ≤ n
counted_shallow f n h k [] = omega arith
counted_shallow f n h k (x ∷ xs) = omega (arith, h k x, counted_shallow f n h (k + 1) xs)

-- a fact that always holds, holds for a success
pub on_ok : {T E P : Type 0} (r : Result T E) → P → OnOk r P
on_ok (Ok x) h = h
on_ok (Err e) h = tt
