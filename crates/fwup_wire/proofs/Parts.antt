-- Consecutive parts of a message.
use Rattle.std.proofs.Common.{List, ap, arith, drop, ◌+◌, ◌∙◌, ◌≡◌, ℕ}
use Rattle.std.proofs.lemmas.List.{drop-drop}

-- the bytes after the fixed part of a component's parameters
pub fixed_skipped : (s : List ℕ) → drop 6 (drop 10 (drop 4 (drop 10 (drop 9 s)))) ≡ drop 39 s
fixed_skipped s =
    let after_head : drop 10 (drop 9 s) ≡ drop 19 s = drop-drop 10 9 s in
    let after_stamp : drop 4 (drop 10 (drop 9 s)) ≡ drop 23 s = ap (drop 4) after_head ∙ drop-drop 4 19 s in
    let after_pending : drop 10 (drop 4 (drop 10 (drop 9 s))) ≡ drop 33 s = ap (drop 10) after_stamp ∙ drop-drop 10 23 s in
    ap (drop 6) after_pending ∙ drop-drop 6 33 s

-- the bytes after its texts
pub parameters_skipped : (s : List ℕ) (active pending a p : ℕ) → a ≡ active → p ≡ pending
    → drop pending (drop active (drop 6 (drop 10 (drop 4 (drop 10 (drop 9 s)))))) ≡ drop (39 + (a + p)) s
parameters_skipped s active pending a p is_active is_pending =
    let after_active : drop active (drop 6 (drop 10 (drop 4 (drop 10 (drop 9 s))))) ≡ drop (39 + active) s =
    ap (drop active) (fixed_skipped s) ∙ drop-drop active 39 s in
    let all : 39 + active + pending ≡ 39 + (a + p) = omega arith in
    ap (drop pending) after_active ∙ drop-drop pending (39 + active) s ∙ ap (λ n. drop n s) all
