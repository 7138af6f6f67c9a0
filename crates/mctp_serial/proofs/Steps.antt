-- The effect of a turn of a loop over bytes.
use Rattle.std.proofs.Common.{◌≡◌, ◌∙◌, ℕ, ◌+◌, ◌-◌, ◌*◌, ◌<◌, ◌≤◌, ◌==◌, ◌||◌, Bool, true, false, List, [], ◌∷◌, ◌++◌, length, get_or, drop, drop-cons, refl, sym, ap, arith, append_assoc, append-nil, length-append, zero, suc, add-one, inl, inr}
use Rattle.std.proofs.lemmas.List.{drop_all}
use Rattle.std.proofs.lemmas.Bool.{cases_eq, ne_eqb}
use Rattle.mctp_serial.specs.Check.{check_after, check_after_byte}
use Rattle.mctp_serial.specs.Frames.{data_of, data_of_byte}

check_cons : (c b : ℕ) (bs : List ℕ) → check_after c (b ∷ bs) ≡ check_after (check_after_byte c b) bs
unfolding check_after
check_cons c b bs = refl

check_nil : (c : ℕ) → check_after c [] ≡ c
unfolding check_after
check_nil c = refl

pub check_more : (c d i : ℕ) (xs : List ℕ) → i < length xs
    → check_after (check_after_byte c (get_or xs i d)) (drop (i + 1) xs) ≡ check_after c (drop i xs)
check_more c d i xs lt =
    rw (add-one i) (sym (ap (check_after c) (drop-cons xs i d lt) ∙ check_cons c (get_or xs i d) (drop (suc i) xs)))

pub check_end : (c i : ℕ) (xs : List ℕ) → length xs ≤ i → check_after c (drop i xs) ≡ c
check_end c i xs le = rw (drop_all i xs le) (check_nil c)

data_cons : (b : ℕ) (bs : List ℕ) → data_of (b ∷ bs) ≡ data_of_byte b ++ data_of bs
unfolding data_of
data_cons b bs = refl

data_nil : data_of [] ≡ []
unfolding data_of
data_nil = refl

pub data_more : (out : List ℕ) (d i : ℕ) (xs : List ℕ) → i < length xs
    → (out ++ data_of_byte (get_or xs i d)) ++ data_of (drop (i + 1) xs) ≡ out ++ data_of (drop i xs)
data_more out d i xs lt =
    append_assoc out (data_of_byte (get_or xs i d)) (data_of (drop (i + 1) xs))
    ∙ ap (λ (ys : List ℕ). out ++ ys)
    (rw (add-one i) (sym (ap data_of (drop-cons xs i d lt) ∙ data_cons (get_or xs i d) (drop (suc i) xs))))

pub data_end : (out : List ℕ) (i : ℕ) (xs : List ℕ) → length xs ≤ i → out ++ data_of (drop i xs) ≡ out
data_end out i xs le = rw (drop_all i xs le, data_nil) (append-nil out)

pub byte_short : (b : ℕ) → length (data_of_byte b) ≤ 2
byte_short b = elim (cases_eq b 0x7E) [
  | inl flag ↦ rw flag (omega arith)
  | inr other ↦ elim (cases_eq b 0x7D) [
    | inl escape ↦ rw escape (omega arith)
    | inr plain ↦ rw (ne_eqb b 0x7E other, ne_eqb b 0x7D plain) (omega arith)
  ]
]

pub data_short : (xs : List ℕ) → length (data_of xs) ≤ 2 * length xs
data_short [] = rw data_nil (omega arith)
data_short (b ∷ bs) =
    let first = byte_short b in
    let rest = data_short bs in
    let all = length-append (data_of_byte b) (data_of bs) in
    rw (data_cons b bs) (omega (arith, first, rest, all))

pub ruleset steps = (check_more, check_end, data_more, data_end, byte_short, data_short, length-append)
