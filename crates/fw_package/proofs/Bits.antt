-- The bitmap that is written names the components that are used.
use Rattle.std.proofs.Common.{◌≡◌, ◌≢◌, ℕ, zero, suc, ◌+◌, ◌*◌, ◌^◌, ◌-◌, ◌<◌, ◌≤◌, Bool, true, false, if◌then◌else◌, Result, Ok, Err, List, [], ◌∷◌, ◌++◌, length, get_or, slice_index, inl, inr, length-append, append_assoc, map, ◌==◌, ne_eqb, sym, ap, arith, add-one, nat_cmp}
use Rattle.std.specs.List.{range_with_len}
use Rattle.std.specs.Result.{is_ok}
use Rattle.std.specs.List.Sorted.{IsBinarySearchResult, IsStrictlyIncreasing}
use Rattle.std.proofs.Math.Pow.{pow_mono}
use Rattle.std.proofs.lemmas.Bool.{cases_lt, eq-eqb}
use Rattle.std.proofs.lemmas.Grind.{get_or_default_zero}
use Rattle.std.proofs.lemmas.List.Folds.{list_any_at, list_any_none}
use Rattle.std.proofs.lemmas.List.FromFn.{length-map-range_with_len, map-range_with_len_more}
use Rattle.std.proofs.lemmas.List.Sorted.{searched}
use Rattle.fw_package.specs.Writing.{bitmap_byte, bits_of, is_used}

bit_small : (b : Bool) → (if b then 1 else 0) ≤ 1
bit_small true = omega arith
bit_small false = omega arith

pub bits_small : (uses : List ℕ) (first n : ℕ) → bits_of uses first n < 2 ^ n
bits_small uses first zero = omega arith
bits_small uses first (suc n) =
    let low = bit_small (is_used uses first) in
    let high = bits_small uses (first + 1) n in
    omega arith

-- seven bits fit into a byte and leave room for one more
pub bits_room : (uses : List ℕ) (first n : ℕ) → n < 8 → bits_of uses first n < 128
bits_room uses first n lt =
    let small = bits_small uses first n in
    let most : 2 ^ n ≤ 2 ^ 7 = pow_mono {i = n} {j = 7} (omega arith) in
    omega arith

pub bits_step : (uses : List ℕ) (place n number : ℕ) → n < 8 → number ≡ 8 * place + (7 - n)
    → bits_of uses (8 * place + (8 - n)) n * 2 + (if is_used uses number then 1 else 0) ≡ bits_of uses (8 * place + (8 - (n + 1))) (n + 1)
bits_step uses place n number lt e =
    let here : 8 * place + (8 - (n + 1)) ≡ number = omega arith in
    let next : 8 * place + (8 - n) ≡ number + 1 = omega arith in
    let more : n + 1 ≡ suc n = add-one n in
    rw (here, next, more) (omega arith)

pub ruleset byte_bits = (bits_room, bits_step)

-- rising numbers don't fall
not_falling : (xs : List ℕ) (i n : ℕ) → IsStrictlyIncreasing xs → i + n < length xs → slice_index xs i ≤ slice_index xs (i + n)
not_falling xs i zero rising lt = let same : i + 0 ≡ i = omega arith in rw same (omega arith)
not_falling xs i (suc n) rising lt =
    let before = not_falling xs i n rising (omega arith) in
    let step = rising (i + n) (omega arith) in
    let same : i + n + 1 ≡ i + suc n = omega arith in
    let over = rw same at step in
    omega arith

rising_pair : (xs : List ℕ) → IsStrictlyIncreasing xs → (i j : ℕ) → i ≤ j → j < length xs → get_or xs i 0 ≤ get_or xs j 0
rising_pair xs rising i j le lt =
    let apart : i + (j - i) ≡ j = omega arith in
    let pair = not_falling xs i (j - i) rising (omega arith) in
    rw apart at pair

found_there : (uses : List ℕ) (k i : ℕ) → i < length uses → get_or uses i 0 ≡ k → is_used uses k ≡ true
found_there uses k i lt e = list_any_at (λ n. n == k) uses i 0 lt (eq-eqb (get_or uses i 0) k e)

not_there : (uses : List ℕ) (k i : ℕ) → ((j : ℕ) → j < i → get_or uses j 0 < k) → ((j : ℕ) → i ≤ j → j < length uses → k < get_or uses j 0) → is_used uses k ≡ false
not_there uses k i below above =
    list_any_none (λ n. n == k) uses (λ j d lt.
    let same = get_or_default_zero uses j d lt in
    let other : get_or uses j 0 ≢ k = elim (cases_lt j i) [
      | inl less ↦ let fewer = below j less in λ e. omega (arith, fewer, e)
      | inr le ↦ let more = above j le lt in λ e. omega (arith, more, e)
    ] in
    rw same (ne_eqb (get_or uses j 0) k other))

-- a search among rising numbers finds those that are in the list
pub used_found : (uses : List ℕ) (k : ℕ) (r : Result ℕ ℕ) → IsBinarySearchResult (λ y. nat_cmp y k) uses r → IsStrictlyIncreasing uses → is_ok r ≡ is_used uses k
used_found uses k (Ok i) h rising =
    let found = searched uses k (Ok i) h (rising_pair uses rising) in
    sym (found_there uses k i found.0 found.1)
used_found uses k (Err i) h rising =
    let found = searched uses k (Err i) h (rising_pair uses rising) in
    sym (not_there uses k i found.1 found.2)

pub bitmap_room : (uses old out : List ℕ) (place size : ℕ) → out ≡ old ++ map (bitmap_byte uses) (range_with_len 0 place) → place < size → length old + size ≤ 65535 → length out < 65535
bitmap_room uses old out place size is lt room =
    let all = ap length is in
    let both = length-append old (map (bitmap_byte uses) (range_with_len 0 place)) in
    let count = length-map-range_with_len (bitmap_byte uses) 0 place in
    omega (arith, all, both, count)

pub bitmap_more : (uses old out new : List ℕ) (place byte : ℕ) → out ≡ old ++ map (bitmap_byte uses) (range_with_len 0 place) → byte ≡ bitmap_byte uses place → new ≡ out ++ byte ∷ []
    → new ≡ old ++ map (bitmap_byte uses) (range_with_len 0 (place + 1))
bitmap_more uses old out new place byte is next more =
    let longer = map-range_with_len_more (bitmap_byte uses) 0 place place (omega arith) in
    rw (more, is, next, longer) (append_assoc old (map (bitmap_byte uses) (range_with_len 0 place)) (bitmap_byte uses place ∷ []))

pub ruleset placing = (bitmap_room, bitmap_more)
