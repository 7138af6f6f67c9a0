-- Bytes that are read or written in pieces.
use Rattle.std.proofs.Common.{◌≡◌, ◌≢◌, ◌<◌, ◌≤◌, ◌+◌, ◌-◌, ℕ, List, length, take, drop, sym, subst, arith, Option}
use Rattle.std.proofs.lemmas.List.{take_all, length-drop}
use Rattle.std.proofs.Math.Seq.{take-add}
use Rattle.std.specs.Io.KnownBytes.{Appends}
use Rattle.std.proofs.KnownBytes.{Appends-trans}

-- all that is left from a place on
pub slice_rest : (i : ℕ) (xs : List ℕ) → take (length xs - i) (drop i xs) ≡ drop i xs
slice_rest i xs = take_all (length xs - i) (drop i xs) (rw (length-drop i xs) (omega arith))

pub below_all : (i n : ℕ) (xs : List ℕ) → i < length xs → n ≤ length (take (length xs - i) (drop i xs)) → i + n ≢ length xs → i + n < length xs
below_all i n xs lt more other = let here : n ≤ length xs - i = rw (slice_rest i xs, length-drop i xs) at more in omega (arith, here)

-- one more piece is written
pub appends_more : (a b c : Option (List ℕ)) (xs : List ℕ) (i n : ℕ) → Appends a b (take i xs) → Appends b c (take n (drop i xs)) → Appends a c (take (i + n) xs)
appends_more a b c xs i n first second = subst (Appends a c) (sym (take-add i n xs)) (Appends-trans a b c (take i xs) (take n (drop i xs)) first second)
