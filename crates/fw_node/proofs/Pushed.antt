-- The packets of a message, appended one by one.
use Rattle.std.proofs.Common.{◌≡◌, ◌∙◌, ◌+◌, ◌++◌, ◌≤◌, ℕ, zero, suc, List, [], ◌∷◌, drop, length, map, slice_get, take, inl, inr, Some, None, sym, ap, arith, append_assoc}
use Rattle.std.proofs.lemmas.Bool.{cases_lt, le-leb, lt-leb}
use Rattle.std.proofs.lemmas.List.{take_all, take_more}
use Rattle.std.proofs.lemmas.Option.{get_or_from_slice_get, slice_get_within}
use Rattle.mctp_wire.specs.declared.unit.Unit.{«Unit»}
use Rattle.mctp_wire.specs.Units.{bytes_of}
use Rattle.mctp_reasm.specs.Pieces.{MessageOf, Route, message_route, pieces_from, spelling_of}
use Rattle.mctp_wire.specs.declared.unit.TheConstants.{MAX_PACKETS}
use Rattle.fw_node.specs.Packets.{packets_of}

-- a message has at most four packets
few_from : (u : «Unit») (most : ℕ) (r : Route) (n : ℕ) (bytes : List ℕ) → length (map spelling_of (pieces_from u most r n bytes)) ≤ most
unfolding pieces_from
few_from u zero r n bytes = omega arith
few_from u (suc most) r n bytes = elim (cases_lt (bytes_of u) (length bytes)) [
  | inl lt ↦
      let rest = few_from u most r (n + 1) (drop (bytes_of u) bytes) in
      rw (lt-leb (length bytes) (bytes_of u) lt) (omega (arith, rest))
  | inr ge ↦ rw (le-leb (length bytes) (bytes_of u) ge) (omega arith)
]

pub few : (u : «Unit») (m : MessageOf) → length (packets_of u m) ≤ MAX_PACKETS
few u m = few_from u MAX_PACKETS (message_route m) 0 m.bytes

-- one more is appended
pub pushed_more : (before now one_more : List (List ℕ)) (xs : List (List ℕ)) (i : ℕ) (x : List ℕ) → now ≡ before ++ take i xs → one_more ≡ now ++ x ∷ [] → Some x ≡ slice_get xs i
    → one_more ≡ before ++ take (i + 1) xs
pushed_more before now one_more xs i x is more there =
    let within = slice_get_within xs i x (sym there) in
    let taken : take (i + 1) xs ≡ take i xs ++ x ∷ [] = take_more xs i x within ∙ ap (λ y. take i xs ++ y ∷ []) (get_or_from_slice_get xs i x x (sym there)) in
    more ∙ (ap (λ ys. ys ++ x ∷ []) is ∙ (append_assoc before (take i xs) (x ∷ []) ∙ ap (λ ys. before ++ ys) (sym taken)))

-- all are appended
past : (xs : List (List ℕ)) (i : ℕ) → None ≡ slice_get xs i → length xs ≤ i
past [] i e = omega arith
past (x ∷ xs) zero e = absurd (cc)
past (x ∷ xs) (suc i) e = let rest = past xs i e in omega (arith, rest)

pub pushed_all : (before now : List (List ℕ)) (xs : List (List ℕ)) (i : ℕ) → now ≡ before ++ take i xs → length xs ≤ i → now ≡ before ++ xs
pushed_all before now xs i is le = is ∙ ap (λ ys. before ++ ys) (take_all i xs le)

pub pushed_last : (before now : List (List ℕ)) (xs : List (List ℕ)) (i : ℕ) → now ≡ before ++ take i xs → None ≡ slice_get xs i → now ≡ before ++ xs
pushed_last before now xs i is none = pushed_all before now xs i is (past xs i none)
