-- Consecutive lines that are read.
use Rattle.std.proofs.Common.{◌≡◌, ◌∙◌, ◌+◌, ◌-◌, ◌<◌, ◌++◌, ℕ, zero, suc, List, [], ◌∷◌, Option, Some, None, length, option_map, append_assoc, append-nil, ap, refl, sym, arith}
use Rattle.fw_store.specs.Active.{ImageEntryOf, entries_from, entry_at}

-- some images, and those after them
abbrev pub with_front : List ImageEntryOf → Option (List ImageEntryOf) → Option (List ImageEntryOf)
with_front front more = option_map (λ es. front ++ es) more

pub mapped_id : (o : Option (List ImageEntryOf)) → with_front [] o ≡ o
mapped_id None = refl
mapped_id (Some es) = refl

pub joined : (front : List ImageEntryOf) (e : ImageEntryOf) (o : Option (List ImageEntryOf)) → with_front (front ++ e ∷ []) o ≡ with_front front (option_map (λ es. e ∷ es) o)
joined front e None = refl
joined front e (Some es) = ap (λ xs. Some xs) (append_assoc front (e ∷ []) es)

-- no text is left
pub read_all : (most : ℕ) (front : List ImageEntryOf) (text : List ℕ) → length text ≡ 0 → with_front front (entries_from most text) ≡ Some front
read_all zero front [] none = ap (λ xs. Some xs) (append-nil front)
read_all (suc most) front [] none = ap (λ xs. Some xs) (append-nil front)
read_all most front (b ∷ text) none = absurd (omega arith)

-- a line more
pub read_more : (most : ℕ) (front : List ImageEntryOf) (text : List ℕ) (e : ImageEntryOf) (rest : List ℕ) → 0 < length text → entry_at text ≡ Some (e, rest)
    → with_front front (entries_from (suc most) text) ≡ with_front (front ++ e ∷ []) (entries_from most rest)
read_more most front [] e rest some is = absurd (omega arith)
read_more most front (b ∷ text) e rest some is = rw is (sym (joined front e (entries_from most rest)))

-- no line is left, but some text
pub read_none : (most : ℕ) (front : List ImageEntryOf) (text : List ℕ) → 0 < length text → entry_at text ≡ None → with_front front (entries_from most text) ≡ None
read_none most front [] some is = absurd (omega arith)
read_none zero front (b ∷ text) some is = refl
read_none (suc most) front (b ∷ text) some is = rw is refl

pub read_too_few : (front : List ImageEntryOf) (text : List ℕ) → 0 < length text → with_front front (entries_from 0 text) ≡ None
read_too_few front [] some = absurd (omega arith)
read_too_few front (b ∷ text) some = refl

pub read_step : (len counter : ℕ) (front : List ImageEntryOf) (text : List ℕ) (e : ImageEntryOf) (rest : List ℕ) → counter < len → 0 < length text → entry_at text ≡ Some (e, rest)
    → with_front front (entries_from (len - counter) text) ≡ with_front (front ++ e ∷ []) (entries_from (len - (counter + 1)) rest)
read_step len counter front text e rest below some is =
    let fuel : len - counter ≡ suc (len - (counter + 1)) = omega arith in
    ap (λ n. with_front front (entries_from n text)) fuel ∙ read_more (len - (counter + 1)) front text e rest some is

pub ruleset reading = (read_all, read_step, read_none, read_too_few)
