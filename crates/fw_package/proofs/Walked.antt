-- The components with a record's numbers, found in one walk, and the tests of a plan on them.
use Rattle.std.proofs.Common.{◌≡◌, ℕ, zero, suc, ◌+◌, ◌-◌, ◌<◌, ◌≤◌, ◌∙◌, ◌||◌, Bool, true, false, if◌then◌else◌, nat_lt, All, List, [], ◌∷◌, ◌++◌, Ok, Err, Some, None, length, map, drop, get_or, refl, sym, ap, subst, arith, length-drop, length-append, append-nil, lt-ltb, le-ltb, cond}
use borrow.Author.Tests.{ltb-false, ltb-true}
use Rattle.std.specs.List.{AllPairs, list_any, position, position_or_len}
use Rattle.std.specs.List.Sorted.{IsStrictlyIncreasing}
use Rattle.std.proofs.lemmas.List.{drop-drop, get_or-drop, length-map}
use Rattle.std.proofs.lemmas.List.Elements.{All-head, All-tail}
use Rattle.std.proofs.lemmas.List.Kept.{AllPairs-from_increasing}
use Rattle.fw_package.specs.Choice.{component_at, has_key, has_large_image, has_long_text, has_twin, no_component, plan_of, record_at}
use Rattle.fw_package.specs.Package.{ComponentOf, PackageText, RecordOf}
use Rattle.fw_package.specs.Reading.{IsUsing}
use Rattle.fw_package.specs.Views.{AreRisingUses, has_twins, used_from}
use Rattle.fw_package.specs.declared.fault.PlanFault.TheVariants as faults

-- a list has fewer items after its first
pub less_behind : {A : Type 0} (xs ys : List A) (x : A) → xs ≡ x ∷ ys → length ys < length xs
less_behind xs ys x e = let n : length xs ≡ suc (length ys) = ap length e in omega (arith, n)

-- the item at a place is the first of those after the items before it
pub record IsFirstBehind {A : Type 0} (k : ℕ) (xs : List A) (y : A) (ys : List A) : Type 0 where
  pub first : (d : A) → get_or xs k d ≡ y
  pub others : drop (k + 1) xs ≡ ys

pub behind : {A : Type 0} (k : ℕ) (xs : List A) (y : A) (ys : List A) → drop k xs ≡ y ∷ ys → IsFirstBehind k xs y ys
behind k xs y ys e =
    let same : k + 0 ≡ k = omega arith in
    record {
      first = λ d. ap (λ n. get_or xs n d) (sym same) ∙ sym (get_or-drop k xs 0 d) ∙ ap (λ zs. get_or zs 0 d) e;
      others = sym (drop-drop 1 k xs) ∙ ap (drop 1) e;
    }

pub nothing_behind : {A : Type 0} (k : ℕ) (xs : List A) → k < length xs → drop k xs ≡ [] → ⊥
nothing_behind k xs lt e = let left = length-drop k xs in let none : length (drop k xs) ≡ 0 = ap length e in omega (arith, left, none, lt)

pub using_at : (n : ℕ) (rs : List RecordOf) (number : ℕ) (r : RecordOf) (others : List RecordOf) → All (IsUsing n) rs → number < length rs → drop number rs ≡ r ∷ others → IsUsing n r
using_at n rs number r others all lt is = subst (IsUsing n) ((behind number rs r others is).first r) (all number r lt)

-- rising numbers are walked to one after the other
walked_from : (row : List ComponentOf) (at : ℕ) (ns : List ℕ) → AllPairs (λ x y. x < y) ns → All (λ n. at ≤ n) ns → All (λ n. n < length row) ns
    → AreRisingUses at (drop at row) ns × (used_from at (drop at row) ns ≡ map (λ n. get_or row n no_component) ns)
walked_from row at [] rising after there = (tt, refl)
walked_from row at (n ∷ ns) rising after there =
    let le = All-head (λ k. at ≤ k) n ns after in
    let lt = All-head (λ k. k < length row) n ns there in
    let there_is : at + (n - at) ≡ n = omega (arith, le) in
    let next : at + (n - at + 1) ≡ n + 1 = omega (arith, le) in
    let rest : drop (n - at + 1) (drop at row) ≡ drop (n + 1) row = drop-drop (n - at + 1) at row ∙ ap (λ k. drop k row) next in
    let left = length-drop at row in
    let others = walked_from row (n + 1) ns (λ i j d lt short. rising (suc i) (suc j) d (omega (arith, lt)) (omega (arith, short)))
    (λ k d short. let more : n < get_or ns k d = rising 0 (suc k) d (omega arith) (omega (arith, short)) in omega (arith, more)) (All-tail (λ k. k < length row) n ns there) in (
      (le, omega (arith, left, lt, le), rw rest others.0),
      ap (λ c. c ∷ used_from (n + 1) (drop (n - at + 1) (drop at row)) ns) (get_or-drop at row (n - at) no_component ∙ ap (λ k. get_or row k no_component) there_is)
          ∙ ap (λ cs. get_or row n no_component ∷ cs) (ap (λ xs. used_from (n + 1) xs ns) rest ∙ others.1),
    )

pub walked : (row : List ComponentOf) (ns : List ℕ) → IsStrictlyIncreasing ns → All (λ n. n < length row) ns
    → AreRisingUses 0 row ns × (used_from 0 row ns ≡ map (λ n. get_or row n no_component) ns)
walked row ns rising there = walked_from row 0 ns (AllPairs-from_increasing ns rising) (λ k d lt. omega arith) there

-- rising numbers below a number are not more than it
at_least : (ns : List ℕ) → IsStrictlyIncreasing ns → (k : ℕ) → k < length ns → k ≤ get_or ns k 0
at_least ns rising zero lt = omega arith
at_least ns rising (suc k) lt =
    let one : k + 1 ≡ suc k = omega arith in
    let before = at_least ns rising k (omega (arith, lt)) in
    let less : get_or ns k 0 < get_or ns (suc k) 0 = rw one at (rising k (omega (arith, lt))) in
    omega (arith, before, less)

few_rising : (n : ℕ) (ns : List ℕ) → IsStrictlyIncreasing ns → All (λ k. k < n) ns → length ns ≤ n
few_rising n [] rising there = omega arith
few_rising n (m ∷ ms) rising there =
    let last = at_least (m ∷ ms) rising (length ms) (omega arith) in
    let below : get_or (m ∷ ms) (length ms) 0 < n = there (length ms) 0 (omega arith) in
    omega (arith, last, below)

pub few_used : (row : List ComponentOf) (ns : List ℕ) (cs : List ComponentOf) → IsStrictlyIncreasing ns → All (λ n. n < length row) ns → length row ≤ 2978 → cs ≡ used_from 0 row ns → length cs ≤ 2978
few_used row ns cs rising there few e =
    let all : length cs ≡ length ns = ap length (e ∙ (walked row ns rising there).1) ∙ length-map ns (λ n. get_or row n no_component) in
    let fit = few_rising (length row) ns rising there in
    omega (arith, all, fit, few)

-- a test of all
any_map : {A B : Type 0} (f : A → B) (t : B → Bool) (xs : List A) → list_any t (map f xs) ≡ list_any (λ x. t (f x)) xs
any_map f t [] = refl
any_map f t (x ∷ xs) = ap (λ b. t (f x) || b) (any_map f t xs)

twins_is : (p : PackageText) (ns : List ℕ) → has_twins (map (component_at p) ns) ≡ has_twin p ns
unfolding has_twin
twins_is p [] = refl
twins_is p (n ∷ ns) =
    ap (λ b. b || has_twins (map (component_at p) ns)) (any_map (component_at p) (has_key (component_at p n).classification (component_at p n).identifier) ns)
    ∙ ap (λ b. list_any (λ m. has_key (component_at p n).classification (component_at p n).identifier (component_at p m)) ns || b) (twins_is p ns)

pub twins_here : (p : PackageText) (ns : List ℕ) (cs : List ComponentOf) (b : Bool) → cs ≡ map (component_at p) ns → b ≡ has_twins cs → b ≡ has_twin p ns
twins_here p ns cs b e h = h ∙ ap has_twins e ∙ twins_is p ns

pub large_here : (p : PackageText) (ns : List ℕ) (cs : List ComponentOf) (b : Bool) → cs ≡ map (component_at p) ns → b ≡ list_any (λ c. nat_lt 1048576 (length c.image)) cs → b ≡ has_large_image p ns
large_here p ns cs b e h = h ∙ ap (list_any (λ (c : ComponentOf). nat_lt 1048576 (length c.image))) e ∙ any_map (component_at p) (λ c. nat_lt 1048576 (length c.image)) ns

pub long_here : (p : PackageText) (ns : List ℕ) (cs : List ComponentOf) (b : Bool) → cs ≡ map (component_at p) ns → b ≡ list_any (λ c. nat_lt 200 (length c.text.bytes)) cs → b ≡ has_long_text p ns
long_here p ns cs b e h = h ∙ ap (list_any (λ (c : ComponentOf). nat_lt 200 (length c.text.bytes))) e ∙ any_map (component_at p) (λ c. nat_lt 200 (length c.text.bytes)) ns

-- numbers that a plan has room for
pub fits : (xs ys : List ℕ) → length xs ≤ 8 → xs ++ [] ≡ ys → Some xs ≡ (if nat_lt 8 (length ys) then None else Some ys)
fits xs ys le e = let same : xs ≡ ys = sym (append-nil xs) ∙ e in subst (λ zs. Some xs ≡ (if nat_lt 8 (length zs) then None else Some zs)) same (small (nat_lt 8 (length xs)) xs le refl) where
  small : (b : Bool) (xs : List ℕ) → length xs ≤ 8 → nat_lt 8 (length xs) ≡ b → Some xs ≡ (if nat_lt 8 (length xs) then None else Some xs)
  small false xs le h = rw h refl
  small true xs le h = absurd (let lt = ltb-true 8 (length xs) h in omega (arith, lt, le))

pub too_many : (xs ys left : List ℕ) (x : ℕ) → 8 ≤ length xs → xs ++ x ∷ left ≡ ys → None ≡ (if nat_lt 8 (length ys) then None else Some ys)
too_many xs ys left x le e =
    let all : length ys ≡ length xs + suc (length left) = sym (ap length e) ∙ length-append xs (x ∷ left) in
    large (nat_lt 8 (length ys)) ys (omega (arith, all, le)) refl where
      large : (b : Bool) (ys : List ℕ) → 8 < length ys → nat_lt 8 (length ys) ≡ b → None ≡ (if nat_lt 8 (length ys) then None else Some ys)
      large true ys lt h = rw h refl
      large false ys lt h = absurd (let le = ltb-false 8 (length ys) h in omega (arith, lt, le))

-- the walk to the first of the numbers
pub record UsedNext (at m : ℕ) (row : List ComponentOf) (all : List ℕ) (c : ComponentOf) (others : List ComponentOf) (ns : List ℕ) : Type 0 where
  pub are : AreRisingUses (m + 1) others ns
  pub list : used_from at row all ≡ c ∷ used_from (m + 1) others ns

pub used_next : (at n m : ℕ) (row : List ComponentOf) (all ns : List ℕ) (c : ComponentOf) (others : List ComponentOf) → AreRisingUses at row all → all ≡ n ∷ ns → m ≡ n → drop (m - at) row ≡ c ∷ others
    → UsedNext at m row all c others ns
used_next at n m row all ns c others are is same e =
    let here : AreRisingUses at row (n ∷ ns) = rw is at are in
    let found = behind (n - at) row c others (rw same at e) in
    rw (same, is) (record {
      are = rw found.others at here.2;
      list = ap (λ x. x ∷ used_from (n + 1) (drop (n - at + 1) row) ns) (found.first no_component) ∙ ap (λ xs. c ∷ used_from (n + 1) xs ns) found.others;
    })

pub used_there : (at n m : ℕ) (row : List ComponentOf) (all ns : List ℕ) → AreRisingUses at row all → all ≡ n ∷ ns → m ≡ n → (at ≤ m) × (m - at < length row)
used_there at n m row all ns are is same = let here : AreRisingUses at row (n ∷ ns) = rw is at are in rw same (here.0, here.1)

-- the place of the first that passes
pub place_found : {A : Type 0} (t : A → Bool) (n : ℕ) (left all : List A) (x : A) (others : List A) → n + position_or_len t left ≡ position_or_len t all → n < length all → left ≡ x ∷ others → true ≡ t x
    → Some n ≡ position t all
place_found t n left all x others e lt is passes =
    let first : position_or_len t left ≡ 0 = rw (is, sym passes) refl in
    let here : position_or_len t all ≡ n = sym e ∙ ap (λ k. n + k) first ∙ (omega arith) in
    rw (here, lt-ltb n (length all) lt) refl

pub place_none : {A : Type 0} (t : A → Bool) (n : ℕ) (left all : List A) → n + position_or_len t left ≡ position_or_len t all → n + length left ≡ length all → left ≡ [] → None ≡ position t all
place_none t n left all e counted is =
    let first : position_or_len t left ≡ 0 = rw is refl in
    let none : length left ≡ 0 = rw is refl in
    let here : position_or_len t all ≡ length all = sym e ∙ omega (arith, first, none, counted) in
    rw here (last (nat_lt (length all) (length all)) (length all) refl) where
      last : (b : Bool) (k : ℕ) → nat_lt k k ≡ b → None ≡ cond (nat_lt k k) (Some k) None
      last false k h = rw h refl
      last true k h = absurd (let lt = ltb-true k k h in omega (arith, lt))

none_if : {A : Type 0} (b : Bool) (x : A) → None ≡ (if b then None else Some x) → b ≡ true
none_if true x e = refl
none_if false x e = absurd (cc)

some_if : {A : Type 0} (b : Bool) (x y : A) → Some y ≡ (if b then None else Some x) → (b ≡ false) × (y ≡ x)
some_if true x y e = absurd (cc)
some_if false x y e = (refl, cc)

-- the faults of a plan, one after the other
pub plan_twin : (p : PackageText) (number : ℕ) (us : List ℕ) → us ≡ (record_at p number).uses → true ≡ has_twin p us → Err faults.DuplicateComponent ≡ plan_of p number
unfolding plan_of
plan_twin p number us e twin = rw (← e, sym twin) refl

pub plan_many : (p : PackageText) (number : ℕ) (us : List ℕ) → us ≡ (record_at p number).uses → false ≡ has_twin p us → None ≡ (if nat_lt 8 (length us) then None else Some us) → Err faults.TooManyComponents ≡ plan_of p number
unfolding plan_of
plan_many p number us e twin many = let more = none_if (nat_lt 8 (length us)) us many in rw (← e, sym twin, more) refl

pub plan_large : (p : PackageText) (number : ℕ) (us plan : List ℕ) → us ≡ (record_at p number).uses → false ≡ has_twin p us → Some plan ≡ (if nat_lt 8 (length us) then None else Some us)
    → true ≡ has_large_image p us → Err faults.ImageTooLarge ≡ plan_of p number
unfolding plan_of
plan_large p number us plan e twin few large = let room = some_if (nat_lt 8 (length us)) us plan few in rw (← e, sym twin, room.0, sym large) refl

pub plan_long : (p : PackageText) (number : ℕ) (us plan text : List ℕ) → us ≡ (record_at p number).uses → text ≡ (record_at p number).set_text.bytes → false ≡ has_twin p us
    → Some plan ≡ (if nat_lt 8 (length us) then None else Some us) → false ≡ has_large_image p us → true ≡ (nat_lt 200 (length text) || has_long_text p us) → Err faults.TextTooLong ≡ plan_of p number
unfolding plan_of
plan_long p number us plan text e t twin few large long = let room = some_if (nat_lt 8 (length us)) us plan few in rw (← e, ← t, sym twin, room.0, sym large, sym long) refl

pub plan_good : (p : PackageText) (number : ℕ) (us plan text : List ℕ) → us ≡ (record_at p number).uses → text ≡ (record_at p number).set_text.bytes → false ≡ has_twin p us
    → Some plan ≡ (if nat_lt 8 (length us) then None else Some us) → false ≡ has_large_image p us → false ≡ (nat_lt 200 (length text) || has_long_text p us) → Ok plan ≡ plan_of p number
unfolding plan_of
plan_good p number us plan text e t twin few large long = let room = some_if (nat_lt 8 (length us)) us plan few in rw (← e, ← t, sym twin, room.0, sym large, sym long) (ap (λ ns. Ok ns) room.1)

pub nothing : {A : Type 0} (xs : List A) → length xs ≡ 0 → xs ≡ []
nothing [] e = refl
nothing (x ∷ xs) e = absurd (omega (arith, e))

pub long_either : (p : PackageText) (ns : List ℕ) (cs : List ComponentOf) (b : Bool) (n : ℕ) → n ≤ 200 → cs ≡ map (component_at p) ns → b ≡ list_any (λ c. nat_lt 200 (length c.text.bytes)) cs
    → b ≡ (nat_lt 200 n || has_long_text p ns)
long_either p ns cs b n le e h = let short = le-ltb 200 n le in rw short (long_here p ns cs b e h)
