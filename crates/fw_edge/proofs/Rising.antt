-- Counts that rise.
use Rattle.std.proofs.Common.{◌≡◌, ◌≤◌, ◌<◌, ◌+◌, ◌-◌, ◌^◌, ℕ, zero, suc, List, [], ◌∷◌, get_or, length, map, refl, slice_set, subst, sym, arith}
use Rattle.std.proofs.lemmas.List.{map-set}
use Rattle.fw_edge.specs.Ledgers.{EachCountGrows, AreBelow, AreGiven, CountsGrowTogether, total}

-- by 0
pub rose_none : (os : List ℕ) → EachCountGrows 0 os os
rose_none [] = tt
rose_none (o ∷ os) = (λ lt. omega arith, rose_none os)

pub together_none : (os ns : List ℕ) → ns ≡ os → CountsGrowTogether 0 os ns
together_none os ns e = λ b. (subst AreBelow e b, subst (λ xs. total xs ≡ total os + 0) (sym e) (omega arith))

-- by more
pub rose_on : (k j : ℕ) (os ms ns : List ℕ) → EachCountGrows k os ms → EachCountGrows j ms ns → EachCountGrows (k + j) os ns
rose_on k j [] [] [] h g = tt
rose_on k j [] [] (n ∷ ns) h g = absurd g
rose_on k j [] (m ∷ ms) ns h g = absurd h
rose_on k j (o ∷ os) [] ns h g = absurd h
rose_on k j (o ∷ os) (m ∷ ms) [] h g = absurd g
rose_on k j (o ∷ os) (m ∷ ms) (n ∷ ns) h g = (one h.0 g.0, rose_on k j os ms ns h.1 g.1)
  where
    one : (m < 2 ^ 64 - 1 → o + k ≤ m) → (n < 2 ^ 64 - 1 → m + j ≤ n) → n < 2 ^ 64 - 1 → o + (k + j) ≤ n
    one a b lt = let second : m + j ≤ n = b lt in let first : o + k ≤ m = a (omega arith) in omega arith

pub rose_less : (k j : ℕ) (os ns : List ℕ) → k ≤ j → EachCountGrows j os ns → EachCountGrows k os ns
rose_less k j [] [] le h = tt
rose_less k j [] (n ∷ ns) le h = absurd h
rose_less k j (o ∷ os) [] le h = absurd h
rose_less k j (o ∷ os) (n ∷ ns) le h = (λ lt. (let all : o + j ≤ n = h.0 lt in omega arith), rose_less k j os ns le h.1)

pub together_on : (k j : ℕ) (os ms ns : List ℕ) → CountsGrowTogether k os ms → CountsGrowTogether j ms ns → CountsGrowTogether (k + j) os ns
together_on k j os ms ns h g = λ b. let second = g b in let first = h second.0 in (first.0, both second.1 first.1)
  where
    both : total ns ≡ total ms + j → total ms ≡ total os + k → total ns ≡ total os + (k + j)
    both a c = omega arith

-- The counts before a place rose, and the others are unchanged.
abbrev pub RoseBefore : ℕ → ℕ → List ℕ → List ℕ → Type 0
RoseBefore most zero os ns = ns ≡ os
RoseBefore most (suc i) [] [] = Unit {0}
RoseBefore most (suc i) (o ∷ os) (n ∷ ns) = (n < 2 ^ 64 - 1 → o + most ≤ n) × RoseBefore most i os ns
RoseBefore most (suc i) os ns = ⊥

-- the count at the place rises too
rose_put : (k i : ℕ) (os ns : List ℕ) (y d : ℕ) → i < length ns → (y < 2 ^ 64 - 1 → get_or ns i d + k ≤ y) → RoseBefore k i os ns → RoseBefore k (suc i) os (slice_set ns i y)
rose_put k zero os [] y d lt more h = absurd (omega arith)
rose_put k zero os (n ∷ ns) y d lt more h = subst (λ xs. RoseBefore k 1 xs (y ∷ ns)) h (more, refl)
rose_put k (suc i) os [] y d lt more h = absurd (omega arith)
rose_put k (suc i) [] (n ∷ ns) y d lt more h = absurd h
rose_put k (suc i) (o ∷ os) (n ∷ ns) y d lt more h = (h.0, rose_put k i os ns y d (omega arith) more h.1)

-- all counts rose
pub rose_all : (k i : ℕ) (os ns : List ℕ) → length os ≤ i → RoseBefore k i os ns → EachCountGrows k os ns
rose_all k zero [] ns le h = subst (EachCountGrows k []) (sym h) tt
rose_all k zero (o ∷ os) ns le h = absurd (omega arith)
rose_all k (suc i) [] [] le h = tt
rose_all k (suc i) [] (n ∷ ns) le h = absurd h
rose_all k (suc i) (o ∷ os) [] le h = absurd h
rose_all k (suc i) (o ∷ os) (n ∷ ns) le h = (h.0, rose_all k i os ns (omega arith) h.1)

-- one count rises, so the sum does
together_put : (h i : ℕ) (ns : List ℕ) (y d : ℕ) → i < length ns → (y < 2 ^ 64 - 1 → y ≡ get_or ns i d + h) → CountsGrowTogether h ns (slice_set ns i y)
together_put h i [] y d lt more = absurd (omega arith)
together_put h zero (n ∷ ns) y d lt more = λ b. let is : y ≡ n + h = more b.0 in ((lower is b.0, b.1), sum_of is)
  where
    lower : y ≡ n + h → y < 2 ^ 64 - 1 → n < 2 ^ 64 - 1
    lower is below = omega arith

    sum_of : y ≡ n + h → y + total ns ≡ (n + total ns) + h
    sum_of is = omega arith
together_put h (suc i) (n ∷ ns) y d lt more = λ b. let rest = together_put h i ns y d (omega arith) more b.1 in ((b.0, rest.0), sum_of rest.1)
  where
    sum_of : total (slice_set ns i y) ≡ total ns + h → n + total (slice_set ns i y) ≡ (n + total ns) + h
    sum_of is = omega arith

pub map_get : {A : Type 0} (f : A → ℕ) (xs : List A) (i : ℕ) (d : A) → i < length xs → get_or (map f xs) i 0 ≡ f (get_or xs i d)
map_get f [] i d lt = absurd (omega arith)
map_get f (x ∷ xs) zero d lt = refl
map_get f (x ∷ xs) (suc i) d lt = map_get f xs i d (omega arith)

pub maps_get : {A B : Type 0} (f : A → B) (xs : List A) (i : ℕ) (d : A) → i < length xs → get_or (map f xs) i (f d) ≡ f (get_or xs i d)
maps_get f [] i d lt = absurd (omega arith)
maps_get f (x ∷ xs) zero d lt = refl
maps_get f (x ∷ xs) (suc i) d lt = maps_get f xs i d (omega arith)

pub map_length : {A B : Type 0} (f : A → B) (xs : List A) → length (map f xs) ≡ length xs
map_length f [] = refl
map_length f (x ∷ xs) = let more = map_length f xs in omega arith

-- a link is replaced by itself after it was asked
pub rose_next : {A : Type 0} (f : A → ℕ) (k : ℕ) (os : List ℕ) (xs : List A) (i : ℕ) (d y : A) → i < length xs → (f y < 2 ^ 64 - 1 → f y ≡ f (get_or xs i d) + k)
    → RoseBefore k i os (map f xs) → RoseBefore k (i + 1) os (map f (slice_set xs i y))
rose_next f k os xs i d y lt more h =
    let size : length (map f xs) ≡ length xs = map_length f xs in
    let at : get_or (map f xs) i 0 ≡ f (get_or xs i d) = map_get f xs i d lt in
    let next : suc i ≡ i + 1 = omega arith in
    subst (λ n. RoseBefore k n os (map f (slice_set xs i y))) next
    (subst (RoseBefore k (suc i) os) (sym (map-set f xs i y)) (rose_put k i os (map f xs) (f y) 0 (omega arith) (λ below. (let is = more below in omega arith)) h))

pub together_next : {A : Type 0} (f : A → ℕ) (g h t : ℕ) (os : List ℕ) (xs : List A) (i : ℕ) (d y : A) → i < length xs → (f y < 2 ^ 64 - 1 → f y ≡ f (get_or xs i d) + h) → t ≡ g + h
    → CountsGrowTogether g os (map f xs) → CountsGrowTogether t os (map f (slice_set xs i y))
together_next f g h t os xs i d y lt more sum before =
    let size : length (map f xs) ≡ length xs = map_length f xs in
    let at : get_or (map f xs) i 0 ≡ f (get_or xs i d) = map_get f xs i d lt in
    subst (λ n. CountsGrowTogether n os (map f (slice_set xs i y))) (sym sum)
    (together_on g h os (map f xs) (map f (slice_set xs i y)) before
    (subst (CountsGrowTogether h (map f xs)) (sym (map-set f xs i y)) (together_put h i (map f xs) (f y) 0 (omega arith) (λ below. (let is = more below in omega arith)))))

pub together_sum : (k j t : ℕ) (os ms ns : List ℕ) → t ≡ k + j → CountsGrowTogether k os ms → CountsGrowTogether j ms ns → CountsGrowTogether t os ns
together_sum k j t os ms ns sum h g = subst (λ n. CountsGrowTogether n os ns) (sym sum) (together_on k j os ms ns h g)

-- counts that are the same before or after
pub rose_from : (k : ℕ) (os ms ns : List ℕ) → ms ≡ os → EachCountGrows k ms ns → EachCountGrows k os ns
rose_from k os ms ns e h = subst (λ xs. EachCountGrows k xs ns) e h

pub rose_to : (k : ℕ) (os ms ns : List ℕ) → ns ≡ ms → EachCountGrows k os ms → EachCountGrows k os ns
rose_to k os ms ns e h = subst (EachCountGrows k os) (sym e) h

pub together_from : (k : ℕ) (os ms ns : List ℕ) → ms ≡ os → CountsGrowTogether k ms ns → CountsGrowTogether k os ns
together_from k os ms ns e h = subst (λ xs. CountsGrowTogether k xs ns) e h

pub together_to : (k : ℕ) (os ms ns : List ℕ) → ns ≡ ms → CountsGrowTogether k os ms → CountsGrowTogether k os ns
together_to k os ms ns e h = subst (CountsGrowTogether k os) (sym e) h

pub given_none : (before : ℕ) (os : List ℕ) → AreGiven before before 0 os os
given_none before os = λ b. (b, omega arith)

pub given_on : (before mid after known f j t : ℕ) (os ms ns : List ℕ) → after ≡ mid + known → t ≡ f + j → AreGiven before mid f os ms → CountsGrowTogether (known + j) ms ns → AreGiven before after t os ns
given_on before mid after known f j t os ms ns more sum h g = λ b. let second = g b in let first = h second.0 in (first.0, both second.1 first.1)
  where
    both : total ns ≡ total ms + (known + j) → total ms + before ≡ total os + (mid + f) → total ns + before ≡ total os + (after + t)
    both a c = omega arith
