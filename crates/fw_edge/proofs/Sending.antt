-- The packets that links take of their pairs.
use Rattle.std.proofs.Common.{◌≡◌, ◌≤◌, ◌<◌, ◌+◌, ◌-◌, ◌^◌, ◌∙◌, ℕ, zero, suc, List, [], ◌∷◌, get_or, length, map, slice_get, slice_set, refl, sym, ap, subst, subst₂, arith}
use Rattle.std.proofs.lemmas.List.{map-set}
use Rattle.fw_steps.specs.Worlds.{SiteOf, packets_at}
use Rattle.fw_edge.specs.Ledgers.{AllSent, NoCountFalls, packet_counts}
use Rattle.fw_edge.proofs.Rising.{map_get, map_length}

-- none
pub sent_none : (bs os : List ℕ) → length bs ≡ length os → AllSent bs bs os os
sent_none [] [] same = tt
sent_none [] (o ∷ os) same = absurd (omega arith)
sent_none (b ∷ bs) [] same = absurd (omega arith)
sent_none (b ∷ bs) (o ∷ os) same = (omega arith, λ lt. omega arith, sent_none bs os (omega arith))

-- more
pub sent_on : (bs ms cs os ks ns : List ℕ) → AllSent bs ms os ks → AllSent ms cs ks ns → AllSent bs cs os ns
sent_on [] [] [] [] [] [] h g = tt
sent_on [] [] [] [] [] (n ∷ ns) h g = absurd g
sent_on [] [] (c ∷ cs) [] [] ns h g = absurd g
sent_on [] [] cs [] (k ∷ ks) ns h g = absurd h
sent_on [] [] cs (o ∷ os) ks ns h g = absurd h
sent_on [] (m ∷ ms) cs os ks ns h g = absurd h
sent_on (b ∷ bs) [] cs os ks ns h g = absurd h
sent_on (b ∷ bs) (m ∷ ms) cs [] ks ns h g = absurd h
sent_on (b ∷ bs) (m ∷ ms) cs (o ∷ os) [] ns h g = absurd h
sent_on (b ∷ bs) (m ∷ ms) [] (o ∷ os) (k ∷ ks) ns h g = absurd g
sent_on (b ∷ bs) (m ∷ ms) (c ∷ cs) (o ∷ os) (k ∷ ks) [] h g = absurd g
sent_on (b ∷ bs) (m ∷ ms) (c ∷ cs) (o ∷ os) (k ∷ ks) (n ∷ ns) h g =
    (let first : b ≤ m = h.0 in let second : m ≤ c = g.0 in omega arith, both h.0 g.0 h.1 g.1, sent_on bs ms cs os ks ns h.2 g.2)
  where
    both : b ≤ m → m ≤ c → (k < 2 ^ 64 - 1 → k ≡ o + (m - b)) → (n < 2 ^ 64 - 1 → n ≡ k + (c - m)) → n < 2 ^ 64 - 1 → n ≡ o + (c - b)
    both le more a d lt = let second : n ≡ k + (c - m) = d lt in let first : k ≡ o + (m - b) = a (omega arith) in omega arith

-- and as many as the pairs gained
pub sent_turn : (bs ms cs ws us os ks ns : List ℕ) → ws ≡ ms → us ≡ cs → AllSent bs ms os ks → AllSent ws us ks ns → AllSent bs cs os ns
sent_turn bs ms cs ws us os ks ns e d h g = sent_on bs ms cs os ks ns h (subst₂ (λ xs ys. AllSent xs ys ks ns) e d g)

-- by one link
sent_put : (bs os : List ℕ) (i c n : ℕ) → length bs ≡ length os → i < length bs → get_or bs i 0 ≤ c → (n < 2 ^ 64 - 1 → n ≡ get_or os i 0 + (c - get_or bs i 0))
    → AllSent bs (slice_set bs i c) os (slice_set os i n)
sent_put [] os i c n same lt le is = absurd (omega arith)
sent_put (b ∷ bs) [] i c n same lt le is = absurd (omega arith)
sent_put (b ∷ bs) (o ∷ os) zero c n same lt le is = (le, is, sent_none bs os (omega arith))
sent_put (b ∷ bs) (o ∷ os) (suc i) c n same lt le is = (omega arith, λ below. omega arith, sent_put bs os i c n (omega arith) (omega arith) le is)

pub sent_next : {A : Type 0} (f : A → ℕ) (bs ms os : List ℕ) (xs : List A) (i c : ℕ) (d y : A) → length ms ≡ length xs → i < length xs → get_or ms i 0 ≤ c
    → (f y < 2 ^ 64 - 1 → f y ≡ f (get_or xs i d) + (c - get_or ms i 0)) → AllSent bs ms os (map f xs) → AllSent bs (slice_set ms i c) os (map f (slice_set xs i y))
sent_next f bs ms os xs i c d y same lt le is h =
    let size : length (map f xs) ≡ length xs = map_length f xs in
    let at : get_or (map f xs) i 0 ≡ f (get_or xs i d) = map_get f xs i d lt in
    sent_on bs ms (slice_set ms i c) os (map f xs) (map f (slice_set xs i y)) h
    (subst (AllSent ms (slice_set ms i c) (map f xs)) (sym (map-set f xs i y)) (sent_put ms (map f xs) i c (f y) (omega arith) (omega arith) le (λ below. (let rose = is below in omega arith))))

-- All packets of the pairs before a place are written, and of the others at most those that were
-- sent.
abbrev pub WrittenBefore : ℕ → List ℕ → List ℕ → Type 0
WrittenBefore zero ws cs = NoCountFalls ws cs
WrittenBefore (suc i) [] [] = Unit {0}
WrittenBefore (suc i) (w ∷ ws) (c ∷ cs) = (w ≡ c) × WrittenBefore i ws cs
WrittenBefore (suc i) ws cs = ⊥

-- all packets of the pair at the place are written too
written_put : (i : ℕ) (ws cs : List ℕ) (c : ℕ) → i < length ws → c ≡ get_or cs i 0 → WrittenBefore i ws cs → WrittenBefore (suc i) (slice_set ws i c) cs
written_put zero [] cs c lt is h = absurd (omega arith)
written_put zero (w ∷ ws) [] c lt is h = absurd h
written_put zero (w ∷ ws) (n ∷ cs) c lt is h = (is, h.1)
written_put (suc i) [] cs c lt is h = absurd (omega arith)
written_put (suc i) (w ∷ ws) [] c lt is h = absurd h
written_put (suc i) (w ∷ ws) (n ∷ cs) c lt is h = (h.0, written_put i ws cs c (omega arith) is h.1)

pub written_next : (i : ℕ) (ws cs : List ℕ) (c : ℕ) → i < length ws → c ≡ get_or cs i 0 → WrittenBefore i ws cs → WrittenBefore (i + 1) (slice_set ws i c) cs
written_next i ws cs c lt is h = let next : suc i ≡ i + 1 = omega arith in subst (λ n. WrittenBefore n (slice_set ws i c) cs) next (written_put i ws cs c lt is h)

pub written_within : (i : ℕ) (ws cs : List ℕ) → i < length ws → WrittenBefore i ws cs → get_or ws i 0 ≤ get_or cs i 0
written_within zero [] cs lt h = absurd (omega arith)
written_within zero (w ∷ ws) [] lt h = absurd h
written_within zero (w ∷ ws) (n ∷ cs) lt h = h.0
written_within (suc i) [] cs lt h = absurd (omega arith)
written_within (suc i) (w ∷ ws) [] lt h = absurd h
written_within (suc i) (w ∷ ws) (n ∷ cs) lt h = written_within i ws cs (omega arith) h.1

-- all packets of all pairs are written
pub written_all : (i : ℕ) (ws cs : List ℕ) → length ws ≤ i → WrittenBefore i ws cs → ws ≡ cs
written_all zero [] [] le h = refl
written_all zero [] (n ∷ cs) le h = absurd h
written_all zero (w ∷ ws) cs le h = absurd (omega arith)
written_all (suc i) [] [] le h = refl
written_all (suc i) [] (n ∷ cs) le h = absurd h
written_all (suc i) (w ∷ ws) [] le h = absurd h
written_all (suc i) (w ∷ ws) (n ∷ cs) le h = ap (λ v. v ∷ ws) h.0 ∙ ap (λ vs. n ∷ vs) (written_all i ws cs (omega arith) h.1)

-- the count of a pair
pub count_at : (xs : List SiteOf) (i : ℕ) → get_or (packet_counts xs) i 0 ≡ length (packets_at (slice_get xs i))
count_at [] zero = refl
count_at [] (suc i) = refl
count_at (x ∷ xs) zero = refl
count_at (x ∷ xs) (suc i) = count_at xs i
