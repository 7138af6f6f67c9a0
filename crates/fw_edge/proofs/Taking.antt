-- Packets that links take, one after the other.
use Rattle.std.proofs.Common.{◌≡◌, ◌≤◌, ◌<◌, ◌+◌, ◌++◌, ◌∙◌, ℕ, zero, suc, List, [], ◌∷◌, drop, get_or, length, map, slice_get, slice_set, take, Option, Some, None, refl, sym, ap, subst, arith}
use Rattle.std.specs.Prelude.{option_map}
use Rattle.std.proofs.lemmas.List.{drop_all, map-set, take_all}
use Rattle.exch_lane.specs.Lanes.{Sent}
use Rattle.fw_node.specs.Nodes.{DeviceNodeOf}
use Rattle.fw_steps.specs.Worlds.{SiteOf}
use Rattle.fw_edge.specs.Frames.{frames_of}
use Rattle.fw_edge.specs.Links.{LinkBytes, GrowsAt, end_of}
use Rattle.fw_edge.specs.Outgoing.{LinkTakesAll, LinkTakesPair, LinksTakePairs}
use Rattle.fw_edge.proofs.Rising.{map_length, maps_get}

-- one more
took_append : (device : ℕ) (old mid new : LinkBytes) (ps : List (List ℕ)) (p : List ℕ) → LinkTakesAll device old ps mid → GrowsAt (end_of p device) (frames_of (p ∷ [])) mid new
    → LinkTakesAll device old (ps ++ p ∷ []) new
took_append device old mid new [] p h g = (new, subst (λ o. GrowsAt (end_of p device) (frames_of (p ∷ [])) o new) h g, refl)
took_append device old mid new (q ∷ ps) p h g = (h.0, h.1, took_append device h.0 mid new ps p h.2 g)

abbrev pub bytes_in : Sent → List ℕ
bytes_in p = p.bytes

one_longer : (ps : List Sent) (i : ℕ) (p : List ℕ) → option_map bytes_in (slice_get ps i) ≡ Some p → map bytes_in (take (i + 1) ps) ≡ map bytes_in (take i ps) ++ p ∷ []
one_longer ps i p is = let next : i + 1 ≡ suc i = omega arith in rw next (longer ps i is)
  where
    longer : (qs : List Sent) (n : ℕ) → option_map bytes_in (slice_get qs n) ≡ Some p → map bytes_in (take (suc n) qs) ≡ map bytes_in (take n qs) ++ p ∷ []
    longer [] n e = absurd (cc)
    longer (q ∷ qs) zero e = let same : q.bytes ≡ p = cc in ap (λ b. b ∷ []) same
    longer (q ∷ qs) (suc n) e = ap (λ bs. q.bytes ∷ bs) (longer qs n e)

pub took_more : (device : ℕ) (old mid new : LinkBytes) (ps : List Sent) (i : ℕ) (p : List ℕ) (side : _) → option_map bytes_in (slice_get ps i) ≡ Some p → side ≡ end_of p device
    → LinkTakesAll device old (map bytes_in (take i ps)) mid → GrowsAt side (frames_of (p ∷ [])) mid new → LinkTakesAll device old (map bytes_in (take (i + 1) ps)) new
took_more device old mid new ps i p side is at h g =
    subst (λ xs. LinkTakesAll device old xs new) (sym (one_longer ps i p is))
    (took_append device old mid new (map bytes_in (take i ps)) p h (subst (λ s. GrowsAt s (frames_of (p ∷ [])) mid new) at g))

-- all
pub took_all : (device : ℕ) (old new : LinkBytes) (ps : List Sent) (i : ℕ) → length ps ≤ i → LinkTakesAll device old (map bytes_in (take i ps)) new → LinkTakesAll device old (map bytes_in ps) new
took_all device old new ps i le h = subst (λ xs. LinkTakesAll device old (map bytes_in xs) new) (take_all i ps le) h

-- the packets of a pair that aren't written
pub took_there : (x : Option SiteOf) (node : DeviceNodeOf) (ps : List Sent) (device written : ℕ) (old new : LinkBytes) → option_map (λ y. y.node) x ≡ Some node → option_map (λ y. y.packets) x ≡ Some ps
    → device ≡ node.endpoint.eid → LinkTakesAll device old (map bytes_in (drop written ps)) new → LinkTakesPair x written old new
took_there None node ps device written old new is has eid h = absurd (cc)
took_there (Some x) node ps device written old new is has eid h =
    let same : x.node ≡ node = cc in
    let packets : x.packets ≡ ps = cc in
    subst (λ d. LinkTakesAll d old (map bytes_in (drop written x.packets)) new) (eid ∙ sym (ap (λ n. n.endpoint.eid) same))
    (subst (λ qs. LinkTakesAll device old (map bytes_in (drop written qs)) new) (sym packets) h)

-- all packets are written
pub took_written : (x : Option SiteOf) (ps : List Sent) (written : ℕ) (ends : LinkBytes) → option_map (λ y. y.packets) x ≡ Some ps → length ps ≤ written → LinkTakesPair x written ends ends
took_written None ps written ends has all = refl
took_written (Some x) ps written ends has all =
    let packets : x.packets ≡ ps = cc in
    subst (λ qs. LinkTakesAll x.node.endpoint.eid ends (map bytes_in qs) ends) (sym (ap (drop written) packets ∙ drop_all written ps all)) refl

-- The first links took the unwritten packets, and the links after them, and their counts, are
-- unchanged.
abbrev pub TookBefore : ℕ → List SiteOf → (ws vs : List ℕ) → List LinkBytes → List LinkBytes → Type 0
TookBefore zero xs ws vs olds news = (vs ≡ ws) × (news ≡ olds)
TookBefore (suc n) (x ∷ xs) (w ∷ ws) (v ∷ vs) (old ∷ olds) (new ∷ news) = LinkTakesPair (Some x) w old new × TookBefore n xs ws vs olds news
TookBefore (suc n) xs ws vs olds news = ⊥

took_put : (i : ℕ) (xs : List SiteOf) (ws vs : List ℕ) (olds news : List LinkBytes) (c : ℕ) (d new : LinkBytes) → i < length xs → i < length vs → i < length news → TookBefore i xs ws vs olds news
    → LinkTakesPair (slice_get xs i) (get_or vs i 0) (get_or news i d) new → TookBefore (suc i) xs ws (slice_set vs i c) olds (slice_set news i new)
took_put zero [] ws vs olds news c d new lx lv ln h g = absurd (omega arith)
took_put zero (x ∷ xs) ws [] olds news c d new lx lv ln h g = absurd (omega arith)
took_put zero (x ∷ xs) ws (v ∷ vs) olds [] c d new lx lv ln h g = absurd (omega arith)
took_put zero (x ∷ xs) [] (v ∷ vs) olds (n ∷ news) c d new lx lv ln h g = absurd (let same : v ∷ vs ≡ [] = h.0 in cc)
took_put zero (x ∷ xs) (w ∷ ws) (v ∷ vs) [] (n ∷ news) c d new lx lv ln h g = absurd (let same : n ∷ news ≡ [] = h.1 in cc)
took_put zero (x ∷ xs) (w ∷ ws) (v ∷ vs) (o ∷ olds) (n ∷ news) c d new lx lv ln h g =
    let counts : v ∷ vs ≡ w ∷ ws = h.0 in
    let ends : n ∷ news ≡ o ∷ olds = h.1 in
    let first : v ≡ w = cc in
    let rest : vs ≡ ws = cc in
    let here : n ≡ o = cc in
    let others : news ≡ olds = cc in
    (subst (λ m. LinkTakesPair (Some x) m o new) first (subst (λ e. LinkTakesPair (Some x) v e new) here g), (rest, others))
took_put (suc i) [] ws vs olds news c d new lx lv ln h g = absurd (omega arith)
took_put (suc i) (x ∷ xs) ws [] olds news c d new lx lv ln h g = absurd (omega arith)
took_put (suc i) (x ∷ xs) ws (v ∷ vs) olds [] c d new lx lv ln h g = absurd (omega arith)
took_put (suc i) (x ∷ xs) [] (v ∷ vs) olds (n ∷ news) c d new lx lv ln h g = absurd h
took_put (suc i) (x ∷ xs) (w ∷ ws) (v ∷ vs) [] (n ∷ news) c d new lx lv ln h g = absurd h
took_put (suc i) (x ∷ xs) (w ∷ ws) (v ∷ vs) (o ∷ olds) (n ∷ news) c d new lx lv ln h g =
    (h.0, took_put i xs ws vs olds news c d new (omega arith) (omega arith) (omega arith) h.1 g)

pub took_next : {A : Type 0} (f : A → LinkBytes) (i : ℕ) (xs : List SiteOf) (ws vs : List ℕ) (olds : List LinkBytes) (links : List A) (c : ℕ) (was new : A) → i < length xs → i < length vs → i < length links
    → TookBefore i xs ws vs olds (map f links) → LinkTakesPair (slice_get xs i) (get_or vs i 0) (f (get_or links i was)) (f new)
    → TookBefore (i + 1) xs ws (slice_set vs i c) olds (map f (slice_set links i new))
took_next f i xs ws vs olds links c was new lx lv ln h g =
    let next : suc i ≡ i + 1 = omega arith in
    let long : length (map f links) ≡ length links = map_length f links in
    subst (λ n. TookBefore n xs ws (slice_set vs i c) olds (map f (slice_set links i new))) next
    (subst (TookBefore (suc i) xs ws (slice_set vs i c) olds) (sym (map-set f links i new))
    (took_put i xs ws vs olds (map f links) c (f was) (f new) lx lv (omega arith) h (subst (λ o. LinkTakesPair (slice_get xs i) (get_or vs i 0) o (f new)) (sym (maps_get f links i was ln)) g)))

took_by : (n : ℕ) (xs : List SiteOf) (ws vs : List ℕ) (olds news : List LinkBytes) → TookBefore n xs ws vs olds news → LinksTakePairs n xs ws olds news
took_by zero xs ws vs olds news h = h.1
took_by (suc n) [] ws vs olds news h = absurd h
took_by (suc n) (x ∷ xs) [] vs olds news h = absurd h
took_by (suc n) (x ∷ xs) (w ∷ ws) [] olds news h = absurd h
took_by (suc n) (x ∷ xs) (w ∷ ws) (v ∷ vs) [] news h = absurd h
took_by (suc n) (x ∷ xs) (w ∷ ws) (v ∷ vs) (o ∷ olds) [] h = absurd h
took_by (suc n) (x ∷ xs) (w ∷ ws) (v ∷ vs) (o ∷ olds) (m ∷ news) h = (h.0, took_by n xs ws vs olds news h.1)

pub took_each : (n m : ℕ) (xs : List SiteOf) (ws vs : List ℕ) (olds news : List LinkBytes) → n ≡ m → TookBefore n xs ws vs olds news → LinksTakePairs m xs ws olds news
took_each n m xs ws vs olds news e h = subst (λ k. LinksTakePairs k xs ws olds news) e (took_by n xs ws vs olds news h)
