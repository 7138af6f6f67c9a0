-- Steps of a turn, one after the other.
use Rattle.std.proofs.Common.{◌≡◌, ◌≤◌, ◌<◌, ◌+◌, ◌++◌, ◌∙◌, ℕ, zero, suc, Bool, false, List, [], ◌∷◌, Some, None, get_or, length, map, slice_get, slice_set, take, refl, sym, ap, subst, arith}
use Rattle.fw_message.specs.declared.side.Side.{Side}
use Rattle.fw_steps.specs.Worlds.{WorldOf, eids_of}
use Rattle.fw_steps.specs.declared.step.Step.{Step}
use Rattle.std.proofs.lemmas.List.{map-append, map-set}
use Rattle.fw_edge.specs.Drives.{Drives, all_over, delivers_in}
use Rattle.fw_edge.specs.Frames.{frames_of}
use Rattle.fw_edge.specs.Links.{LinkBytes, GrowsAt, LinksOf, links_at}
use Rattle.fw_edge.specs.Turns.{Ask, ReadsAllEnds, ReadsEnds, DrivesTurns, LinkGives, LinksGive, HandsOver, HandlesFrames, RoundOf, RoundsOn, TakesTurn, Turns, both_ends, eid_in, frames_in, round_ends}
use Rattle.fw_edge.proofs.Failing.{same_from}
use Rattle.fw_edge.proofs.Naming.{drives_eids, eid_there}
use Rattle.fw_edge.proofs.Rising.{map_length, maps_get}

-- an end is asked
pub came_nothing : (w : WorldOf) (ss : List Step) (old new : LinkBytes) (device : ℕ) (side : Side) (count : ℕ) → GrowsAt side [] old new → count ≡ 0
    → ReadsEnds w ss old ((device, side) ∷ []) w ss new count
came_nothing w ss old new device side count g e = record {
  asks = record { device = device; side = side; frame = None } ∷ [];
  ends_are = refl;
  hears = (w, ss, (refl, refl), (refl, refl));
  gave = (new, g, refl);
  count_is = e ∙ refl;
}

pub came_frame : (w v : WorldOf) (before after : List Step) (old new : LinkBytes) (device : ℕ) (side : Side) (bytes : List ℕ) (count : ℕ) → HandsOver w before device side bytes v after
    → GrowsAt side (frames_of (bytes ∷ [])) old new → count ≡ 1 → ReadsEnds w before old ((device, side) ∷ []) v after new count
came_frame w v before after old new device side bytes count h g e = record {
  asks = record { device = device; side = side; frame = Some bytes } ∷ [];
  ends_are = refl;
  hears = (v, after, h, (refl, refl));
  gave = (new, g, refl);
  count_is = e ∙ refl;
}

-- one more end is asked
pub hears_append : (w u v : WorldOf) (before mid after : List Step) (xs ys : List Ask) → HandlesFrames w before xs u mid → HandlesFrames u mid ys v after → HandlesFrames w before (xs ++ ys) v after
hears_append w u v before mid after [] ys h k = subst (λ x. HandlesFrames x before ys v after) h.0 (subst (λ ss. HandlesFrames u ss ys v after) h.1 k)
hears_append w u v before mid after (a ∷ xs) ys h k = (h.0, h.1, h.2, hears_append h.0 u v h.1 mid after xs ys h.3 k)

frames_append : (xs ys : List Ask) → frames_in (xs ++ ys) ≡ frames_in xs + frames_in ys
frames_append [] ys = omega arith
frames_append (a ∷ xs) ys = let rest = frames_append xs ys in omega arith

gave_append : (old mid new : LinkBytes) (xs ys : List Ask) → LinkGives old xs mid → LinkGives mid ys new → LinkGives old (xs ++ ys) new
gave_append old mid new [] ys h k = subst (λ o. LinkGives o ys new) h k
gave_append old mid new (a ∷ xs) ys h k = (h.0, h.1, gave_append h.0 mid new xs ys h.2 k)

pub came_on : (w u v : WorldOf) (before steps after : List Step) (old mid new : LinkBytes) (es fs : List (ℕ × Side)) (n m count : ℕ) → ReadsEnds w before old es u steps mid n → ReadsEnds u steps mid fs v after new m
    → count ≡ n + m → ReadsEnds w before old (es ++ fs) v after new count
came_on w u v before steps after old mid new es fs n m count h k e = record {
  asks = h.asks ++ k.asks;
  ends_are = map-append (λ a. (a.device, a.side)) h.asks k.asks ∙ ap (λ xs. xs ++ map (λ a. (a.device, a.side)) k.asks) h.ends_are ∙ ap (λ xs. es ++ xs) k.ends_are;
  hears = hears_append w u v before steps after h.asks k.asks h.hears k.hears;
  gave = gave_append old mid new h.asks k.asks h.gave k.gave;
  count_is = let first = h.count_is in let second = k.count_is in let both = frames_append h.asks k.asks in omega arith;
}

-- no link is asked
pub came_none : (es : List ℕ) (w : WorldOf) (ss : List Step) (ls : LinksOf) (count : ℕ) → count ≡ 0 → ReadsAllEnds 0 es w ss ls w ss ls count
came_none es w ss ls count e = record { asks = []; ends_are = refl; hears = (refl, refl); gave = refl; took_none = refl; count_is = e }

-- one more link
round_next : (es : List ℕ) (i : ℕ) (e : ℕ) → slice_get es i ≡ Some e → round_ends (take i es) ++ both_ends e ≡ round_ends (take (suc i) es)
round_next [] i e there = absurd (cc)
round_next (x ∷ es) zero e there = let same : x ≡ e = cc in ap (λ n. both_ends n) (sym same)
round_next (x ∷ es) (suc i) e there = ap (λ xs. both_ends x ++ xs) (round_next es i e there)

gave_next : (i : ℕ) (olds news : List LinkBytes) (asks : List Ask) (first second : Ask) (d new : LinkBytes) → i < length news → LinksGive i olds asks news
    → LinkGives (get_or news i d) (first ∷ second ∷ []) new → LinksGive (suc i) olds (asks ++ first ∷ second ∷ []) (slice_set news i new)
gave_next zero [] news [] first second d new lt h g = absurd (let none : length news ≡ 0 = ap length h in omega arith)
gave_next zero (o ∷ olds) [] [] first second d new lt h g = absurd (omega arith)
gave_next zero (o ∷ olds) (n ∷ news) [] first second d new lt h g =
    let same : n ≡ o = cc in
    let rest : news ≡ olds = cc in
    (subst (λ x. LinkGives x (first ∷ second ∷ []) new) same g, rest)
gave_next zero olds news (a ∷ asks) first second d new lt h g = absurd h
gave_next (suc i) [] news asks first second d new lt h g = absurd h
gave_next (suc i) (o ∷ olds) news [] first second d new lt h g = absurd h
gave_next (suc i) (o ∷ olds) news (a ∷ []) first second d new lt h g = absurd h
gave_next (suc i) (o ∷ olds) [] (a ∷ b ∷ asks) first second d new lt h g = absurd h
gave_next (suc i) (o ∷ olds) (n ∷ news) (a ∷ b ∷ asks) first second d new lt h g =
    (h.0, gave_next i olds news asks first second d new (omega arith) h.1 g)

two_asks : (i : ℕ) (olds news : List LinkBytes) (asks more : List Ask) (device : ℕ) (d new : LinkBytes) → i < length news → map (λ a. (a.device, a.side)) more ≡ both_ends device
    → LinksGive i olds asks news → LinkGives (get_or news i d) more new → LinksGive (suc i) olds (asks ++ more) (slice_set news i new)
two_asks i olds news asks [] device d new lt are h g = absurd (cc)
two_asks i olds news asks (a ∷ []) device d new lt are h g = absurd (cc)
two_asks i olds news asks (a ∷ b ∷ []) device d new lt are h g = gave_next i olds news asks a b d new lt h g
two_asks i olds news asks (a ∷ b ∷ c ∷ more) device d new lt are h g = absurd (cc)

pub came_next : {A : Type 0} (t f : A → LinkBytes) (written : List ℕ) (links : List A) (was new : A) (old : LinksOf) (w u v : WorldOf) (before mid after : List Step) (i n m count : ℕ) (device : ℕ)
    → Drives w before u mid → i < length w.sites → i < length links → device ≡ eid_in (slice_get u.sites i) → ReadsAllEnds i (eids_of w.sites) w before old u mid (links_at written (map t links) (map f links)) n
    → ReadsEnds u mid (f (get_or links i was)) (both_ends device) v after (f new) m → t new ≡ t (get_or links i was) → count ≡ n + m
    → ReadsAllEnds (i + 1) (eids_of w.sites) w before old v after (links_at written (map t (slice_set links i new)) (map f (slice_set links i new))) count
came_next t f written links was new old w u v before mid after i n m count device d lt within is h k took e =
    let next : suc i ≡ i + 1 = omega arith in
    subst (λ j. ReadsAllEnds j (eids_of w.sites) w before old v after (links_at written (map t (slice_set links i new)) (map f (slice_set links i new))) count) next (record {
      asks = h.asks ++ k.asks;
      ends_are =
          map-append (λ a. (a.device, a.side)) h.asks k.asks ∙ ap (λ xs. xs ++ map (λ a. (a.device, a.side)) k.asks) h.ends_are
          ∙ ap (λ xs. round_ends (take i (eids_of w.sites)) ++ xs) k.ends_are ∙ round_next (eids_of w.sites) i device there;
      hears = hears_append w u v before mid after h.asks k.asks h.hears k.hears;
      gave =
          subst (LinksGive (suc i) old.gave (h.asks ++ k.asks)) (sym (map-set f links i new))
          (two_asks i old.gave (map f links) h.asks k.asks device (f was) (f new) (let same : length (map f links) ≡ length links = map_length f links in omega arith) k.ends_are h.gave
          (subst (λ o. LinkGives o k.asks (f new)) (sym (maps_get f links i was within)) k.gave));
      took_none = same_from t old.took links i was new h.took_none took;
      count_is = let first = h.count_is in let second = k.count_is in let both = frames_append h.asks k.asks in omega arith;
    })
  where
    same : eids_of u.sites ≡ eids_of w.sites
    same = drives_eids w before u mid d

    long : length u.sites ≡ length w.sites
    long = sym (map_length (λ x. x.node.endpoint.eid) u.sites) ∙ ap length same ∙ map_length (λ x. x.node.endpoint.eid) w.sites

    there : slice_get (eids_of w.sites) i ≡ Some device
    there = ap (λ es. slice_get es i) (sym same) ∙ eid_there u.sites i (let l = long in omega arith) ∙ ap Some (sym is)

pub came_all : (w v : WorldOf) (before after : List Step) (old new : LinksOf) (i count : ℕ) → i ≡ length w.sites → ReadsAllEnds i (eids_of w.sites) w before old v after new count
    → ReadsAllEnds (length (eids_of w.sites)) (eids_of w.sites) w before old v after new count
came_all w v before after old new i count is h =
    subst (λ n. ReadsAllEnds n (eids_of w.sites) w before old v after new count) (is ∙ sym (map_length (λ x. x.node.endpoint.eid) w.sites)) h

-- whatever was written before
pub came_with : (devices : ℕ) (es : List ℕ) (w v : WorldOf) (before after : List Step) (ws written : List ℕ) (took gave new_took new_gave : List LinkBytes) (count : ℕ)
    → ReadsAllEnds devices es w before (links_at ws took gave) v after (links_at ws new_took new_gave) count → ReadsAllEnds devices es w before (links_at written took gave) v after (links_at written new_took new_gave) count
came_with devices es w v before after ws written took gave new_took new_gave count h =
    record { asks = h.asks; ends_are = h.ends_are; hears = h.hears; gave = h.gave; took_none = h.took_none; count_is = h.count_is }

-- one more round
pub rounds_next : (es : List ℕ) (n : ℕ) (w u v : WorldOf) (before mid after : List Step) (old links new : LinksOf) (read more count : ℕ) → RoundsOn es n w before old u mid links read
    → RoundOf es u mid links v after new more → 1 ≤ more → count ≡ read + more → count < 1024 → RoundsOn es (n + 1) w before old v after new count
rounds_next es n w u v before mid after old links new read more count h k some all few =
    let next : suc n ≡ n + 1 = omega arith in
    subst (λ m. RoundsOn es m w before old v after new count) next (u, mid, links, read, more, h, k, some, all, few)

-- at least as many frames as rounds
pub rounds_read : (es : List ℕ) (n : ℕ) (w v : WorldOf) (before after : List Step) (old new : LinksOf) (count : ℕ) → RoundsOn es n w before old v after new count → n ≤ count
rounds_read es zero w v before after old new count h = omega arith
rounds_read es (suc n) w v before after old new count h =
    let earlier : n ≤ h.3 = rounds_read es n w h.0 before h.1 old h.2 h.3 h.5 in
    let some : 1 ≤ h.4 = h.7 in
    let all : count ≡ h.3 + h.4 = h.8 in
    omega arith

-- the devices of a round are those of the first world
pub same_round : (w u v : WorldOf) (before mid after : List Step) (old new : LinksOf) (count : ℕ) → Drives w before u mid → RoundOf (eids_of u.sites) u mid old v after new count
    → RoundOf (eids_of w.sites) u mid old v after new count
same_round w u v before mid after old new count d h = subst (λ es. RoundOf es u mid old v after new count) (drives_eids w before u mid d) h

-- one more turn
pub drove_none : (w : WorldOf) (ss : List Step) (ls : LinksOf) → DrivesTurns 0 w ss ls w ss ls 0
drove_none w ss ls = record { count = 0; turned = (refl, refl, refl, refl); frames = refl }

pub drove_next : (n : ℕ) (w u v : WorldOf) (before mid after : List Step) (old links new : LinksOf) (foreign known more all : ℕ) (b : Bool) → DrivesTurns n w before old u mid links foreign
    → b ≡ all_over u → b ≡ false → TakesTurn u mid links v after new (known + more) → delivers_in after ≡ delivers_in mid + known → all ≡ foreign + more
    → DrivesTurns (n + 1) w before old v after new all
drove_next n w u v before mid after old links new foreign known more all b h told on t rise sum = record {
  count = h.count + (known + more);
  turned =
      let next : suc n ≡ n + 1 = omega arith in
      subst (λ m. Turns m w before old v after new (h.count + (known + more))) next (u, mid, links, h.count, known + more, h.turned, sym told ∙ on, t, refl);
  frames = let earlier = h.frames in omega arith;
}

pub drove_all : (n m : ℕ) (w v : WorldOf) (before after : List Step) (old new : LinksOf) (foreign : ℕ) → n ≡ m → DrivesTurns n w before old v after new foreign → DrivesTurns m w before old v after new foreign
drove_all n m w v before after old new foreign e h = subst (λ k. DrivesTurns k w before old v after new foreign) e h
