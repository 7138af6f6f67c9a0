-- The site at a place, and room there.
use Rattle.std.proofs.Common.{◌≡◌, ◌≤◌, ◌<◌, ◌+◌, ◌∙◌, ℕ, zero, suc, List, [], ◌∷◌, ◌++◌, drop, get_or, length, slice_get, slice_set, Some, None, inl, inr, sym, ap, subst, arith}
use Rattle.std.proofs.lemmas.List.{drop-set-lt, map-set}
use Rattle.fw_steps.specs.Sites.{HaveRoom, HasFullSite, SiteWithRoom, sites_of}
use Rattle.fw_steps.specs.Worlds.{SiteOf, place_for, place_of, post, post_at, site_at, site_for, site_restarts}
use Rattle.exch_lane.specs.Steps.{sent_at}
use Rattle.fw_node.specs.Nodes.{device_restarts}

pub found_at : (ss : List SiteWithRoom) (i : ℕ) (x : SiteWithRoom) → i < length ss → x ≡ get_or ss i x → slice_get (sites_of ss) i ≡ Some x.site
found_at [] i x lt is = absurd (omega arith)
found_at (s ∷ ss) zero x lt is = ap (λ y. Some y.site) (sym is)
found_at (s ∷ ss) (suc i) x lt is = found_at ss i x (omega arith) is

pub at_place : (ss : List SiteWithRoom) (eid i : ℕ) (x : SiteWithRoom) → place_of (sites_of ss) eid ≡ Some i → i < length ss → x ≡ get_or ss i x → site_for (sites_of ss) eid ≡ Some x.site
at_place ss eid i x place lt is = ap (site_at (sites_of ss)) place ∙ found_at ss i x lt is

-- with less room than there is
pub less_room : (n m : ℕ) (ss : List SiteWithRoom) → n ≤ m → HaveRoom m ss → HaveRoom n ss
less_room n m [] le h = tt
less_room n m (s ∷ ss) le h = (omega (arith, le, h.0), less_room n m ss le h.1)

pub room_at : (n : ℕ) (ss : List SiteWithRoom) (i : ℕ) (x : SiteWithRoom) → i < length ss → x ≡ get_or ss i x → HaveRoom n ss → n ≤ x.room
room_at n [] i x lt is h = absurd (omega arith)
room_at n (s ∷ ss) zero x lt is h = subst (λ y. n ≤ y.room) (sym is) h.0
room_at n (s ∷ ss) (suc i) x lt is h = room_at n ss i x (omega arith) is h.1

pub room_put : (n : ℕ) (ss : List SiteWithRoom) (i : ℕ) (x : SiteWithRoom) → n ≤ x.room → HaveRoom n ss → HaveRoom n (slice_set ss i x)
room_put n [] i x new h = tt
room_put n (s ∷ ss) zero x new h = (new, h.1)
room_put n (s ∷ ss) (suc i) x new h = (h.0, room_put n ss i x new h.1)

pub room_more : (n : ℕ) (ss : List SiteWithRoom) (x : SiteWithRoom) → HaveRoom n ss → n ≤ x.room → HaveRoom n (ss ++ x ∷ [])
room_more n [] x h new = (new, tt)
room_more n (s ∷ ss) x h new = (h.0, room_more n ss x h.1 new)

pub post_there : (now : ℕ) (ss : List SiteWithRoom) (packet : List ℕ) (i : ℕ) (x y : SiteWithRoom) → place_for (sites_of ss) packet ≡ Some i → i < length ss → x ≡ get_or ss i x
    → y.site ≡ record x.site { packets = x.site.packets ++ sent_at now packet ∷ [] } → sites_of (slice_set ss i y) ≡ post now (sites_of ss) packet
post_there now ss packet i x y place lt is e =
    map-set (λ s. s.site) ss i y ∙ ap (slice_set (sites_of ss) i) e
    ∙ sym (ap (λ p. post_at now (sites_of ss) packet p (site_at (sites_of ss) p)) place ∙ ap (post_at now (sites_of ss) packet (Some i)) (found_at ss i x lt is))

pub post_nowhere : (now : ℕ) (ss : List SiteOf) (packet : List ℕ) → place_for ss packet ≡ None → post now ss packet ≡ ss
post_nowhere now ss packet place = ap (λ p. post_at now ss packet p (site_at ss p)) place

pub room_less : (n : ℕ) (ss : List SiteWithRoom) (i : ℕ) (x y : SiteWithRoom) → i < length ss → x ≡ get_or ss i x → x.room ≤ y.room + 1 → HaveRoom (n + 1) ss → HaveRoom n (slice_set ss i y)
room_less n ss i x y lt is left h =
    room_put n ss i y (omega (arith, left, room_at (n + 1) ss i x lt is h)) (less_room n (n + 1) ss (omega arith) h)

-- one that differs only in its room
pub same_put : (ss : List SiteWithRoom) (i : ℕ) (x y : SiteWithRoom) → i < length ss → x ≡ get_or ss i x → y.site ≡ x.site → sites_of (slice_set ss i y) ≡ sites_of ss
same_put [] i x y lt is e = absurd (omega arith)
same_put (s ∷ ss) zero x y lt is e = ap (λ v. v ∷ sites_of ss) (e ∙ ap (λ z. z.site) is)
same_put (s ∷ ss) (suc i) x y lt is e = ap (λ vs. s.site ∷ vs) (same_put ss i x y (omega arith) is e)

-- one of the sites that are left lacks room
pub lacks_here : (n : ℕ) (ss : List SiteWithRoom) (i : ℕ) (x : SiteWithRoom) → i < length ss → x ≡ get_or ss i x → x.room < n → HasFullSite n (drop i ss)
lacks_here n [] i x lt is h = absurd (omega arith)
lacks_here n (s ∷ ss) zero x lt is h = inl (subst (λ y. y.room < n) is h)
lacks_here n (s ∷ ss) (suc i) x lt is h = lacks_here n ss i x (omega arith) is h

lacks_before : (n : ℕ) (ss : List SiteWithRoom) (i : ℕ) → HasFullSite n (drop (suc i) ss) → HasFullSite n (drop i ss)
lacks_before n [] i h = absurd h
lacks_before n (s ∷ ss) zero h = inr h
lacks_before n (s ∷ ss) (suc i) h = lacks_before n ss i h

pub lacks_later : (n : ℕ) (ss : List SiteWithRoom) (i : ℕ) (y : SiteWithRoom) → HasFullSite n (drop (i + 1) (slice_set ss i y)) → HasFullSite n (drop i ss)
lacks_later n ss i y h =
    let next : i + 1 ≡ suc i = omega arith in
    let same : drop (i + 1) (slice_set ss i y) ≡ drop (i + 1) ss = drop-set-lt (i + 1) ss i y (omega arith) in
    lacks_before n ss i (subst (λ k. HasFullSite n (drop k ss)) next (subst (HasFullSite n) same h))

-- room of the sites that are left
pub room_left : (n : ℕ) (ss : List SiteWithRoom) (i : ℕ) (x : SiteWithRoom) → i < length ss → x ≡ get_or ss i x → HaveRoom n (drop i ss) → n ≤ x.room
room_left n [] i x lt is h = absurd (omega arith)
room_left n (s ∷ ss) zero x lt is h = subst (λ y. n ≤ y.room) (sym is) h.0
room_left n (s ∷ ss) (suc i) x lt is h = room_left n ss i x (omega arith) is h

room_rest : (n : ℕ) (ss : List SiteWithRoom) (i : ℕ) → HaveRoom n (drop i ss) → HaveRoom n (drop (suc i) ss)
room_rest n [] zero h = tt
room_rest n [] (suc i) h = tt
room_rest n (s ∷ ss) zero h = h.1
room_rest n (s ∷ ss) (suc i) h = room_rest n ss i h

pub room_later : (n : ℕ) (ss : List SiteWithRoom) (i : ℕ) (y : SiteWithRoom) → HaveRoom n (drop i ss) → HaveRoom n (drop (i + 1) (slice_set ss i y))
room_later n ss i y h =
    let next : suc i ≡ i + 1 = omega arith in
    subst (HaveRoom n) (sym (drop-set-lt (i + 1) ss i y (omega arith))) (subst (λ k. HaveRoom n (drop k ss)) next (room_rest n ss i h))

pub room_none : (n : ℕ) (ss : List SiteWithRoom) → HaveRoom (n + 0) ss → HaveRoom n ss
room_none n ss h = less_room n (n + 0) ss (omega arith) h

-- the first packet, and the others
pub popped : (xs : List (List ℕ)) (p : List ℕ) → Some p ≡ slice_get xs 0 → xs ≡ p ∷ drop 1 xs
popped [] p e = absurd (cc)
popped (x ∷ xs) p e = let same : p ≡ x = cc in ap (λ y. y ∷ xs) (sym same)

pub restart_there : (ss : List SiteWithRoom) (i : ℕ) (x y : SiteWithRoom) → i < length ss → x ≡ get_or ss i x → y.site ≡ record x.site { node = device_restarts x.site.node }
    → sites_of (slice_set ss i y) ≡ site_restarts (sites_of ss) (Some i) (slice_get (sites_of ss) i)
restart_there ss i x y lt is e =
    map-set (λ s. s.site) ss i y ∙ ap (slice_set (sites_of ss) i) e ∙ sym (ap (site_restarts (sites_of ss) (Some i)) (found_at ss i x lt is))
