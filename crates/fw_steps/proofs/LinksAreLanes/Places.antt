-- From the link of each device to the list of all links.
use Rattle.std.proofs.Common.{◌≡◌, ◌≢◌, ◌∙◌, ℕ, zero, suc, List, [], ◌∷◌, map, slice_get, slice_set, Option, Some, None, inl, inr, refl, sym, ap, subst}
use Rattle.std.specs.Option.{option_map}
use Rattle.std.proofs.lemmas.Bool.Decides.{eqb_tells}
use Rattle.std.proofs.lemmas.Option.{slice_get-map}
use Rattle.fw_steps.specs.Opening.{AreDifferent}
use Rattle.fw_steps.specs.Links.{LinkOf}
use Rattle.fw_steps.specs.Worlds.{WorldOf}
use Rattle.fw_steps.proofs.LinksAreLanes.Comings.{fact_at}
use Rattle.fw_steps.proofs.LinksAreLanes.Keys.{eids_of, peers_of}
use Rattle.fw_steps.proofs.LinksAreLanes.Listed.{every, link_by_place, link_in_place, links_of, no_link, same_places}
use Rattle.fw_steps.proofs.LinksAreLanes.Posting.{site_eid}
use Rattle.fw_steps.proofs.LinksAreLanes.Projection.{link_at, link_from}

-- a list with another element at one place
set_there : {A : Type 0} (xs : List A) (i : ℕ) (x y : A) → slice_get xs i ≡ Some x → slice_get (slice_set xs i y) i ≡ Some y
set_there [] i x y e = absurd (cc)
set_there (z ∷ zs) zero x y e = refl
set_there (z ∷ zs) (suc i) x y e = set_there zs i x y e

set_elsewhere : {A : Type 0} (xs : List A) (i j : ℕ) (y : A) → j ≢ i → slice_get (slice_set xs i y) j ≡ slice_get xs j
set_elsewhere [] i j y differ = refl
set_elsewhere (z ∷ zs) zero zero y differ = absurd (differ refl)
set_elsewhere (z ∷ zs) zero (suc j) y differ = refl
set_elsewhere (z ∷ zs) (suc i) zero y differ = refl
set_elsewhere (z ∷ zs) (suc i) (suc j) y differ = set_elsewhere zs i j y (λ e. differ (ap suc e))

-- a key is at one place
pub one_key : (ks : List ℕ) (i j k : ℕ) → AreDifferent ks → slice_get ks i ≡ Some k → slice_get ks j ≡ Some k → i ≡ j
one_key [] i j k apart e f = absurd (cc)
one_key (x ∷ xs) zero zero k apart e f = refl
one_key (x ∷ xs) zero (suc j) k apart e f =
    let is : x ≡ k = cc in absurd (fact_at (λ y. x ≢ y) xs j k (every (λ y. x ≢ y) xs apart.0) f is)
one_key (x ∷ xs) (suc i) zero k apart e f =
    let is : x ≡ k = cc in absurd (fact_at (λ y. x ≢ y) xs i k (every (λ y. x ≢ y) xs apart.0) e is)
one_key (x ∷ xs) (suc i) (suc j) k apart e f = ap suc (one_key xs i j k apart.1 e f)

none_mapped : {A B : Type 0} (f : A → B) (xs : List A) (i : ℕ) → slice_get (map f xs) i ≡ None → slice_get xs i ≡ None
none_mapped f [] i e = refl
none_mapped f (x ∷ xs) zero e = absurd (cc)
none_mapped f (x ∷ xs) (suc i) e = none_mapped f xs i e

-- if no device is at a place there is no link
pub past_links : (w : WorldOf) (i : ℕ) → slice_get (eids_of w) i ≡ None → slice_get (links_of w) i ≡ None
past_links w i e =
    link_in_place _ w.agent.halves w.sites i ∙ ap (link_from w.since_miss (slice_get w.agent.halves i)) (none_mapped site_eid w.sites i e) ∙ sym (no_link _ (slice_get w.agent.halves i))

-- A world with the devices of another world, which are all different.
pub record SameDevices (w v : WorldOf) : Type 0 where
  pub halves : peers_of w ≡ eids_of w
  pub apart : AreDifferent (eids_of w)
  pub peers : peers_of v ≡ peers_of w
  pub eids : eids_of v ≡ eids_of w

before_at : (w v : WorldOf) (i eid : ℕ) → SameDevices w v → slice_get (eids_of w) i ≡ Some eid → slice_get (links_of w) i ≡ link_at w eid
before_at w v i eid d e = link_by_place w i eid d.halves d.apart e

after_at : (w v : WorldOf) (i eid : ℕ) → SameDevices w v → slice_get (eids_of w) i ≡ Some eid → slice_get (links_of v) i ≡ link_at v eid
after_at w v i eid d e =
    link_by_place v i eid (d.peers ∙ d.halves ∙ sym d.eids) (subst AreDifferent (sym d.eids) d.apart) (ap (λ ks. slice_get ks i) d.eids ∙ e)

past_after : (w v : WorldOf) (i : ℕ) → SameDevices w v → slice_get (eids_of w) i ≡ None → slice_get (links_of v) i ≡ None
past_after w v i d e = past_links v i (ap (λ ks. slice_get ks i) d.eids ∙ e)

-- all links
all_by : (w v : WorldOf) (f : LinkOf → LinkOf) (i : ℕ) (o : Option ℕ) → SameDevices w v → slice_get (eids_of w) i ≡ o
    → ((eid : ℕ) → link_at v eid ≡ option_map f (link_at w eid)) → slice_get (links_of v) i ≡ slice_get (map f (links_of w)) i
all_by w v f i None d e k = past_after w v i d e ∙ sym (slice_get-map f (links_of w) i ∙ ap (option_map f) (past_links w i e))
all_by w v f i (Some eid) d e k =
    after_at w v i eid d e ∙ k eid ∙ ap (option_map f) (sym (before_at w v i eid d e)) ∙ sym (slice_get-map f (links_of w) i)

-- If a function gives the link of each device, it gives each link of the list.
pub all_links_become : (w v : WorldOf) (f : LinkOf → LinkOf) → SameDevices w v → ((eid : ℕ) → link_at v eid ≡ option_map f (link_at w eid)) → links_of v ≡ map f (links_of w)
all_links_become w v f d k = same_places (links_of v) (map f (links_of w)) (λ i. all_by w v f i (slice_get (eids_of w) i) d refl k)

-- one link
one_by : (w v : WorldOf) (place own i : ℕ) (l m : LinkOf) (o : Option ℕ) → SameDevices w v → slice_get (eids_of w) place ≡ Some own → slice_get (eids_of w) i ≡ o
    → link_at w own ≡ Some l → link_at v own ≡ Some m → ((eid : ℕ) → eid ≢ own → link_at v eid ≡ link_at w eid)
    → slice_get (links_of v) i ≡ slice_get (slice_set (links_of w) place m) i
one_by w v place own i l m None d there e was is others =
    past_after w v i d e
    ∙ sym (set_elsewhere (links_of w) place i m (λ z. absurd (let no : None ≡ Some own = sym e ∙ ap (slice_get (eids_of w)) z ∙ there in cc)) ∙ past_links w i e)
one_by w v place own i l m (Some eid) d there e was is others = elim (eqb_tells i place) [
  | inl same ↦
      let mine : eid ≡ own = (let both : Some eid ≡ Some own = sym e ∙ ap (slice_get (eids_of w)) same.1 ∙ there in cc) in
      after_at w v i eid d e ∙ ap (link_at v) mine ∙ is
      ∙ sym (ap (slice_get (slice_set (links_of w) place m)) same.1 ∙ set_there (links_of w) place l m (before_at w v place own d there ∙ was))
  | inr other ↦
      let differ : eid ≢ own = λ z. other.1 (one_key (eids_of w) i place own d.apart (e ∙ ap Some z) there) in
      after_at w v i eid d e ∙ others eid differ ∙ sym (before_at w v i eid d e) ∙ sym (set_elsewhere (links_of w) place i m other.1)
]

-- If the link of one device changes, and those of the others stay, then that link of the list
-- changes.
pub one_link_becomes : (w v : WorldOf) (place own : ℕ) (l m : LinkOf) → SameDevices w v → slice_get (eids_of w) place ≡ Some own
    → link_at w own ≡ Some l → link_at v own ≡ Some m → ((eid : ℕ) → eid ≢ own → link_at v eid ≡ link_at w eid)
    → links_of v ≡ slice_set (links_of w) place m
one_link_becomes w v place own l m d there was is others =
    same_places (links_of v) (slice_set (links_of w) place m) (λ i. one_by w v place own i l m (slice_get (eids_of w) i) d there refl was is others)
