-- The links of a world in the order of its devices.
use Rattle.std.proofs.Common.{◌≡◌, ◌≢◌, ◌∙◌, ℕ, zero, suc, List, [], ◌∷◌, map, slice_get, slice_set, Option, Some, None, IsSomeAnd, refl, sym, ap, subst, arith}
use Rattle.std.specs.List.{All, AllByRecursion}
use Rattle.std.proofs.lemmas.Bool.{eq-eqb, ne_eqb}
use Rattle.ua_core.specs.Session.{TimedOf}
use Rattle.fw_node.specs.Halves.{HalfOf}
use Rattle.fw_steps.specs.Opening.{AreDifferent}
use Rattle.fw_steps.specs.Links.{LinkOf}
use Rattle.fw_steps.specs.Worlds.{SiteOf, WorldOf}
use Rattle.fw_steps.proofs.LinksAreLanes.AgentTicks.{half_is_first, half_peer}
use Rattle.fw_steps.proofs.LinksAreLanes.Comings.{fact_at}
use Rattle.fw_steps.proofs.LinksAreLanes.Firsts.{at_place, first_of, put_at}
use Rattle.fw_steps.proofs.LinksAreLanes.Posting.{site_eid, site_is_first}
use Rattle.fw_steps.proofs.LinksAreLanes.Projection.{link_at, link_from}

-- a fact of each element, in both forms
pub every : {A : Type 0} (P : A → Type 0) (xs : List A) → All P xs → AllByRecursion P xs
every P [] h = tt
every P (x ∷ xs) h = (h zero x (omega arith), every P xs (λ k d lt. h (suc k) d (omega (arith, lt))))

pub map_get : {A B : Type 0} (f : A → B) (xs : List A) (i : ℕ) (x : A) → slice_get xs i ≡ Some x → slice_get (map f xs) i ≡ Some (f x)
map_get f [] i x e = absurd (cc)
map_get f (y ∷ ys) zero x e = let is : y ≡ x = cc in ap (λ z. Some (f z)) is
map_get f (y ∷ ys) (suc i) x e = map_get f ys i x e

pub get_map : {A B : Type 0} (f : A → B) (xs : List A) (i : ℕ) (y : B) → slice_get (map f xs) i ≡ Some y → IsSomeAnd (slice_get xs i) (λ x. f x ≡ y)
get_map f [] i y e = absurd (cc)
get_map f (x ∷ xs) zero y e = let is : f x ≡ y = cc in is
get_map f (x ∷ xs) (suc i) y e = get_map f xs i y e

-- if no key is there twice, the element at a place is the first of its key
first_in_place : {A : Type 0} (key : A → ℕ) (xs : List A) (i : ℕ) (x : A) → AreDifferent (map key xs) → slice_get xs i ≡ Some x → first_of key xs (key x) ≡ Some x
first_in_place key [] i x apart e = absurd (cc)
first_in_place key (y ∷ ys) zero x apart e = let is : y ≡ x = cc in rw (eq-eqb (key y) (key x) (ap key is)) (ap Some is)
first_in_place key (y ∷ ys) (suc i) x apart e =
    let far : key y ≢ key x = fact_at (λ k. key y ≢ k) (map key ys) i (key x) (every (λ k. key y ≢ k) (map key ys) apart.0) (map_get key ys i x e) in
    rw (ne_eqb (key y) (key x) far) (first_in_place key ys i x apart.1 e)

placed_by : {A : Type 0} (key : A → ℕ) (xs : List A) (i eid : ℕ) (o : Option A) → AreDifferent (map key xs) → slice_get xs i ≡ o → IsSomeAnd o (λ x. key x ≡ eid) → slice_get xs i ≡ first_of key xs eid
placed_by key xs i eid None apart e k = absurd k
placed_by key xs i eid (Some x) apart e k = e ∙ sym (first_in_place key xs i x apart e) ∙ ap (first_of key xs) k

pub first_by_place : {A : Type 0} (key : A → ℕ) (xs : List A) (i eid : ℕ) → AreDifferent (map key xs) → slice_get (map key xs) i ≡ Some eid → slice_get xs i ≡ first_of key xs eid
first_by_place key xs i eid apart e = placed_by key xs i eid (slice_get xs i) apart refl (get_map key xs i eid e)

-- the links
abbrev pub links_in : (since : ℕ) → List (HalfOf TimedOf) → List SiteOf → List LinkOf
links_in since [] xs = []
links_in since (h ∷ hs) [] = []
links_in since (h ∷ hs) (x ∷ xs) = record { agent = h; device = x.node.half; packets = x.packets; agent_since_miss = since; device_since_miss = x.since_miss } ∷ links_in since hs xs

abbrev pub links_of : WorldOf → List LinkOf
links_of w = links_in w.since_miss w.agent.halves w.sites

pub no_link : (since : ℕ) (o : Option (HalfOf TimedOf)) → None ≡ link_from since o None
no_link since None = refl
no_link since (Some h) = refl

pub link_in_place : (since : ℕ) (hs : List (HalfOf TimedOf)) (xs : List SiteOf) (i : ℕ) → slice_get (links_in since hs xs) i ≡ link_from since (slice_get hs i) (slice_get xs i)
link_in_place since [] xs i = refl
link_in_place since (h ∷ hs) [] i = no_link _ (slice_get (h ∷ hs) i)
link_in_place since (h ∷ hs) (x ∷ xs) zero = refl
link_in_place since (h ∷ hs) (x ∷ xs) (suc i) = link_in_place _ hs xs i

-- The link at a place is that of the device there.
pub link_by_place : (w : WorldOf) (i eid : ℕ) → map half_peer w.agent.halves ≡ map site_eid w.sites → AreDifferent (map site_eid w.sites)
    → slice_get (map site_eid w.sites) i ≡ Some eid → slice_get (links_of w) i ≡ link_at w eid
link_by_place w i eid same apart there =
    link_in_place _ w.agent.halves w.sites i
    ∙ ap (λ o. link_from w.since_miss o (slice_get w.sites i))
    (first_by_place half_peer w.agent.halves i eid (subst AreDifferent (sym same) apart) (ap (λ ks. slice_get ks i) same ∙ there) ∙ sym (half_is_first w.agent.halves eid))
    ∙ ap (link_from w.since_miss _) (first_by_place site_eid w.sites i eid apart there ∙ sym (site_is_first w.sites eid))

-- two lists with the same elements at each place
pub same_places : {A : Type 0} (xs ys : List A) → ((i : ℕ) → slice_get xs i ≡ slice_get ys i) → xs ≡ ys
same_places [] [] e = refl
same_places [] (y ∷ ys) e = absurd (let z = e 0 in cc)
same_places (x ∷ xs) [] e = absurd (let z = e 0 in cc)
same_places (x ∷ xs) (y ∷ ys) e =
    let first : Some x ≡ Some y = e 0 in
    let is : x ≡ y = cc in
    rw (is, same_places xs ys (λ i. e (suc i))) refl

-- STEPS THAT KEEP THE KEYS

pub set_keys : {A : Type 0} (key : A → ℕ) (xs : List A) (i : ℕ) (x y : A) → slice_get xs i ≡ Some x → key y ≡ key x → map key (slice_set xs i y) ≡ map key xs
set_keys key [] i x y e same = refl
set_keys key (z ∷ zs) zero x y e same = let is : z ≡ x = cc in ap (λ k. k ∷ map key zs) (same ∙ ap key (sym is))
set_keys key (z ∷ zs) (suc i) x y e same = ap (λ ks. key z ∷ ks) (set_keys key zs i x y e same)

pub put_keys : {A : Type 0} (key : A → ℕ) (g : A → A) → ((x : A) → key (g x) ≡ key x) → (xs : List A) (o : Option ℕ) (s : Option A) → at_place xs o ≡ s → map key (put_at g xs o s) ≡ map key xs
put_keys key g same xs None s e = refl
put_keys key g same xs (Some p) None e = refl
put_keys key g same xs (Some p) (Some x) e = set_keys key xs p x (g x) e (same x)

pub map_keys : {A : Type 0} (key : A → ℕ) (g : A → A) → ((x : A) → key (g x) ≡ key x) → (xs : List A) → map key (map g xs) ≡ map key xs
map_keys key g same [] = refl
map_keys key g same (x ∷ xs) = ap (λ k. k ∷ map key (map g xs)) (same x) ∙ ap (λ ks. key x ∷ ks) (map_keys key g same xs)
