-- Parts that are put one after the other.
use Rattle.std.proofs.Common.{◌≡◌, ℕ, suc, drop, subst, add-one, ◌+◌, ◌<◌, ◌≤◌, ◌∙◌, All, List, [], ◌∷◌, ◌++◌, length, map, take, get_or, refl, sym, ap, arith, length-append, append_assoc}
use Rattle.std.specs.List.{flat_map, sum_by}
use Rattle.std.proofs.Math.Seq.{drop-cons}
use Rattle.std.proofs.lemmas.List.{append-nil, flat_map_more, get_or-map, drop_all, length-map, take_all, take_more}
use Rattle.std.proofs.lemmas.List.Concat.{length-flat_map}
use Rattle.std.proofs.lemmas.List.Elements.{All-more}
use Rattle.std.proofs.lemmas.List.Sums.{sum_by-cons, sum_by-take-le, sum_by_push}
use Rattle.fw_package.specs.Asked.{AskedComponentOf, asked_component_of, component_size}
use Rattle.fw_package.specs.Writing.{HasAskedComponentWidths, component_bytes, components_bytes}
use Rattle.fw_package.specs.declared.asked.AskedComponent.{AskedComponent}

-- parts are appended to the content before, and each of them fits its fields
pub record Putting {X : Type 0} (spelling : X → List ℕ) (Fits : X → Type 0) (old : List ℕ) (all : List X) (i : ℕ) (new : List ℕ) : Type 0 where
  pub put : new ≡ old ++ flat_map spelling (take i all)
  pub fit : All Fits (take i all)

pub put_none : {X : Type 0} (spelling : X → List ℕ) (Fits : X → Type 0) (old : List ℕ) (all : List X) → Putting spelling Fits old all 0 old
put_none spelling Fits old all = record { put = sym (append-nil old); fit = λ k d lt. absurd (omega arith) }

pub put_more : {A X : Type 0} (v : A → X) (spelling : X → List ℕ) (Fits : X → Type 0) (old : List ℕ) (all : List A) (i : ℕ) (d : A) (out new : List ℕ)
    → Putting spelling Fits old (map v all) i out → i < length all → new ≡ out ++ spelling (v (get_or all i d)) → Fits (v (get_or all i d))
    → Putting spelling Fits old (map v all) (i + 1) new
put_more v spelling Fits old all i d out new h lt is fits =
    let count = length-map all v in
    let here : get_or (map v all) i (v d) ≡ v (get_or all i d) = get_or-map v all i d (v d) lt in
    record {
      put =
          is
          ∙ ap (λ xs. xs ++ spelling (v (get_or all i d))) h.put
          ∙ flat_map_more spelling old (take i (map v all)) (v (get_or all i d))
          ∙ ap (λ xs. old ++ flat_map spelling xs) (ap (λ x. take i (map v all) ++ x ∷ []) (sym here) ∙ sym (take_more (map v all) i (v d) (omega arith)));
      fit = All-more Fits (map v all) i (v d) (omega arith) h.fit (rw here fits);
    }

pub put_all : {A X : Type 0} (v : A → X) (spelling : X → List ℕ) (Fits : X → Type 0) (old : List ℕ) (all : List A) (i : ℕ) (new : List ℕ)
    → Putting spelling Fits old (map v all) i new → length all ≤ i → (new ≡ old ++ flat_map spelling (map v all)) × All Fits (map v all)
put_all v spelling Fits old all i new h le =
    let count = length-map all v in
    let whole : take i (map v all) ≡ map v all = take_all i (map v all) (omega arith) in
    (rw whole at h.put, rw whole at h.fit)

pub same_sums : {X : Type 0} (f g : X → ℕ) → ((x : X) → f x ≡ g x) → (xs : List X) → sum_by f xs ≡ sum_by g xs
same_sums f g same [] = refl
same_sums f g same (x ∷ xs) =
    let first = sum_by-cons f x xs in
    let other = sum_by-cons g x xs in
    let here = same x in
    let rest = same_sums f g same xs in
    omega (arith, first, other, here, rest)

-- there is room for the next
pub put_room : {A X : Type 0} (v : A → X) (spelling : X → List ℕ) (size : X → ℕ) (Fits : X → Type 0) (old : List ℕ) (all : List A) (i : ℕ) (d : A) (out : List ℕ) (room : ℕ)
    → ((x : X) → length (spelling x) ≡ size x) → Putting spelling Fits old (map v all) i out → i < length all → length old + sum_by size (map v all) ≤ room
    → length out + size (v (get_or all i d)) ≤ room
put_room v spelling size Fits old all i d out room sized h lt fits =
    let count = length-map all v in
    let here : get_or (map v all) i (v d) ≡ v (get_or all i d) = get_or-map v all i d (v d) lt in
    let long = ap length h.put ∙ length-append old (flat_map spelling (take i (map v all))) in
    let flat = length-flat_map spelling (take i (map v all)) ∙ same_sums (λ x. length (spelling x)) size sized (take i (map v all)) in
    let next = ap (sum_by size) (take_more (map v all) i (v d) (omega arith)) ∙ sum_by_push size (take i (map v all)) (get_or (map v all) i (v d)) in
    let most = sum_by-take-le size (map v all) (i + 1) in
    let last = ap size here in
    omega (arith, long, flat, next, most, last, fits)

-- a fact of all parts is a fact of each
pub put_fits : {A X : Type 0} (v : A → X) (Fits : X → Type 0) (all : List A) (i : ℕ) (d : A) → All Fits (map v all) → i < length all → Fits (v (get_or all i d))
put_fits v Fits all i d h lt =
    let count = length-map all v in
    let here : get_or (map v all) i (v d) ≡ v (get_or all i d) = get_or-map v all i d (v d) lt in
    subst Fits here (h i (v d) (omega arith))

pub component_long : (offset : ℕ) (c : AskedComponentOf) → length (component_bytes offset c) ≡ component_size c
component_long offset c = omega arith

pub components_long : (offset : ℕ) (cs : List AskedComponentOf) → length (components_bytes offset cs) ≡ sum_by component_size cs
components_long offset [] = refl
components_long offset (c ∷ cs) =
    let both = length-append (component_bytes offset c) (components_bytes (offset + c.size) cs) in
    let here = component_long offset c in
    let rest = components_long (offset + c.size) cs in
    let all = sum_by-cons component_size c cs in
    omega (arith, both, here, rest, all)

-- components are appended to the content before, and the image of the next one is at this offset
pub record Placing (old : List ℕ) (start : ℕ) (all : List AskedComponentOf) (i offset : ℕ) (new : List ℕ) : Type 0 where
  pub put : new ++ components_bytes offset (drop i all) ≡ old ++ components_bytes start all
  pub fit : All HasAskedComponentWidths (take i all)
  pub place : offset + sum_by (λ c. c.size) (drop i all) ≡ start + sum_by (λ c. c.size) all

pub place_none : (old : List ℕ) (start : ℕ) (all : List AskedComponentOf) → Placing old start all 0 start old
place_none old start all = record { put = refl; fit = λ k d lt. absurd (omega arith); place = refl }

-- the components left
abbrev left_of : (all : List AskedComponent) (i : ℕ) → List AskedComponentOf
left_of all i = drop i (map asked_component_of all)

next_left : (all : List AskedComponent) (i : ℕ) (d : AskedComponent) → i < length all → left_of all i ≡ asked_component_of (get_or all i d) ∷ left_of all (i + 1)
next_left all i d lt =
    let count = length-map all asked_component_of in
    let here = get_or-map asked_component_of all i d (asked_component_of d) lt in
    let more : i + 1 ≡ suc i = add-one i in
    drop-cons (map asked_component_of all) i (asked_component_of d) (omega arith) ∙ rw (here, more) refl

pub place_more : (old : List ℕ) (start : ℕ) (all : List AskedComponent) (i offset next : ℕ) (d : AskedComponent) (out new : List ℕ)
    → Placing old start (map asked_component_of all) i offset out → i < length all → new ≡ out ++ component_bytes offset (asked_component_of (get_or all i d))
    → HasAskedComponentWidths (asked_component_of (get_or all i d)) → next ≡ offset + (asked_component_of (get_or all i d)).size
    → Placing old start (map asked_component_of all) (i + 1) next new
place_more old start all i offset next d out new h lt is fits on =
    let c : AskedComponentOf = asked_component_of (get_or all i d) in
    let count = length-map all asked_component_of in
    let here : get_or (map asked_component_of all) i (asked_component_of d) ≡ c = get_or-map asked_component_of all i d (asked_component_of d) lt in
    let left = next_left all i d lt in
    let sum = ap (sum_by (λ x. x.size)) left ∙ sum_by-cons (λ x. x.size) c (left_of all (i + 1)) in
    record {
      put =
          ap (λ xs. xs ++ components_bytes next (left_of all (i + 1))) is
          ∙ append_assoc out (component_bytes offset c) (components_bytes next (left_of all (i + 1)))
          ∙ ap (λ n. out ++ (component_bytes offset c ++ components_bytes n (left_of all (i + 1)))) on
          ∙ ap (λ cs. out ++ components_bytes offset cs) (sym left)
          ∙ h.put;
      fit = All-more HasAskedComponentWidths (map asked_component_of all) i (asked_component_of d) (omega arith) h.fit (rw here fits);
      place = let before = h.place in omega (arith, before, sum, on);
    }

pub place_room : (old : List ℕ) (start : ℕ) (all : List AskedComponent) (i offset : ℕ) (d : AskedComponent) (out : List ℕ)
    → Placing old start (map asked_component_of all) i offset out → i < length all → length old + sum_by component_size (map asked_component_of all) ≤ 65535
    → length out + component_size (asked_component_of (get_or all i d)) ≤ 65535
place_room old start all i offset d out h lt fits =
    let c : AskedComponentOf = asked_component_of (get_or all i d) in
    let whole = components_long start (map asked_component_of all) in
    let left = next_left all i d lt in
    let rest = components_long offset (left_of all i) ∙ ap (sum_by component_size) left ∙ sum_by-cons component_size c (left_of all (i + 1)) in
    let before = length-append out (components_bytes offset (left_of all i)) in
    let after = length-append old (components_bytes start (map asked_component_of all)) in
    let same = ap length h.put in
    omega (arith, whole, rest, before, after, same, fits)

pub place_inside : (old : List ℕ) (start : ℕ) (all : List AskedComponent) (i offset : ℕ) (d : AskedComponent) (out : List ℕ)
    → Placing old start (map asked_component_of all) i offset out → i < length all → start + sum_by (λ c. c.size) (map asked_component_of all) ≤ 4294967295
    → offset + (asked_component_of (get_or all i d)).size ≤ 4294967295
place_inside old start all i offset d out h lt fits =
    let c : AskedComponentOf = asked_component_of (get_or all i d) in
    let sum = ap (sum_by (λ x. x.size)) (next_left all i d lt) ∙ sum_by-cons (λ x. x.size) c (left_of all (i + 1)) in
    let before = h.place in
    omega (arith, sum, before, fits)

pub place_all : (old : List ℕ) (start : ℕ) (all : List AskedComponent) (i offset : ℕ) (new : List ℕ)
    → Placing old start (map asked_component_of all) i offset new → length all ≤ i → (new ≡ old ++ components_bytes start (map asked_component_of all)) × All HasAskedComponentWidths (map asked_component_of all)
place_all old start all i offset new h le =
    let count = length-map all asked_component_of in
    let none : left_of all i ≡ [] = drop_all i (map asked_component_of all) (omega arith) in
    let whole : take i (map asked_component_of all) ≡ map asked_component_of all = take_all i (map asked_component_of all) (omega arith) in
    let put = rw none at h.put in
    (sym (append-nil new) ∙ put, rw whole at h.fit)
