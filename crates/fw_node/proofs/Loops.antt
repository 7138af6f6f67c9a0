-- A loop that changes each element and sends the packets of each.
use Rattle.std.proofs.Common.{◌≡◌, ◌∙◌, ◌<◌, ◌≤◌, ◌+◌, ◌*◌, ℕ, zero, suc, List, [], ◌∷◌, ◌++◌, map, take, drop, flat_map, length, get_or, slice_get, slice_set, Some, sym, ap, subst, arith}
use Rattle.std.specs.List.{AllByRecursion}
use Rattle.std.proofs.Math.ListN.{get_or-map}
use Rattle.std.proofs.lemmas.List.Edits.{map_over_more}
use Rattle.std.proofs.lemmas.Grind.{flat_map-append}
use Rattle.std.proofs.lemmas.List.{append-nil, append_assoc, length-append, length-map, map-append, map-set, take-append-drop, take_all, length-take, drop_more, get_or_at, take_more}

-- the current element is unchanged so far
pub read_over : {X : Type 0} (f : X → X) (xs ys : List X) (i : ℕ) (x : X) → i < length xs → ys ≡ map f (take i xs) ++ drop i xs → x ≡ get_or ys i x → x ≡ get_or xs i x
read_over f xs ys i x lt h is =
    let front = map f (take i xs) in
    let long : length front ≡ i = length-map (take i xs) f ∙ omega (arith, length-take i xs) in
    let parts : ys ≡ front ++ get_or xs i x ∷ drop (i + 1) xs = h ∙ ap (λ l. front ++ l) (drop_more xs i x lt) in
    is ∙ ap (λ l. get_or l i x) parts ∙ get_or_at front _ _ x i long

-- the packets sent grow by those of the current element
pub sends_more : {X Y : Type 0} (g : X → List Y) (xs : List X) (i : ℕ) (x : X) (out before now : List Y) → i < length xs → x ≡ get_or xs i x
    → before ≡ out ++ flat_map g (take i xs) → now ≡ before ++ g x → now ≡ out ++ flat_map g (take (i + 1) xs)
sends_more g xs i x out before now lt is h e =
    e ∙ ap (λ b. b ++ g x) h ∙ append_assoc out (flat_map g (take i xs)) (g x)
    ∙ ap (λ y. out ++ (flat_map g (take i xs) ++ g y)) is
    ∙ ap (λ l. out ++ l) (sym (ap (flat_map g) (take_more xs i x lt) ∙ flat_map-append g (take i xs) (get_or xs i x ∷ []) ∙ ap (λ l. flat_map g (take i xs) ++ l) (append-nil (g (get_or xs i x)))))

-- A loop over parts, seen as halves: the current part is done.
pub done_more : {P H : Type 0} (f : P → H) (g : H → H) (ps qs : List P) (i : ℕ) (x new : P) → i < length ps → x ≡ get_or qs i x
    → map f qs ≡ map g (take i (map f ps)) ++ drop i (map f ps) → f new ≡ g (f x)
    → map f (slice_set qs i new) ≡ map g (take (i + 1) (map f ps)) ++ drop (i + 1) (map f ps)
done_more f g ps qs i x new lt is h e =
    let long = length-map ps f in
    let here : f x ≡ get_or (map f qs) i (f x) = ap f is ∙ sym (get_or-map f qs i x) in
    map-set f qs i new ∙ ap (slice_set (map f qs) i) e ∙ map_over_more g (map f ps) (map f qs) i (f x) (omega (arith, long, lt)) h here

-- the current half is unchanged so far
pub half_was : {P H : Type 0} (f : P → H) (g : H → H) (ps qs : List P) (i : ℕ) (x : P) → i < length ps → x ≡ get_or qs i x
    → map f qs ≡ map g (take i (map f ps)) ++ drop i (map f ps) → f x ≡ get_or (map f ps) i (f x)
half_was f g ps qs i x lt is h =
    let long = length-map ps f in
    let here : f x ≡ get_or (map f qs) i (f x) = ap f is ∙ sym (get_or-map f qs i x) in
    read_over g (map f ps) (map f qs) i (f x) (omega (arith, long, lt)) h here

-- the element at a place
pub at_place : {P H : Type 0} (f : P → H) (ps : List P) (i : ℕ) (x : P) → i < length ps → x ≡ get_or ps i x → slice_get (map f ps) i ≡ Some (f x)
at_place f [] i x lt is = absurd (omega arith)
at_place f (p ∷ ps) zero x lt is = ap (λ y. Some (f y)) (sym is)
at_place f (p ∷ ps) (suc i) x lt is = at_place f ps i x (omega arith) is

-- The packets sent take no more room than was counted for them before: four places for each later
-- message.
later_more : {X Y : Type 0} (g : X → List Y) (xs : List X) (i : ℕ) (x : X) → i < length xs → x ≡ get_or xs i x
    → length (flat_map g (take (i + 1) xs)) ≡ length (flat_map g (take i xs)) + length (g x)
later_more g xs i x lt is =
    ap (λ l. length (flat_map g l)) (take_more xs i x lt ∙ ap (λ y. take i xs ++ y ∷ []) (sym is))
    ∙ ap length (flat_map-append g (take i xs) (x ∷ []) ∙ ap (λ l. flat_map g (take i xs) ++ l) (append-nil (g x)))
    ∙ length-append (flat_map g (take i xs)) (g x)

pub room_more : {X Y : Type 0} (g : X → List Y) (xs : List X) (i : ℕ) (x : X) (out before now : ℕ) → i < length xs → x ≡ get_or xs i x
    → before ≤ out + 4 * length (flat_map g (take i xs)) → now ≤ before + 4 * length (g x) → now ≤ out + 4 * length (flat_map g (take (i + 1) xs))
room_more g xs i x out before now lt is h e = let more = later_more g xs i x lt is in omega (arith, h, e, more)

-- there is room for one more
pub room_for : {X Y : Type 0} (g : X → List Y) (xs : List X) (i : ℕ) (x : X) (out before most : ℕ) → i < length xs → x ≡ get_or xs i x
    → before ≤ out + 4 * length (flat_map g (take i xs)) → out + 4 * length (flat_map g xs) ≤ most → before + 4 * length (g x) ≤ most
room_for g xs i x out before most lt is h all =
    let more = later_more g xs i x lt is in
    let parts = ap (λ l. length (flat_map g l)) (sym (take-append-drop (i + 1) xs)) ∙ ap length (flat_map-append g (take (i + 1) xs) (drop (i + 1) xs)) ∙ length-append (flat_map g (take (i + 1) xs)) (flat_map g (drop (i + 1) xs)) in
    omega (arith, h, all, more, parts)

mapped_more : {X Y : Type 0} (g : X → List Y) (f : X → X) (xs : List X) (x : X) → length (flat_map g (map f (xs ++ x ∷ []))) ≡ length (flat_map g (map f xs)) + length (g (f x))
mapped_more g f xs x =
    ap (λ l. length (flat_map g l)) (map-append f xs (x ∷ []))
    ∙ ap length (flat_map-append g (map f xs) (f x ∷ []) ∙ ap (λ l. flat_map g (map f xs) ++ l) (append-nil (g (f x))))
    ∙ length-append (flat_map g (map f xs)) (g (f x))

pub fits_more : {X Y : Type 0} (g : X → List Y) (f : X → X) (xs : List X) (i : ℕ) (x : X) (out before now : ℕ) → i < length xs → x ≡ get_or xs i x
    → before + 4 * length (flat_map g (map f (take i xs))) ≤ out + 4 * i → now + 4 * length (g (f x)) ≤ before + 4
    → now + 4 * length (flat_map g (map f (take (i + 1) xs))) ≤ out + 4 * (i + 1)
fits_more g f xs i x out before now lt is h e =
    let more = ap (λ l. length (flat_map g (map f l))) (take_more xs i x lt ∙ ap (λ z. take i xs ++ z ∷ []) (sym is)) ∙ mapped_more g f (take i xs) x in
    omega (arith, h, e, more)

pub fits_all : {X Y : Type 0} (g : X → List Y) (f : X → X) (xs : List X) (i out now : ℕ) → length xs ≤ i → i ≤ length xs
    → now + 4 * length (flat_map g (map f (take i xs))) ≤ out + 4 * i → now + 4 * length (flat_map g (map f xs)) ≤ out + 4 * length xs
fits_all g f xs i out now end within h =
    let whole = ap (λ l. length (flat_map g (map f l))) (take_all i xs end) in
    omega (arith, h, whole, within)

-- a property of each element so far, and of the next
holds_more : {A : Type 0} (P : A → Type 0) (xs : List A) (x : A) → AllByRecursion P xs → P x → AllByRecursion P (xs ++ x ∷ [])
holds_more P [] x all is = (is, tt)
holds_more P (y ∷ xs) x all is = (all.0, holds_more P xs x all.1 is)

pub holds_next : {A : Type 0} (P : A → Type 0) (xs : List A) (i : ℕ) (x : A) → i < length xs → x ≡ get_or xs i x
    → AllByRecursion P (take i xs) → P x → AllByRecursion P (take (i + 1) xs)
holds_next P xs i x lt is all one =
    subst (AllByRecursion P) (sym (take_more xs i x lt ∙ ap (λ y. take i xs ++ y ∷ []) (sym is))) (holds_more P (take i xs) x all one)

pub holds_of_all : {A : Type 0} (P : A → Type 0) (xs : List A) (i : ℕ) → length xs ≤ i → AllByRecursion P (take i xs) → AllByRecursion P xs
holds_of_all P xs i end all = subst (AllByRecursion P) (take_all i xs end) all
