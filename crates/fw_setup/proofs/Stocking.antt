-- Devices with the images that their stores keep, in order.
use Rattle.std.proofs.Common.{◌≡◌, ◌≢◌, ◌≤◌, ◌<◌, ◌+◌, ◌∙◌, ◌++◌, ◌⊎◌, inl, inr, ℕ, suc, zero, false, true, List, [], ◌∷◌, Some, None, get_or, length, map, slice_set, take, drop, arith, ap, sym, subst, refl}
use Rattle.std.specs.Prelude.{IsOk, IsSomeAnd, Option, slice_get}
use Rattle.std.specs.List.{AllByRecursion}
use Rattle.std.proofs.lemmas.List.{drop_all, drop_more, get_or-map, length-map, map-append, map-set, take_more}
use Rattle.std.proofs.lemmas.List.Edits.{map_over_more}
use Rattle.std.proofs.lemmas.Option.{slice_get-get_or}
use Rattle.fd_core.specs.Images.{ImageOf, same_key}
use Rattle.fwup_wire.specs.declared.values.Key.{Key}
use Rattle.fw_script.specs.Configs.{ComponentConfigOf, DeviceConfigOf}
use Rattle.fw_script.specs.Seen.{component_of, device_of}
use Rattle.fw_script.specs.Whole.{AreNew, AreWhole, IsDevice, eids_of, keys_of}
use Rattle.fw_script.specs.declared.config.ComponentConfig.{ComponentConfig}
use Rattle.fw_script.specs.declared.config.DeviceConfig.{DeviceConfig}
use Rattle.fw_store.specs.Kept.{KeptOf, all_running, image_for}
use Rattle.fw_store.specs.declared.faults.OpenFault.{OpenFault}
use Rattle.fw_store.specs.declared.faults.OpenFault.TheVariants as reasons
use Rattle.fw_steps.specs.Opening.{AreDifferent}
use Rattle.fw_setup.specs.Nodes.{row_made}
use Rattle.fw_setup.specs.Stocks.{HaveStoredImages, CanOpen, IsFaulty, HasStoredImages, IsUnmade, IsUnopened, StoresOf, image_configured, images_configured, component_with_kept, stocked_by, stocked_device}
use Rattle.fw_setup.specs.declared.stores.Unopened.{Unopened}

-- one more at the end
pub all_end : {X : Type 0} (P : X → Type 0) (xs : List X) (x : X) → AllByRecursion P xs → P x → AllByRecursion P (xs ++ x ∷ [])
all_end P [] x all here = (here, tt)
all_end P (y ∷ ys) x all here = (all.0, all_end P ys x all.1 here)

-- the image of a component is found at the first place of its key, and not before
pub image_here : (ks : List KeptOf) (i : ℕ) (d : KeptOf) (key : Key) → i < length ks → same_key (get_or ks i d).key key ≡ true → image_for (drop i ks) key ≡ Some (get_or ks i d).image
image_here ks i d key below is = rw (drop_more ks i d below, is) refl

pub image_later : (ks : List KeptOf) (i : ℕ) (d : KeptOf) (key : Key) → i < length ks → same_key (get_or ks i d).key key ≡ false → image_for (drop (i + 1) ks) key ≡ image_for (drop i ks) key
image_later ks i d key below other = rw (drop_more ks i d below, other) refl

pub ruleset finding = (image_here, image_later, drop_all)

-- a store that keeps the configured images keeps the running images
pub running_made : (cs : List ComponentConfigOf) → all_running (map row_made cs) ≡ images_configured cs
running_made [] = refl
running_made (c ∷ cs) = ap (λ ks. image_configured c ∷ ks) (running_made cs)

-- one more component has its image
pub stocked_more : (kept : List KeptOf) (os xs : List ComponentConfig) (i : ℕ) (x y : ComponentConfig) → i < length os → x ≡ get_or xs i x → i < length xs
    → component_of y ≡ component_with_kept kept (component_of x)
    → map component_of xs ≡ map (component_with_kept kept) (take i (map component_of os)) ++ drop i (map component_of os)
    → map component_of (slice_set xs i y) ≡ map (component_with_kept kept) (take (i + 1) (map component_of os)) ++ drop (i + 1) (map component_of os)
stocked_more kept os xs i x y lt is within e h =
    map-set component_of xs i y ∙ ap (λ c. slice_set (map component_of xs) i c) e
    ∙ map_over_more (component_with_kept kept) (map component_of os) (map component_of xs) i (component_of x) (subst (λ n. i < n) (sym (length-map os component_of)) lt) h
    (ap component_of is ∙ sym (get_or-map component_of xs i x (component_of x) within))

-- as many images as components, or another number
pub more_images : (images : List KeptOf) (cs : List ComponentConfig) → length images ≢ length cs → images ≢ images_configured (map component_of cs)
more_images images cs more is = more (ap length is ∙ length-map (map component_of cs) image_configured ∙ length-map cs component_of)

-- an image that isn't the component's at its place
pub other_image : (images : List KeptOf) (cs : List ComponentConfig) (i : ℕ) (k : KeptOf) (c : ComponentConfig) → i < length images → i < length cs
    → get_or images i k ≢ image_configured (component_of (get_or cs i c)) → images ≢ images_configured (map component_of cs)
other_image images cs i k c lt within other is =
    let far : i < length (map component_of cs) = subst (λ n. i < n) (sym (length-map cs component_of)) within in
    other (ap (λ l. get_or l i k) is ∙ get_or-map image_configured (map component_of cs) i (component_of c) k far ∙ ap image_configured (get_or-map component_of cs i c (component_of c) within))

-- THE SAME DEVICES

keyed_one : (c : ComponentConfigOf) (o : Option ImageOf) → (stocked_by c o).component ≡ c.component
keyed_one c None = refl
keyed_one c (Some image) = refl

keys_stocked : (kept : List KeptOf) (cs : List ComponentConfigOf) → keys_of (map (component_with_kept kept) cs) ≡ keys_of cs
keys_stocked kept [] = refl
keys_stocked kept (c ∷ cs) =
    ap (λ x. x.key ∷ keys_of (map (component_with_kept kept) cs)) (keyed_one c (image_for kept c.component.key)) ∙ ap (λ ks. c.component.key ∷ ks) (keys_stocked kept cs)

device_stocked : (kept : List KeptOf) (x : DeviceConfigOf) → IsDevice x → IsDevice (stocked_device kept x)
device_stocked kept x h = record {
  eid = h.eid;
  few = subst (λ n. n ≤ 3) (sym (length-map x.components (component_with_kept kept))) h.few;
  new = subst (AreNew []) (sym (keys_stocked kept x.components)) h.new;
}

eids_stocked : (s : StoresOf) (xs ys : List DeviceConfigOf) → HaveStoredImages s xs ys → eids_of ys ≡ eids_of xs
eids_stocked s [] [] h = refl
eids_stocked s [] (y ∷ ys) h = absurd h
eids_stocked s (x ∷ xs) [] h = absurd h
eids_stocked s (x ∷ xs) (y ∷ ys) h = ap (λ (z : DeviceConfigOf). z.endpoint.eid ∷ eids_of ys) h.0.is ∙ ap (λ es. x.endpoint.eid ∷ es) (eids_stocked s xs ys h.1)

length_stocked : (s : StoresOf) (xs ys : List DeviceConfigOf) → HaveStoredImages s xs ys → length ys ≡ length xs
length_stocked s [] [] h = refl
length_stocked s [] (y ∷ ys) h = absurd h
length_stocked s (x ∷ xs) [] h = absurd h
length_stocked s (x ∷ xs) (y ∷ ys) h = ap (λ n. suc n) (length_stocked s xs ys h.1)

each_stocked : (s : StoresOf) (xs ys : List DeviceConfigOf) → HaveStoredImages s xs ys → AllByRecursion IsDevice xs → AllByRecursion IsDevice ys
each_stocked s [] [] h each = tt
each_stocked s [] (y ∷ ys) h each = absurd h
each_stocked s (x ∷ xs) [] h each = absurd h
each_stocked s (x ∷ xs) (y ∷ ys) h each = (subst IsDevice (sym h.0.is) (device_stocked h.0.kept x each.0), each_stocked s xs ys h.1 each.1)

-- a whole configuration is whole with other images
pub whole_stocked : (s : StoresOf) (agent : ℕ) (xs ys : List DeviceConfigOf) → HaveStoredImages s xs ys → AreWhole agent xs → AreWhole agent ys
whole_stocked s agent xs ys h w = record {
  agent_eid = w.agent_eid;
  some = subst (λ n. 1 ≤ n) (sym (length_stocked s xs ys h)) w.some;
  few = subst (λ n. n ≤ 16) (sym (length_stocked s xs ys h)) w.few;
  each = each_stocked s xs ys h w.each;
  apart = subst (λ es. AreDifferent (agent ∷ es)) (sym (eids_stocked s xs ys h)) w.apart;
}

-- IN ORDER

-- the first `n` devices have the images that their stores keep, and the others are unchanged
abbrev pub AreSoFar : StoresOf → (os xs : List DeviceConfigOf) → ℕ → Type 0
AreSoFar s os xs zero = xs ≡ os
AreSoFar s (o ∷ os) (x ∷ xs) (suc i) = HasStoredImages s o x × AreSoFar s os xs i
AreSoFar s os xs (suc i) = ⊥

one_more : (s : StoresOf) (os xs : List DeviceConfigOf) (i : ℕ) (x y : DeviceConfigOf) → i < length os → x ≡ get_or xs i x → HasStoredImages s x y → AreSoFar s os xs i
    → AreSoFar s os (slice_set xs i y) (suc i)
one_more s [] xs i x y lt is new h = absurd (omega arith)
one_more s (o ∷ os) [] zero x y lt is new h = absurd (cc)
one_more s (o ∷ os) (z ∷ zs) zero x y lt is new h = (subst (λ v. HasStoredImages s v y) (is ∙ ap (λ l. get_or l 0 x) h) new, ap (λ l. drop 1 l) h)
one_more s (o ∷ os) [] (suc i) x y lt is new h = absurd h
one_more s (o ∷ os) (z ∷ zs) (suc i) x y lt is new h = (h.0, one_more s os zs i x y (omega arith) is new h.1)

as_before : (s : StoresOf) (os xs : List DeviceConfigOf) (i : ℕ) (x : DeviceConfigOf) → i < length os → x ≡ get_or xs i x → AreSoFar s os xs i → x ≡ get_or os i x
as_before s [] xs i x lt is h = absurd (omega arith)
as_before s (o ∷ os) xs zero x lt is h = is ∙ ap (λ l. get_or l 0 x) h
as_before s (o ∷ os) [] (suc i) x lt is h = absurd h
as_before s (o ∷ os) (z ∷ zs) (suc i) x lt is h = as_before s os zs i x (omega arith) is h.1

opened_so_far : (s : StoresOf) (os xs : List DeviceConfigOf) (i : ℕ) → AreSoFar s os xs i → AllByRecursion (CanOpen s) (take i os)
opened_so_far s os xs zero h = tt
opened_so_far s [] xs (suc i) h = tt
opened_so_far s (o ∷ os) [] (suc i) h = absurd h
opened_so_far s (o ∷ os) (x ∷ xs) (suc i) h = (λ known. subst IsOk (sym (h.0.found known)) refl, opened_so_far s os xs i h.1)

all_so_far : (s : StoresOf) (os xs : List DeviceConfigOf) (i : ℕ) → i ≡ length os → AreSoFar s os xs i → HaveStoredImages s os xs
all_so_far s [] [] zero e h = tt
all_so_far s [] (x ∷ xs) zero e h = absurd (cc)
all_so_far s (o ∷ os) xs zero e h = absurd (omega (arith, e))
all_so_far s [] xs (suc i) e h = absurd (omega (arith, e))
all_so_far s (o ∷ os) [] (suc i) e h = absurd h
all_so_far s (o ∷ os) (x ∷ xs) (suc i) e h = (h.0, all_so_far s os xs i (omega (arith, e)) h.1)

-- The same for configurations in the program.
abbrev pub AreSeenSoFar : StoresOf → (os xs : List DeviceConfig) → ℕ → Type 0
AreSeenSoFar s os xs i = AreSoFar s (map device_of os) (map device_of xs) i

seen_at : (xs : List DeviceConfig) (i : ℕ) (x : DeviceConfig) → i < length xs → x ≡ get_or xs i x → device_of x ≡ get_or (map device_of xs) i (device_of x)
seen_at xs i x lt is = ap device_of is ∙ sym (get_or-map device_of xs i x (device_of x) lt)

pub seen_more : (s : StoresOf) (os xs : List DeviceConfig) (i : ℕ) (x y : DeviceConfig) → i < length os → i < length xs → x ≡ get_or xs i x → HasStoredImages s (device_of x) (device_of y)
    → AreSeenSoFar s os xs i → AreSeenSoFar s os (slice_set xs i y) (i + 1)
seen_more s os xs i x y lt within is new h =
    let next : i + 1 ≡ suc i = omega arith in
    subst (AreSoFar s (map device_of os) (map device_of (slice_set xs i y))) (sym next)
    (subst (λ l. AreSoFar s (map device_of os) l (suc i)) (sym (map-set device_of xs i y))
    (one_more s (map device_of os) (map device_of xs) i (device_of x) (device_of y) (subst (λ n. i < n) (sym (length-map os device_of)) lt) (seen_at xs i x within is) new h))

pub seen_all : (s : StoresOf) (os xs : List DeviceConfig) (i : ℕ) → i ≡ length os → AreSeenSoFar s os xs i → HaveStoredImages s (map device_of os) (map device_of xs)
seen_all s os xs i e h = all_so_far s (map device_of os) (map device_of xs) i (e ∙ sym (length-map os device_of)) h

-- the reason why the next store isn't opened
pub seen_unopened : (s : StoresOf) (os xs : List DeviceConfig) (i : ℕ) (x : DeviceConfig) (e : Unopened) → i < length os → i < length xs → x ≡ get_or xs i x
    → e.device ≡ x.endpoint.eid → IsFaulty s (device_of x) e.why → AreSeenSoFar s os xs i → IsUnopened s (map device_of os) e
seen_unopened s os xs i x e lt within is its so h =
    let far : i < length (map device_of os) = subst (λ n. i < n) (sym (length-map os device_of)) lt in
    record {
      place = i;
      device = device_of x;
      at = slice_get-get_or (map device_of os) i (device_of x) far ∙ ap (λ v. Some v) (sym (as_before s (map device_of os) (map device_of xs) i (device_of x) far (seen_at xs i x within is) h));
      before = opened_so_far s (map device_of os) (map device_of xs) i h;
      its = its;
      so = so;
    }

-- the identifiers of the devices so far
pub eids_more : (os xs : List DeviceConfig) (i : ℕ) (x : DeviceConfig) (s : StoresOf) → i < length os → i < length xs → x ≡ get_or xs i x → AreSeenSoFar s os xs i
    → eids_of (map device_of (take i os)) ++ x.endpoint.eid ∷ [] ≡ eids_of (map device_of (take (i + 1) os))
eids_more os xs i x s lt within is h =
    let far : i < length (map device_of os) = subst (λ n. i < n) (sym (length-map os device_of)) lt in
    let same : device_of x ≡ device_of (get_or os i x) = as_before s (map device_of os) (map device_of xs) i (device_of x) far (seen_at xs i x within is) h ∙ get_or-map device_of os i x (device_of x) lt in
    sym (ap (λ l. eids_of (map device_of l)) (take_more os i x lt) ∙ ap eids_of (map-append device_of (take i os) (get_or os i x ∷ []))
    ∙ map-append (λ (z : DeviceConfigOf). z.endpoint.eid) (map device_of (take i os)) (device_of (get_or os i x) ∷ [])
    ∙ ap (λ (z : DeviceConfigOf). eids_of (map device_of (take i os)) ++ z.endpoint.eid ∷ []) (sym same))

-- lack of memory is no fault of a folder
pub memory_so : (s : StoresOf) (x : DeviceConfigOf) → IsFaulty s x reasons.Memory
memory_so s x = record { damaged = λ e known. absurd (cc); foreign = λ e known. absurd (cc) }

-- nor is a folder that can't be made
made_so : (s : StoresOf) (x : DeviceConfigOf) (why : OpenFault) → (why ≡ reasons.Unreadable) ⊎ (why ≡ reasons.Memory) → IsFaulty s x why
made_so s x why (inl e) = record { damaged = λ d known. absurd (cc); foreign = λ d known. absurd (cc) }
made_so s x why (inr e) = record { damaged = λ d known. absurd (cc); foreign = λ d known. absurd (cc) }

-- the device whose folder can't be made is among the configured ones, and each store before it can
-- be opened
stocked_at : (s : StoresOf) (xs ys : List DeviceConfigOf) (i : ℕ) (y : DeviceConfigOf) → HaveStoredImages s xs ys → slice_get ys i ≡ Some y → IsSomeAnd (slice_get xs i) (λ x. y.endpoint.eid ≡ x.endpoint.eid)
stocked_at s [] [] i y h at = absurd (cc)
stocked_at s [] (z ∷ zs) i y h at = absurd h
stocked_at s (x ∷ xs) [] i y h at = absurd h
stocked_at s (x ∷ xs) (z ∷ zs) zero y h at =
    let same : z ≡ y = cc in
    ap (λ (v : DeviceConfigOf). v.endpoint.eid) (sym same) ∙ ap (λ (v : DeviceConfigOf). v.endpoint.eid) h.0.is
stocked_at s (x ∷ xs) (z ∷ zs) (suc i) y h at = stocked_at s xs zs i y h.1 at

opened_before : (s : StoresOf) (xs ys : List DeviceConfigOf) (i : ℕ) → HaveStoredImages s xs ys → AllByRecursion (CanOpen s) (take i xs)
opened_before s xs ys zero h = tt
opened_before s [] ys (suc i) h = tt
opened_before s (x ∷ xs) [] (suc i) h = absurd h
opened_before s (x ∷ xs) (y ∷ ys) (suc i) h = (λ known. subst IsOk (sym (h.0.found known)) refl, opened_before s xs ys i h.1)

unmade_at : (s : StoresOf) (xs ys : List DeviceConfigOf) (e : Unopened) (o : Option DeviceConfigOf) (u : IsUnmade ys e) → HaveStoredImages s xs ys → slice_get xs u.place ≡ o
    → IsSomeAnd o (λ x. u.device.endpoint.eid ≡ x.endpoint.eid) → IsUnopened s xs e
unmade_at s xs ys e None u h is same = absurd same
unmade_at s xs ys e (Some x) u h is same = record {
  place = u.place;
  device = x;
  at = is;
  before = opened_before s xs ys u.place h;
  its = u.its ∙ same;
  so = made_so s x e.why u.why;
}

pub unmade_so : (s : StoresOf) (xs ys : List DeviceConfigOf) (e : Unopened) → HaveStoredImages s xs ys → IsUnmade ys e → IsUnopened s xs e
unmade_so s xs ys e h u = unmade_at s xs ys e (slice_get xs u.place) u h refl (stocked_at s xs ys u.place u.device h u.at)

-- the first whose folder can't be made
pub unmade_next : (os : List DeviceConfig) (i : ℕ) (x : DeviceConfig) (e : Unopened) → i < length os → x ≡ get_or os i x → e.device ≡ x.endpoint.eid
    → (e.why ≡ reasons.Unreadable) ⊎ (e.why ≡ reasons.Memory) → IsUnmade (map device_of os) e
unmade_next os i x e lt is its why =
    let far : i < length (map device_of os) = subst (λ n. i < n) (sym (length-map os device_of)) lt in
    record {
      place = i;
      device = device_of x;
      at = slice_get-get_or (map device_of os) i (device_of x) far ∙ ap (λ v. Some v) (sym (seen_at os i x lt is));
      its = its;
      why = why;
    }
