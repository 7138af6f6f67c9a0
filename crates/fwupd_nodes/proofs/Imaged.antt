-- Devices with the images of files.
use Rattle.std.proofs.Common.{◌≡◌, ◌≤◌, ◌<◌, ◌==◌, ℕ, zero, suc, Bool, true, false, List, [], ◌∷◌, Some, None, get_or, length, map, ap, arith, refl, slice_set, subst, sym}
use Rattle.std.specs.Prelude.{if◌then◌else◌}
use Rattle.std.specs.List.{AllByRecursion, position, position_or_len}
use Rattle.std.proofs.lemmas.Grind.{common_steps}
use Rattle.std.proofs.lemmas.List.Quantifiers.{position-Some}
use Rattle.std.proofs.lemmas.List.Sums.{fails_before_first}
use Rattle.fd_core.specs.Images.{same_key}
use Rattle.fw_script.specs.Configs.{DeviceConfigOf}
use Rattle.fw_script.specs.Whole.{AreNew, AreWhole, IsDevice}
use Rattle.fw_steps.specs.Opening.{AreDifferent}
use Rattle.fwup_wire.specs.declared.values.Key.{Key}
use Rattle.fwupd_base.specs.ImageFiles.{ImageFileOf}
use Rattle.fwupd_nodes.specs.Images.{device_imaged, devices_imaged, first_changed}
use Rattle.fwupd_nodes.specs.Setups.{HaveImages}
use Rattle.fwupd_watch.specs.Files.{FileOf}

-- none passes
none_passes : {A : Type 0} (p : A → Bool) (xs : List A) → position p xs ≡ None → (k : ℕ) (d : A) → k < length xs → p (get_or xs k d) ≡ false
none_passes p xs e k d lt =
    let far : length xs ≤ position_or_len p xs = grind (arith, common_steps) in
    fails_before_first p xs k d (omega arith)

none_changed : {A B : Type 0} (h : A → B) (passes : B → Bool) (change : B → B) (xs : List A) (d : A) → ((k : ℕ) → k < length xs → passes (h (get_or xs k d)) ≡ false)
    → map h xs ≡ first_changed passes change (map h xs)
none_changed h passes change [] d none = refl
none_changed h passes change (x ∷ xs) d none =
    rw (none 0 (omega arith)) (ap (λ ys. h x ∷ ys) (none_changed h passes change xs d (λ k lt. none (suc k) (omega arith))))

-- no value passes, and none is changed
pub unchanged : {A B : Type 0} (h : A → B) (passes : B → Bool) (change : B → B) (xs : List A) → position (λ x. passes (h x)) xs ≡ None → map h xs ≡ first_changed passes change (map h xs)
unchanged h passes change [] e = refl
unchanged h passes change (x ∷ xs) e = none_changed h passes change (x ∷ xs) x (λ k lt. none_passes (λ y. passes (h y)) (x ∷ xs) e k x lt)

first_at : {A B : Type 0} (h : A → B) (passes : B → Bool) (change : B → B) (xs : List A) (i : ℕ) (d y : A) → i < length xs → passes (h (get_or xs i d)) ≡ true
    → ((k : ℕ) → k < i → passes (h (get_or xs k d)) ≡ false) → h y ≡ change (h (get_or xs i d)) → map h (slice_set xs i y) ≡ first_changed passes change (map h xs)
first_at h passes change [] i d y lt is before e = absurd (omega arith)
first_at h passes change (x ∷ xs) zero d y lt is before e = rw is (ap (λ z. z ∷ map h xs) e)
first_at h passes change (x ∷ xs) (suc i) d y lt is before e =
    rw (before 0 (omega arith)) (ap (λ ys. h x ∷ ys) (first_at h passes change xs i d y (omega arith) is (λ k below. before (suc k) (omega arith)) e))

-- the value at the first place that passes is changed
pub changed : {A B : Type 0} (h : A → B) (passes : B → Bool) (change : B → B) (xs : List A) (i : ℕ) (d y : A) → position (λ x. passes (h x)) xs ≡ Some i → h y ≡ change (h (get_or xs i d))
    → map h (slice_set xs i y) ≡ first_changed passes change (map h xs)
changed h passes change xs i d y e is =
    let found = position-Some (λ x. passes (h x)) xs i d e in
    first_at h passes change xs i d y found.0 found.1 found.2 is

-- THE SAME DEVICES

-- what each change leaves is left in the list
same_if : {A C : Type 0} (f : A → C) (change : A → A) (x : A) (xs ys : List A) (passes : Bool) → f (change x) ≡ f x → map f ys ≡ map f xs
    → map f (if passes then change x ∷ xs else x ∷ ys) ≡ f x ∷ map f xs
same_if f change x xs ys true left rest = ap (λ c. c ∷ map f xs) left
same_if f change x xs ys false left rest = ap (λ cs. f x ∷ cs) rest

same_changed : {A C : Type 0} (f : A → C) (passes : A → Bool) (change : A → A) (xs : List A) → ((x : A) → f (change x) ≡ f x) → map f (first_changed passes change xs) ≡ map f xs
same_changed f passes change [] left = refl
same_changed f passes change (x ∷ xs) left = same_if f change x xs (first_changed passes change xs) (passes x) (left x) (same_changed f passes change xs left)

length_if : {A : Type 0} (change : A → A) (x : A) (xs ys : List A) (passes : Bool) → length ys ≡ length xs → length (if passes then change x ∷ xs else x ∷ ys) ≡ suc (length xs)
length_if change x xs ys true long = refl
length_if change x xs ys false long = ap (λ n. suc n) long

length_changed : {A : Type 0} (passes : A → Bool) (change : A → A) (xs : List A) → length (first_changed passes change xs) ≡ length xs
length_changed passes change [] = refl
length_changed passes change (x ∷ xs) = length_if change x xs (first_changed passes change xs) (passes x) (length_changed passes change xs)

each_if : {A : Type 0} (P : A → Type 0) (change : A → A) (x : A) (xs ys : List A) (passes : Bool) → P x → P (change x) → AllByRecursion P xs → AllByRecursion P ys
    → AllByRecursion P (if passes then change x ∷ xs else x ∷ ys)
each_if P change x xs ys true here new all rest = (new, all)
each_if P change x xs ys false here new all rest = (here, rest)

each_changed : {A : Type 0} (P : A → Type 0) (passes : A → Bool) (change : A → A) (xs : List A) → ((x : A) → P x → P (change x)) → AllByRecursion P xs → AllByRecursion P (first_changed passes change xs)
each_changed P passes change [] left all = tt
each_changed P passes change (x ∷ xs) left all =
    each_if P change x xs (first_changed passes change xs) (passes x) all.0 (left x all.0) all.1 (each_changed P passes change xs left all.1)

same_device : (key : Key) (bytes : List ℕ) (d : DeviceConfigOf) → IsDevice d → IsDevice (device_imaged key bytes d)
same_device key bytes d h = record {
  eid = h.eid;
  few = subst (λ n. n ≤ 3) (sym (length_changed (λ c. same_key c.component.key key) (λ c. record c { image = bytes }) d.components)) h.few;
  new = subst (AreNew []) (sym (same_changed (λ c. c.component.key) (λ c. same_key c.component.key key) (λ c. record c { image = bytes }) d.components (λ c. refl))) h.new;
}

one_imaged : (agent : ℕ) (image : ImageFileOf) (bytes : List ℕ) (ds : List DeviceConfigOf) → AreWhole agent ds → AreWhole agent (devices_imaged image bytes ds)
one_imaged agent image bytes ds w =
    let passes : DeviceConfigOf → Bool = λ d. d.endpoint.eid == image.eid in
    let change : DeviceConfigOf → DeviceConfigOf = device_imaged image.key bytes in
    record {
      agent_eid = w.agent_eid;
      some = subst (λ n. 1 ≤ n) (sym (length_changed passes change ds)) w.some;
      few = subst (λ n. n ≤ 16) (sym (length_changed passes change ds)) w.few;
      each = each_changed IsDevice passes change ds (λ d h. same_device image.key bytes d h) w.each;
      apart = subst (λ es. AreDifferent (agent ∷ es)) (sym (same_changed (λ d. d.endpoint.eid) passes change ds (λ d. refl))) w.apart;
    }

-- a whole configuration is whole with the images of files
pub whole_imaged : (files : List ℕ → FileOf) (agent : ℕ) (images : List ImageFileOf) (xs ys : List DeviceConfigOf) → HaveImages files images xs ys → AreWhole agent xs → AreWhole agent ys
whole_imaged files agent [] xs ys h w = subst (AreWhole agent) (sym h) w
whole_imaged files agent (image ∷ images) xs ys h w = whole_imaged files agent images (devices_imaged image h.bytes xs) ys h.holds (one_imaged agent image h.bytes xs w)
