-- The chosen devices of a configuration.
use Rattle.std.proofs.Common.{◌≡◌, ◌≢◌, ◌≤◌, ◌<◌, ◌+◌, ◌∷◌, ◌∙◌, ◌==◌, [], All, Bool, ℕ, List, Option, Some, ap, arith, cond, false, inl, inr, length, map, refl, subst, suc, sym, true, true≢false}
use Rattle.std.specs.List.{AllByRecursion, filter}
use Rattle.std.proofs.lemmas.Bool.{cases_lt, eq-eqb, eqb-true}
use Rattle.std.proofs.lemmas.List.Elements.{All-cons, All-head, All-tail}
use Rattle.fw_script.specs.Configs.{DeviceConfigOf}
use Rattle.fw_script.specs.Seen.{device_of}
use Rattle.fw_script.specs.Whole.{AreWhole, IsDevice, eids_of}
use Rattle.fw_script.specs.declared.config.DeviceConfig.{DeviceConfig}
use Rattle.fw_steps.specs.Opening.{AreDifferent}
use Rattle.fwupd_base.specs.DeviceSets.{has_eid}
use Rattle.fwupd_base.specs.declared.device_set.DeviceSet.{DeviceSet}
use Rattle.fwupd_nodes.specs.Setups.{AreChosen, AreConfigured, chosen_in, has_device}

-- one more of the members below a number
pub below_more : (P : ℕ → Type 0) (n : ℕ) → ((other : ℕ) → other < n → P other) → P n → (other : ℕ) → other < n + 1 → P other
below_more P n less at other lt = elim (cases_lt other n) [
  | inl below ↦ less other below
  | inr above ↦
      let same : n ≡ other = omega (arith, lt, above) in
      subst P same at
]

-- the devices of the configuration and of its definition are kept alike
kept_alike : (set : DeviceSet) (ds : List DeviceConfig) → map device_of (filter (λ d. has_eid set d.endpoint.eid) ds) ≡ chosen_in (Some set) (map device_of ds)
kept_alike set [] = refl
kept_alike set (d ∷ ds) = go (has_eid set d.endpoint.eid) (kept_alike set ds)
  where
    go : (b : Bool) → map device_of (filter (λ d. has_eid set d.endpoint.eid) ds) ≡ chosen_in (Some set) (map device_of ds)
        → map device_of (cond b (d ∷ filter (λ d. has_eid set d.endpoint.eid) ds) (filter (λ d. has_eid set d.endpoint.eid) ds))
        ≡ cond b (device_of d ∷ chosen_in (Some set) (map device_of ds)) (chosen_in (Some set) (map device_of ds))
    go true same = ap (λ xs. device_of d ∷ xs) same
    go false same = same

-- a set of which a member is that of a device keeps a device
some_kept : (set : DeviceSet) (eid : ℕ) (xs : List DeviceConfigOf) → has_eid set eid ≡ true → has_device xs eid ≡ true → 1 ≤ length (chosen_in (Some set) xs)
some_kept set eid [] has there = absurd (true≢false (sym there))
some_kept set eid (x ∷ xs) has there = go (has_eid set x.endpoint.eid) refl (x.endpoint.eid == eid) refl there (some_kept set eid xs has)
  where
    go : (b : Bool) → has_eid set x.endpoint.eid ≡ b → (same : Bool) → (x.endpoint.eid == eid) ≡ same → has_device (x ∷ xs) eid ≡ true → (has_device xs eid ≡ true → 1 ≤ length (chosen_in (Some set) xs))
        → 1 ≤ length (cond b (x ∷ chosen_in (Some set) xs) (chosen_in (Some set) xs))
    go true is same same_is there later = omega arith
    go false is false same_is there later = later (rw same_is at there)
    go false is true same_is there later =
        let eids : x.endpoint.eid ≡ eid = eqb-true x.endpoint.eid eid same_is in
        absurd (true≢false (sym has ∙ ap (has_eid set) (sym eids) ∙ is))

first_kept : (set : DeviceSet) (xs : List DeviceConfigOf) → AreConfigured (Some set) xs → 1 ≤ length (chosen_in (Some set) xs)
first_kept set xs there =
    let has : has_eid set set.first ≡ true = rw (eq-eqb set.first set.first refl) refl in
    some_kept set set.first xs has (there set.first set.fits has)

-- the kept devices of a whole configuration, if there is one, are whole
each_kept : (set : DeviceSet) (xs : List DeviceConfigOf) → AllByRecursion IsDevice xs → AllByRecursion IsDevice (chosen_in (Some set) xs)
each_kept set [] h = tt
each_kept set (x ∷ xs) h = go (has_eid set x.endpoint.eid) (each_kept set xs h.1)
  where
    go : (b : Bool) → AllByRecursion IsDevice (chosen_in (Some set) xs) → AllByRecursion IsDevice (cond b (x ∷ chosen_in (Some set) xs) (chosen_in (Some set) xs))
    go true rest = (h.0, rest)
    go false rest = rest

few_kept : (set : DeviceSet) (xs : List DeviceConfigOf) → length (chosen_in (Some set) xs) ≤ length xs
few_kept set [] = omega arith
few_kept set (x ∷ xs) = go (has_eid set x.endpoint.eid) (few_kept set xs)
  where
    go : (b : Bool) → length (chosen_in (Some set) xs) ≤ length xs → length (cond b (x ∷ chosen_in (Some set) xs) (chosen_in (Some set) xs)) ≤ suc (length xs)
    go true rest = omega arith
    go false rest = omega arith

all_kept : (P : ℕ → Type 0) (set : DeviceSet) (xs : List DeviceConfigOf) → All P (eids_of xs) → All P (eids_of (chosen_in (Some set) xs))
all_kept P set [] h = h
all_kept P set (x ∷ xs) h = go (has_eid set x.endpoint.eid) (all_kept P set xs (All-tail P x.endpoint.eid (eids_of xs) h))
  where
    go : (b : Bool) → All P (eids_of (chosen_in (Some set) xs)) → All P (eids_of (cond b (x ∷ chosen_in (Some set) xs) (chosen_in (Some set) xs)))
    go true rest = All-cons P x.endpoint.eid (eids_of (chosen_in (Some set) xs)) (All-head P x.endpoint.eid (eids_of xs) h) rest
    go false rest = rest

apart_kept : (set : DeviceSet) (xs : List DeviceConfigOf) → AreDifferent (eids_of xs) → AreDifferent (eids_of (chosen_in (Some set) xs))
apart_kept set [] h = h
apart_kept set (x ∷ xs) h = go (has_eid set x.endpoint.eid) (apart_kept set xs h.1)
  where
    go : (b : Bool) → AreDifferent (eids_of (chosen_in (Some set) xs)) → AreDifferent (eids_of (cond b (x ∷ chosen_in (Some set) xs) (chosen_in (Some set) xs)))
    go true rest = (all_kept (λ y. x.endpoint.eid ≢ y) set xs h.0, rest)
    go false rest = rest

whole_kept : (set : DeviceSet) (agent : ℕ) (xs : List DeviceConfigOf) → 1 ≤ length (chosen_in (Some set) xs) → AreWhole agent xs → AreWhole agent (chosen_in (Some set) xs)
whole_kept set agent xs some h = record {
  agent_eid = h.agent_eid;
  some = some;
  few = let less = few_kept set xs in omega (arith, less, h.few);
  each = each_kept set xs h.each;
  apart = (all_kept (λ y. agent ≢ y) set xs h.apart.0, apart_kept set xs h.apart.1);
}

-- the devices that are kept are the chosen ones, and they are whole
chosen_kept : (set : DeviceSet) (old new : List DeviceConfig) → AreConfigured (Some set) (map device_of old) → new ≡ filter (λ d. has_eid set d.endpoint.eid) old
    → AreChosen (Some set) (map device_of old) (map device_of new)
chosen_kept set old new there is = record { there = there; are = ap (map device_of) is ∙ kept_alike set old }

whole_chosen : (set : DeviceSet) (old new : List DeviceConfig) → AreConfigured (Some set) (map device_of old) → new ≡ filter (λ d. has_eid set d.endpoint.eid) old
    → (agent : ℕ) → AreWhole agent (map device_of old) → AreWhole agent (map device_of new)
whole_chosen set old new there is agent h =
    subst (AreWhole agent) (sym (ap (map device_of) is ∙ kept_alike set old)) (whole_kept set agent (map device_of old) (first_kept set (map device_of old) there) h)

-- the same by a slice of the devices
pub chosen_by : (chosen : Option DeviceSet) (set : DeviceSet) (slice old new : List DeviceConfig) → chosen ≡ Some set → slice ≡ old → AreConfigured (Some set) (map device_of slice)
    → new ≡ filter (λ d. has_eid set d.endpoint.eid) old → AreChosen chosen (map device_of old) (map device_of new)
chosen_by chosen set slice old new some same there is =
    subst (λ o. AreChosen o (map device_of old) (map device_of new)) (sym some)
    (chosen_kept set old new (subst (λ ds. AreConfigured (Some set) (map device_of ds)) same there) is)

pub whole_chosen_by : (set : DeviceSet) (slice old new : List DeviceConfig) → slice ≡ old → AreConfigured (Some set) (map device_of slice)
    → new ≡ filter (λ d. has_eid set d.endpoint.eid) old → (agent : ℕ) → AreWhole agent (map device_of old) → AreWhole agent (map device_of new)
whole_chosen_by set slice old new same there is = whole_chosen set old new (subst (λ ds. AreConfigured (Some set) (map device_of ds)) same there) is
