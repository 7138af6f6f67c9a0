-- The histories by hand, judged.
use Rattle.std.specs.Prelude.{ℕ, ◌≡◌, ◌≤◌, ◌∷◌, [], All, Contains, List, None, Option, Some, take}
use Rattle.std.proofs.Common.{ap, refl, sym, subst, arith, inl, zero, suc}
use Rattle.std.proofs.lemmas.List.Elements.{All-nil, All-cons, All-head, All-tail}
use Rattle.fw_package.specs.Choice.{image_for}
use Rattle.fw_package.specs.Package.{DescriptorOf}
use Rattle.fwup_wire.specs.declared.values.Key.{Key}
use Rattle.fd_core.specs.Images.{ImageOf, KeyedImage}
use Rattle.ua_core.specs.Lent.{package_at}
use Rattle.ua_core.specs.declared.planned.Recorded.{Recorded}
use Rattle.fw_message.specs.Headline.{ActivationOf, EntryOf, HeadlineHolds, IsFrom, IsNamedComponent, IsOfOnePackage, WasApplied, activations, applied_count, read_along, recorded_count}
use Rattle.fw_message.specs.Cases.{HeadlineRefuses, HistoriesAreJudged, SafeRefuses, TiedAccepts, TiedRefuses, activates, applies, at_opening, when_updated, bank, board, boot, fabric, image, is_safe, is_tied, new_boot, new_fabric, old_boot, packages, keyed_image, recorded_component, records, worked_update}

-- THE WORKED UPDATE

-- for any key and bytes, no more is recorded than applied
counted : (n : ℕ) (key : Key) (bytes : List ℕ) → recorded_count packages key bytes (take n worked_update) ≤ applied_count key bytes (take n worked_update)
unfolding recorded_count applied_count
counted zero key bytes = omega arith
counted (suc zero) key bytes = omega arith
counted (suc (suc zero)) key bytes = omega arith
counted (suc (suc (suc zero))) key bytes = omega arith
counted (suc (suc (suc (suc n)))) key bytes = omega arith

-- a prefix of a prefix of a list is a prefix of the list
shorter : (n m : ℕ) (es : List EntryOf) → (k : ℕ) × (take n (take m es) ≡ take k es)
shorter zero m es = (0, refl)
shorter (suc n) zero es = (0, refl)
shorter (suc n) (suc m) [] = (0, refl)
shorter (suc n) (suc m) (e ∷ es) = (suc (shorter n m es).0, ap (λ (rest : List EntryOf). e ∷ rest) (shorter n m es).1)

counts : (m : ℕ) (n : ℕ) (key : Key) (bytes : List ℕ)
    → recorded_count packages key bytes (take n (take m worked_update)) ≤ applied_count key bytes (take n (take m worked_update))
counts m n key bytes =
    subst (λ (es : List EntryOf). recorded_count packages key bytes es ≤ applied_count key bytes es) (sym (shorter n m worked_update).1)
    (counted (shorter n m worked_update).0 key bytes)

named : IsNamedComponent packages board (recorded_component 1 0)
named = (0, omega arith, refl)

from_package : IsFrom packages board (recorded_component 1 0 ∷ []) 1 (keyed_image boot new_boot)
from_package = record { named = refl; recorded = inl (refl, refl) }

none_named : All (IsNamedComponent packages board) []
none_named = All-nil _

one_named : All (IsNamedComponent packages board) (recorded_component 1 0 ∷ [])
one_named = All-cons (IsNamedComponent packages board) (recorded_component 1 0) [] named none_named

none_activated : All (IsOfOnePackage packages board) []
none_activated = All-nil _

activation : IsOfOnePackage packages board (record { before = recorded_component 1 0 ∷ []; images = keyed_image boot new_boot ∷ [] })
activation = (1, All-cons (IsFrom packages board (recorded_component 1 0 ∷ []) 1) (keyed_image boot new_boot) [] from_package (All-nil _))

one_activated : All (IsOfOnePackage packages board) (activations worked_update)
unfolding read_along
one_activated = All-cons (IsOfOnePackage packages board) (record { before = recorded_component 1 0 ∷ []; images = keyed_image boot new_boot ∷ [] }) [] activation none_activated

safe : (n : ℕ) → is_safe (take n worked_update)
unfolding read_along
safe zero = record { activated = none_activated; named = none_named; applied = counts 0 }
safe (suc zero) = record { activated = none_activated; named = none_named; applied = counts 1 }
safe (suc (suc zero)) = record { activated = none_activated; named = one_named; applied = counts 2 }
safe (suc (suc (suc zero))) = record { activated = one_activated; named = one_named; applied = counts 3 }
safe (suc (suc (suc (suc n)))) = record { activated = one_activated; named = one_named; applied = counts (suc (suc (suc (suc n)))) }

-- HISTORIES THAT AREN'T SAFE

-- the first activation of a device's history, and its first image
pub first_image : (device : List DescriptorOf) (p : KeyedImage) (ps : List KeyedImage) (before : List Recorded) (rest : List ActivationOf)
    → All (IsOfOnePackage packages device) (record { before = before; images = p ∷ ps } ∷ rest) → (n : ℕ) × IsFrom packages device before n p
first_image device p ps before rest h =
    let one : IsOfOnePackage packages device (record { before = before; images = p ∷ ps }) = All-head (IsOfOnePackage packages device) (record { before = before; images = p ∷ ps }) rest h in
    (one.0, All-head (IsFrom packages device before one.0) p ps one.1)

-- only the first package names an image of this component, and `new_boot` is that image
boot_named : (n : ℕ) (bytes : List ℕ) → image_for (package_at packages n) board 10 1 ≡ Some bytes → (n ≡ 1) × (new_boot ≡ bytes)
boot_named zero bytes e = absurd (cc)
boot_named (suc zero) bytes e = (refl, cc)
boot_named (suc (suc zero)) bytes e = absurd (cc)
boot_named (suc (suc (suc n))) bytes e = absurd (cc)

unrecorded : is_safe (applies boot new_boot ∷ activates boot new_boot ∷ []) → ⊥
unfolding read_along
unrecorded h = (first_image board (keyed_image boot new_boot) [] [] [] h.activated).1.recorded

recorded_before : is_safe (applies boot new_boot ∷ records 1 0 ∷ activates boot new_boot ∷ applies boot new_boot ∷ activates boot new_boot ∷ []) → ⊥
unfolding read_along
recorded_before h =
    let second = All-tail (IsOfOnePackage packages board) (record { before = recorded_component 1 0 ∷ []; images = keyed_image boot new_boot ∷ [] }) (record { before = []; images = keyed_image boot new_boot ∷ [] } ∷ []) h.activated in
    (first_image board (keyed_image boot new_boot) [] [] [] second).1.recorded

other_bytes : is_safe (applies boot (7 ∷ []) ∷ applies boot new_boot ∷ records 1 0 ∷ activates boot (7 ∷ []) ∷ []) → ⊥
unfolding read_along
other_bytes h =
    let from = first_image board (keyed_image boot (7 ∷ [])) [] (recorded_component 1 0 ∷ []) [] h.activated in
    let same = (boot_named from.0 (7 ∷ []) from.1.named).1 in
    absurd (cc)

-- the first package names no image of the other component
fabric_unnamed : (n : ℕ) → n ≡ 1 → image_for (package_at packages n) board 10 2 ≡ Some new_fabric → ⊥
fabric_unnamed zero first e = absurd (cc)
fabric_unnamed (suc zero) first e = absurd (cc)
fabric_unnamed (suc (suc n)) first e = absurd (cc)

two_packages : is_safe (applies boot new_boot ∷ applies fabric new_fabric ∷ records 1 0 ∷ records 2 0 ∷ activates boot new_boot ∷ activates fabric new_fabric ∷ []) → ⊥
unfolding read_along
two_packages h =
    let before : List Recorded = recorded_component 1 0 ∷ recorded_component 2 0 ∷ [] in
    let both : List KeyedImage = keyed_image boot new_boot ∷ keyed_image fabric new_fabric ∷ [] in
    let one : IsOfOnePackage packages board (record { before = before; images = both }) = All-head (IsOfOnePackage packages board) (record { before = before; images = both }) [] h.activated in
    let head = All-head (IsFrom packages board before one.0) (keyed_image boot new_boot) (keyed_image fabric new_fabric ∷ []) one.1 in
    let rest = All-tail (IsFrom packages board before one.0) (keyed_image boot new_boot) (keyed_image fabric new_fabric ∷ []) one.1 in
    let next = All-head (IsFrom packages board before one.0) (keyed_image fabric new_fabric) [] rest in
    fabric_unnamed one.0 (boot_named one.0 new_boot head.named).0 next.named

twice : is_safe (applies boot new_boot ∷ records 1 0 ∷ records 1 0 ∷ []) → ⊥
unfolding recorded_count applied_count
twice h = absurd (omega (arith, h.applied 3 boot new_boot))

too_soon : is_safe (records 1 0 ∷ applies boot new_boot ∷ []) → ⊥
unfolding recorded_count applied_count
too_soon h = absurd (omega (arith, h.applied 1 boot new_boot))

not_used : Contains {X = ℕ} (0 ∷ []) 1 → ⊥
not_used (zero, lt, e) = absurd (cc)
not_used (suc k, lt, e) = absurd (omega (arith, lt))

unnamed : is_safe (applies fabric new_fabric ∷ records 1 1 ∷ []) → ⊥
unnamed h = not_used (All-head (IsNamedComponent packages board) (recorded_component 1 1) [] h.named)

no_package : is_safe (applies boot new_boot ∷ records 3 0 ∷ []) → ⊥
no_package h = All-head (IsNamedComponent packages board) (recorded_component 3 0) [] h.named

refuses : SafeRefuses
refuses =
    record {
      unrecorded = unrecorded;
      recorded_before = recorded_before;
      other_bytes = other_bytes;
      two_packages = two_packages;
      twice = twice;
      too_soon = too_soon;
      unnamed = unnamed;
      no_package = no_package;
    }

-- HISTORIES THAT ARE TIED, AND THAT AREN'T

-- the applied image of the one component was applied
applied_here : (es : List EntryOf) (active : List ℕ) (applied : Option ImageOf)
    → WasApplied es (record { key = boot; active = image active; applied = applied }) → All (WasApplied es) (bank active applied)
applied_here es active applied h = All-cons (WasApplied es) (record { key = boot; active = image active; applied = applied }) [] h (All-nil _)

pub accepts : TiedAccepts
accepts =
    record {
      at_first = record { active = refl; applied = applied_here [] old_boot None _; records = refl };
      when_applied = record { active = refl; applied = applied_here (take 1 worked_update) old_boot (Some (image new_boot)) (0, omega arith, refl); records = refl };
      when_recorded = record { active = refl; applied = applied_here (take 2 worked_update) old_boot (Some (image new_boot)) (0, omega arith, refl); records = refl };
      when_activated = record { active = refl; applied = applied_here worked_update new_boot None _; records = refl };
    }

-- the bytes of the first running image
abbrev first_bytes : List KeyedImage → List ℕ
first_bytes [] = []
first_bytes (p ∷ ps) = p.bytes

pub wrong_bytes : keyed_image boot old_boot ∷ [] ≡ keyed_image boot new_boot ∷ [] → ⊥
wrong_bytes e = let bytes : old_boot ≡ new_boot = ap first_bytes e in absurd (cc)

old_runs : is_tied (bank old_boot None) (recorded_component 1 0 ∷ []) worked_update → ⊥
old_runs h = wrong_bytes h.active

runs_too_soon : is_tied (bank new_boot None) (recorded_component 1 0 ∷ []) (take 2 worked_update) → ⊥
runs_too_soon h = wrong_bytes (sym h.active)

not_since : {p : KeyedImage} → Contains [] p → ⊥
not_since (k, lt, e) = absurd (omega (arith, lt))

pub applied_before : is_tied (bank new_boot (Some (image new_boot))) (recorded_component 1 0 ∷ []) worked_update → ⊥
applied_before h = not_since (All-head (WasApplied worked_update) (record { key = boot; active = image new_boot; applied = Some (image new_boot) }) [] h.applied)

not_applied : Contains (keyed_image boot new_boot ∷ []) (keyed_image boot (7 ∷ [])) → ⊥
not_applied (zero, lt, e) = let bytes : new_boot ≡ 7 ∷ [] = ap (λ (p : KeyedImage). p.bytes) e in absurd (cc)
not_applied (suc k, lt, e) = absurd (omega (arith, lt))

other_applied : is_tied (bank old_boot (Some (image (7 ∷ [])))) [] (take 1 worked_update) → ⊥
other_applied h = not_applied (All-head (WasApplied (take 1 worked_update)) (record { key = boot; active = image old_boot; applied = Some (image (7 ∷ [])) }) [] h.applied)

not_made : is_tied (bank old_boot (Some (image new_boot))) (recorded_component 1 0 ∷ []) (take 1 worked_update) → ⊥
not_made h = let e = h.records in absurd (cc)

not_there : is_tied (bank new_boot None) [] worked_update → ⊥
not_there h = let e = h.records in absurd (cc)

tied_refuses : TiedRefuses
tied_refuses =
    record {
      old_runs = old_runs;
      runs_too_soon = runs_too_soon;
      applied_before = applied_before;
      other_applied = other_applied;
      not_made = not_made;
      not_there = not_there;
    }

-- THE HEADLINE OF TWO WORLDS

holds : HeadlineHolds at_opening when_updated
holds zero = record { safe = safe 3; tied = accepts.when_activated }
holds (suc eid) = tt

headline_refuses : HeadlineRefuses
headline_refuses =
    record {
      gone = λ h. h 0;
      unsafe = λ h. unrecorded (h 0).safe;
      untied = λ h. old_runs (h 0).tied;
      no_packages = λ h. All-head (IsNamedComponent [] board) (recorded_component 1 0) [] (h 0).safe.named;
    }

pub histories_are_judged : HistoriesAreJudged
histories_are_judged = record { safe = safe; unsafe = refuses; tied = accepts; untied = tied_refuses; holds = holds; fails = headline_refuses }
