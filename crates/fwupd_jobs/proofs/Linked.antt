-- Links to the devices of a world, and the first that has failed.
use Rattle.std.proofs.Common.{◌≡◌, ◌≤◌, ◌⊎◌, ◌+◌, ◌++◌, ◌∙◌, ℕ, zero, suc, List, [], ◌∷◌, Some, Bool, true, inl, inr, arith, ◌<◌, get_or, length, map, refl, sym, ap, subst, take}
use Rattle.std.specs.Prelude.{Option, option_map, slice_get}
use Rattle.std.specs.List.{AllByRecursion}
use Rattle.std.proofs.Math.Seq.{take-length}
use Rattle.std.proofs.lemmas.Option.{slice_get-get_or, slice_get-map}
use Rattle.fw_edge.specs.Ledgers.{OneFailed}
use Rattle.fw_edge.specs.Links.{CountsOne}
use Rattle.fw_node.specs.Nodes.{DeviceNodeOf}
use Rattle.fw_steps.specs.Worlds.{SiteOf, WorldOf}
use Rattle.mctp_wire.specs.declared.unit.Unit.{«Unit»}
use Rattle.fwupd_jobs.specs.Updated.{HaveLinks, IsLost, IsUnlinked, NamesLost, TellsLost}
use Rattle.fwupd_watch.proofs.Started.{node_there, take_next}
use Rattle.fwupd_watch.specs.Running.{IsCaused, HasObserverFault, ObserverOf}
use Rattle.fwupd_watch.specs.declared.faults.JobFault.{JobFault}
use Rattle.fwupd_watch.specs.declared.faults.JobFault.TheVariants as told

-- a device to which no link can be opened
pub unlinked_at : (w : WorldOf) (lacks : ℕ → Bool) (place device : ℕ) (n : DeviceNodeOf) (fault : JobFault) → option_map (λ x. x.node) (slice_get w.sites place) ≡ Some n → device ≡ n.endpoint.eid
    → (fault ≡ told.Memory) ⊎ ((fault ≡ told.Socket device) × (lacks device ≡ true)) → (fault ≡ told.Memory) ⊎ IsUnlinked w lacks fault
unlinked_at w lacks place device n fault at is (inl e) = inl e
unlinked_at w lacks place device n fault at is (inr h) =
    let there = node_there (slice_get w.sites place) n at in
    let own : device ≡ there.0.node.endpoint.eid = is ∙ ap (λ m. m.endpoint.eid) (sym there.2) in
    inr (record { place = place; site = there.0; at = there.1; is = h.0 ∙ ap (λ d. told.Socket d) own; lacking = subst (λ d. lacks d ≡ true) own h.1 })

-- one more link, that of the device at its place
linked_append : {L : Type 0} (IsTo : «Unit» → ℕ → L → Type 0) (xs : List SiteOf) (links : List L) (x : SiteOf) (link : L) → IsTo x.node.half.unit x.node.endpoint.eid link → HaveLinks IsTo xs links
    → HaveLinks IsTo (xs ++ x ∷ []) (links ++ link ∷ [])
linked_append IsTo [] [] x link own h = (own, tt)
linked_append IsTo [] (l ∷ links) x link own h = absurd h
linked_append IsTo (y ∷ xs) [] x link own h = absurd h
linked_append IsTo (y ∷ xs) (l ∷ links) x link own h = (h.0, linked_append IsTo xs links x link own h.1)

pub linked_next : {L : Type 0} (IsTo : «Unit» → ℕ → L → Type 0) (sites : List SiteOf) (links longer : List L) (link : L) (place device : ℕ) (unit : «Unit») (n : DeviceNodeOf)
    → option_map (λ x. x.node) (slice_get sites place) ≡ Some n → unit ≡ n.half.unit → device ≡ n.endpoint.eid → IsTo unit device link → longer ≡ links ++ link ∷ []
    → HaveLinks IsTo (take place sites) links → HaveLinks IsTo (take (place + 1) sites) longer
linked_next IsTo sites links longer link place device unit n at is_unit is own all h =
    let there = node_there (slice_get sites place) n at in
    let its : IsTo there.0.node.half.unit there.0.node.endpoint.eid link =
    subst (λ m. IsTo m.half.unit m.endpoint.eid link) (sym there.2) (subst (λ d. IsTo n.half.unit d link) is (subst (λ u. IsTo u device link) is_unit own)) in
    let next : suc place ≡ place + 1 = omega arith in
    subst (λ ls. HaveLinks IsTo (take (place + 1) sites) ls) (sym all)
    (subst (λ k. HaveLinks IsTo (take k sites) (links ++ link ∷ [])) next
    (subst (λ xs. HaveLinks IsTo xs (links ++ link ∷ [])) (sym (take_next sites place there.0 there.1)) (linked_append IsTo (take place sites) links there.0 link its h)))

pub linked_all : {L : Type 0} (IsTo : «Unit» → ℕ → L → Type 0) (sites : List SiteOf) (links : List L) (place : ℕ) → place ≡ length sites → HaveLinks IsTo (take place sites) links → HaveLinks IsTo sites links
linked_all IsTo sites links place all h = subst (λ xs. HaveLinks IsTo xs links) (ap (λ n. take n sites) all ∙ take-length sites) h

some_failures : (count : ℕ) → 0 < count → (n : ℕ) × (count ≡ suc n)
some_failures zero more = absurd (omega arith)
some_failures (suc n) more = (n, refl)

-- the device at the place of a link that has failed
pub lost_at : {A : Type 0} (w : WorldOf) (failures : A → ℕ) (links : List A) (link : A) (place device count : ℕ) (n : DeviceNodeOf) → place < length links → link ≡ get_or links place link
    → count ≡ failures link → 0 < count → option_map (λ x. x.node) (slice_get w.sites place) ≡ Some n → device ≡ n.endpoint.eid
    → AllByRecursion (λ k. k ≡ 0) (take place (map failures links)) → IsLost w (map failures links) device
lost_at w failures links link place device count n lt is told more at named none =
    let there = node_there (slice_get w.sites place) n at in
    let some = some_failures count more in
    record {
      place = place;
      count = some.0;
      first = none;
      failed =
          slice_get-map failures links place ∙ ap (option_map failures) (slice_get-get_or links place link lt ∙ ap Some (sym is))
          ∙ ap Some (sym told ∙ some.1);
      site = there.0;
      at = there.1;
      is = named ∙ ap (λ m. m.endpoint.eid) (sym there.2);
    }

-- if no link has failed, none failed just now
rises_some : (o n : ℕ) → CountsOne o n → n ≡ 0 → ⊥
rises_some o n (inl more) none = absurd (omega (arith, none, more))
rises_some o n (inr last) none = absurd (let own = last.0 in let same = last.1 in omega (arith, none, own, same))

pub none_failed : (os ns : List ℕ) → AllByRecursion (λ n. n ≡ 0) ns → OneFailed os ns → ⊥
none_failed [] [] none h = h
none_failed [] (n ∷ ns) none h = h
none_failed (o ∷ os) [] none h = h
none_failed (o ∷ os) (n ∷ ns) none (inl h) = rises_some o n h.0 none.0
none_failed (o ∷ os) (n ∷ ns) none (inr h) = none_failed os ns none.1 h.1

-- the device of a link that has failed
pub names_lost : (w : WorldOf) (failures : List ℕ) (lost : Option ℕ) → TellsLost w failures lost → NamesLost w lost
names_lost w failures lost h = record { place = h.first.place; site = h.first.site; at = h.first.at; is = h.told ∙ ap Some h.first.is }

-- links of which none has failed, one after the other
pub none_all : (ns : List ℕ) (n : ℕ) → length ns ≤ n → AllByRecursion (λ k. k ≡ 0) (take n ns) → AllByRecursion (λ k. k ≡ 0) ns
none_all [] n all h = tt
none_all (k ∷ ks) zero all h = absurd (omega arith)
none_all (k ∷ ks) (suc n) all h = (h.0, none_all ks n (omega arith) h.1)

none_one : (ns : List ℕ) (n : ℕ) (k : ℕ) → slice_get ns n ≡ Some k → k ≡ 0 → AllByRecursion (λ k. k ≡ 0) (take n ns) → AllByRecursion (λ k. k ≡ 0) (take (suc n) ns)
none_one [] n k at none h = tt
none_one (m ∷ ms) zero k at none h = ((let same : Some m ≡ Some k = at in cc), tt)
none_one (m ∷ ms) (suc n) k at none h = (h.0, none_one ms n k at none h.1)

pub none_more : {A : Type 0} (failures : A → ℕ) (links : List A) (link : A) (place : ℕ) → place < length links → link ≡ get_or links place link → failures link ≡ 0
    → AllByRecursion (λ k. k ≡ 0) (take place (map failures links)) → AllByRecursion (λ k. k ≡ 0) (take (place + 1) (map failures links))
none_more failures links link place lt is none h =
    let next : suc place ≡ place + 1 = omega arith in
    subst (λ n. AllByRecursion (λ k. k ≡ 0) (take n (map failures links))) next
    (none_one (map failures links) place (failures link) (slice_get-map failures links place ∙ ap (option_map failures) (slice_get-get_or links place link lt ∙ ap Some (sym is))) none h)

-- the observer got a device if a link failed just now
pub lost_told : {A : Type 0} (failures : A → ℕ) (w : WorldOf) (olds news : List A) (lost : Option ℕ) → length news ≡ length w.sites → OneFailed (map failures olds) (map failures news)
    → (length news ≡ length w.sites → AllByRecursion (λ n. n ≡ 0) (map failures news) ⊎ TellsLost w (map failures news) lost) → TellsLost w (map failures news) lost
lost_told failures w olds news lost devices failed told = elim (told devices) [
  | inl none ↦ absurd (none_failed (map failures olds) (map failures news) none failed)
  | inr h ↦ h
]

-- that device doesn't change the cause of the run's fault
pub caused_still : (numbers : ℕ → ℕ) (w v : WorldOf) (fault : JobFault) (before now : ObserverOf) → now.fault ≡ before.fault → now.has_ended ≡ before.has_ended → IsCaused numbers w v fault before → IsCaused numbers w v fault now
caused_still numbers w v fault before now same ended h =
    record { broken = h.broken; stopped = h.stopped; unwritten = subst (HasObserverFault fault) (sym same) h.unwritten; begun = h.begun; let_end = ended ∙ h.let_end }
