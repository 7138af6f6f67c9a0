-- A history that grows stays safe, and tied with the device and the records.
use Rattle.std.specs.Prelude.{ℕ, ◌≡◌, List, [], ◌∷◌, ◌++◌, map, All, Contains, Option, Some, None, IfSome, Bool, true, false}
use Rattle.std.proofs.Common.{refl, sym, ap, ◌∙◌, subst}
use Rattle.std.proofs.lemmas.List.Elements.{All-nil, All-cons, All-head, All-tail, All-push, Contains-push, Contains-append_left}
use Rattle.fw_package.specs.Package.{DescriptorOf, PackageText}
use Rattle.fwup_wire.specs.declared.values.Key.{Key}
use Rattle.fd_core.specs.Images.{ImageOf, KeyedImage, RowOf, rows_after_drop, applied_keyed_images, same_key, rows_after_seal, sealed_if, rows_after_switch, row_after_switch, row_after_switch_to, row_without_applied}
use Rattle.ua_core.specs.Lent.{key_of}
use Rattle.ua_core.specs.declared.planned.Recorded.{Recorded}
use Rattle.fw_message.specs.Headline.{ActivationOf, EntryOf, IsFrom, IsNamedComponent, IsOfOnePackage, IsSafe, IsTied, WasApplied, activations, activations_read, and_current, applied_since, joined_by, nothing_read, read_along, recorded_in, running_image}
use Rattle.fw_message.specs.Pairs.{history_with}
use Rattle.fw_message.proofs.Safety.Applied.{Backed, NoneApplied, none_dropped, none_switched, put_of, puts_from, puts_none}
use Rattle.fw_message.proofs.Safety.Counts.{Balanced, IsPending, balanced_more, balanced_never, never_activated, never_applied, never_recorded, recorded_component}
use Rattle.fw_message.proofs.Safety.Readings.{activating, activations_applied, activations_recorded, after_all, after_applied, after_recorded, in_all, in_applied, in_recorded, read_joined, read_push, since, since_push_applied, since_push_recorded, through}
use Rattle.fwup_wire.proofs.SameCommands.{key_means}
use Rattle.fw_message.proofs.Safety.Turns.{HasOne, drop_runs, one_dropped, one_sealed, one_switched, seal_runs, switch_turns}

-- during an activation, nothing is applied
abbrev pub IsEnded : Option ActivationOf → List RowOf → Type 0
IsEnded None rows = Unit {0}
IsEnded (Some a) rows = NoneApplied rows

unfoldable pub current_of : List EntryOf → Option ActivationOf
current_of es = (read_along nothing_read es).current

-- A history of a device with these rows, and of an agent with these records.
pub record IsHistory (ps : List PackageText) (ds : List DescriptorOf) (first rows : List RowOf) (made : List Recorded) (es : List EntryOf) : Type 0 where
  pub safe : IsSafe ps ds es
  pub tied : IsTied first rows made es
  pub one : HasOne rows
  pub ended : IsEnded (current_of es) rows

current_applied : (es : List EntryOf) (p : KeyedImage) → current_of (es ++ EntryOf.Applied p ∷ []) ≡ None
unfolding current_of
current_applied es p = ap (λ r. r.current) (read_push nothing_read es (EntryOf.Applied p))

current_recorded : (es : List EntryOf) (r : Recorded) → current_of (es ++ EntryOf.Recording r ∷ []) ≡ current_of es
unfolding current_of
current_recorded es r = ap (λ x. x.current) (read_push nothing_read es (EntryOf.Recording r))

all_map : {A : Type 0} (P Q : A → Type 0) (f : A → A) (xs : List A) → ((x : A) → P x → Q (f x)) → All P xs → All Q (map f xs)
all_map P Q f [] each all = All-nil Q
all_map P Q f (x ∷ xs) each all = All-cons Q (f x) (map f xs) (each x (All-head P x xs all)) (all_map P Q f xs each (All-tail P x xs all))

all_each : {A : Type 0} (P Q : A → Type 0) (xs : List A) → ((x : A) → P x → Q x) → All P xs → All Q xs
all_each P Q xs each all k d lt = each _ (all k d lt)

-- an image is applied
pub safe_applied : (ps : List PackageText) (ds : List DescriptorOf) (es : List EntryOf) (p : KeyedImage) → IsSafe ps ds es
    → IsSafe ps ds (es ++ EntryOf.Applied p ∷ [])
safe_applied ps ds es p h = record {
  activated = rw (activations_applied es p) h.activated;
  named = rw (in_applied es p) h.named;
  applied = balanced_more ps es (EntryOf.Applied p) h.applied (never_applied ps es p (balanced_never ps es h.applied));
}

was_more : (es : List EntryOf) (p : KeyedImage) (row : RowOf) (o : Option ImageOf)
    → IfSome o (λ image. Contains (applied_since [] es) (put_of row.key image))
    → IfSome o (λ image. Contains (applied_since [] es ++ p ∷ []) (put_of row.key image))
was_more es p row None h = h
was_more es p row (Some image) h = Contains-append_left (applied_since [] es) (p ∷ []) (put_of row.key image) h

was_sealed : (es : List EntryOf) (key : Key) (image : ImageOf) (row : RowOf) → WasApplied es row
    → WasApplied (es ++ EntryOf.Applied (put_of key image) ∷ []) (sealed_if (same_key row.key key) row image)
was_sealed es key image row h = rw (since_push_applied [] es (put_of key image)) (at_row (same_key row.key key) refl)
  where
    at_row : (t : Bool) → same_key row.key key ≡ t
        → IfSome (sealed_if t row image).applied (λ i. Contains (applied_since [] es ++ put_of key image ∷ []) (put_of (sealed_if t row image).key i))
    at_row true e =
        let same : row.key ≡ key = key_means row.key key e in
        let P : Key → Type 0 = λ k. Contains (applied_since [] es ++ put_of key image ∷ []) (put_of k image) in
        let here : P key = Contains-push (applied_since [] es) (put_of key image) in
        subst P (sym same) here
    at_row false e = was_more es (put_of key image) row row.applied h

pub history_applied : (ps : List PackageText) (ds : List DescriptorOf) (first rows : List RowOf) (made : List Recorded) (es : List EntryOf) (key : Key) (image : ImageOf)
    → IsHistory ps ds first rows made es
    → IsHistory ps ds first (rows_after_seal rows key image) made (es ++ EntryOf.Applied (put_of key image) ∷ [])
history_applied ps ds first rows made es key image h = record {
  safe = safe_applied ps ds es (put_of key image) h.safe;
  tied = record {
    active = seal_runs rows key image ∙ h.tied.active ∙ sym (after_applied (map running_image first) es (put_of key image));
    applied = all_map (WasApplied es) (WasApplied (es ++ EntryOf.Applied (put_of key image) ∷ [])) (λ row. sealed_if (same_key row.key key) row image) rows (was_sealed es key image) h.tied.applied;
    records = h.tied.records ∙ sym (in_applied es (put_of key image));
  };
  one = one_sealed rows key image h.one;
  ended = rw (current_applied es (put_of key image)) tt;
}

-- a component is recorded
safe_recorded : (ps : List PackageText) (ds : List DescriptorOf) (es : List EntryOf) (r : Recorded) → IsNamedComponent ps ds r
    → IsPending ps (key_of (recorded_component ps r)) (recorded_component ps r).image es → IsSafe ps ds es
    → IsSafe ps ds (es ++ EntryOf.Recording r ∷ [])
safe_recorded ps ds es r named pending h = record {
  activated = rw (activations_recorded es r) h.activated;
  named = rw (in_recorded es r) (All-push (IsNamedComponent ps ds) (recorded_in es) r h.named named);
  applied = balanced_more ps es (EntryOf.Recording r) h.applied (never_recorded ps es r pending (balanced_never ps es h.applied));
}

was_recorded : (es : List EntryOf) (r : Recorded) (row : RowOf) → WasApplied es row → WasApplied (es ++ EntryOf.Recording r ∷ []) row
was_recorded es r row h = rw (since_push_recorded [] es r) h

pub history_recorded : (ps : List PackageText) (ds : List DescriptorOf) (first rows : List RowOf) (made : List Recorded) (es : List EntryOf) (r : Recorded)
    → IsNamedComponent ps ds r
    → IsPending ps (key_of (recorded_component ps r)) (recorded_component ps r).image es
    → IsHistory ps ds first rows made es → IsHistory ps ds first rows (made ++ r ∷ []) (es ++ EntryOf.Recording r ∷ [])
history_recorded ps ds first rows made es r named pending h = record {
  safe = safe_recorded ps ds es r named pending h.safe;
  tied = record {
    active = h.tied.active ∙ sym (after_recorded (map running_image first) es r);
    applied = all_each (WasApplied es) (WasApplied (es ++ EntryOf.Recording r ∷ [])) rows (was_recorded es r) h.tied.applied;
    records = ap (λ rs. rs ++ r ∷ []) h.tied.records ∙ sym (in_recorded es r);
  };
  one = h.one;
  ended = rw (current_recorded es r) h.ended;
}

-- the applied images are dropped
was_dropped : (es : List EntryOf) (row : RowOf) → WasApplied es row → WasApplied es (row_without_applied row)
was_dropped es row h = tt

ended_dropped : (o : Option ActivationOf) (rows : List RowOf) → IsEnded o (rows_after_drop rows)
ended_dropped None rows = tt
ended_dropped (Some a) rows = none_dropped rows

pub history_dropped : (ps : List PackageText) (ds : List DescriptorOf) (first rows : List RowOf) (made : List Recorded) (es : List EntryOf)
    → IsHistory ps ds first rows made es → IsHistory ps ds first (rows_after_drop rows) made es
history_dropped ps ds first rows made es h = record {
  safe = h.safe;
  tied = record {
    active = drop_runs rows ∙ h.tied.active;
    applied = all_map (WasApplied es) (WasApplied es) row_without_applied rows (was_dropped es) h.tied.applied;
    records = h.tied.records;
  };
  one = one_dropped rows;
  ended = ended_dropped (current_of es) rows;
}

-- the applied images are activated
balanced_all : (ps : List PackageText) (qs : List KeyedImage) (es : List EntryOf) → Balanced ps es
    → Balanced ps (history_with es (map EntryOf.Activated qs))
balanced_all ps [] es h = h
balanced_all ps (q ∷ qs) es h =
    balanced_all ps qs (es ++ EntryOf.Activated q ∷ []) (balanced_more ps es (EntryOf.Activated q) h (never_activated ps es q (balanced_never ps es h)))

-- an activation begins
read_begun : (es : List EntryOf) (q : KeyedImage) → current_of es ≡ None
    → read_along nothing_read (es ++ EntryOf.Activated q ∷ []) ≡ activating (read_along nothing_read es).ended (since es) (q ∷ [])
unfolding current_of since
read_begun es q e =
    let r = read_along nothing_read es in
    read_push nothing_read es (EntryOf.Activated q) ∙ ap (λ o. record { ended = r.ended; current = Some (joined_by o r.since q); since = [] }) e

activations_none : (es : List EntryOf) → current_of es ≡ None → activations es ≡ (read_along nothing_read es).ended
unfolding current_of
activations_none es e = ap (and_current (read_along nothing_read es).ended) e

activations_begun : (es : List EntryOf) (q : KeyedImage) (qs : List KeyedImage) → current_of es ≡ None
    → activations (history_with es (map EntryOf.Activated (q ∷ qs))) ≡ activations es ++ record { before = since es; images = q ∷ qs } ∷ []
activations_begun es q qs e =
    ap activations_read (read_joined qs (es ++ EntryOf.Activated q ∷ []) (read_along nothing_read es).ended (since es) (q ∷ []) (read_begun es q e))
    ∙ ap (λ all. all ++ record { before = since es; images = q ∷ qs } ∷ []) (sym (activations_none es e))

safe_activated : (ps : List PackageText) (ds : List DescriptorOf) (n : ℕ) (rows : List RowOf) (es : List EntryOf) (o : Option ActivationOf) (qs : List KeyedImage)
    → current_of es ≡ o → IsEnded o rows → applied_keyed_images rows ≡ qs → All (IsFrom ps ds (since es) n) qs → IsSafe ps ds es
    → IsSafe ps ds (history_with es (map EntryOf.Activated qs))
safe_activated ps ds n rows es o [] c e p all h = h
safe_activated ps ds n rows es (Some a) (q ∷ qs) c e p all h = absurd (let none : applied_keyed_images rows ≡ [] = puts_none rows e in cc)
safe_activated ps ds n rows es None (q ∷ qs) c e p all h = record {
  activated = rw (activations_begun es q qs c) (All-push (IsOfOnePackage ps ds) (activations es) (record { before = since es; images = q ∷ qs }) h.activated (n, all));
  named = rw (in_all (q ∷ qs) es) h.named;
  applied = balanced_all ps (q ∷ qs) es h.applied;
}

ended_switched : (o : Option ActivationOf) (rows : List RowOf) → IsEnded o (rows_after_switch rows)
ended_switched None rows = tt
ended_switched (Some a) rows = none_switched rows

was_turned : (es : List EntryOf) (r : RowOf) (o : Option ImageOf) → r.applied ≡ o → WasApplied es (row_after_switch_to r o)
was_turned es r None e = rw e tt
was_turned es r (Some image) e = tt

all_turned : (es : List EntryOf) (rows : List RowOf) → All (WasApplied es) (rows_after_switch rows)
all_turned es [] = All-nil (WasApplied es)
all_turned es (r ∷ rows) = All-cons (WasApplied es) (row_after_switch r) (rows_after_switch rows) (was_turned es r r.applied refl) (all_turned es rows)

pub history_activated : (ps : List PackageText) (ds : List DescriptorOf) (n : ℕ) (first rows : List RowOf) (made : List Recorded) (es : List EntryOf)
    → Backed ps ds n (since es) rows → IsHistory ps ds first rows made es
    → IsHistory ps ds first (rows_after_switch rows) made (history_with es (map EntryOf.Activated (applied_keyed_images rows)))
history_activated ps ds n first rows made es b h = record {
  safe = safe_activated ps ds n rows es (current_of es) (applied_keyed_images rows) refl h.ended refl (puts_from ps ds n (since es) rows b) h.safe;
  tied = record {
    active = switch_turns rows h.one ∙ ap (map (through (applied_keyed_images rows))) h.tied.active ∙ sym (after_all (applied_keyed_images rows) (map running_image first) es);
    applied = all_turned (history_with es (map EntryOf.Activated (applied_keyed_images rows))) rows;
    records = h.tied.records ∙ sym (in_all (applied_keyed_images rows) es);
  };
  one = one_switched rows;
  ended = ended_switched (current_of (history_with es (map EntryOf.Activated (applied_keyed_images rows)))) rows;
}
