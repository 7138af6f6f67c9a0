-- The reading of a history after one more entry.
use Rattle.std.specs.Prelude.{◌≡◌, List, [], ◌∷◌, ◌++◌, map, Some}
use Rattle.std.proofs.Common.{refl, sym, ap, ◌∙◌, append_assoc, append-nil}
use Rattle.fd_core.specs.Images.{KeyedImage}
use Rattle.ua_core.specs.declared.planned.Recorded.{Recorded}
use Rattle.fw_message.specs.Headline.{ActivationOf, EntryOf, Reading, activations, and_current, applied_since, nothing_read, read_along, read_entry, recorded_in, image_or_replacement, running_after}
use Rattle.fw_message.specs.Pairs.{history_with}

-- the records since the last activation
unfoldable pub since : List EntryOf → List Recorded
since es = (read_along nothing_read es).since

pub read_push : (r : Reading) (es : List EntryOf) (x : EntryOf) → read_along r (es ++ x ∷ []) ≡ read_entry (read_along r es) x
unfolding read_along
read_push r [] x = refl
read_push r (e ∷ es) x = read_push (read_entry r e) es x

pub since_applied : (es : List EntryOf) (p : KeyedImage) → since (es ++ EntryOf.Applied p ∷ []) ≡ since es
unfolding since
since_applied es p = ap (λ r. r.since) (read_push nothing_read es (EntryOf.Applied p))

pub since_recorded : (es : List EntryOf) (r : Recorded) → since (es ++ EntryOf.Recording r ∷ []) ≡ since es ++ r ∷ []
unfolding since
since_recorded es r = ap (λ r. r.since) (read_push nothing_read es (EntryOf.Recording r))

-- activations
current_ended : (r : Reading) (p : KeyedImage)
    → and_current (read_entry r (EntryOf.Applied p)).ended (read_entry r (EntryOf.Applied p)).current ≡ and_current r.ended r.current
current_ended r p = refl

pub activations_applied : (es : List EntryOf) (p : KeyedImage) → activations (es ++ EntryOf.Applied p ∷ []) ≡ activations es
activations_applied es p = rw (read_push nothing_read es (EntryOf.Applied p)) refl

pub activations_recorded : (es : List EntryOf) (r : Recorded) → activations (es ++ EntryOf.Recording r ∷ []) ≡ activations es
activations_recorded es r = rw (read_push nothing_read es (EntryOf.Recording r)) refl

-- records
pub in_applied : (es : List EntryOf) (p : KeyedImage) → recorded_in (es ++ EntryOf.Applied p ∷ []) ≡ recorded_in es
in_applied [] p = refl
in_applied (EntryOf.Applied x ∷ es) p = in_applied es p
in_applied (EntryOf.Recording x ∷ es) p = ap (λ rs. x ∷ rs) (in_applied es p)
in_applied (EntryOf.Activated x ∷ es) p = in_applied es p

pub in_activated : (es : List EntryOf) (p : KeyedImage) → recorded_in (es ++ EntryOf.Activated p ∷ []) ≡ recorded_in es
in_activated [] p = refl
in_activated (EntryOf.Applied x ∷ es) p = in_activated es p
in_activated (EntryOf.Recording x ∷ es) p = ap (λ rs. x ∷ rs) (in_activated es p)
in_activated (EntryOf.Activated x ∷ es) p = in_activated es p

pub in_recorded : (es : List EntryOf) (r : Recorded) → recorded_in (es ++ EntryOf.Recording r ∷ []) ≡ recorded_in es ++ r ∷ []
in_recorded [] r = refl
in_recorded (EntryOf.Applied x ∷ es) r = in_recorded es r
in_recorded (EntryOf.Recording x ∷ es) r = ap (λ rs. x ∷ rs) (in_recorded es r)
in_recorded (EntryOf.Activated x ∷ es) r = in_recorded es r

-- images that run
pub after_applied : (runs : List KeyedImage) (es : List EntryOf) (p : KeyedImage)
    → running_after runs (es ++ EntryOf.Applied p ∷ []) ≡ running_after runs es
after_applied runs [] p = refl
after_applied runs (EntryOf.Applied x ∷ es) p = after_applied runs es p
after_applied runs (EntryOf.Recording x ∷ es) p = after_applied runs es p
after_applied runs (EntryOf.Activated x ∷ es) p = after_applied (map (image_or_replacement x) runs) es p

pub after_recorded : (runs : List KeyedImage) (es : List EntryOf) (r : Recorded)
    → running_after runs (es ++ EntryOf.Recording r ∷ []) ≡ running_after runs es
after_recorded runs [] r = refl
after_recorded runs (EntryOf.Applied x ∷ es) r = after_recorded runs es r
after_recorded runs (EntryOf.Recording x ∷ es) r = after_recorded runs es r
after_recorded runs (EntryOf.Activated x ∷ es) r = after_recorded (map (image_or_replacement x) runs) es r

after_activated : (runs : List KeyedImage) (es : List EntryOf) (p : KeyedImage)
    → running_after runs (es ++ EntryOf.Activated p ∷ []) ≡ map (image_or_replacement p) (running_after runs es)
after_activated runs [] p = refl
after_activated runs (EntryOf.Applied x ∷ es) p = after_activated runs es p
after_activated runs (EntryOf.Recording x ∷ es) p = after_activated runs es p
after_activated runs (EntryOf.Activated x ∷ es) p = after_activated (map (image_or_replacement x) runs) es p

-- the applied images
pub since_push_applied : (ps : List KeyedImage) (es : List EntryOf) (p : KeyedImage)
    → applied_since ps (es ++ EntryOf.Applied p ∷ []) ≡ applied_since ps es ++ p ∷ []
since_push_applied ps [] p = refl
since_push_applied ps (EntryOf.Applied x ∷ es) p = since_push_applied (ps ++ x ∷ []) es p
since_push_applied ps (EntryOf.Recording x ∷ es) p = since_push_applied ps es p
since_push_applied ps (EntryOf.Activated x ∷ es) p = since_push_applied [] es p

pub since_push_recorded : (ps : List KeyedImage) (es : List EntryOf) (r : Recorded)
    → applied_since ps (es ++ EntryOf.Recording r ∷ []) ≡ applied_since ps es
since_push_recorded ps [] r = refl
since_push_recorded ps (EntryOf.Applied x ∷ es) r = since_push_recorded (ps ++ x ∷ []) es r
since_push_recorded ps (EntryOf.Recording x ∷ es) r = since_push_recorded ps es r
since_push_recorded ps (EntryOf.Activated x ∷ es) r = since_push_recorded [] es r

-- an image replaces one of those that run, and so do several
abbrev pub through : List KeyedImage → KeyedImage → KeyedImage
through [] q = q
through (p ∷ ps) q = through ps (image_or_replacement p q)

map_through : (p : KeyedImage) (ps runs : List KeyedImage) → map (through ps) (map (image_or_replacement p) runs) ≡ map (through (p ∷ ps)) runs
map_through p ps [] = refl
map_through p ps (q ∷ runs) = ap (λ xs. through ps (image_or_replacement p q) ∷ xs) (map_through p ps runs)

map_none : (runs : List KeyedImage) → map (through []) runs ≡ runs
map_none [] = refl
map_none (q ∷ runs) = ap (λ xs. q ∷ xs) (map_none runs)

pub after_all : (ps runs : List KeyedImage) (es : List EntryOf)
    → running_after runs (history_with es (map EntryOf.Activated ps)) ≡ map (through ps) (running_after runs es)
after_all [] runs es = sym (map_none (running_after runs es))
after_all (p ∷ ps) runs es =
    after_all ps runs (es ++ EntryOf.Activated p ∷ []) ∙ (rw (after_activated runs es p) (map_through p ps (running_after runs es)))

pub in_all : (ps : List KeyedImage) (es : List EntryOf) → recorded_in (history_with es (map EntryOf.Activated ps)) ≡ recorded_in es
in_all [] es = refl
in_all (p ∷ ps) es = in_all ps (es ++ EntryOf.Activated p ∷ []) ∙ in_activated es p

-- images join the current activation
abbrev pub activating : List ActivationOf → List Recorded → List KeyedImage → Reading
activating ended before images = record { ended = ended; current = Some (record { before = before; images = images }); since = [] }

pub read_joined : (ps : List KeyedImage) (es : List EntryOf) (ended : List ActivationOf) (before : List Recorded) (images : List KeyedImage)
    → read_along nothing_read es ≡ activating ended before images
    → read_along nothing_read (history_with es (map EntryOf.Activated ps)) ≡ activating ended before (images ++ ps)
read_joined [] es ended before images e = e ∙ ap (activating ended before) (sym (append-nil images))
read_joined (p ∷ ps) es ended before images e =
    read_joined ps (es ++ EntryOf.Activated p ∷ []) ended before (images ++ p ∷ []) (read_push nothing_read es (EntryOf.Activated p) ∙ ap (λ r. read_entry r (EntryOf.Activated p)) e)
    ∙ ap (activating ended before) (append_assoc images (p ∷ []) ps)
