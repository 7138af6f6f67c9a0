-- The checker's answer is whether a world is clean.
use Rattle.std.proofs.Common.{◌≡◌, ◌⊎◌, ◌==◌, ◌&&◌, ◌||◌, ◌++◌, ℕ, nat_eq, Bool, true, false, List, [], ◌∷◌, Option, Some, None, inl, inr, refl, sym, ap, subst}
use Rattle.std.specs.Cmp.Lexicographic.{pointwise}
use Rattle.std.specs.List.{AllByRecursion, list_all}
use Rattle.std.specs.Prelude.{IsSomeAnd, option_map}
use Rattle.std.proofs.lemmas.Bool.{and_parts, eq-eqb, eqb-true}
use Rattle.fw_package.specs.Choice.{image_for}
use Rattle.fw_package.specs.Package.{DescriptorOf, PackageText}
use Rattle.fwup_wire.proofs.SameCommands.{bytes_means, bytes_self}
use Rattle.fd_core.specs.Images.{ImageOf, KeyedImage, active_of, row_of, same_key}
use Rattle.fw_node.specs.Nodes.{DeviceNodeOf}
use Rattle.fw_message.specs.Headline.{EntryOf, same_image}
use Rattle.fw_message.specs.Worlds.{NotedOf}
use Rattle.fw_script.specs.Configs.{DeviceConfigOf}
use Rattle.fw_steps.specs.Worlds.{SiteOf, WorldOf, site_for}
use Rattle.fw_soak.specs.Checking.{applies, are_right, has_applied, is_clean, is_named_for, is_right, is_running, runs_it, runs_them, runs_what_it_may}
use Rattle.fw_soak.specs.Checks.{AreLawfulEntries, HasApplied, IsClean, IsNamedImage, IsNamedFor, IsLawfulEntry, RunsImage, RunsImages, RunsAllowedImages, device_for, recorded_image, runs_after}
use Rattle.fw_soak.specs.Naming.{is_image, is_named}

or_parts : (a b : Bool) → (a || b) ≡ true → (a ≡ true) ⊎ (b ≡ true)
or_parts true b h = inl refl
or_parts false b h = inr h

or_first : (a b : Bool) → a ≡ true → (a || b) ≡ true
or_first true b h = refl
or_first false b h = absurd (cc)

or_second : (a b : Bool) → b ≡ true → (a || b) ≡ true
or_second true b h = refl
or_second false b h = h

and_both : (a b : Bool) → a ≡ true → b ≡ true → (a && b) ≡ true
and_both a b h k = rw (h, k) refl

-- the same of each element of a list
all_sound : {A : Type 0} (p : A → Bool) (P : A → Type 0) → ((x : A) → p x ≡ true → P x) → (xs : List A) → list_all p xs ≡ true → AllByRecursion P xs
all_sound p P h [] e = tt
all_sound p P h (x ∷ xs) e = let parts = and_parts (p x) (list_all p xs) e in (h x parts.0, all_sound p P h xs parts.1)

all_complete : {A : Type 0} (p : A → Bool) (P : A → Type 0) → ((x : A) → P x → p x ≡ true) → (xs : List A) → AllByRecursion P xs → list_all p xs ≡ true
all_complete p P h [] e = refl
all_complete p P h (x ∷ xs) e = and_both (p x) (list_all p xs) (h x e.0) (all_complete p P h xs e.1)

-- an image that a package names
image_sound : (o : Option (List ℕ)) (bytes : List ℕ) → is_image o bytes ≡ true → o ≡ Some bytes
image_sound None bytes e = absurd (cc)
image_sound (Some image) bytes e = ap (λ b. Some b) (bytes_means image bytes e)

image_complete : (o : Option (List ℕ)) (bytes : List ℕ) → o ≡ Some bytes → is_image o bytes ≡ true
image_complete o bytes e = rw e (bytes_self bytes)

named_sound : (ps : List PackageText) (device : List DescriptorOf) (p : KeyedImage) → is_named ps device p ≡ true → IsNamedImage ps device p
named_sound [] device p e = absurd (cc)
named_sound (x ∷ xs) device p e =
    elim (or_parts (is_image (image_for x device p.key.classification p.key.identifier) p.bytes) (is_named xs device p) e)
    [ inl here ↦ inl (image_sound (image_for x device p.key.classification p.key.identifier) p.bytes here) | inr there ↦ inr (named_sound xs device p there) ]

named_complete : (ps : List PackageText) (device : List DescriptorOf) (p : KeyedImage) → IsNamedImage ps device p → is_named ps device p ≡ true
named_complete [] device p h = absurd h
named_complete (x ∷ xs) device p (inl here) =
    or_first (is_image (image_for x device p.key.classification p.key.identifier) p.bytes) (is_named xs device p)
    (image_complete (image_for x device p.key.classification p.key.identifier) p.bytes here)
named_complete (x ∷ xs) device p (inr there) =
    or_second (is_image (image_for x device p.key.classification p.key.identifier) p.bytes) (is_named xs device p) (named_complete xs device p there)

named_for_sound : (ps : List PackageText) (p : KeyedImage) (d : Option DeviceConfigOf) → is_named_for ps p d ≡ true → IsSomeAnd d (IsNamedFor ps p)
named_for_sound ps p None e = absurd (cc)
named_for_sound ps p (Some d) e = named_sound ps _ p e

named_for_complete : (ps : List PackageText) (p : KeyedImage) (d : Option DeviceConfigOf) → IsSomeAnd d (IsNamedFor ps p) → is_named_for ps p d ≡ true
named_for_complete ps p None h = absurd h
named_for_complete ps p (Some d) h = named_complete ps _ p h

-- an image that was applied
put_means : (p q : KeyedImage) → same_image p.key p.bytes q.key q.bytes ≡ true → q ≡ p
put_means p q e =
    let parts = and_parts (same_key p.key q.key) (pointwise nat_eq p.bytes q.bytes) e in
    let keys = and_parts (p.key.classification == q.key.classification) (p.key.identifier == q.key.identifier) parts.0 in
    let a : q.key.classification ≡ p.key.classification = sym (eqb-true p.key.classification q.key.classification keys.0) in
    let b : q.key.identifier ≡ p.key.identifier = sym (eqb-true p.key.identifier q.key.identifier keys.1) in
    let c : q.bytes ≡ p.bytes = sym (bytes_means p.bytes q.bytes parts.1) in
    let P : KeyedImage → KeyedImage = λ x. x in
    let here : P (record { key = record { classification = q.key.classification; identifier = q.key.identifier }; bytes = q.bytes }) ≡ P (record { key = record { classification = p.key.classification; identifier = p.key.identifier }; bytes = p.bytes }) = rw (a, b, c) refl in
    here

put_self : (p : KeyedImage) → same_image p.key p.bytes p.key p.bytes ≡ true
put_self p =
    rw (eq-eqb p.key.classification p.key.classification refl, eq-eqb p.key.identifier p.key.identifier refl, bytes_self p.bytes) refl

applies_sound : (p : KeyedImage) (e : EntryOf) → applies p e ≡ true → e ≡ EntryOf.Applied p
applies_sound p (EntryOf.Applied q) h = ap (λ x. EntryOf.Applied x) (put_means p q h)
applies_sound p (EntryOf.Recording r) h = absurd (cc)
applies_sound p (EntryOf.Activated q) h = absurd (cc)

applied_sound : (xs : List NotedOf) (device : ℕ) (p : KeyedImage) → has_applied xs device p ≡ true → HasApplied xs device p
applied_sound [] device p e = absurd (cc)
applied_sound (x ∷ xs) device p e =
    elim (or_parts ((x.device == device) && applies p x.entry) (has_applied xs device p) e) [
      | inl here ↦
          (let parts = and_parts (x.device == device) (applies p x.entry) here in
          let a : x.device ≡ device = eqb-true x.device device parts.0 in
          let b : x.entry ≡ EntryOf.Applied p = applies_sound p x.entry parts.1 in
          let P : NotedOf → NotedOf = λ y. y in
          let both : P (record { device = x.device; entry = x.entry }) ≡ P (record { device = device; entry = EntryOf.Applied p }) = rw (a, b) refl in
          inl both)
      | inr there ↦ inr (applied_sound xs device p there)
    ]

applied_complete : (xs : List NotedOf) (device : ℕ) (p : KeyedImage) → HasApplied xs device p → has_applied xs device p ≡ true
applied_complete [] device p h = absurd h
applied_complete (x ∷ xs) device p (inl here) =
    or_first ((x.device == device) && applies p x.entry) (has_applied xs device p)
    (subst (λ (y : NotedOf). ((y.device == device) && applies p y.entry) ≡ true) (sym here) (and_both (device == device) (applies p (EntryOf.Applied p)) (eq-eqb device device refl) (put_self p)))
applied_complete (x ∷ xs) device p (inr there) = or_second ((x.device == device) && applies p x.entry) (has_applied xs device p) (applied_complete xs device p there)

-- a history
right_sound : (ps : List PackageText) (ds : List DeviceConfigOf) (before : List NotedOf) (device : ℕ) (e : EntryOf) → is_right ps ds before device e ≡ true → IsLawfulEntry ps ds before device e
right_sound ps ds before device (EntryOf.Applied p) h = tt
right_sound ps ds before device (EntryOf.Recording r) h = applied_sound before device (recorded_image ps r) h
right_sound ps ds before device (EntryOf.Activated p) h = named_for_sound ps p (device_for ds device) h

right_complete : (ps : List PackageText) (ds : List DeviceConfigOf) (before : List NotedOf) (device : ℕ) (e : EntryOf) → IsLawfulEntry ps ds before device e → is_right ps ds before device e ≡ true
right_complete ps ds before device (EntryOf.Applied p) h = refl
right_complete ps ds before device (EntryOf.Recording r) h = applied_complete before device (recorded_image ps r) h
right_complete ps ds before device (EntryOf.Activated p) h = named_for_complete ps p (device_for ds device) h

pub rights_sound : (ps : List PackageText) (ds : List DeviceConfigOf) (before xs : List NotedOf) → are_right ps ds before xs ≡ true → AreLawfulEntries ps ds before xs
rights_sound ps ds before [] h = tt
rights_sound ps ds before (x ∷ xs) h =
    let parts = and_parts (is_right ps ds before x.device x.entry) (are_right ps ds (before ++ x ∷ []) xs) h in
    (right_sound ps ds before x.device x.entry parts.0, rights_sound ps ds (before ++ x ∷ []) xs parts.1)

pub rights_complete : (ps : List PackageText) (ds : List DeviceConfigOf) (before xs : List NotedOf) → AreLawfulEntries ps ds before xs → are_right ps ds before xs ≡ true
rights_complete ps ds before [] h = refl
rights_complete ps ds before (x ∷ xs) h =
    and_both (is_right ps ds before x.device x.entry) (are_right ps ds (before ++ x ∷ []) xs) (right_complete ps ds before x.device x.entry h.0)
    (rights_complete ps ds (before ++ x ∷ []) xs h.1)

-- a bank
running_sound : (o : Option ImageOf) (bytes : List ℕ) → is_running o bytes ≡ true → IsSomeAnd o (λ i. i.bytes ≡ bytes)
running_sound None bytes h = absurd (cc)
running_sound (Some i) bytes h = bytes_means i.bytes bytes h

running_complete : (o : Option ImageOf) (bytes : List ℕ) → IsSomeAnd o (λ i. i.bytes ≡ bytes) → is_running o bytes ≡ true
running_complete None bytes h = absurd h
running_complete (Some i) bytes h = rw h (bytes_self bytes)

them_sound : (history : List NotedOf) (d : DeviceConfigOf) (o : Option SiteOf) → runs_them history d o ≡ true → IsSomeAnd o (RunsImages history d)
them_sound history d None h = absurd (cc)
them_sound history d (Some x) h =
    all_sound (runs_it history d.endpoint.eid x.node.half.core.device.rows) (RunsImage history d.endpoint.eid x.node.half.core.device.rows)
    (λ c e. running_sound (active_of (row_of x.node.half.core.device.rows c.component.key)) (runs_after history d.endpoint.eid c.component.key c.image) e) d.components h

them_complete : (history : List NotedOf) (d : DeviceConfigOf) (o : Option SiteOf) → IsSomeAnd o (RunsImages history d) → runs_them history d o ≡ true
them_complete history d None h = absurd h
them_complete history d (Some x) h =
    all_complete (runs_it history d.endpoint.eid x.node.half.core.device.rows) (RunsImage history d.endpoint.eid x.node.half.core.device.rows)
    (λ c e. running_complete (active_of (row_of x.node.half.core.device.rows c.component.key)) (runs_after history d.endpoint.eid c.component.key c.image) e) d.components h

-- the device exists
pub runs_there : (history : List NotedOf) (d : DeviceConfigOf) (o : Option SiteOf) (node : DeviceNodeOf) → option_map (λ x. x.node) o ≡ Some node
    → runs_them history d o ≡ list_all (runs_it history d.endpoint.eid node.half.core.device.rows) d.components
runs_there history d None node e = absurd (cc)
runs_there history d (Some x) node e =
    let same : x.node ≡ node = cc in
    ap (λ n. list_all (runs_it history d.endpoint.eid n.half.core.device.rows) d.components) same

-- a world
pub clean_sound : (ps : List PackageText) (ds : List DeviceConfigOf) (w : WorldOf) → is_clean ps ds w ≡ true → IsClean ps ds w
clean_sound ps ds w h =
    let parts = and_parts (are_right ps ds [] w.history) (list_all (runs_what_it_may w) ds) h in
    record {
      history = rights_sound ps ds [] w.history parts.0;
      banks = all_sound (runs_what_it_may w) (RunsAllowedImages w) (λ d e. them_sound w.history d (site_for w.sites d.endpoint.eid) e) ds parts.1;
    }

pub clean_complete : (ps : List PackageText) (ds : List DeviceConfigOf) (w : WorldOf) → IsClean ps ds w → is_clean ps ds w ≡ true
clean_complete ps ds w h =
    and_both (are_right ps ds [] w.history) (list_all (runs_what_it_may w) ds) (rights_complete ps ds [] w.history h.history)
    (all_complete (runs_what_it_may w) (RunsAllowedImages w) (λ d e. them_complete w.history d (site_for w.sites d.endpoint.eid) e) ds h.banks)

pub ruleset checked = (clean_sound, clean_complete, rights_sound, rights_complete)
