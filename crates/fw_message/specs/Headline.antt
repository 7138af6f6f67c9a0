-- THE HEADLINE: what is promised of the images that devices activate and of the components that an
-- agent records as applied. It is `HeadlineHolds`, at the end. It relates what a world shows at its
-- opening to what it shows at any later moment: its packages, and of each device the descriptors,
-- the components with their images, the agent's records and the history. The law `PacketsAreSafe`
-- (`fw_steps`, `Promises`) says that it holds in every world that steps lead to. `Opening` and
-- `Steps` of that crate say which worlds are openings, and which steps there are.
--
-- Assumed, and not proved:
-- - Storage: a device's storage keeps the contract of `Bank` (`fd_core`): a call of it may fail,
--   and a failure is counted. The running images, the records and the packages survive a restart.
-- - Network: it may lose a packet, deliver it several times, after later ones, and to any node; but
--   only unaltered, and at most 8 units of time after it was sent.
-- - Senders: only the agent and its devices send.
-- - Time: of any nine units of time in a row, a node counts at least eight as its ticks.
--
-- This page included, it rests on 59 definitions, 191 lines in 7 files, without the standard
-- library's. To be read first, in this order, with the lines that it needs of each:
-- 1. `crates/fw_package/specs/Package.antt`, 26 lines: `PackageText`, an update package.
-- 2. `crates/fw_package/specs/Choice.antt`, 28 lines: `image_for`, the image that it names.
-- 3. `crates/fwup_wire/src/values.rt`, 4 lines: `Key`, which names a component of a device.
-- 4. `crates/fd_core/specs/Images.antt`, 16 lines: `RowOf`, a component's two images.
-- 5. `crates/ua_core/src/planned.rt`, 4 lines: `Recorded`, a record of the agent.
-- 6. `crates/ua_core/specs/Lent.antt`, 7 lines: `package_at`, the package with a number.
use Rattle.std.specs.Prelude.{ℕ, ◌≡◌, ◌≤◌, ◌⊎◌, ◌+◌, ◌&&◌, Bool, nat_eq, if◌then◌else◌, List, [], ◌∷◌, ◌++◌, map, take, All, Contains, Option, Some, None, IfSome, IsSomeAnd}
use Rattle.std.specs.Cmp.Lexicographic.{pointwise}
use Rattle.fw_package.specs.Choice.{component_at, image_for, record_at, record_number}
use Rattle.fw_package.specs.Package.{DescriptorOf, PackageText}
use Rattle.fwup_wire.specs.declared.values.Key.{Key}
use Rattle.fd_core.specs.Images.{KeyedImage, RowOf, same_key}
use Rattle.ua_core.specs.Lent.{key_of, package_at}
use Rattle.ua_core.specs.declared.planned.Recorded.{Recorded}

-- WHAT A WORLD SHOWS

-- An entry of a history: the device applies an image for a component, the agent records a component
-- of a package as applied, or the device activates an image.
pub data EntryOf : Type 0 where
  Applied : (p : KeyedImage) → EntryOf
  Recording : (r : Recorded) → EntryOf
  Activated : (p : KeyedImage) → EntryOf

-- A device: its descriptors, its components with the image that runs and the one that is applied,
-- the agent's records of it, and the entries of its history.
pub record ShownDevice : Type 0 where
  pub descriptors : List DescriptorOf
  pub components : List RowOf
  pub records : List Recorded
  pub entries : List EntryOf

-- A world: its packages, and its devices by their endpoint identifiers.
pub record Shown : Type 0 where
  pub packages : List PackageText
  pub device : ℕ → Option ShownDevice

-- THE ACTIVATIONS OF A HISTORY

-- One activation: its images in order, and the records that were made before its first image, since
-- the last image of the activation before it.
pub record ActivationOf : Type 0 where
  pub before : List Recorded
  pub images : List KeyedImage

-- The state of reading a history: the activations that have ended, the current one, which lasts
-- while nothing is applied, and the records since the last activated image.
pub record Reading : Type 0 where
  pub ended : List ActivationOf
  pub current : Option ActivationOf
  pub since : List Recorded

abbrev pub nothing_read : Reading
nothing_read = record { ended = []; current = None; since = [] }

abbrev pub and_current : List ActivationOf → Option ActivationOf → List ActivationOf
and_current ended None = ended
and_current ended (Some a) = ended ++ a ∷ []

-- an image joins the current activation, or begins one
abbrev pub joined_by : Option ActivationOf → List Recorded → KeyedImage → ActivationOf
joined_by None since p = record { before = since; images = p ∷ [] }
joined_by (Some a) since p = record { before = a.before; images = a.images ++ p ∷ [] }

abbrev pub read_entry : Reading → EntryOf → Reading
read_entry r (EntryOf.Applied p) = record { ended = and_current r.ended r.current; current = None; since = r.since }
read_entry r (EntryOf.Recording x) = record r { since = r.since ++ x ∷ [] }
read_entry r (EntryOf.Activated p) = record { ended = r.ended; current = Some (joined_by r.current r.since p); since = [] }

unfoldable pub read_along : Reading → List EntryOf → Reading
read_along r [] = r
read_along r (e ∷ es) = read_along (read_entry r e) es

abbrev pub activations_read : Reading → List ActivationOf
activations_read r = and_current r.ended r.current

-- The activations of a device: the longest runs of activated images between which nothing is
-- applied.
abbrev pub activations : List EntryOf → List ActivationOf
activations es = activations_read (read_along nothing_read es)

-- A SAFE HISTORY

-- the record is of a component of this package, with this key
abbrev pub IsRecording : List PackageText → ℕ → Key → Recorded → Type 0
IsRecording packages number key r =
    (r.«package» ≡ number) × (key_of (component_at (package_at packages number) r.component) ≡ key)

-- one of these records is of this package and key
abbrev pub HasRecording : List PackageText → ℕ → Key → List Recorded → Type 0
HasRecording packages number key [] = ⊥
HasRecording packages number key (r ∷ rs) = IsRecording packages number key r ⊎ HasRecording packages number key rs

-- The image has exactly the bytes that the package names for the device and key, and was recorded.
pub record IsFrom (packages : List PackageText) (device : List DescriptorOf) (before : List Recorded) (number : ℕ) (p : KeyedImage) : Type 0 where
  pub named : image_for (package_at packages number) device p.key.classification p.key.identifier ≡ Some p.bytes
  pub recorded : HasRecording packages number p.key before

-- All images of an activation are from one package.
abbrev pub IsOfOnePackage : List PackageText → List DescriptorOf → ActivationOf → Type 0
IsOfOnePackage packages device a = (number : ℕ) × All (IsFrom packages device a.before number) a.images

-- The component is one of the record that its package has for the device.
abbrev pub IsNamedComponent : List PackageText → List DescriptorOf → Recorded → Type 0
IsNamedComponent packages device r =
    IsSomeAnd (record_number (package_at packages r.«package») device)
    (λ n. Contains (record_at (package_at packages r.«package») n).uses r.component)

-- the records of a history, in order
abbrev pub recorded_in : List EntryOf → List Recorded
recorded_in [] = []
recorded_in (EntryOf.Applied p ∷ es) = recorded_in es
recorded_in (EntryOf.Recording r ∷ es) = r ∷ recorded_in es
recorded_in (EntryOf.Activated p ∷ es) = recorded_in es

-- two images with the same key and the same bytes
abbrev pub same_image : Key → List ℕ → Key → List ℕ → Bool
same_image key bytes k b = same_key key k && pointwise nat_eq bytes b

abbrev pub one_if : Bool → ℕ
one_if b = if b then 1 else 0

-- the number of times that the device applied these bytes for this key
unfoldable pub applied_count : Key → List ℕ → List EntryOf → ℕ
applied_count key bytes [] = 0
applied_count key bytes (EntryOf.Applied p ∷ es) = one_if (same_image key bytes p.key p.bytes) + applied_count key bytes es
applied_count key bytes (EntryOf.Recording r ∷ es) = applied_count key bytes es
applied_count key bytes (EntryOf.Activated p ∷ es) = applied_count key bytes es

-- whether this record is of a component with this key and these bytes
abbrev pub records_image : List PackageText → Key → List ℕ → Recorded → Bool
records_image packages key bytes r =
    same_image key bytes (key_of (component_at (package_at packages r.«package») r.component))
    (component_at (package_at packages r.«package») r.component).image

-- the number of times that a component with this key and these bytes was recorded
unfoldable pub recorded_count : List PackageText → Key → List ℕ → List EntryOf → ℕ
recorded_count packages key bytes [] = 0
recorded_count packages key bytes (EntryOf.Applied p ∷ es) = recorded_count packages key bytes es
recorded_count packages key bytes (EntryOf.Recording r ∷ es) = one_if (records_image packages key bytes r) + recorded_count packages key bytes es
recorded_count packages key bytes (EntryOf.Activated p ∷ es) = recorded_count packages key bytes es

-- A safe history of a device: for each activation there is one package such that each image of the
-- activation is the one that this package names for the device and its key, recorded since the
-- activation before it; each record is of a component that its package names for the device; and at
-- no moment were any key and bytes recorded more often than applied.
pub record IsSafe (packages : List PackageText) (device : List DescriptorOf) (es : List EntryOf) : Type 0 where
  pub activated : All (IsOfOnePackage packages device) (activations es)
  pub named : All (IsNamedComponent packages device) (recorded_in es)
  pub applied : (n : ℕ) (key : Key) (bytes : List ℕ) → recorded_count packages key bytes (take n es) ≤ applied_count key bytes (take n es)

-- A TIED HISTORY

-- the image that runs
abbrev pub running_image : RowOf → KeyedImage
running_image row = record { key = row.key; bytes = row.active.bytes }

-- an image replaces the one under its key
abbrev pub image_or_replacement : KeyedImage → KeyedImage → KeyedImage
image_or_replacement p q = if same_key q.key p.key then record { key = q.key; bytes = p.bytes } else q

-- the running images after a history, from those before it
abbrev pub running_after : List KeyedImage → List EntryOf → List KeyedImage
running_after runs [] = runs
running_after runs (EntryOf.Applied p ∷ es) = running_after runs es
running_after runs (EntryOf.Recording r ∷ es) = running_after runs es
running_after runs (EntryOf.Activated p ∷ es) = running_after (map (image_or_replacement p) runs) es

-- the images applied since the last activation
abbrev pub applied_since : List KeyedImage → List EntryOf → List KeyedImage
applied_since ps [] = ps
applied_since ps (EntryOf.Applied p ∷ es) = applied_since (ps ++ p ∷ []) es
applied_since ps (EntryOf.Recording r ∷ es) = applied_since ps es
applied_since ps (EntryOf.Activated p ∷ es) = applied_since [] es

-- a component's applied image was applied since the last activation
abbrev pub WasApplied : List EntryOf → RowOf → Type 0
WasApplied es row = IfSome row.applied (λ image. Contains (applied_since [] es) (record { key = row.key; bytes = image.bytes }))

-- A tied history: the running images are the first ones, replaced by all activated images; each
-- applied image was applied since the last activation; and the agent's records are its records.
pub record IsTied (first rows : List RowOf) (made : List Recorded) (es : List EntryOf) : Type 0 where
  pub active : map running_image rows ≡ running_after (map running_image first) es
  pub applied : All (WasApplied es) rows
  pub records : made ≡ recorded_in es

-- THE SENTENCE

-- A device at a later moment, and at the opening: its history is safe, and tied with the components
-- of then and now and with the agent's records.
pub record IsSafeAndTied (packages : List PackageText) (first later : ShownDevice) : Type 0 where
  pub safe : IsSafe packages first.descriptors later.entries
  pub tied : IsTied first.components later.components later.records later.entries

-- The headline: each device that the opening shows is shown still, with a history that is safe and
-- tied.
abbrev pub HeadlineHolds : (opening later : Shown) → Type 0
HeadlineHolds opening later = (eid : ℕ) → IfSome (opening.device eid)
    (λ first. IsSomeAnd (later.device eid) (IsSafeAndTied opening.packages first))
