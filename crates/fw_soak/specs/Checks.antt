-- The requirements of the checker. It knows the images of the packages and of the configuration,
-- and nothing of sessions, packets or time.
use Rattle.std.specs.Prelude.{ℕ, ◌≡◌, ◌⊎◌, ◌==◌, ◌++◌, Bool, true, if◌then◌else◌, IsSomeAnd, List, [], ◌∷◌, Option, Some, None, map}
use Rattle.std.specs.List.{AllByRecursion}
use Rattle.fw_package.specs.Choice.{component_at, image_for}
use Rattle.fw_package.specs.Package.{DescriptorOf, PackageText}
use Rattle.fwup_wire.specs.declared.values.Key.{Key}
use Rattle.fd_core.specs.Images.{KeyedImage, RowOf, active_of, row_of, same_key}
use Rattle.ua_core.specs.Lent.{key_of, package_at, package_descriptor}
use Rattle.ua_core.specs.declared.planned.Recorded.{Recorded}
use Rattle.fw_message.specs.Headline.{EntryOf}
use Rattle.fw_message.specs.Worlds.{NotedOf, noted_of}
use Rattle.fw_steps.specs.Worlds.{SiteOf, WorldOf, site_for}
use Rattle.fw_script.specs.Configs.{ComponentConfigOf, DeviceConfigOf}

-- the configuration of the device with this identifier
abbrev pub device_for : List DeviceConfigOf → (eid : ℕ) → Option DeviceConfigOf
device_for [] eid = None
device_for (d ∷ ds) eid = if d.endpoint.eid == eid then Some d else device_for ds eid

-- Some package has exactly these bytes for a device with these descriptors, under this key.
abbrev pub IsNamedImage : List PackageText → List DescriptorOf → KeyedImage → Type 0
IsNamedImage [] device p = ⊥
IsNamedImage (x ∷ xs) device p = (image_for x device p.key.classification p.key.identifier ≡ Some p.bytes) ⊎ IsNamedImage xs device p

-- the same for a configured device
abbrev pub IsNamedFor : List PackageText → KeyedImage → DeviceConfigOf → Type 0
IsNamedFor packages p d = IsNamedImage packages (map package_descriptor d.descriptors) p

-- The device applied exactly these bytes for this key.
abbrev pub HasApplied : List NotedOf → (device : ℕ) → KeyedImage → Type 0
HasApplied [] device p = ⊥
HasApplied (x ∷ xs) device p = (x ≡ noted_of device (EntryOf.Applied p)) ⊎ HasApplied xs device p

-- the image of a package's component that the agent recorded, under its key
abbrev pub recorded_image : List PackageText → Recorded → KeyedImage
recorded_image packages r =
    record {
      key = key_of (component_at (package_at packages r.«package») r.component);
      bytes = (component_at (package_at packages r.«package») r.component).image;
    }

-- An entry of a device is lawful after the entries before it. A component that the agent recorded
-- as applied was applied by that device, and a package has each image that the device activated for
-- it.
abbrev pub IsLawfulEntry : List PackageText → List DeviceConfigOf → (before : List NotedOf) → (device : ℕ) → EntryOf → Type 0
IsLawfulEntry packages devices before device (EntryOf.Applied p) = Unit {0}
IsLawfulEntry packages devices before device (EntryOf.Recording r) = HasApplied before device (recorded_image packages r)
IsLawfulEntry packages devices before device (EntryOf.Activated p) = IsSomeAnd (device_for devices device) (IsNamedFor packages p)

-- so are all entries after it
abbrev pub AreLawfulEntries : List PackageText → List DeviceConfigOf → (before : List NotedOf) → List NotedOf → Type 0
AreLawfulEntries packages devices before [] = Unit {0}
AreLawfulEntries packages devices before (x ∷ xs) =
    IsLawfulEntry packages devices before x.device x.entry × AreLawfulEntries packages devices (before ++ x ∷ []) xs

-- the active image under a key after an entry of the history, which is of this device or not
abbrev pub runs_after_entry : (own : Bool) → EntryOf → Key → (runs : List ℕ) → List ℕ
runs_after_entry true (EntryOf.Activated p) key runs = if same_key key p.key then p.bytes else runs
runs_after_entry own e key runs = runs

-- The active image under a key of a device after a history: the last one activated, or else
-- `first`, the one that the device began with.
abbrev pub runs_after : List NotedOf → (device : ℕ) → Key → (first : List ℕ) → List ℕ
runs_after [] device key first = first
runs_after (x ∷ xs) device key first = runs_after xs device key (runs_after_entry (x.device == device) x.entry key first)

-- The active image of a component is that image.
abbrev pub RunsImage : List NotedOf → (device : ℕ) → List RowOf → ComponentConfigOf → Type 0
RunsImage history device rows c =
    IsSomeAnd (active_of (row_of rows c.component.key)) (λ i. i.bytes ≡ runs_after history device c.component.key c.image)

abbrev pub RunsImages : List NotedOf → DeviceConfigOf → SiteOf → Type 0
RunsImages history d x = AllByRecursion (RunsImage history d.endpoint.eid x.node.half.core.device.rows) d.components

-- The device exists, and its active images are those.
abbrev pub RunsAllowedImages : WorldOf → DeviceConfigOf → Type 0
RunsAllowedImages w d = IsSomeAnd (site_for w.sites d.endpoint.eid) (RunsImages w.history d)

-- A world is clean. Each image that a device activated equals, byte for byte, one that a package
-- has for it. Each component that the agent recorded as applied was applied by that device with the
-- same bytes. The active images of each bank are the last ones activated, or the configured ones.
pub record IsClean (packages : List PackageText) (devices : List DeviceConfigOf) (w : WorldOf) : Type 0 where
  pub history : AreLawfulEntries packages devices [] w.history
  pub banks : AllByRecursion (RunsAllowedImages w) devices
