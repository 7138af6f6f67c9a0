-- The images that the stores of devices keep, in place of the configured images.
use Rattle.std.specs.Prelude.{ℕ, ◌≡◌, ◌⊎◌, Bool, true, Err, IsOk, List, [], ◌∷◌, None, Ok, Option, Some, map, slice_get, take}
use Rattle.std.specs.List.{AllByRecursion}
use Rattle.fd_core.specs.Images.{ImageOf}
use Rattle.fw_script.specs.Configs.{ComponentConfigOf, DeviceConfigOf}
use Rattle.fw_store.specs.Folders.{Files}
use Rattle.fw_store.specs.Kept.{KeptOf, image_for}
use Rattle.fw_store.specs.Opening.{found_in}
use Rattle.fw_store.specs.declared.faults.OpenFault.{OpenFault}
use Rattle.fw_store.specs.declared.faults.OpenFault.TheVariants as reasons
use Rattle.fw_setup.specs.Paths.{store_path}
use Rattle.fw_setup.specs.declared.stores.Unopened.{Unopened}

-- the image that a component is configured with
abbrev pub image_configured : ComponentConfigOf → KeptOf
image_configured c = record { key = c.component.key; image = record { label = c.label; bytes = c.image } }

abbrev pub images_configured : List ComponentConfigOf → List KeptOf
images_configured cs = map image_configured cs

-- a component with another image, if there is one
abbrev pub stocked_by : ComponentConfigOf → Option ImageOf → ComponentConfigOf
stocked_by c None = c
stocked_by c (Some image) = record c { label = image.label; image = image.bytes }

-- a component with the image that is kept for its key, if there is one
abbrev pub component_with_kept : List KeptOf → ComponentConfigOf → ComponentConfigOf
component_with_kept kept c = stocked_by c (image_for kept c.component.key)

-- a device with the images that are kept for its components
abbrev pub stocked_device : List KeptOf → DeviceConfigOf → DeviceConfigOf
stocked_device kept x = record x { components = map (component_with_kept kept) x.components }

-- The facts about the stores of devices: whether the files of each device's folder are known, and
-- the files.
pub record StoresOf : Type 0 where
  pub is_known : Bool
  pub files : (device : ℕ) → Files

-- the facts about the stores in the folder of all stores
abbrev pub stores_in : Bool → ((root : List ℕ) → (device : ℕ) → Files) → (root : List ℕ) → StoresOf
stores_in is_known files root = record { is_known = is_known; files = files root }

-- the paths of the folders of these devices' stores, in their order
abbrev pub store_paths : (root : List ℕ) → List DeviceConfigOf → List (List ℕ)
store_paths root xs = map (λ x. store_path root x.endpoint.eid) xs

-- A device with the images that are found in its folder, in place of its configured images.
pub record HasStoredImages (s : StoresOf) (x y : DeviceConfigOf) : Type 0 where
  pub kept : List KeptOf
  pub found : s.is_known ≡ true → found_in (images_configured x.components) (s.files x.endpoint.eid) ≡ Ok kept
  pub is : y ≡ stocked_device kept x

-- each of these devices has its stored images, in their order
abbrev pub HaveStoredImages : StoresOf → (xs ys : List DeviceConfigOf) → Type 0
HaveStoredImages s [] [] = Unit {0}
HaveStoredImages s (x ∷ xs) (y ∷ ys) = HasStoredImages s x y × HaveStoredImages s xs ys
HaveStoredImages s xs ys = ⊥

-- The reason why a device's store isn't opened: its folder is damaged or foreign only if its files
-- are.
pub record IsFaulty (s : StoresOf) (x : DeviceConfigOf) (why : OpenFault) : Type 0 where
  pub damaged : why ≡ reasons.Damaged → s.is_known ≡ true → found_in (images_configured x.components) (s.files x.endpoint.eid) ≡ Err reasons.Damaged
  pub foreign : why ≡ reasons.Foreign → s.is_known ≡ true → found_in (images_configured x.components) (s.files x.endpoint.eid) ≡ Err reasons.Foreign

-- a device's store can be opened
abbrev pub CanOpen : StoresOf → DeviceConfigOf → Type 0
CanOpen s x = s.is_known ≡ true → IsOk (found_in (images_configured x.components) (s.files x.endpoint.eid))

-- The first device whose store isn't opened, and the cause.
pub record IsUnopened (s : StoresOf) (xs : List DeviceConfigOf) (e : Unopened) : Type 0 where
  pub place : ℕ
  pub device : DeviceConfigOf
  pub at : slice_get xs place ≡ Some device
  pub before : AllByRecursion (CanOpen s) (take place xs)
  pub its : e.device ≡ device.endpoint.eid
  pub so : IsFaulty s device e.why

-- The first device whose folder can't be made.
pub record IsUnmade (xs : List DeviceConfigOf) (e : Unopened) : Type 0 where
  pub place : ℕ
  pub device : DeviceConfigOf
  pub at : slice_get xs place ≡ Some device
  pub its : e.device ≡ device.endpoint.eid
  pub why : (e.why ≡ reasons.Unreadable) ⊎ (e.why ≡ reasons.Memory)
