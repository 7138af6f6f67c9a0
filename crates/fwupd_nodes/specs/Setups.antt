-- The inputs of jobs on worlds: the configuration in a file, and the packages in the files that it
-- names.
use Rattle.std.specs.Global.{Global}
use Rattle.std.specs.Prelude.{ℕ, ◌≡◌, ◌≢◌, ◌<◌, ◌≤◌, ◌==◌, ◌++◌, ◌⊎◌, ◌&&◌, Bool, true, false, List, [], ◌∷◌, Option, None, Some, Result, Ok, Err, IsOk, IsSomeAnd, String, length, nat_le, option_map, string_bytes}
use Rattle.std.specs.List.{filter, list_all, list_any}
use Rattle.fd_core.specs.Codes.{longest_image}
use Rattle.fw_package.specs.Package.{PackageText}
use Rattle.fw_package.specs.Reading.{package_of}
use Rattle.fw_package.specs.declared.fault.PackageFault.{PackageFault}
use Rattle.fw_script.specs.Configs.{ConfigOf, DeviceConfigOf, config_of}
use Rattle.fw_script.specs.declared.faults.ScriptCause.{ScriptCause}
use Rattle.fw_script.specs.declared.faults.ScriptCause.TheVariants as causes
use Rattle.fw_script.specs.declared.faults.ScriptFault.{ScriptFault}
use Rattle.fw_steps.specs.Opening.{new_world}
use Rattle.fw_steps.specs.Worlds.{WorldOf}
use Rattle.fw_setup.specs.Nodes.{nodes_made}
use Rattle.fw_setup.specs.Stocks.{HaveStoredImages, IsUnopened, StoresOf}
use Rattle.fwupd_base.specs.DeviceSets.{has_eid}
use Rattle.fwupd_base.specs.ImageFiles.{ConfigSourceOf, ImageFileOf}
use Rattle.fwupd_base.specs.declared.device_set.DeviceSet.{DeviceSet}
use Rattle.fwupd_nodes.specs.Images.{devices_imaged, has_component}
use Rattle.fwupd_watch.specs.Files.{FileOf, MayHold}
use Rattle.fwupd_watch.specs.declared.faults.JobFault.{JobFault}
use Rattle.fwupd_watch.specs.declared.faults.JobFault.TheVariants as faults
use Rattle.fwupd_watch.specs.declared.files.FileFault.{FileFault}
use Rattle.fwupd_watch.specs.declared.files.FileFault.TheVariants as reasons

-- a text in a file has this value
pub record Says {A : Type 0} (read : List ℕ → Result A ScriptFault) (file : FileOf) (value : A) : Type 0 where
  pub text : List ℕ
  pub held : MayHold file text
  pub is : read text ≡ Ok value

-- or it has this fault
pub record IsFaulty {A : Type 0} (read : List ℕ → Result A ScriptFault) (file : FileOf) (fault : ScriptFault) : Type 0 where
  pub text : List ℕ
  pub held : MayHold file text
  pub is : read text ≡ Err fault

-- bytes that a file may hold and that are a package
pub record IsPacked (file : FileOf) (bytes : List ℕ) : Type 0 where
  pub held : MayHold file bytes
  pub is : IsOk (package_of bytes)

-- the same for each of the files
abbrev pub ArePacked : (files : List ℕ → FileOf) → (paths contents : List (List ℕ)) → Type 0
ArePacked files [] [] = Unit {0}
ArePacked files (path ∷ paths) (bytes ∷ contents) = IsPacked (files path) bytes × ArePacked files paths contents
ArePacked files paths contents = ⊥

-- a file is a package
pub record IsPackageFile (file : FileOf) (p : PackageText) : Type 0 where
  pub bytes : List ℕ
  pub held : MayHold file bytes
  pub is : package_of bytes ≡ Ok p

-- or it isn't, for this reason
pub record IsNoPackage (file : FileOf) (fault : PackageFault) : Type 0 where
  pub bytes : List ℕ
  pub held : MayHold file bytes
  pub is : package_of bytes ≡ Err fault

-- the fault is that the file of this path can't be read
abbrev pub IsUnreadable : (path : List ℕ) → JobFault → Type 0
IsUnreadable path (faults.Unreadable name) = string_bytes name ≡ path
IsUnreadable path fault = ⊥

-- and that may be the case
abbrev pub IsUnread : (path : List ℕ) → (file : FileOf) → JobFault → Type 0
IsUnread path file fault = IsUnreadable path fault × (file.may_fail ≡ true)

-- the fault of a file with this name that can't be read; lack of memory, if there was none for the
-- name
abbrev pub job_fault_of_unread : {E : Type 0} → Result (String Global) E → FileFault → JobFault
job_fault_of_unread (Ok name) reasons.Unreadable = faults.Unreadable name
job_fault_of_unread name fault = faults.Memory

-- and the fault of a text that isn't of its format
abbrev pub misread_by : {E : Type 0} → Result (String Global) E → ScriptCause → ScriptFault → JobFault
misread_by (Err e) cause fault = faults.Memory
misread_by (Ok name) causes.Memory fault = faults.Memory
misread_by (Ok name) cause fault = faults.Text name fault

abbrev pub job_fault_of_misread : {E : Type 0} → Result (String Global) E → ScriptFault → JobFault
job_fault_of_misread name fault = misread_by name fault.cause fault

-- the fault is that of the text in the file of this path
abbrev pub TextFault : (path : List ℕ) → ScriptFault → JobFault → Type 0
TextFault path fault (faults.Text name told) = (string_bytes name ≡ path) × (told ≡ fault) × (fault.cause ≢ causes.Memory)
TextFault path fault other = ⊥

-- the text in the file of this path isn't of its format
abbrev pub HasNoText : {A : Type 0} → (List ℕ → Result A ScriptFault) → (path : List ℕ) → (file : FileOf) → JobFault → Type 0
HasNoText read path file (faults.Text name fault) = (string_bytes name ≡ path) × IsFaulty read file fault
HasNoText read path file fault = ⊥

-- the file isn't a package
abbrev pub IsNone : (file : FileOf) → JobFault → Type 0
IsNone file (faults.Package fault) = IsNoPackage file fault
IsNone file fault = ⊥

-- why a text can't be read from the file of a path
abbrev pub TextFails : {A : Type 0} → (List ℕ → Result A ScriptFault) → (files : List ℕ → FileOf) → (path : List ℕ) → JobFault → Type 0
TextFails read files path fault = IsUnread path (files path) fault ⊎ HasNoText read path (files path) fault

-- ---- a configuration with the images of files

-- The bytes of an image's file, which are the image of a component that is there. This holds of
-- them.
pub record HasImage (files : List ℕ → FileOf) (devices : List DeviceConfigOf) (image : ImageFileOf) (Holds : List ℕ → Type 0) : Type 0 where
  pub there : has_component devices image ≡ true
  pub bytes : List ℕ
  pub held : MayHold (files image.path) bytes
  pub fits : length bytes ≤ longest_image
  pub holds : Holds bytes

-- The devices with the images of files, one after the other.
abbrev pub HaveImages : (files : List ℕ → FileOf) → List ImageFileOf → (configured devices : List DeviceConfigOf) → Type 0
HaveImages files [] configured devices = devices ≡ configured
HaveImages files (image ∷ images) configured devices =
    HasImage files configured image (λ bytes. HaveImages files images (devices_imaged image bytes configured) devices)

-- The file holds more bytes than an image may have.
pub record IsLong (files : List ℕ → FileOf) (path : List ℕ) : Type 0 where
  pub bytes : List ℕ
  pub held : MayHold (files path) bytes
  pub long : longest_image < length bytes

-- the fault is that the file of this path is too long
abbrev pub IsLongAt : (path : List ℕ) → JobFault → Type 0
IsLongAt path (faults.LongImage name) = string_bytes name ≡ path
IsLongAt path fault = ⊥

-- why an image can't be read from the file of a path
abbrev pub ImageFileFails : (files : List ℕ → FileOf) → (path : List ℕ) → JobFault → Type 0
ImageFileFails files path told = IsUnread path (files path) told ⊎ (IsLongAt path told × IsLong files path)

-- why a component can't get the image of a file: it isn't there, or its file can't be read
abbrev pub ImageFails : (files : List ℕ → FileOf) → List DeviceConfigOf → ImageFileOf → JobFault → Type 0
ImageFails files devices image (faults.NoComponent eid class ident) =
    (has_component devices image ≡ false) × (eid ≡ image.eid) × (class ≡ image.key.classification) × (ident ≡ image.key.identifier)
ImageFails files devices image told = (has_component devices image ≡ true) × ImageFileFails files image.path told

-- the first of the images that fails
abbrev pub ImagesFail : (files : List ℕ → FileOf) → List ImageFileOf → List DeviceConfigOf → JobFault → Type 0
ImagesFail files [] devices told = ⊥
ImagesFail files (image ∷ images) devices told =
    ImageFails files devices image told ⊎ HasImage files devices image (λ bytes. ImagesFail files images (devices_imaged image bytes devices) told)

-- The configuration of a source.
pub record IsConfigured (files : List ℕ → FileOf) (source : ConfigSourceOf) (config : ConfigOf) : Type 0 where
  pub text : ConfigOf
  pub says : Says config_of (files source.path) text
  pub images : HaveImages files source.images text.devices config.devices
  pub is : config ≡ record text { devices = config.devices }

-- The text is a configuration, and one of the images fails.
pub record LacksImage (files : List ℕ → FileOf) (source : ConfigSourceOf) (told : JobFault) : Type 0 where
  pub text : ConfigOf
  pub says : Says config_of (files source.path) text
  pub fails : ImagesFail files source.images text.devices told

-- why there is no configuration
abbrev pub ConfigFails : (files : List ℕ → FileOf) → ConfigSourceOf → JobFault → Type 0
ConfigFails files source told = TextFails config_of files source.path told ⊎ LacksImage files source told

-- ---- packages

-- why a package can't be read from the file of a path
abbrev pub PackageFails : (files : List ℕ → FileOf) → (path : List ℕ) → JobFault → Type 0
PackageFails files path fault = IsUnread path (files path) fault ⊎ IsNone (files path) fault

-- the files of the paths are the packages, one by one
abbrev pub ArePackages : (files : List ℕ → FileOf) → (paths : List (List ℕ)) → List PackageText → Type 0
ArePackages files [] [] = Unit {0}
ArePackages files (path ∷ paths) (p ∷ ps) = IsPackageFile (files path) p × ArePackages files paths ps
ArePackages files paths ps = ⊥

-- the first of the files that isn't a package, and why
pub record PackagesFail (files : List ℕ → FileOf) (paths : List (List ℕ)) (fault : JobFault) : Type 0 where
  pub before : List (List ℕ)
  pub path : List ℕ
  pub after : List (List ℕ)
  pub packages : List PackageText
  pub is : paths ≡ before ++ path ∷ after
  pub read : ArePackages files before packages
  pub fails : PackageFails files path fault

-- The source of nodes: a configuration, the knowledge of the stores of its devices, if they have
-- some, and the set of the chosen devices, if not all are chosen.
pub record SourceOf : Type 0 where
  pub config : ConfigSourceOf
  pub stores : Option StoresOf
  pub chosen : Option DeviceSet

-- stores of which nothing is known
abbrev pub any_stores : StoresOf
any_stores = record { is_known = false; files = λ device name. None }

-- all devices of a configuration, with the stores in a folder, if one is given; and the chosen
-- devices
abbrev pub source_of : ((root : List ℕ) → StoresOf) → (root : Option (List ℕ)) → ConfigSourceOf → SourceOf
source_of stores root config = record { config = config; stores = option_map stores root; chosen = None }

abbrev pub chosen_source : SourceOf → Option DeviceSet → SourceOf
chosen_source source chosen = record source { chosen = chosen }

-- the devices in a set, in their order; all if there is no set
abbrev pub chosen_in : Option DeviceSet → List DeviceConfigOf → List DeviceConfigOf
chosen_in None devices = devices
chosen_in (Some set) devices = filter (λ x. has_eid set x.endpoint.eid) devices

-- a device has this endpoint identifier
abbrev pub has_device : List DeviceConfigOf → (eid : ℕ) → Bool
has_device devices eid = list_any (λ x. x.endpoint.eid == eid) devices

-- each endpoint identifier in a set, if there is one, is that of a device
abbrev pub AreConfigured : Option DeviceSet → List DeviceConfigOf → Type 0
AreConfigured None devices = Unit {0}
AreConfigured (Some set) devices = (eid : ℕ) → eid < 256 → has_eid set eid ≡ true → has_device devices eid ≡ true

-- The chosen devices of a configuration, which has them.
pub record AreChosen (chosen : Option DeviceSet) (configured devices : List DeviceConfigOf) : Type 0 where
  pub there : AreConfigured chosen configured
  pub are : devices ≡ chosen_in chosen configured

-- The least endpoint identifier in a set that is that of no device.
pub record IsMissing (set : DeviceSet) (devices : List DeviceConfigOf) (eid : ℕ) : Type 0 where
  pub chosen : has_eid set eid ≡ true
  pub none : has_device devices eid ≡ false
  pub least : (other : ℕ) → other < eid → has_eid set other ≡ true → has_device devices other ≡ true

-- the fault is that of this endpoint identifier
abbrev pub TellsMissing : Option DeviceSet → List DeviceConfigOf → JobFault → Type 0
TellsMissing chosen devices (faults.NoDevice eid) = IsSomeAnd chosen (λ set. IsMissing set devices eid)
TellsMissing chosen devices fault = ⊥

-- one of `count` packages has this number, counted from 1
abbrev pub is_numbered : (count number : ℕ) → Bool
is_numbered count number = nat_le 1 number && nat_le number count

-- each of the devices has one of `count` packages; a device's number is that for its endpoint
-- identifier
abbrev pub have_packages : (numbers : ℕ → ℕ) → (count : ℕ) → List DeviceConfigOf → Bool
have_packages numbers count devices = list_all (λ x. is_numbered count (numbers x.endpoint.eid)) devices

-- why devices with packages of their numbers can't be chosen: one is missing, or the number of one
-- isn't that of a package
abbrev pub ChoiceFails : Option DeviceSet → (numbers : ℕ → ℕ) → (count : ℕ) → List DeviceConfigOf → JobFault → Type 0
ChoiceFails chosen numbers count devices fault =
    TellsMissing chosen devices fault
    ⊎ ((fault ≡ faults.NoPackage) × AreConfigured chosen devices × (have_packages numbers count (chosen_in chosen devices) ≡ false))

-- the devices of a configuration, with the images in their stores, if they have some
abbrev pub AreDevices : Option StoresOf → (configured devices : List DeviceConfigOf) → Type 0
AreDevices None configured devices = devices ≡ configured
AreDevices (Some s) configured devices = HaveStoredImages s configured devices

-- a configuration that has the chosen devices, its packages, the images in the stores of the chosen
-- devices, and their opening world
pub record IsSetup (files : List ℕ → FileOf) (source : SourceOf) (w : WorldOf) : Type 0 where
  pub config : ConfigOf
  pub packages : List PackageText
  pub devices : List DeviceConfigOf
  pub says : IsConfigured files source.config config
  pub are : ArePackages files config.packages packages
  pub there : AreConfigured source.chosen config.devices
  pub stocked : AreDevices source.stores (chosen_in source.chosen config.devices) devices
  pub world : w ≡ new_world config.agent (nodes_made config.unit config.agent.eid devices) packages

-- why there is none
pub record PackagesOfFail (files : List ℕ → FileOf) (source : ConfigSourceOf) (fault : JobFault) : Type 0 where
  pub config : ConfigOf
  pub says : IsConfigured files source config
  pub fail : PackagesFail files config.packages fault

abbrev pub SetupFails : (files : List ℕ → FileOf) → ConfigSourceOf → JobFault → Type 0
SetupFails files source fault = ConfigFails files source fault ⊎ PackagesOfFail files source fault

-- and why there is none if a package `number`, counted from 1, is requested, which is checked
-- before any package is read
pub record NumberedFail (files : List ℕ → FileOf) (source : ConfigSourceOf) (number : ℕ) (fault : JobFault) : Type 0 where
  pub config : ConfigOf
  pub says : IsConfigured files source config
  pub counted : 1 ≤ number
  pub there : number ≤ length config.packages
  pub fail : PackagesFail files config.packages fault

abbrev pub NumberedSetupFails : (files : List ℕ → FileOf) → ConfigSourceOf → (number : ℕ) → JobFault → Type 0
NumberedSetupFails files source number fault = ConfigFails files source fault ⊎ NumberedFail files source number fault

-- the fault is that of the first of the devices whose store can't be opened
abbrev pub TellsUnopened : StoresOf → List DeviceConfigOf → JobFault → Type 0
TellsUnopened s devices (faults.Store device why) = IsUnopened s devices (record { device = device; why = why })
TellsUnopened s devices fault = ⊥

-- a fault is that of a store
abbrev pub TellsStore : JobFault → Type 0
TellsStore (faults.Store device why) = Unit {0}
TellsStore fault = ⊥

-- The configuration in a file lacks a chosen device.
pub record LacksChosen (files : List ℕ → FileOf) (source : SourceOf) (fault : JobFault) : Type 0 where
  pub config : ConfigOf
  pub says : IsConfigured files source.config config
  pub missing : TellsMissing source.chosen config.devices fault

-- It has the chosen devices, one of which has no package of its number.
pub record LacksChosenPackage (files : List ℕ → FileOf) (source : SourceOf) (numbers : ℕ → ℕ) : Type 0 where
  pub config : ConfigOf
  pub says : IsConfigured files source.config config
  pub there : AreConfigured source.chosen config.devices
  pub none : have_packages numbers (length config.packages) (chosen_in source.chosen config.devices) ≡ false

-- why there is no world of chosen devices with packages of these numbers: a package can't be read,
-- after each device and its number were found in the configuration
pub record ChosenPackagesFail (files : List ℕ → FileOf) (source : SourceOf) (numbers : ℕ → ℕ) (fault : JobFault) : Type 0 where
  pub config : ConfigOf
  pub says : IsConfigured files source.config config
  pub there : AreConfigured source.chosen config.devices
  pub numbered : have_packages numbers (length config.packages) (chosen_in source.chosen config.devices) ≡ true
  pub fail : PackagesFail files config.packages fault

abbrev pub ChosenSetupFails : (files : List ℕ → FileOf) → (source : SourceOf) → (numbers : ℕ → ℕ) → JobFault → Type 0
ChosenSetupFails files source numbers fault = ConfigFails files source.config fault ⊎ ChosenPackagesFail files source numbers fault

-- The configuration has the chosen devices and a package for each, and its packages are correct.
-- The store of a chosen device can't be opened.
pub record ChosenStoresFail (files : List ℕ → FileOf) (source : SourceOf) (numbers : ℕ → ℕ) (fault : JobFault) : Type 0 where
  pub config : ConfigOf
  pub says : IsConfigured files source.config config
  pub packages : List PackageText
  pub are : ArePackages files config.packages packages
  pub there : AreConfigured source.chosen config.devices
  pub numbered : have_packages numbers (length config.packages) (chosen_in source.chosen config.devices) ≡ true
  pub unopened : IsSomeAnd source.stores (λ s. TellsUnopened s (chosen_in source.chosen config.devices) fault)

-- The configuration and its packages are correct, and the store of a device can't be opened.
pub record StoresFail (files : List ℕ → FileOf) (source : SourceOf) (fault : JobFault) : Type 0 where
  pub config : ConfigOf
  pub says : IsConfigured files source.config config
  pub packages : List PackageText
  pub are : ArePackages files config.packages packages
  pub unopened : IsSomeAnd source.stores (λ s. TellsUnopened s config.devices fault)

-- The configuration in a file has no package of this number.
pub record LacksPackage (files : List ℕ → FileOf) (source : ConfigSourceOf) (number : ℕ) : Type 0 where
  pub config : ConfigOf
  pub says : IsConfigured files source config
  pub none : (number ≡ 0) ⊎ (length config.packages < number)
