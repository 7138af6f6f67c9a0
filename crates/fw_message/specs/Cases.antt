-- Histories by hand, to test the definitions of a safe and a tied history: the worked update, and a
-- history for each refusal.
use Rattle.std.specs.Prelude.{ℕ, zero, suc, ◌∷◌, [], List, None, Option, Some, take}
use Rattle.fw_package.specs.Choice.{no_text}
use Rattle.fw_package.specs.Package.{ComponentOf, DescriptorOf, PackageText, RecordOf}
use Rattle.fwup_wire.specs.declared.values.Key.{Key}
use Rattle.fd_core.specs.Images.{ImageOf, KeyedImage, RowOf}
use Rattle.ua_core.specs.declared.planned.Recorded.{Recorded}
use Rattle.fw_message.specs.Headline.{EntryOf, HeadlineHolds, IsSafe, IsTied, Shown, ShownDevice}

-- a device of one descriptor, and two of its components
abbrev pub board : List DescriptorOf
board = record { kind = 0; bytes = 0x34 ∷ 0x12 ∷ [] } ∷ []

abbrev pub boot : Key
boot = record { classification = 10; identifier = 1 }

abbrev pub fabric : Key
fabric = record { classification = 10; identifier = 2 }

abbrev pub component : Key → List ℕ → ComponentOf
component key image =
    record { classification = key.classification; identifier = key.identifier; stamp = 2; options = 0; method = 0; offset = 0; text = no_text; image = image }

-- a record for the device, with only its package's first component
abbrev pub first_alone : RecordOf
first_alone = record { flags = 0; set_text = no_text; descriptors = board; uses = 0 ∷ [] }

-- the images of two packages: the first package has two components, and its record uses one
abbrev pub new_boot : List ℕ
new_boot = 1 ∷ 2 ∷ 3 ∷ []

abbrev pub new_fabric : List ℕ
new_fabric = 4 ∷ 5 ∷ []

abbrev pub packages : List PackageText
packages =
    record { header_size = 100; release = []; version = no_text; records = first_alone ∷ []; components = component boot new_boot ∷ component fabric new_fabric ∷ [] }
    ∷ record { header_size = 100; release = []; version = no_text; records = first_alone ∷ []; components = component fabric new_fabric ∷ [] }
    ∷ []

abbrev pub keyed_image : Key → List ℕ → KeyedImage
keyed_image key bytes = record { key = key; bytes = bytes }

-- component `component`, counted from 0, of package `number`, counted from 1
abbrev pub recorded_component : ℕ → ℕ → Recorded
recorded_component number component = record { «package» = number; component = component }

abbrev pub applies : Key → List ℕ → EntryOf
applies key bytes = EntryOf.Applied (keyed_image key bytes)

abbrev pub activates : Key → List ℕ → EntryOf
activates key bytes = EntryOf.Activated (keyed_image key bytes)

abbrev pub records : ℕ → ℕ → EntryOf
records number component = EntryOf.Recording (recorded_component number component)

-- the worked update: the device applies the image, the agent records it, the device activates it
abbrev pub worked_update : List EntryOf
worked_update = applies boot new_boot ∷ records 1 0 ∷ activates boot new_boot ∷ []

abbrev pub is_safe : List EntryOf → Type 0
is_safe es = IsSafe packages board es

-- Histories that aren't safe: an activated image that wasn't recorded, or was recorded only before
-- the previous activation; other bytes than the package's; images of two packages in one
-- activation; more records than applications, at any moment; and a record of a component that the
-- package doesn't name for the device, or of a package that isn't there.
pub record SafeRefuses : Type 0 where
  pub unrecorded : is_safe (applies boot new_boot ∷ activates boot new_boot ∷ []) → ⊥
  pub recorded_before : is_safe (applies boot new_boot ∷ records 1 0 ∷ activates boot new_boot ∷ applies boot new_boot ∷ activates boot new_boot ∷ []) → ⊥
  pub other_bytes : is_safe (applies boot (7 ∷ []) ∷ applies boot new_boot ∷ records 1 0 ∷ activates boot (7 ∷ []) ∷ []) → ⊥
  pub two_packages : is_safe (applies boot new_boot ∷ applies fabric new_fabric ∷ records 1 0 ∷ records 2 0 ∷ activates boot new_boot ∷ activates fabric new_fabric ∷ []) → ⊥
  pub twice : is_safe (applies boot new_boot ∷ records 1 0 ∷ records 1 0 ∷ []) → ⊥
  pub too_soon : is_safe (records 1 0 ∷ applies boot new_boot ∷ []) → ⊥
  pub unnamed : is_safe (applies fabric new_fabric ∷ records 1 1 ∷ []) → ⊥
  pub no_package : is_safe (applies boot new_boot ∷ records 3 0 ∷ []) → ⊥

abbrev pub image : List ℕ → ImageOf
image bytes = record { label = record { stamp = 1; text_type = 1; text = [] }; bytes = bytes }

-- the device's bank: the running image of its one component, and its applied image
abbrev pub bank : List ℕ → Option ImageOf → List RowOf
bank active applied = record { key = boot; active = image active; applied = applied } ∷ []

abbrev pub old_boot : List ℕ
old_boot = 9 ∷ []

-- a history with this bank and these records of the agent after it
abbrev pub is_tied : List RowOf → List Recorded → List EntryOf → Type 0
is_tied rows made es = IsTied (bank old_boot None) rows made es

-- the bank and the records at each moment of the worked update
pub record TiedAccepts : Type 0 where
  pub at_first : is_tied (bank old_boot None) [] []
  pub when_applied : is_tied (bank old_boot (Some (image new_boot))) [] (take 1 worked_update)
  pub when_recorded : is_tied (bank old_boot (Some (image new_boot))) (recorded_component 1 0 ∷ []) (take 2 worked_update)
  pub when_activated : is_tied (bank new_boot None) (recorded_component 1 0 ∷ []) worked_update

-- Banks and records that aren't tied: a running image that isn't the one activated last, or that
-- runs before it is activated; an applied image of before the last activation, or with other bytes
-- than were applied; a record that wasn't made, or a record that is missing.
pub record TiedRefuses : Type 0 where
  pub old_runs : is_tied (bank old_boot None) (recorded_component 1 0 ∷ []) worked_update → ⊥
  pub runs_too_soon : is_tied (bank new_boot None) (recorded_component 1 0 ∷ []) (take 2 worked_update) → ⊥
  pub applied_before : is_tied (bank new_boot (Some (image new_boot))) (recorded_component 1 0 ∷ []) worked_update → ⊥
  pub other_applied : is_tied (bank old_boot (Some (image (7 ∷ [])))) [] (take 1 worked_update) → ⊥
  pub not_made : is_tied (bank old_boot (Some (image new_boot))) (recorded_component 1 0 ∷ []) (take 1 worked_update) → ⊥
  pub not_there : is_tied (bank new_boot None) [] worked_update → ⊥

-- the device as it is shown, with these components, records of the agent and history
abbrev pub shown_board : List RowOf → List Recorded → List EntryOf → ShownDevice
shown_board rows made es = record { descriptors = board; components = rows; records = made; entries = es }

-- a device under identifier 0, and none under another one
abbrev pub only_device : Option ShownDevice → ℕ → Option ShownDevice
only_device d zero = d
only_device d (suc eid) = None

-- the packages, and this device alone
abbrev pub shown : Option ShownDevice → Shown
shown d = record { packages = packages; device = only_device d }

-- what is shown at the opening, and after the worked update
abbrev pub at_opening : Shown
at_opening = shown (Some (shown_board (bank old_boot None) [] []))

abbrev pub when_updated : Shown
when_updated = shown (Some (shown_board (bank new_boot None) (recorded_component 1 0 ∷ []) worked_update))

-- Where the headline doesn't hold: the device isn't shown any more, its history isn't safe, or
-- isn't tied, or the opening's packages have no such image, whatever the later ones have.
pub record HeadlineRefuses : Type 0 where
  pub gone : HeadlineHolds at_opening (shown None) → ⊥
  pub unsafe : HeadlineHolds at_opening
      (shown (Some (shown_board (bank new_boot None) [] (applies boot new_boot ∷ activates boot new_boot ∷ [])))) → ⊥
  pub untied : HeadlineHolds at_opening (shown (Some (shown_board (bank old_boot None) (recorded_component 1 0 ∷ []) worked_update))) → ⊥
  pub no_packages : HeadlineHolds (record at_opening { packages = [] }) when_updated → ⊥

-- The definitions of a safe and of a tied history accept the worked update at each moment, and
-- refuse the other histories; so does the headline.
pub record HistoriesAreJudged : Type 0 where
  pub safe : (n : ℕ) → is_safe (take n worked_update)
  pub unsafe : SafeRefuses
  pub tied : TiedAccepts
  pub untied : TiedRefuses
  pub holds : HeadlineHolds at_opening when_updated
  pub fails : HeadlineRefuses
