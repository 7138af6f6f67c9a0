-- The images of devices that the bytes of files take the places of.
use Rattle.std.specs.Prelude.{ℕ, ◌==◌, if◌then◌else◌, Bool, false, List, [], ◌∷◌}
use Rattle.fd_core.specs.Images.{same_key}
use Rattle.fw_script.specs.Configs.{ComponentConfigOf, DeviceConfigOf, has_key}
use Rattle.fwup_wire.specs.declared.values.Key.{Key}
use Rattle.fwupd_base.specs.ImageFiles.{ImageFileOf}

-- the first value that passes is changed
abbrev pub first_changed : {A : Type 0} → (passes : A → Bool) → (change : A → A) → List A → List A
first_changed passes change [] = []
first_changed passes change (x ∷ xs) = if passes x then change x ∷ xs else x ∷ first_changed passes change xs

-- the component of a key has these bytes in the place of its image; its label stays
abbrev pub components_imaged : Key → (bytes : List ℕ) → List ComponentConfigOf → List ComponentConfigOf
components_imaged key bytes = first_changed (λ c. same_key c.component.key key) (λ c. record c { image = bytes })

abbrev pub device_imaged : Key → (bytes : List ℕ) → DeviceConfigOf → DeviceConfigOf
device_imaged key bytes d = record d { components = components_imaged key bytes d.components }

-- the same of the component that an image names
abbrev pub devices_imaged : ImageFileOf → (bytes : List ℕ) → List DeviceConfigOf → List DeviceConfigOf
devices_imaged image bytes = first_changed (λ d. d.endpoint.eid == image.eid) (device_imaged image.key bytes)

-- there is such a component
abbrev pub has_component : List DeviceConfigOf → ImageFileOf → Bool
has_component [] image = false
has_component (d ∷ devices) image = if d.endpoint.eid == image.eid then has_key d.components image.key else has_component devices image
