-- The checker's answer, part by part.
use Rattle.std.specs.Prelude.{ℕ, ◌==◌, ◌&&◌, ◌||◌, ◌++◌, Bool, true, false, nat_eq, List, [], ◌∷◌, Option, Some, None, map}
use Rattle.std.specs.Cmp.Lexicographic.{pointwise}
use Rattle.std.specs.List.{list_all}
use Rattle.fw_package.specs.Package.{PackageText}
use Rattle.fd_core.specs.Images.{ImageOf, KeyedImage, RowOf, active_of, row_of}
use Rattle.ua_core.specs.Lent.{package_descriptor}
use Rattle.fw_message.specs.Headline.{EntryOf, same_image}
use Rattle.fw_message.specs.Worlds.{NotedOf}
use Rattle.fw_steps.specs.Worlds.{SiteOf, WorldOf, site_for}
use Rattle.fw_script.specs.Configs.{ComponentConfigOf, DeviceConfigOf}
use Rattle.fw_soak.specs.Checks.{device_for, recorded_image, runs_after}
use Rattle.fw_soak.specs.Naming.{is_named}

-- some package has the image for a device, if that is configured
abbrev pub is_named_for : List PackageText → KeyedImage → Option DeviceConfigOf → Bool
is_named_for packages p None = false
is_named_for packages p (Some d) = is_named packages (map package_descriptor d.descriptors) p

-- an entry is that this image was applied
abbrev pub applies : KeyedImage → EntryOf → Bool
applies p (EntryOf.Applied q) = same_image p.key p.bytes q.key q.bytes
applies p e = false

abbrev pub has_applied : List NotedOf → (device : ℕ) → KeyedImage → Bool
has_applied [] device p = false
has_applied (x ∷ xs) device p = ((x.device == device) && applies p x.entry) || has_applied xs device p

abbrev pub is_right : List PackageText → List DeviceConfigOf → (before : List NotedOf) → (device : ℕ) → EntryOf → Bool
is_right packages devices before device (EntryOf.Applied p) = true
is_right packages devices before device (EntryOf.Recording r) = has_applied before device (recorded_image packages r)
is_right packages devices before device (EntryOf.Activated p) = is_named_for packages p (device_for devices device)

abbrev pub are_right : List PackageText → List DeviceConfigOf → (before : List NotedOf) → List NotedOf → Bool
are_right packages devices before [] = true
are_right packages devices before (x ∷ xs) =
    is_right packages devices before x.device x.entry && are_right packages devices (before ++ x ∷ []) xs

-- the active image has these bytes
abbrev pub is_running : Option ImageOf → List ℕ → Bool
is_running None bytes = false
is_running (Some i) bytes = pointwise nat_eq i.bytes bytes

abbrev pub runs_it : List NotedOf → (device : ℕ) → List RowOf → ComponentConfigOf → Bool
runs_it history device rows c = is_running (active_of (row_of rows c.component.key)) (runs_after history device c.component.key c.image)

abbrev pub runs_them : List NotedOf → DeviceConfigOf → Option SiteOf → Bool
runs_them history d None = false
runs_them history d (Some x) = list_all (runs_it history d.endpoint.eid x.node.half.core.device.rows) d.components

abbrev pub runs_what_it_may : WorldOf → DeviceConfigOf → Bool
runs_what_it_may w d = runs_them w.history d (site_for w.sites d.endpoint.eid)

-- the world is clean
abbrev pub is_clean : List PackageText → List DeviceConfigOf → WorldOf → Bool
is_clean packages devices w = are_right packages devices [] w.history && list_all (runs_what_it_may w) devices
