-- A session's reading of its borrowed package.
use Rattle.std.specs.Prelude.{Bool, List, None, Option, Some, [], if◌then◌else◌, length, nat_lt, slice_index_or, suc, take, zero, ◌%◌, ◌/◌, ◌==◌, ℕ}
use Rattle.std.specs.Borrow.{Bor}
use Rattle.fw_package.specs.Choice.{no_text}
use Rattle.fw_package.specs.Package.{ComponentOf, PackageText}
use Rattle.fw_package.specs.Package.{DescriptorOf as DescriptorKnown, TextOf as TextKept}
use Rattle.fwup_wire.specs.Values.{DeviceDescriptorOf, TypedTextOf, VersionOf}
use Rattle.fwup_wire.specs.declared.values.Key.{Key}

-- the package used if there is none
abbrev pub no_package : PackageText
no_package = record { header_size = 0; release = []; version = no_text; records = []; components = [] }

-- the borrowed package, if there is one
abbrev pub borrowed_package : Option (Bor PackageText) → PackageText
borrowed_package None = no_package
borrowed_package (Some p) = p.now

-- the package with this number, from 1 on
abbrev pub package_at : List PackageText → ℕ → PackageText
package_at packages zero = no_package
package_at packages (suc n) = slice_index_or packages n no_package

-- option bit 0: the update is forced
abbrev pub is_forced : ComponentOf → Bool
is_forced c = (c.options % 2) == 1

-- option bit 1: the comparison stamp is used
abbrev pub uses_stamp : ComponentOf → Bool
uses_stamp c = ((c.options / 2) % 2) == 1

-- the comparison stamp as it is sent: all ones if it isn't used
abbrev pub sent_stamp : ComponentOf → ℕ
sent_stamp c = if uses_stamp c then c.stamp else 0xFFFFFFFF

-- the size as it is sent. No planned image reaches the field's limit
abbrev pub sent_size : ComponentOf → ℕ
sent_size c = if nat_lt 0xFFFFFFFF (length c.image) then 0xFFFFFFFF else length c.image

-- A text as it is sent: the bytes that a message carries. No planned text is longer.
abbrev pub sent_text : TextKept → TypedTextOf
sent_text t = record { text_type = t.kind; bytes = take 200 t.bytes }

-- the version of the component's new image
abbrev pub sent_version : ComponentOf → VersionOf
sent_version c = record { stamp = sent_stamp c; text = sent_text c.text }

-- the component's key
abbrev pub key_of : ComponentOf → Key
key_of c = record { classification = c.classification; identifier = c.identifier }

-- a device's descriptor, in the form that a package takes
abbrev pub package_descriptor : DeviceDescriptorOf → DescriptorKnown
package_descriptor d = record { kind = d.kind; bytes = d.bytes }
