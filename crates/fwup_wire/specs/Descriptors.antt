-- The descriptors of a device (DSP0267 1.0, "Descriptor definition"): each has a type, a length and
-- its data.
use Rattle.std.specs.Prelude.{List, None, Option, Some, if◌then◌else◌, length, nat_le, take, ◌+◌, ◌++◌, ◌∷◌, ◌<◌, ◌^◌, ℕ}
use Rattle.byteorder.specs.Endian.{little_bytes}
use Rattle.fwup_wire.specs.Fields.{u16_of}
use Rattle.fwup_wire.specs.Items.{AreItems, HoldsItems, items_bytes, items_in}
use Rattle.fwup_wire.specs.Values.{DeviceDescriptorOf}

-- the descriptor at the beginning of the bytes, if there is one
abbrev pub first_descriptor : List ℕ → Option DeviceDescriptorOf
first_descriptor (k0 ∷ k1 ∷ l0 ∷ l1 ∷ rest) =
    if nat_le (u16_of l0 l1) (length rest)
    then Some (record { kind = u16_of k0 k1; bytes = take (u16_of l0 l1) rest })
    else None
first_descriptor _ = None

-- the number of its bytes
abbrev pub descriptor_size : DeviceDescriptorOf → ℕ
descriptor_size d = 4 + length d.bytes

-- `count` descriptors and nothing after them, if the bytes are that
abbrev pub descriptors_in : ℕ → List ℕ → Option (List DeviceDescriptorOf)
descriptors_in count bytes = items_in first_descriptor descriptor_size count bytes

-- the encoded form of a descriptor, and of a list of descriptors
abbrev pub descriptor_bytes : DeviceDescriptorOf → List ℕ
descriptor_bytes d = little_bytes 2 d.kind ++ little_bytes 2 (length d.bytes) ++ d.bytes

abbrev pub descriptors_bytes : List DeviceDescriptorOf → List ℕ
descriptors_bytes ds = items_bytes descriptor_bytes ds

-- its type and its length fit their fields
abbrev pub HasDescriptorWidths : DeviceDescriptorOf → Type 0
HasDescriptorWidths d = (d.kind < 256 ^ 2) × (length d.bytes < 256 ^ 2)

-- The bytes are the given number of descriptors in their encoded form, and these are the
-- descriptors.
abbrev pub AreDescriptors : ℕ → List ℕ → List DeviceDescriptorOf → Type 0
AreDescriptors count bytes ds = AreItems first_descriptor descriptor_size descriptor_bytes count bytes ds

-- the same of a list that is built: its descriptors fit their fields
abbrev pub HoldsDescriptors : ℕ → List ℕ → List DeviceDescriptorOf → Type 0
HoldsDescriptors count bytes ds =
    HoldsItems first_descriptor descriptor_size descriptor_bytes HasDescriptorWidths count bytes ds
