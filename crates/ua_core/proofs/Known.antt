-- A device's descriptors, one by one.
use Rattle.std.specs.Prelude.{List, [], length, map, slice_set, take, ◌+◌, ◌++◌, ◌∷◌, ◌<◌, ◌≡◌, ℕ}
use Rattle.std.proofs.Common.{ap, sym, ◌∙◌}
use Rattle.std.proofs.lemmas.List.{append_assoc, map-append, take_more_set}
use Rattle.fw_package.specs.Package.{descriptor_of}
use Rattle.fw_package.specs.declared.texts.Descriptor.{Descriptor}
use Rattle.fwup_wire.specs.Values.{DeviceDescriptorOf}
use Rattle.ua_core.specs.Lent.{package_descriptor}

pub known_more : (known : List Descriptor) (count : ℕ) (d : Descriptor) → count < length known
    → map descriptor_of (take (count + 1) (slice_set known count d)) ≡ map descriptor_of (take count known) ++ descriptor_of d ∷ []
known_more known count d below =
    ap (map descriptor_of) (take_more_set known count d below) ∙ map-append descriptor_of (take count known) (d ∷ [])

-- one more descriptor is known, and one fewer is left
pub known_step : (known : List Descriptor) (count : ℕ) (d : Descriptor) (told : DeviceDescriptorOf) (rest left all : List DeviceDescriptorOf)
    → count < length known → left ≡ told ∷ rest → package_descriptor told ≡ descriptor_of d
    → map descriptor_of (take count known) ++ map package_descriptor left ≡ map package_descriptor all
    → map descriptor_of (take (count + 1) (slice_set known count d)) ++ map package_descriptor rest ≡ map package_descriptor all
known_step known count d told rest left all below is same before =
    ap (λ front. front ++ map package_descriptor rest) (known_more known count d below)
    ∙ append_assoc (map descriptor_of (take count known)) (descriptor_of d ∷ []) (map package_descriptor rest)
    ∙ ap (λ first. map descriptor_of (take count known) ++ first ∷ map package_descriptor rest) (sym same)
    ∙ ap (λ ds. map descriptor_of (take count known) ++ map package_descriptor ds) (sym is)
    ∙ before
