use Rattle.std.proofs.Common.{◌≡◌, ◌-◌, IsSome}
use Rattle.fw_package.specs.Outlines.{places_of}
use Rattle.fw_package.specs.Layout.{after_components}
use Rattle.fw_package.proofs.Rows.{fault_of}
use Rattle.fw_package.proofs.places.ComponentPlaces.read.Given as goal

-- the walk goes through the components left, and their fault is that of all
abbrev pub invariant-loop-component : goal.invariant-loop-component
invariant-loop-component l = record {
  there : IsSome (after_components (l.count - l._component) l.rest);
  same : fault_of (places_of l.file_length (l.count - l._component) l.rest) ≡ fault_of (places_of l.file_length l.count l.bytes);
}
