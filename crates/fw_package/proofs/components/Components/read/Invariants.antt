use Rattle.std.proofs.Common.{◌≡◌, ◌-◌, IsSome}
use Rattle.fw_package.specs.Components.{components_of}
use Rattle.fw_package.specs.Layout.{after_components}
use Rattle.fw_package.proofs.Rows.{fault_of}
use Rattle.fw_package.proofs.components.Components.read.Given as goal

-- the walk goes through the components left, and their fault is that of all
abbrev pub invariant-loop-component : goal.invariant-loop-component
invariant-loop-component l = record {
  there : IsSome (after_components (l.count - l._component) l.rest);
  same : fault_of (components_of l.file (l.count - l._component) l.rest) ≡ fault_of (components_of l.file l.count l.bytes);
}
