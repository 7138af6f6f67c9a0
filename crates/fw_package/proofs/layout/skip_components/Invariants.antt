use Rattle.std.proofs.Common.{◌≡◌, ◌-◌}
use Rattle.fw_package.specs.Layout.{after_components}
use Rattle.fw_package.proofs.layout.skip_components.Given as goal

-- the bytes after the components left are the bytes after all
abbrev pub invariant-loop-component : goal.invariant-loop-component
invariant-loop-component l = after_components (l.count - l._component) l.rest ≡ after_components l.count l.bytes
