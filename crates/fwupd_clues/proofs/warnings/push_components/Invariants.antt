use Rattle.std.proofs.Common.{◌≡◌, ◌++◌, drop, map}
use Rattle.fw_script.specs.PackageSpecs.{spec_component_of, spec_record_of}
use Rattle.fwupd_clues.specs.Warnings.{warnings_of_components}
use Rattle.fwupd_clues.proofs.warnings.push_components.Given as goal

-- the warnings so far, then those of the remaining components
abbrev pub invariant-loop-place : goal.invariant-loop-place
invariant-loop-place l =
    l.text.items ++ warnings_of_components l.path (map spec_record_of l.records) l.place (map spec_component_of (drop l.place l.components))
    ≡ l.fn.text.items ++ warnings_of_components l.path (map spec_record_of l.records) 0 (map spec_component_of l.fn.components)
