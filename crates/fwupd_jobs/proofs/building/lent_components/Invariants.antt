use Rattle.std.proofs.Common.{◌≡◌, ◌++◌, drop, map}
use Rattle.fw_package.specs.Asked.{asked_component_of}
use Rattle.fw_script.specs.PackageSpecs.{spec_component_of}
use Rattle.fwupd_jobs.specs.Built.{components_by}
use Rattle.fwupd_jobs.proofs.building.lent_components.Given as goal

-- the components so far, then those of the remaining items, are all
abbrev pub invariant-loop-place : goal.invariant-loop-place
invariant-loop-place l =
    map asked_component_of l.lent.items ++ components_by (map spec_component_of (drop l.place l.components)) (map (λ i. i.items) (drop l.place l.images))
    ≡ components_by (map spec_component_of l.components) (map (λ i. i.items) l.images)
