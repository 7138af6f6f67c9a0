use Rattle.std.proofs.Common.{map, take}
use Rattle.fw_script.specs.PackageSpecs.{spec_component_of}
use Rattle.fwupd_jobs.specs.Built.{AreImages}
use Rattle.fwupd_jobs.proofs.building.images.Given as goal

-- the images so far
abbrev pub invariant-loop-component : goal.invariant-loop-component
invariant-loop-component g l = AreImages (g.F.Files.holds l.files) (map spec_component_of (take l.component-index l.components)) (map (λ i. i.items) l.images.items)
