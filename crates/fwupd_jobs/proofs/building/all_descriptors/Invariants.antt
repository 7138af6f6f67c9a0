use Rattle.std.proofs.Common.{◌≡◌, map, take}
use Rattle.fw_package.specs.Package.{descriptor_of}
use Rattle.fw_script.specs.PackageSpecs.{spec_descriptor_of}
use Rattle.fwupd_jobs.proofs.building.all_descriptors.Given as goal

-- the descriptors of the records so far
abbrev pub invariant-loop-said : goal.invariant-loop-said
invariant-loop-said l = map (λ ds. map descriptor_of ds.items) l.lent.items ≡ map (λ r. map spec_descriptor_of r.descriptors.items) (take l.said-index l.records)
