use Rattle.std.proofs.Common.{◌≡◌, map, take}
use Rattle.fw_package.specs.Package.{descriptor_of}
use Rattle.fw_script.specs.PackageSpecs.{spec_descriptor_of}
use Rattle.fwupd_jobs.proofs.building.lent_descriptors.Given as goal

-- the descriptors so far
abbrev pub invariant-loop-said : goal.invariant-loop-said
invariant-loop-said l = map descriptor_of l.lent.items ≡ map spec_descriptor_of (take l.said-index l.descriptors)
