use Rattle.std.proofs.Common.{◌≡◌, ◌++◌, drop, map}
use Rattle.std.specs.List.{flat_map}
use Rattle.fw_script.specs.PackageSpecs.{spec_descriptor_of}
use Rattle.fwupd_clues.specs.Warnings.{descriptor_warning}
use Rattle.fwupd_clues.proofs.warnings.push_descriptors.Given as goal

-- the warnings so far, then those of the remaining descriptors
abbrev pub invariant-loop-descriptor : goal.invariant-loop-descriptor
invariant-loop-descriptor l =
    l.text.items ++ flat_map (descriptor_warning l.path l.number) (map spec_descriptor_of (drop l.descriptor-index l.descriptors))
    ≡ l.fn.text.items ++ flat_map (descriptor_warning l.path l.number) (map spec_descriptor_of l.fn.descriptors)
