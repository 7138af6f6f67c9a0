use Rattle.std.proofs.Common.{◌≡◌, ◌++◌, map}
use Rattle.fw_package.specs.Package.{descriptor_of}
use Rattle.ua_core.specs.Lent.{package_descriptor}
use Rattle.fw_setup.proofs.forecast_text.known.Given as goal

-- the descriptors so far, and those that are left
abbrev pub invariant-loop-descriptor : goal.invariant-loop-descriptor
invariant-loop-descriptor l =
    (goal.iterator-loop-descriptor).can_next l.descriptor-iterator × (goal.iterator-loop-descriptor).is_finite l.descriptor-iterator
    × (map descriptor_of l.known.items ++ map package_descriptor l.descriptor-iterator ≡ map package_descriptor l.fn.descriptors)
