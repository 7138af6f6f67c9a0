use Rattle.std.proofs.Common.{length, map, take, ◌≡◌, ◌+◌, ◌++◌}
use Rattle.fw_package.specs.Package.{descriptor_of}
use Rattle.ua_core.proofs.lent.known.Given as goal
use Rattle.ua_core.specs.Lent.{package_descriptor}

-- the descriptors so far, and those that are left
abbrev pub invariant-loop-descriptor : goal.invariant-loop-descriptor
invariant-loop-descriptor l =
    (goal.iterator-loop-descriptor).can_next l.descriptor-iterator × (goal.iterator-loop-descriptor).is_finite l.descriptor-iterator
    × (length l.known ≡ 255)
    × (l.count + length l.descriptor-iterator ≡ length l.descriptors)
    × (map descriptor_of (take l.count l.known) ++ map package_descriptor l.descriptor-iterator ≡ map package_descriptor l.descriptors)
