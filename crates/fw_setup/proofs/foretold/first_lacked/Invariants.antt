use Rattle.std.proofs.Common.{◌≡◌, map}
use Rattle.fw_package.specs.Package.{descriptor_of}
use Rattle.fw_setup.specs.Forecasts.{first_lacked}
use Rattle.fw_setup.proofs.foretold.first_lacked.Given as goal

-- the answer for the descriptors that are left is the answer for all
abbrev pub invariant-loop-descriptor : goal.invariant-loop-descriptor
invariant-loop-descriptor l =
    (goal.iterator-loop-descriptor).can_next l.descriptor-iterator × (goal.iterator-loop-descriptor).is_finite l.descriptor-iterator
    × (first_lacked (map descriptor_of l.device) l.descriptor-iterator ≡ first_lacked (map descriptor_of l.device) l.fn.descriptors)
