use Rattle.std.proofs.Common.{◌≡◌, drop, map}
use Rattle.fw_package.specs.Package.{descriptor_of}
use Rattle.fw_soak.specs.Naming.{is_named}
use Rattle.fw_soak.proofs.naming.is_named.Given as goal

-- the result for the remaining packages is the result for all
abbrev pub invariant-loop-package : goal.invariant-loop-package
invariant-loop-package l =
    is_named (drop l.package-index l.packages) (map descriptor_of l.descriptors) (record { key = l.key; bytes = l.bytes })
    ≡ is_named l.packages (map descriptor_of l.descriptors) (record { key = l.key; bytes = l.bytes })
