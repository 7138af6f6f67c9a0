use Rattle.std.proofs.Common.{◌≡◌, drop, map}
use Rattle.fd_core.specs.Images.{row_of}
use Rattle.fw_script.specs.Seen.{component_of}
use Rattle.fw_setup.specs.Nodes.{row_made}
use Rattle.fw_setup.proofs.foretold.running.Given as goal

-- the answer for the components that are left is the answer for all
abbrev pub invariant-loop-config : goal.invariant-loop-config
invariant-loop-config l =
    row_of (map row_made (map component_of (drop l.config-index l.components))) l.key ≡ row_of (map row_made (map component_of l.components)) l.key
