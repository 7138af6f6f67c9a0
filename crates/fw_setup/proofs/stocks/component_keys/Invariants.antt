use Rattle.std.proofs.Common.{◌≡◌, map, take}
use Rattle.fd_core.specs.Images.{key_of}
use Rattle.fw_script.specs.Seen.{component_of}
use Rattle.fw_setup.specs.Nodes.{row_made}
use Rattle.fw_setup.proofs.stocks.component_keys.Given as goal

-- the keys so far are there
abbrev pub invariant-loop-config : goal.invariant-loop-config
invariant-loop-config l = l.keys.items ≡ map key_of (map row_made (map component_of (take l.config-index l.components)))
