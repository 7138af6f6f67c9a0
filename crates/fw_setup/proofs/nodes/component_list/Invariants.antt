use Rattle.std.proofs.Common.{◌≡◌, map, take}
use Rattle.fw_script.specs.Seen.{component_of}
use Rattle.fw_setup.proofs.nodes.component_list.Given as goal

-- the components that were passed are listed
abbrev pub invariant-loop-config : goal.invariant-loop-config
invariant-loop-config l = l.list.items ≡ map (λ c. c.component) (map component_of (take l.config-index l.components))
