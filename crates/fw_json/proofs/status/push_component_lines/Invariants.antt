use Rattle.std.proofs.Common.{◌≡◌, ◌++◌, map, take}
use Rattle.std.specs.List.{flat_map}
use Rattle.fw_script.specs.Seen.{component_of}
use Rattle.fw_json.specs.Statuses.{component_status_line}
use Rattle.fw_json.proofs.status.push_component_lines.Given as goal

-- the components that were passed are written
abbrev pub invariant-loop-config : goal.invariant-loop-config
invariant-loop-config l =
    l.text.items ≡ l.fn.text.items ++ flat_map component_status_line (map component_of (take l.config-index l.components))
