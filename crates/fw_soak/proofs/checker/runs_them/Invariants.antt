use Rattle.std.proofs.Common.{◌≡◌, drop, map}
use Rattle.std.specs.List.{list_all}
use Rattle.fw_message.specs.Entries.{entry_of}
use Rattle.fw_script.specs.Seen.{component_of}
use Rattle.fw_soak.specs.Checking.{runs_it}
use Rattle.fw_soak.proofs.checker.runs_them.Given as goal

-- the result for the remaining components is the result for all
abbrev pub invariant-loop-component : goal.invariant-loop-component
invariant-loop-component g l =
    list_all (runs_it (map entry_of l.history) l.eid l.node.half.core.device.rows) (map component_of (drop l.component-index l.components))
    ≡ list_all (runs_it (map entry_of l.history) l.eid l.node.half.core.device.rows) (map component_of l.components)
