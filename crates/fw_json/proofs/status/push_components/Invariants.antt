use Rattle.std.proofs.Common.{◌≡◌, ◌++◌, drop, map}
use Rattle.json.specs.Tree.{items_tokens}
use Rattle.fw_script.specs.Seen.{component_of}
use Rattle.fw_json.specs.Statuses.{component_status_value}
use Rattle.fw_json.specs.Values.{items}
use Rattle.fw_json.proofs.status.push_components.Given as goal

-- the items so far, then the rest to write
abbrev pub invariant-loop-config : goal.invariant-loop-config
invariant-loop-config l =
    (l.writer.before ≡ l.fn.writer.before)
    × (l.writer.tokens ++ items_tokens (items component_status_value (map component_of (drop l.config-index l.components)))
    ≡ l.fn.writer.tokens ++ items_tokens (items component_status_value (map component_of l.components)))
