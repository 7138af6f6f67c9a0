use Rattle.std.proofs.Common.{◌≡◌, ◌+◌, ◌++◌, length}
use Rattle.json.specs.Tree.{items_tokens}
use Rattle.fw_json.specs.Digests.{digested_component_value}
use Rattle.fw_json.specs.Values.{numbered_items}
use Rattle.fw_json.proofs.digests.push_components.Given as goal

-- the items so far, then the rest to write
abbrev pub invariant-loop-number : goal.invariant-loop-number
invariant-loop-number l = record {
  counted : l.number + length l.components ≡ length l.fn.components;
  before : l.writer.before ≡ l.fn.writer.before;
  told : l.writer.tokens ++ items_tokens (numbered_items digested_component_value (l.number + 1) l.components) ≡ l.fn.writer.tokens ++ items_tokens (numbered_items digested_component_value 1 l.fn.components);
}
