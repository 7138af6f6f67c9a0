use Rattle.std.proofs.Common.{◌≡◌, ◌+◌, ◌++◌, length, map}
use Rattle.json.specs.Tree.{items_tokens}
use Rattle.fw_package.specs.Package.{descriptor_of}
use Rattle.fw_json.specs.Plans.{lack_value}
use Rattle.fw_json.specs.Values.{numbered_items}
use Rattle.fw_json.proofs.plan.push_lacks.Given as goal

-- the items so far, then the rest to write
abbrev pub invariant-loop-number : goal.invariant-loop-number
invariant-loop-number l = record {
  counted : l.number + length l.records ≡ length l.fn.records;
  before : l.writer.before ≡ l.fn.writer.before;
  told :
      l.writer.tokens ++ items_tokens (numbered_items (lack_value (map descriptor_of l.device)) (l.number + 1) l.records)
      ≡ l.fn.writer.tokens ++ items_tokens (numbered_items (lack_value (map descriptor_of l.device)) 1 l.fn.records);
}
