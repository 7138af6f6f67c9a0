use Rattle.std.proofs.Common.{◌≡◌, ◌++◌, drop}
use Rattle.json.specs.Tree.{items_tokens}
use Rattle.fw_json.specs.Alone.{counted_value}
use Rattle.fw_json.specs.Values.{items}
use Rattle.fw_json.proofs.alone.push_sessions.Given as goal

-- the items so far, then the rest to write
abbrev pub invariant-loop-sent : goal.invariant-loop-sent
invariant-loop-sent l =
    (l.writer.before ≡ l.fn.writer.before)
    × (l.writer.tokens ++ items_tokens (items (counted_value l.agent) (drop l.sent-index l.counts)) ≡ l.fn.writer.tokens ++ items_tokens (items (counted_value l.agent) l.counts))
