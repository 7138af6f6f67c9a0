use Rattle.std.proofs.Common.{◌≡◌, ◌++◌, drop, map}
use Rattle.json.specs.Tree.{items_tokens}
use Rattle.fw_script.specs.Seen.{component_of}
use Rattle.fw_setup.specs.Nodes.{row_made}
use Rattle.fw_json.specs.Plans.{offer_items}
use Rattle.fw_json.proofs.plan.push_offers.Given as goal

-- the items so far, then the rest to write
abbrev pub invariant-loop-number : goal.invariant-loop-number
invariant-loop-number l =
    (l.writer.before ≡ l.fn.writer.before)
    × (l.writer.tokens ++ items_tokens (offer_items l.contents (map row_made (map component_of l.components)) (drop l.number-index l.numbers))
    ≡ l.fn.writer.tokens ++ items_tokens (offer_items l.contents (map row_made (map component_of l.components)) l.numbers))
