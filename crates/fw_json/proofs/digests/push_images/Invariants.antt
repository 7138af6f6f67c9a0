use Rattle.std.proofs.Common.{◌≡◌, ◌+◌, ◌++◌, length}
use Rattle.fw_json.specs.Digests.{image_lines}
use Rattle.fw_json.proofs.digests.push_images.Given as goal

-- the text so far, then the rest to append
abbrev pub invariant-loop-number : goal.invariant-loop-number
invariant-loop-number l = record {
  counted : l.number + length l.components ≡ length l.fn.components;
  told : l.text.items ++ image_lines (l.number + 1) l.components ≡ l.fn.text.items ++ image_lines 1 l.fn.components;
}
