use Rattle.std.proofs.Common.{◌≡◌, ◌+◌, ◌++◌, length}
use Rattle.fwupd_base.specs.Inspection.{components_text}
use Rattle.fwupd_base.proofs.inspection.push_components.Given as goal

-- the text so far, then the rest to append
abbrev pub invariant-loop-number : goal.invariant-loop-number
invariant-loop-number l = record {
  counted : l.number + length l.components ≡ length l.fn.components;
  told : l.text.items ++ components_text (l.number + 1) l.components ≡ l.fn.text.items ++ components_text 1 l.fn.components;
}
