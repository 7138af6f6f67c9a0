use Rattle.std.proofs.Common.{◌≡◌}
use Rattle.fw_message.specs.Lending.{is_lent_by}
use Rattle.fw_message.proofs.lending.lent_by.Given as goal

-- one of the components that are left has it exactly if one of all does
abbrev pub invariant-loop-component : goal.invariant-loop-component
invariant-loop-component l = record {
  same : is_lent_by l.component-iterator l.key l.bytes ≡ is_lent_by l.fn.components l.key l.bytes;
}
