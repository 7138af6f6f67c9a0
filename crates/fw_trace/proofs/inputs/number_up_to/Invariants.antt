use Rattle.std.proofs.Common.{◌≡◌, ◌≤◌, drop}
use Rattle.fw_trace.specs.Inputs.{number_after, number_up_to}
use Rattle.fw_trace.proofs.inputs.number_up_to.Given as goal

-- the number of the remaining digits after the value is that of all
abbrev pub invariant-loop-byte : goal.invariant-loop-byte
invariant-loop-byte l = record {
  rest : number_after l.most l.value (drop l.byte-index l.word) ≡ number_up_to l.most l.word;
  within : l.value ≤ l.most;
}
