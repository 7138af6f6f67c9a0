use Rattle.std.proofs.Common.{◌≡◌, ◌*◌}
use Rattle.fw_soak.specs.Chances.{generator_past}
use Rattle.fw_soak.proofs.setup.pass_banks.Given as goal

-- two numbers were drawn for each bank
abbrev pub invariant-loop-count : goal.invariant-loop-count
invariant-loop-count l = l.chances.generator ≡ generator_past (2 * l.count) l.fn.chances.generator
