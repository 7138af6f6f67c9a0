use Rattle.std.proofs.Common.{◌≡◌, ◌+◌, ◌≤◌, length}
use Rattle.fw_script.specs.Lines.{lines_of}
use Rattle.fw_script.specs.Configs.{config_from, config_of}
use Rattle.fw_script.proofs.draft.read_lines.Given as goal

-- reading the remaining lines gives the result of reading all
abbrev pub invariant-loop-rest : goal.invariant-loop-rest
invariant-loop-rest l = record {
  counted : l.line + length l.rest ≤ length l.text;
  read : config_from (lines_of l.rest) (l.line + 1) l.draft ≡ config_of l.text;
}

abbrev pub decreases-loop-rest : goal.decreases-loop-rest
decreases-loop-rest l = length l.rest
