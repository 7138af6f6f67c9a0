use Rattle.std.proofs.Common.{◌≡◌, ◌++◌, ◌∷◌, []}
use Rattle.std.specs.List.{repeat}
use Rattle.fw_steps.specs.Worlds.{full_tick}
use Rattle.fw_script.proofs.schedule_lines.push_ticks.Given as goal

-- `_pushed` ticks are appended
abbrev pub invariant-loop-pushed : goal.invariant-loop-pushed
invariant-loop-pushed l = l.steps.items ≡ l.fn.steps.items ++ repeat l._pushed (full_tick ∷ [])
