use Rattle.std.proofs.Common.{◌≡◌, ◌≤◌, drop, length, take, true}
use Rattle.fw_script.specs.ScheduleLines.{all_steps}
use Rattle.fw_steps.specs.Steps.{Run}
use Rattle.fwupd_jobs.proofs.replaying.replay_lines.Given as goal

-- the steps before the place are taken, and observed if that is requested; the others remain
abbrev pub invariant-loop-next : goal.invariant-loop-next
invariant-loop-next g l = record {
  run : Run l.fn.world (take l.taken (all_steps l.lines)) l.world;
  left : drop l.taken (all_steps l.lines) ≡ l.steps;
  few : l.taken ≤ length (all_steps l.lines);
  same : (g.V.Observer.watched l.watch).shows ≡ (g.V.Observer.watched l.fn.watch).shows;
  seen : l.is_traced ≡ true → (g.V.Observer.watched l.fn.watch).seen ≡ 0 → (g.V.Observer.watched l.watch).seen ≡ l.taken;
}

abbrev pub decreases-loop-next : goal.decreases-loop-next
decreases-loop-next g l = length l.steps
