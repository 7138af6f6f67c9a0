use Rattle.std.proofs.Common.{◌≡◌, append_assoc, ap, refl}
use Rattle.fw_steps.specs.declared.step.Step.{Step}
use Rattle.fw_steps.specs.declared.step.Step.TheVariants as steps
use Rattle.fw_steps.specs.Worlds.{full_tick}
use Rattle.fw_script.proofs.Steps.{repeat_more}
use Rattle.fw_script.proofs.schedule_lines.push_ticks.Goals as goal

pub loop-pushed-preserved : goal.loop-pushed-preserved
loop-pushed-preserved c =
    let full : ◌≡◌ {A = Step} (steps.Tick c.new.result) full_tick = ap (λ xs. steps.Tick (record { items = xs })) c.new.ensures in
    rw (c.in_ok-push.ensures.items, c.loop-pushed.invariant, repeat_more, append_assoc, full) refl
