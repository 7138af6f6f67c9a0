-- Two runs of the same steps without failed calls end in the same world.
use Rattle.std.proofs.Common.{◌≡◌, ◌∙◌, List, [], ◌∷◌, Ok, ap, subst, sym, true}
use Rattle.fw_json.specs.Forms.{report_in}
use Rattle.fw_steps.specs.Steps.{StepsTo, Run, world_after}
use Rattle.fw_steps.specs.Worlds.{WorldOf}
use Rattle.fw_steps.specs.declared.step.Step.{Step}
use Rattle.fwupd_jobs.specs.Recorded.{AllWork, RecordsReplay}

-- the same for one step
same_after : (w v u : WorldOf) (s : Step) (h : StepsTo w s v) (k : StepsTo w s u) → h.works ≡ true → k.works ≡ true → u ≡ v
same_after w v u s h k works again =
    k.after ∙ ap (λ b. world_after b k.faults w s) again ∙ ap (λ n. world_after true n w s) (k.worked again ∙ sym (h.worked works))
    ∙ sym (h.after ∙ ap (λ b. world_after b h.faults w s) works)

runs_agree : (w v u : WorldOf) (ss : List Step) (h : Run w ss v) (k : Run w ss u) → AllWork w ss v h → AllWork w ss u k → u ≡ v
runs_agree w v u [] h k works again = k ∙ sym h
runs_agree w v u (s ∷ ss) h k works again =
    let same : k.0 ≡ h.0 = same_after w h.0 k.0 s h.1 k.1 works.0 again.0 in
    let moved : (rest : Run h.0 ss u) × AllWork h.0 ss u rest = subst (λ x. (rest : Run x ss u) × AllWork x ss u rest) same (k.2, again.1) in
    runs_agree h.0 v u ss h.2 moved.0 works.1 moved.1

pub records_replay : RecordsReplay
records_replay w v u r form h steps read k works again =
    let same : steps ≡ h.steps = (let e : Ok steps ≡ Ok h.steps = sym read ∙ h.reads in cc) in
    let moved : (run : Run w h.steps u) × AllWork w h.steps u run = subst (λ ss. (run : Run w ss u) × AllWork w ss u run) same (k, again) in
    ap (report_in form) (runs_agree w v u h.steps h.run moved.0 works moved.1)
