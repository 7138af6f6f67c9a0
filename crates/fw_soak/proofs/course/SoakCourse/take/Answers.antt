use Rattle.std.proofs.Common.{rules, inl, subst}
use Rattle.fw_soak.proofs.Coursing.{goes_step}
use Rattle.fw_soak.specs.Courses.{CourseOf, ContinuesRun, TriesStep}
use Rattle.fw_soak.proofs.course.SoakCourse.take.Goals as goal

pub returns-clause-goes : goal.returns-clause-goes
returns-clause-goes c =
    subst (λ (m : CourseOf). ContinuesRun m (record { steps = c.push.new.self.items; world = c.step.new.self })) c.self.view_is
    (goes_step (record { steps = c.self.inside.steps.items; world = c.self.inside.world }) (record { steps = c.push.new.self.items; world = c.step.new.self }) c.args.step
    c.in-Ok-step.ensures.taken (search rules))

pub returns-clause-tried : goal.returns-clause-tried
returns-clause-tried c =
    subst (λ (m : CourseOf). TriesStep c.args.step m (record { steps = c.push.new.self.items; world = c.step.new.self })) c.self.view_is
    (inl (record { step = c.in-Ok-step.ensures.taken; listed = search rules }))
