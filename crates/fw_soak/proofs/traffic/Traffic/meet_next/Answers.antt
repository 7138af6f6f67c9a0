use Rattle.std.proofs.Common.{◌∙◌, ap, slice_get, sym}
use Rattle.fw_soak.specs.Looks.{next_arrival}
use Rattle.fw_soak.specs.Turns.{soaking}
use Rattle.fw_soak.proofs.Meeting.{meets_next}
use Rattle.fw_soak.proofs.traffic.Traffic.meet_next.Goals as goal

pub returns-clause-next : goal.returns-clause-next
returns-clause-next c =
    meets_next c.args.place c.in-Some.met c.in-Some-next_of.arrival (soaking c.args.course.now c.args.self.now c.args.chances.now) (soaking c.meet.new.course c.meet.new.self c.meet.new.chances)
    (ap (λ xs. slice_get xs c.args.place) (sym c.as_slice.ensures.value) ∙ sym c.in-Some.ensures.value) (ap (λ w. next_arrival w c.args.place c.in-Some.met) (sym c.world.ensures) ∙ sym c.in-Some-next_of.ensures) c.in-Ok.ensures.meets
