use Rattle.std.proofs.Common.{◌∙◌, ap, subst}
use Rattle.fw_soak.specs.Chances.{delays_of, drawn_fate}
use Rattle.fw_soak.specs.Turns.{EachIn, Sends, soaking}
use Rattle.fw_soak.proofs.traffic.Traffic.meet.Goals as goal

pub returns-clause-meets : goal.returns-clause-meets
returns-clause-meets c =
    subst (λ a. EachIn (Sends c.args.arrival) (delays_of (drawn_fate c.args.self.now.roughness c.args.chances.now.generator)) a (soaking c.send_each.new.course c.send_each.new.self c.fate.new.self))
    (ap (λ d. record (soaking c.args.course.now c.args.self.now c.args.chances.now) { drawn = d }) c.fate.ensures.after)
    (subst (λ xs. EachIn (Sends c.args.arrival) xs (soaking c.args.course.now c.args.self.now c.fate.new.self) (soaking c.send_each.new.course c.send_each.new.self c.fate.new.self))
    (c.as_slice.ensures.value ∙ c.delays-delays.ensures ∙ ap delays_of c.fate.ensures.fate) (c.in-Ok.ensures.sends c.fate.new.self))
