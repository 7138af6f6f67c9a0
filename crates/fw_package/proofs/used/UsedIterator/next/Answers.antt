use Rattle.std.proofs.Common.{◌∙◌, sym}
use Rattle.fw_package.specs.Lent.{component_seen}
use Rattle.fw_package.proofs.Walked.{used_next}
use Rattle.fw_package.proofs.used.UsedIterator.next.Goals as goal

pub invariant_of-self : goal.invariant_of-self
invariant_of-self c =
    (used_next c.self.inside.at c.in_ok-next.field-0 c.from-number.result c.self.inside.left c.self.inside.uses c.next.new.self (component_seen c.in-Some.component) c.next-2.new.self
    c.self.invariant (sym c.iter-uses.ensures ∙ c.in_ok-next.ensures.steps) c.from-number.ensures (sym c.from-left.ensures ∙ c.in-Some.ensures.steps)).are

pub returns-clause-steps : goal.returns-clause-steps
returns-clause-steps c =
    sym c.self.view_is
    ∙ (used_next c.self.inside.at c.in_ok-next.field-0 c.from-number.result c.self.inside.left c.self.inside.uses c.next.new.self (component_seen c.in-Some.component) c.next-2.new.self
    c.self.invariant (sym c.iter-uses.ensures ∙ c.in_ok-next.ensures.steps) c.from-number.ensures (sym c.from-left.ensures ∙ c.in-Some.ensures.steps)).list
