use Rattle.std.proofs.Common.{◌∙◌, arith, sym}
use Rattle.pldm_exch.proofs.Callers.{due_is, more_is, over_is}
use Rattle.pldm_exch.proofs.caller.Caller.tick.Goals as goal

pub invariant_of-self : goal.invariant_of-self
invariant_of-self c = rw (c.tick.ensures, c.in_default.is) (over_is _ c.self.invariant)

pub invariant_of-self-then-is_due : goal.invariant_of-self-then-is_due
invariant_of-self-then-is_due c =
    let h = rw c.in-Some.is at c.self.invariant in
    rw (c.start.ensures, c.tag.ensures.value, c.tick.ensures)
    (due_is _ _ h h.asked (sym c.is_due.ensures ∙ c.if-is_due.true))

pub invariant_of-self-then-open-eq-GIVEN_UP : goal.invariant_of-self-then-open-eq-GIVEN_UP
invariant_of-self-then-open-eq-GIVEN_UP c = rw c.tick.ensures (over_is _ c.self.invariant)

pub invariant_of-self-else-open-eq-GIVEN_UP : goal.invariant_of-self-else-open-eq-GIVEN_UP
invariant_of-self-else-open-eq-GIVEN_UP c =
    let h = rw c.in-Some.is at c.self.invariant in
    rw c.tick.ensures (more_is _ _ h h.asked (sym c.is_due.ensures ∙ c.if-is_due.false) (λ e. absurd (omega (arith, e))))
