use Rattle.std.proofs.Common.{◌∙◌, ap, sym}
use Rattle.std.specs.Prelude.{option_map}
use Rattle.fw_package.specs.Choice.{component_at}
use Rattle.fw_package.specs.Lent.{component_seen}
use Rattle.fw_soak.proofs.Sole.{looks_here, looks_past, mapped_some}
use Rattle.fw_soak.proofs.naming.sole_image.Goals as goal

pub loop-number-preserved-then-is_of : goal.loop-number-preserved-then-is_of
loop-number-preserved-then-is_of c = (
  tt,
  tt,
  looks_here c.args.«package».now c.args.key.classification c.args.key.identifier c.args.uses c.loop-number.number-iterator c.next.new.self c.in-Some.number
      (option_map (λ i. i.now) c.loop-number.found) (component_seen c.component_at-component.result) c.in-Some.ensures.steps
      (c.component_at-component.ensures ∙ ap (component_at c.args.«package».now) c.from.ensures) (sym c.is_of.ensures ∙ c.if-is_of.true)
      (mapped_some (λ i. i.now) c.loop-number.found ∙ sym c.is_some.ensures ∙ c.if-is_some.false) c.loop-number.invariant.2,
)

pub loop-number-preserved : goal.loop-number-preserved
loop-number-preserved c = (
  tt,
  tt,
  looks_past c.args.«package».now c.args.key.classification c.args.key.identifier c.args.uses c.loop-number.number-iterator c.next.new.self c.in-Some.number
      (option_map (λ i. i.now) c.loop-number.found) (component_seen c.component_at-component.result) c.in-Some.ensures.steps
      (c.component_at-component.ensures ∙ ap (component_at c.args.«package».now) c.from.ensures) (sym c.is_of.ensures ∙ c.if-is_of.false) c.loop-number.invariant.2,
)
