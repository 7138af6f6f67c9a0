use Rattle.fw_package.specs.Lent.{component_seen}
use Rattle.fw_package.proofs.Twins.{packed_all, packed_more}
use Rattle.fw_package.proofs.used.Used.keys.Goals as goal

pub loop-component-preserved : goal.loop-component-preserved
loop-component-preserved c =
    rw (c.push.ensures.items, c.key.ensures.value) (
      tt,
      tt,
      packed_more c.args.self c.loop-component.component-iterator c.next.new.self c.loop-component.keys.items (component_seen c.in-Some.component) c.loop-component.invariant.2 c.in-Some.ensures.steps (c.key.ensures.high, c.key.ensures.low),
    )

pub returns : goal.returns
returns c = packed_all c.args.self c.loop-component.component-iterator c.loop-component.keys.items c.loop-component.invariant.2 c.in-None.ensures.steps.0
