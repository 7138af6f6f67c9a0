use Rattle.std.proofs.Common.{◌≡◌, ◌∙◌, true, ◌≤◌, ap, arith, map, subst, sym}
use Rattle.std.proofs.lemmas.List.{with_items_is}
use Rattle.std.specs.Vec.{with_items}
use Rattle.std.specs.List.{AllByRecursion}
use Rattle.fw_node.specs.AgentViews.{half_in}
use Rattle.fw_node.specs.Agents.{IsAddressed, agent_tick_sends, agent_ticks}
use Rattle.fw_node.specs.Cores.{session_core}
use Rattle.fw_node.specs.Halves.{half_ticks}
use Rattle.fw_node.proofs.AgentTicks.{addressed_any, deaf_ticks, hearing_sends, hearing_ticks, ticks_halves}
use Rattle.fw_node.proofs.agent_node.AgentNode.on_tick.Goals as goal

pub returns-then-self-gt1-clause-after : goal.returns-then-self-gt1-clause-after
returns-then-self-gt1-clause-after c =
    deaf_ticks c.args.packages.now c.args.now c.self.inside.deaf c.self.inside.identity c.self.inside.log c.self.inside.halves.items (omega (arith, c.if-self-gt1.true))
    ∙ ap (agent_ticks c.args.packages.now c.args.now) c.self.view_is

pub returns-clause-after : goal.returns-clause-after
returns-clause-after c =
    let v = c.self.inside.halves in
    let once = with_items v c.grow_all.new.halves in
    let first = c.as_mut_slice-2.ensures.value ∙ with_items_is v c.grow_all.new.halves (c.grow_all.ensures.count ∙ c.as_mut_slice.ensures.len) in
    let last = with_items_is once c.wait_all.new.halves (c.wait_all.ensures.count ∙ c.as_mut_slice-2.ensures.len) in
    hearing_ticks c.args.packages.now c.args.now c.self.inside.deaf c.self.inside.identity c.self.inside.log c.grow_all.new.log c.wait_all.new.log v.items c.grow_all.new.halves (with_items once c.wait_all.new.halves).items
    (omega (arith, c.if-self-gt1.false))
    (rw c.as_mut_slice.ensures.value at c.grow_all.ensures.halves) (ap (map (half_in 0)) last ∙ (rw first at c.wait_all.ensures.halves))
    (rw c.as_mut_slice.ensures.value at c.grow_all.ensures.log) (rw first at c.wait_all.ensures.log)
    ∙ ap (agent_ticks c.args.packages.now c.args.now) c.self.view_is

pub returns-clause-sent : goal.returns-clause-sent
returns-clause-sent c =
    let v = c.self.inside.halves in
    let first = c.as_mut_slice-2.ensures.value ∙ with_items_is v c.grow_all.new.halves (c.grow_all.ensures.count ∙ c.as_mut_slice.ensures.len) in
    hearing_sends c.args.packages.now c.self.inside.deaf c.self.inside.identity c.self.inside.log c.grow_all.new.outbox c.wait_all.new.outbox v.items c.grow_all.new.halves
    (omega (arith, c.if-self-gt1.false))
    (rw c.as_mut_slice.ensures.value at c.grow_all.ensures.halves)
    (rw (c.requires, c.as_mut_slice.ensures.value) at c.grow_all.ensures.sent) (rw first at c.wait_all.ensures.sent)
    ∙ ap (agent_tick_sends c.args.packages.now) c.self.view_is

pub returns-then-self-gt1-clause-halves : goal.returns-then-self-gt1-clause-halves
returns-then-self-gt1-clause-halves c =
    ap (λ n. n.halves) (returns-then-self-gt1-clause-after c)
    ∙ subst (λ n. (agent_ticks c.args.packages.now c.args.now n).halves ≡ map (λ h. (half_ticks (session_core c.args.packages.now) true h).half) n.halves) c.self.view_is
    (ticks_halves c.args.packages.now c.args.now c.self.inside.deaf c.self.inside.identity c.self.inside.log c.self.inside.halves.items)

pub returns-clause-halves : goal.returns-clause-halves
returns-clause-halves c =
    ap (λ n. n.halves) (returns-clause-after c)
    ∙ subst (λ n. (agent_ticks c.args.packages.now c.args.now n).halves ≡ map (λ h. (half_ticks (session_core c.args.packages.now) true h).half) n.halves) c.self.view_is
    (ticks_halves c.args.packages.now c.args.now c.self.inside.deaf c.self.inside.identity c.self.inside.log c.self.inside.halves.items)

pub returns-then-self-gt1-clause-addressed : goal.returns-then-self-gt1-clause-addressed
returns-then-self-gt1-clause-addressed c few =
    let deaf : c.self.inside.deaf ≤ 1 = subst (λ n. n.deaf ≤ 1) (sym c.self.view_is) few in
    absurd (omega (arith, deaf, c.if-self-gt1.true))

pub returns-clause-addressed : goal.returns-clause-addressed
returns-clause-addressed c few =
    let deaf : c.self.inside.deaf ≤ 1 = subst (λ n. n.deaf ≤ 1) (sym c.self.view_is) few in
    subst (λ n. AllByRecursion (IsAddressed c.args.packages.now) n.halves) c.self.view_is
    (addressed_any c.args.packages.now c.self.inside.deaf c.self.inside.halves.items deaf
    (subst (λ ps. AllByRecursion (IsAddressed c.args.packages.now) (map (half_in 0) ps)) c.as_mut_slice.ensures.value c.grow_all.ensures.addressed))
