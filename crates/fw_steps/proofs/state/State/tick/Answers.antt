use Rattle.std.proofs.Common.{◌<◌, ◌≡◌, ◌∙◌, ap, arith, sym, true}
use Rattle.std.proofs.lemmas.Bool.{lt-ltb}
use Rattle.std.specs.List.{list_all}
use Rattle.fw_steps.specs.Steps.{is_node, may_all_beat}
use Rattle.fw_steps.specs.Worlds.{world_after_tick}
use Rattle.fw_steps.proofs.Leading.{tick_goes, tick_leads}
use Rattle.fw_steps.proofs.state.State.tick.Goals as goal

pub returns-clause-taken : goal.returns-clause-taken
returns-clause-taken g c =
    let w = c.args.self.now in
    let time = ap (λ x. x.now) c.self.view_is in
    let soon : w.now < 4294967295 = omega (arith, c.in-Some.ensures.0, time) in
    let known : list_all (is_node w) c.args.missed.now.items ≡ true = sym (c.if-not-has_nodes.ensures ∙ ap (list_all (is_node w)) c.as_slice.ensures.value) in
    let may : may_all_beat c.args.missed.now.items w ≡ true = sym (c.if-not-may_all_beat.ensures ∙ ap (λ m. may_all_beat m w) c.as_slice-2.ensures.value) in
    tick_leads w c.pass.new.self c.args.missed.now (tick_goes known (lt-ltb w.now 4294967295 soon) may)
    (c.in-Ok.ensures.after ∙ ap (λ m. world_after_tick m w) c.as_slice-3.ensures.value)
