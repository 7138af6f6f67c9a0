use Rattle.std.proofs.Common.{◌∙◌, ap, arith, get_or}
use Rattle.std.proofs.lemmas.List.{length-set}
use Rattle.fw_node.proofs.Loops.{done_more}
use Rattle.fw_steps.specs.Worlds.{site_after_tick}
use Rattle.fw_steps.proofs.Places.{room_later, room_left}
use Rattle.fw_steps.proofs.sites.pass_all.Goals as goal

pub pass-requires-clause-room : goal.pass-requires-clause-room
pass-requires-clause-room g c =
    let i = c.loop-site.site-index in
    let ss = c.loop-site.sites in
    room_left 64 ss i (get_or ss i c.site-item.result) (omega (arith, c.loop-site.invariant.count)) (ap (get_or ss i) c.site-item.is) c.loop-site.invariant.room

pub loop-site-preserved : goal.loop-site-preserved
loop-site-preserved g c =
    let i = c.loop-site.site-index in
    let ss = c.loop-site.sites in
    record {
      sites = done_more (λ s. s.site) (site_after_tick c.args.missed.now c.args.now) c.args.sites.now ss i (get_or ss i c.site-item.result) c.pass.new.self (omega arith) (ap (get_or ss i) c.site-item.is) c.loop-site.invariant.sites c.pass.ensures.site;
      room = room_later 64 ss i c.pass.new.self c.loop-site.invariant.room;
      outbox = c.pass.ensures.outbox;
      count = length-set ss i c.pass.new.self ∙ c.loop-site.invariant.count;
    }
