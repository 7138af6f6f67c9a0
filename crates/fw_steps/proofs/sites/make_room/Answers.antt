use Rattle.std.proofs.Common.{◌∙◌, ap, arith, get_or, subst, sym, take}
use Rattle.std.proofs.lemmas.List.{length-set, take_more_set}
use Rattle.fw_steps.specs.Sites.{HaveRoom}
use Rattle.fw_steps.proofs.Places.{lacks_here, lacks_later, room_more, same_put}
use Rattle.fw_steps.proofs.sites.make_room.Goals as goal

pub loop-site-preserved : goal.loop-site-preserved
loop-site-preserved g c =
    let i = c.loop-site.site-index in
    let ss = c.loop-site.sites in
    record {
      room = subst (HaveRoom c.args.count) (sym (take_more_set ss i c.make_room.new.self (omega (arith, c.loop-site.invariant.count)))) (room_more c.args.count (take i ss) c.make_room.new.self c.loop-site.invariant.room c.in-Ok.ensures.room);
      same = same_put ss i (get_or ss i c.site-item.result) c.make_room.new.self (omega (arith, c.loop-site.invariant.count)) (ap (get_or ss i) c.site-item.is) c.make_room.ensures.same ∙ c.loop-site.invariant.same;
      count = length-set ss i c.make_room.new.self ∙ c.loop-site.invariant.count;
      lacks = λ h. c.loop-site.invariant.lacks (lacks_later c.args.count ss i c.make_room.new.self h);
    }

pub returns-in-Err-clause-same : goal.returns-in-Err-clause-same
returns-in-Err-clause-same g c =
    let i = c.loop-site.site-index in
    let ss = c.loop-site.sites in
    same_put ss i (get_or ss i c.site-item.result) c.make_room.new.self (omega (arith, c.loop-site.invariant.count)) (ap (get_or ss i) c.site-item.is) c.make_room.ensures.same ∙ c.loop-site.invariant.same

pub returns-in-Err-clause-lacked : goal.returns-in-Err-clause-lacked
returns-in-Err-clause-lacked g c =
    let i = c.loop-site.site-index in
    let ss = c.loop-site.sites in
    c.loop-site.invariant.lacks
    (lacks_here c.args.count ss i (get_or ss i c.site-item.result) (omega (arith, c.loop-site.invariant.count)) (ap (get_or ss i) c.site-item.is) c.in-Err.ensures.lacked)
