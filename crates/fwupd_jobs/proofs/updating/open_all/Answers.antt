use Rattle.std.proofs.Common.{◌≡◌, ◌⊎◌, ◌∙◌, arith, rules, subst, sym, true}
use Rattle.fwupd_watch.specs.declared.faults.JobFault.TheVariants as faults
use Rattle.fwupd_jobs.specs.Updated.{IsRoughLink}
use Rattle.fwupd_jobs.proofs.Linked.{linked_all, linked_next, unlinked_at}
use Rattle.fwupd_jobs.proofs.updating.open_all.Goals as goal

pub returns-in-Err-clause-fault : goal.returns-in-Err-clause-fault
returns-in-Err-clause-fault g c =
    unlinked_at c.args.world.now (g.S.Wires.lacks c.args.wires.now c.args.folder.now) c.loop-place.place c.eid.result c.in-Some.node.now c.in-Err.fault (sym (rw c.in-Some.is at c.device_at.ensures)) c.eid.ensures.eid
    (subst (λ lacks. (c.in-Err.fault ≡ faults.Memory) ⊎ ((c.in-Err.fault ≡ faults.Socket c.eid.result) × (lacks c.args.folder.now c.eid.result ≡ true))) c.loop-place.invariant.same c.in-Err.ensures.fault)

pub loop-place-preserved : goal.loop-place-preserved
loop-place-preserved g c = record {
  count = search rules;
  each =
      linked_next (λ unit device link. g.S.Wires.is_to unit c.args.folder.now device link.link ≡ true) c.args.world.now.sites c.loop-place.links.items c.push.new.self.items c.in-Ok-with_room.rough c.loop-place.place
      c.eid.result c.unit.result c.in-Some.node.now (sym (rw c.in-Some.is at c.device_at.ensures)) c.unit.ensures c.eid.ensures.eid
      (subst (λ link. g.S.Wires.is_to c.unit.result c.args.folder.now c.eid.result link ≡ true) (sym c.in-Ok-with_room.ensures.link) c.in-Ok.ensures.to) c.in-Ok-push.ensures.items c.loop-place.invariant.each;
  rough =
      linked_next (λ unit device link. IsRoughLink c.args.roughness device link.roughness link.generator) c.args.world.now.sites c.loop-place.links.items c.push.new.self.items c.in-Ok-with_room.rough c.loop-place.place
      c.eid.result c.unit.result c.in-Some.node.now (sym (rw c.in-Some.is at c.device_at.ensures)) c.unit.ensures c.eid.ensures.eid
      (c.in-Ok-with_room.ensures.roughness, search rules) c.in-Ok-push.ensures.items c.loop-place.invariant.rough;
  same = c.open.ensures.same ∙ c.loop-place.invariant.same;
}

pub returns-clause-each : goal.returns-clause-each
returns-clause-each g c =
    linked_all (λ unit device link. g.S.Wires.is_to unit c.args.folder.now device link.link ≡ true) c.args.world.now.sites c.loop-place.links.items c.loop-place.place (omega arith) c.loop-place.invariant.each

pub returns-clause-rough : goal.returns-clause-rough
returns-clause-rough g c =
    linked_all (λ unit device link. IsRoughLink c.args.roughness device link.roughness link.generator) c.args.world.now.sites c.loop-place.links.items c.loop-place.place (omega arith) c.loop-place.invariant.rough
