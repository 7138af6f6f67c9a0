use Rattle.std.proofs.Common.{arith, map}
use Rattle.fwupd_jobs.proofs.Builds.{image_fails_at, images_next}
use Rattle.fwupd_jobs.proofs.building.images.Goals as goal

pub returns-in-Err-clause-fault : goal.returns-in-Err-clause-fault
returns-in-Err-clause-fault g c =
    image_fails_at (g.F.Files.holds c.args.files.now) c.args.components.now c.loop-component.component-index c.component-item.result (map (λ x. x.items) c.loop-component.images.items) c.in-Err.fault
    (omega arith) c.component-item.is c.loop-component.invariant c.in-Err.ensures.fault

pub loop-component-preserved : goal.loop-component-preserved
loop-component-preserved g c =
    images_next (g.F.Files.holds c.args.files.now) c.args.components.now c.loop-component.component-index c.component-item.result c.loop-component.images.items c.push.new.self.items c.in-Ok.image
    (omega arith) c.component-item.is c.in-Ok-push.ensures.items c.loop-component.invariant c.in-Ok.ensures.held
