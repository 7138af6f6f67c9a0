use Rattle.std.proofs.Common.{arith, map}
use Rattle.fwupd_nodes.proofs.Packed.{fails_at, packed_next}
use Rattle.fwupd_nodes.proofs.setups.package_files.Goals as goal

pub returns-in-Err-clause-fault : goal.returns-in-Err-clause-fault
returns-in-Err-clause-fault g c =
    fails_at (g.F.Files.holds c.args.files.now) c.args.paths.now c.loop-path.path-index c.path-item.result c.deref.result.now (map (λ f. f.items) c.loop-path.contents.items) c.in-Err.fault
    (omega arith) c.path-item.is c.deref.ensures c.loop-path.invariant c.in-Err.ensures.fault

pub loop-path-preserved : goal.loop-path-preserved
loop-path-preserved g c =
    packed_next (g.F.Files.holds c.args.files.now) c.args.paths.now c.loop-path.path-index c.path-item.result c.deref.result.now c.loop-path.contents.items c.push.new.self.items c.in-Ok.bytes
    (omega arith) c.path-item.is c.deref.ensures c.in-Ok-push.ensures.items c.loop-path.invariant c.in-Ok.ensures.packed
