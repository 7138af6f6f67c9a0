use Rattle.std.proofs.Common.{arith, map, refl, true, ◌≡◌}
use Rattle.fw_script.specs.Seen.{device_of}
use Rattle.fwupd_base.specs.DeviceSets.{has_eid}
use Rattle.fwupd_nodes.specs.Setups.{has_device}
use Rattle.fwupd_jobs.proofs.Chosen.{below_more}
use Rattle.fwupd_jobs.proofs.choosing.missing_device.Goals as goal

pub loop-eid-preserved : goal.loop-eid-preserved
loop-eid-preserved c =
    below_more (λ other. has_eid c.args.set.now other ≡ true → has_device (map device_of c.args.devices.now) other ≡ true) c.loop-eid.eid c.loop-eid.invariant
    (c.if-is_missing.ensures.there refl)

pub returns-clause-there : goal.returns-clause-there
returns-clause-there c none eid fits = c.loop-eid.invariant eid (omega (arith, fits, c.loop-eid-test.false))
