use Rattle.std.proofs.Common.{◌≡◌, ◌⊎◌, subst}
use Rattle.fwupd_nodes.specs.Alone.{device_setup_seen}
use Rattle.fwupd_nodes.specs.Processes.{device_shows}
use Rattle.fwupd_nodes.proofs.Processes.{device_overwrites}
use Rattle.fwupd_watch.specs.Apart.{IsOverRead}
use Rattle.fwupd_watch.specs.declared.faults.JobFault.TheVariants as faults
use Rattle.fwupd_nodes.proofs.device_serving.run_device.Goals as goal

pub returns-in-Err-check_outputs-clause-fault : goal.returns-in-Err-check_outputs-clause-fault
returns-in-Err-check_outputs-clause-fault g c =
    device_overwrites c.args.job.now c.in-Err-check_outputs.fault (device_setup_seen c.in-Ok.setup) (g.H.Files.Files.holds c.args.host.now.files) _ c.args.host.now.output c.in-Ok.ensures.is
    (subst (λ paths. (c.in-Err-check_outputs.fault ≡ faults.Memory) ⊎ IsOverRead (g.H.Files.Files.holds c.args.host.now.files) (device_shows c.args.job.now) paths c.in-Err-check_outputs.fault) c.new-inputs.ensures
    c.in-Err-check_outputs.ensures.fault)
