use Rattle.std.proofs.Common.{refl}
use Rattle.fwupd_jobs.proofs.Chosen.{chosen_by, whole_chosen_by}
use Rattle.fwupd_jobs.proofs.choosing.chosen_devices.Goals as goal

pub returns-in-None-clause-chosen : goal.returns-in-None-clause-chosen
returns-in-None-clause-chosen c =
    chosen_by c.args.chosen c.in-Some.set c.as_slice.result.now c.args.devices.items c.keep_members.new.devices.items c.in-Some.is c.as_slice.ensures.value (c.in-None.ensures.there refl) c.keep_members.ensures

pub returns-in-None-clause-whole : goal.returns-in-None-clause-whole
returns-in-None-clause-whole c =
    whole_chosen_by c.in-Some.set c.as_slice.result.now c.args.devices.items c.keep_members.new.devices.items c.as_slice.ensures.value (c.in-None.ensures.there refl) c.keep_members.ensures
