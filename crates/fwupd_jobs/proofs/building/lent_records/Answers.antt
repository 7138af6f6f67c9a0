use Rattle.std.proofs.Common.{ap, arith, map, ◌∙◌}
use Rattle.std.specs.Prelude.{slice_get}
use Rattle.fw_script.specs.PackageSpecs.{spec_descriptor_of}
use Rattle.fwupd_jobs.proofs.Builds.{own_in}
use Rattle.fwupd_jobs.proofs.building.lent_records.Goals as goal

pub lent_record-requires : goal.lent_record-requires
lent_record-requires c =
    own_in (λ r. map spec_descriptor_of r.descriptors.items) c.args.records.now c.loop-place.place c.index-records-place.result _ (omega arith) c.index-records-place.is
    (c.in-Some.ensures ∙ ap (λ ds. slice_get ds c.loop-place.place) c.requires)
