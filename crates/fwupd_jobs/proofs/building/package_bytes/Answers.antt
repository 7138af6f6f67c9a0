use Rattle.std.proofs.Common.{map}
use Rattle.fw_script.specs.PackageSpecs.{spec_seen}
use Rattle.fwupd_jobs.proofs.Builds.{whole_built}
use Rattle.fwupd_jobs.proofs.building.package_bytes.Goals as goal

pub returns-in-Ok-whole-clause-built : goal.returns-in-Ok-whole-clause-built
returns-in-Ok-whole-clause-built g c =
    whole_built (g.F.Files.holds c.args.files.now) c.args.path.now (spec_seen c.in-Ok.spec) (map (λ i. i.items) c.in-Ok-images.images.items) c.header_of.new.header.items c.in-Ok-whole.bytes.items
    c.in-Ok.ensures.says (rw c.as_slice.ensures.value at c.in-Ok-images.ensures.are)
    (rw c.as_slice-2.ensures.value at c.in-Ok-header_of.ensures.bytes) (rw c.as_slice-2.ensures.value at c.in-Ok-header_of.ensures.header)
    (rw (c.as_slice-3.ensures.value, c.as_slice-4.ensures.value) at c.in-Ok-whole.ensures)
