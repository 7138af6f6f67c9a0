use Rattle.std.proofs.Common.{map}
use Rattle.fw_script.specs.PackageSpecs.{spec_seen}
use Rattle.fwupd_jobs.proofs.Builds.{built_lasting, built_on}
use Rattle.fwupd_jobs.proofs.building.build_file.Goals as goal

pub returns-in-Ok-write_parts-clause-ok : goal.returns-in-Ok-write_parts-clause-ok
returns-in-Ok-write_parts-clause-ok g c =
    built_on (g.F.Files.holds c.args.files.now) c.args.path.now (spec_seen c.in-Ok.spec) (map (λ i. i.items) c.in-Ok-images.images.items) c.header_of.new.header.items
    (g.P.OutputPlaces.is_known c.args.places.now) (g.P.OutputPlaces.is_known c.begin.new.self) (g.W.Write.contents c.in-Ok-begin.beside) (g.W.Write.contents c.write_parts.new.writer)
    (g.P.OutputPlaces.held c.publish.new.self c.args.file.now) (g.P.OutputPlaces.lasting c.publish.new.self c.args.file.now) c.publish.result
    c.in-Ok.ensures.says (rw c.as_slice.ensures.value at c.in-Ok-images.ensures.are)
    (rw c.as_slice-2.ensures.value at c.in-Ok-header_of.ensures.bytes) (rw c.as_slice-2.ensures.value at c.in-Ok-header_of.ensures.header)
    c.in-Ok-begin.ensures.empty c.in-Ok-begin.ensures.known
    (rw (c.as_slice-3.ensures.value, c.as_slice-4.ensures.value) at c.in-Ok-write_parts.ensures.ok) c.publish.ensures.ok

pub returns-in-Ok-write_parts-clause-lasting : goal.returns-in-Ok-write_parts-clause-lasting
returns-in-Ok-write_parts-clause-lasting g c =
    built_lasting (g.F.Files.holds c.args.files.now) c.args.path.now (spec_seen c.in-Ok.spec) (map (λ i. i.items) c.in-Ok-images.images.items) c.header_of.new.header.items
    (g.P.OutputPlaces.is_known c.args.places.now) (g.P.OutputPlaces.is_known c.begin.new.self) (g.W.Write.contents c.in-Ok-begin.beside) (g.W.Write.contents c.write_parts.new.writer)
    (g.P.OutputPlaces.held c.publish.new.self c.args.file.now) (g.P.OutputPlaces.lasting c.publish.new.self c.args.file.now) c.publish.result
    c.in-Ok.ensures.says (rw c.as_slice.ensures.value at c.in-Ok-images.ensures.are)
    (rw c.as_slice-2.ensures.value at c.in-Ok-header_of.ensures.bytes) (rw c.as_slice-2.ensures.value at c.in-Ok-header_of.ensures.header)
    c.in-Ok-begin.ensures.empty c.in-Ok-begin.ensures.known
    (rw (c.as_slice-3.ensures.value, c.as_slice-4.ensures.value) at c.in-Ok-write_parts.ensures.ok) c.publish.ensures.ok
