use Rattle.std.proofs.Common.{inr, map, refl, rules}
use Rattle.std.specs.Prelude.{option_map, string_bytes}
use Rattle.fw_setup.specs.Stocks.{stores_in}
use Rattle.fwupd_base.specs.ImageFiles.{config_source}
use Rattle.fwupd_nodes.specs.Setups.{source_of}
use Rattle.fwupd_jobs.proofs.Foretold.{foretold, lacks_images, package_there, plan_breaks}
use Rattle.fwupd_nodes.proofs.Packed.{named_there, numbered_fails, or_later, packed_slice}
use Rattle.fwupd_jobs.proofs.planning.plan_file.Goals as goal

pub packages_in-requires : goal.packages_in-requires
packages_in-requires g c =
    packed_slice (g.F.Files.holds c.args.files.now) (map (λ p. string_bytes p) c.as_slice.result.now) c.in-Ok-package_files.contents.items c.as_slice-2.result.now c.in-Ok-package_files.ensures.packed
    c.as_slice-2.ensures.value

pub returns-in-Ok-write-clause-ok : goal.returns-in-Ok-write-clause-ok
returns-in-Ok-write-clause-ok g c = record {
  text = c.in-Ok-plan_in.text.items;
  forecasts =
      foretold (g.F.Files.holds c.args.files.now) (source_of (stores_in (g.T.ReadStores.is_known c.args.stores.now) (g.T.ReadStores.files c.args.stores.now)) (option_map (λ p. p.now) c.args.job.store) (config_source c.args.job.config)) c.args.job.number c.args.job.form c.in-Ok.config c.as_slice.result.now c.in-Ok-package_files.contents.items c.as_slice-2.result.now
      c.in-Ok-packages_in.packages.items c.as_slice-3.result.now c.in-Some.contents.now c.read_kept.new.devices.items c.as_slice-4.result.now c.in-Ok-plan_in.text.items
      c.in-Ok.ensures.says c.as_slice.ensures.value c.in-Ok-package_files.ensures.packed c.as_slice-2.ensures.value c.in-Ok-packages_in.ensures.is c.as_slice-3.ensures.value
      c.in-Some.ensures.is c.in-Some.ensures.there.0 c.in-Some.ensures.there.1 c.in-Ok-read_kept.ensures.devices c.as_slice-4.ensures.value c.in-Ok-plan_in.ensures;
  written = rw c.deref.ensures.value at c.in-Ok-write.ensures.ok;
}

pub returns-clause-fault : goal.returns-clause-fault
returns-clause-fault g c =
    plan_breaks (g.F.Files.holds c.args.files.now) (source_of (stores_in (g.T.ReadStores.is_known c.args.stores.now) (g.T.ReadStores.files c.args.stores.now)) (option_map (λ p. p.now) c.args.job.store) (config_source c.args.job.config)) c.args.job.number c.args.job.form c.in-Ok-plan_in.text.items c.in-Err-write.fault c.args.output.now c.write.new.self
    c.in-Err-write.ensures.fault
    (foretold (g.F.Files.holds c.args.files.now) (source_of (stores_in (g.T.ReadStores.is_known c.args.stores.now) (g.T.ReadStores.files c.args.stores.now)) (option_map (λ p. p.now) c.args.job.store) (config_source c.args.job.config)) c.args.job.number c.args.job.form c.in-Ok.config c.as_slice.result.now c.in-Ok-package_files.contents.items c.as_slice-2.result.now
    c.in-Ok-packages_in.packages.items c.as_slice-3.result.now c.in-Some.contents.now c.read_kept.new.devices.items c.as_slice-4.result.now c.in-Ok-plan_in.text.items
    c.in-Ok.ensures.says c.as_slice.ensures.value c.in-Ok-package_files.ensures.packed c.as_slice-2.ensures.value c.in-Ok-packages_in.ensures.is c.as_slice-3.ensures.value
    c.in-Some.ensures.is c.in-Some.ensures.there.0 c.in-Some.ensures.there.1 c.in-Ok-read_kept.ensures.devices c.as_slice-4.ensures.value c.in-Ok-plan_in.ensures)
    (rw c.deref.ensures.value at c.in-Err-write.ensures.failed)

pub unreachable-requires : goal.unreachable-requires
unreachable-requires g c =
    package_there (g.F.Files.holds c.args.files.now) c.args.job.number c.len.result c.as_slice.result.now c.in-Ok-package_files.contents.items c.as_slice-2.result.now c.in-Ok-packages_in.packages.items
    c.as_slice-3.result.now c.in-Ok-package_files.ensures.packed c.as_slice-2.ensures.value c.in-Ok-packages_in.ensures.is c.as_slice-3.ensures.value (search rules)
    (search rules) (search rules) (rw c.in_default.is at c.numbered.ensures.none)

pub returns-in-Err-package_files-clause-fault : goal.returns-in-Err-package_files-clause-fault
returns-in-Err-package_files-clause-fault g c =
    inr (
      or_later (
          numbered_fails (g.F.Files.holds c.args.files.now) (config_source c.args.job.config) c.args.job.number c.in-Ok.config c.as_slice.result.now c.in-Err-package_files.fault c.in-Ok.ensures.says c.as_slice.ensures.value
          (c.if-not-is_numbered.ensures.there refl).0 (search rules) c.in-Err-package_files.ensures.fault
          ),
      refl,
    )

pub returns-in-Err-read_kept-clause-fault : goal.returns-in-Err-read_kept-clause-fault
returns-in-Err-read_kept-clause-fault g c =
    lacks_images (g.F.Files.holds c.args.files.now) (source_of (stores_in (g.T.ReadStores.is_known c.args.stores.now) (g.T.ReadStores.files c.args.stores.now)) (option_map (λ p. p.now) c.args.job.store) (config_source c.args.job.config)) c.args.job.number c.args.job.form c.in-Ok.config c.as_slice.result.now c.in-Ok-packages_in.packages.items c.in-Err-read_kept.fault c.args.output.now
    c.in-Ok.ensures.says c.as_slice.ensures.value
    (named_there (g.F.Files.holds c.args.files.now) c.in-Ok.config c.as_slice.result.now c.in-Ok-package_files.contents.items c.as_slice-2.result.now c.in-Ok-packages_in.packages.items c.as_slice.ensures.value
    c.in-Ok-package_files.ensures.packed c.as_slice-2.ensures.value c.in-Ok-packages_in.ensures.is)
    (c.if-not-is_numbered.ensures.there refl).0 (search rules) c.in-Err-read_kept.ensures.fault
