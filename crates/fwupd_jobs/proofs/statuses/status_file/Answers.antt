use Rattle.std.specs.Prelude.{option_map}
use Rattle.fw_setup.specs.Stocks.{stores_in}
use Rattle.fwupd_base.specs.ImageFiles.{config_source}
use Rattle.fwupd_nodes.specs.Setups.{source_of}
use Rattle.fwupd_jobs.proofs.Standing.{lacks_stock, stands, status_breaks}
use Rattle.fwupd_jobs.proofs.statuses.status_file.Goals as goal

pub returns-in-Ok-write-clause-ok : goal.returns-in-Ok-write-clause-ok
returns-in-Ok-write-clause-ok g c = record {
  text = c.in-Ok-status_in.text.items;
  status =
      stands (g.F.Files.holds c.args.files.now) (source_of (stores_in (g.T.ReadStores.is_known c.args.stores.now) (g.T.ReadStores.files c.args.stores.now)) (option_map (λ p. p.now) c.args.job.store) (config_source c.args.job.config)) c.args.job.form c.in-Ok.config c.read_kept.new.devices.items c.as_slice.result.now c.in-Ok-status_in.text.items
      c.in-Ok.ensures.says c.in-Ok-read_kept.ensures.devices c.as_slice.ensures.value c.in-Ok-status_in.ensures;
  written = rw c.deref.ensures.value at c.in-Ok-write.ensures.ok;
}

pub returns-clause-fault : goal.returns-clause-fault
returns-clause-fault g c =
    status_breaks (g.F.Files.holds c.args.files.now) (source_of (stores_in (g.T.ReadStores.is_known c.args.stores.now) (g.T.ReadStores.files c.args.stores.now)) (option_map (λ p. p.now) c.args.job.store) (config_source c.args.job.config)) c.args.job.form c.in-Ok-status_in.text.items c.in-Err-write.fault c.args.output.now c.write.new.self
    c.in-Err-write.ensures.fault
    (stands (g.F.Files.holds c.args.files.now) (source_of (stores_in (g.T.ReadStores.is_known c.args.stores.now) (g.T.ReadStores.files c.args.stores.now)) (option_map (λ p. p.now) c.args.job.store) (config_source c.args.job.config)) c.args.job.form c.in-Ok.config c.read_kept.new.devices.items c.as_slice.result.now c.in-Ok-status_in.text.items
    c.in-Ok.ensures.says c.in-Ok-read_kept.ensures.devices c.as_slice.ensures.value c.in-Ok-status_in.ensures)
    (rw c.deref.ensures.value at c.in-Err-write.ensures.failed)

pub returns-in-Err-read_kept-clause-fault : goal.returns-in-Err-read_kept-clause-fault
returns-in-Err-read_kept-clause-fault g c =
    lacks_stock (g.F.Files.holds c.args.files.now) (source_of (stores_in (g.T.ReadStores.is_known c.args.stores.now) (g.T.ReadStores.files c.args.stores.now)) (option_map (λ p. p.now) c.args.job.store) (config_source c.args.job.config)) c.args.job.form c.in-Ok.config c.in-Err-read_kept.fault c.args.output.now
    c.in-Ok.ensures.says c.in-Err-read_kept.ensures.fault
