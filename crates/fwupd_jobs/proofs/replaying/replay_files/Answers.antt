use Rattle.std.proofs.Common.{arith, ap, length, map, refl, subst, sym, ◌∙◌, ◌≤◌, ◌-◌, ◌^◌, List, String, Global}
use Rattle.std.specs.Prelude.{option_map, string_bytes}
use Rattle.fw_script.specs.ScheduleLines.{all_steps}
use Rattle.fw_script.specs.Seen.{config_seen, device_of}
use Rattle.fw_steps.specs.Opening.{new_world}
use Rattle.fw_setup.specs.Nodes.{nodes_made}
use Rattle.fw_setup.specs.Stocks.{stores_in}
use Rattle.fwupd_base.specs.ImageFiles.{config_source}
use Rattle.fwupd_watch.specs.Running.{show_of}
use Rattle.fwupd_nodes.specs.Setups.{source_of}
use Rattle.fwupd_nodes.proofs.Packed.{named_there, packed_slice, set_up, stores_fail}
use Rattle.fwupd_jobs.proofs.Told.{breaks_off, packages_end_replay, place_within, replay_reports, report_there, schedule_ends, seen_ends, step_ends, stores_end_replay, unkept_ends, unseen_ends}
use Rattle.fwupd_jobs.proofs.replaying.replay_files.Goals as goal

pub packages_in-requires : goal.packages_in-requires
packages_in-requires g c =
    packed_slice (g.H.Files.Files.holds c.args.host.now.files) (map (λ p. string_bytes p) c.as_slice.result.now) c.in-Ok-package_files.contents.items c.as_slice-2.result.now c.in-Ok-package_files.ensures.packed
    c.as_slice-2.ensures.value

pub returns-in-Err-package_files-clause-fault : goal.returns-in-Err-package_files-clause-fault
returns-in-Err-package_files-clause-fault g c =
    packages_end_replay (g.H.Files.Files.holds c.args.host.now.files) (source_of (stores_in (g.H.Stores.ReadStores.is_known c.args.host.now.stores) (g.H.Stores.ReadStores.files c.args.host.now.stores)) (option_map (λ p. p.now) c.args.job.show.store) (config_source c.args.job.config)) c.args.job.schedule.now (show_of c.args.job.show) (g.H.Watch.Observer.refuses c.args.host.now.watch) c.in-Err-package_files.fault (g.H.Watch.Observer.watched c.args.host.now.watch) c.args.host.now.output
    (config_seen c.in-Ok.config) (map (λ p. string_bytes p) c.as_slice.result.now) c.in-Ok.ensures.says (ap (λ (xs : List (String Global)). map (λ p. string_bytes p) xs) c.as_slice.ensures.value) c.in-Err-package_files.ensures.fault

pub returns-in-Err-read_kept-clause-fault : goal.returns-in-Err-read_kept-clause-fault
returns-in-Err-read_kept-clause-fault g c =
    stores_end_replay (g.H.Files.Files.holds c.args.host.now.files) (source_of (stores_in (g.H.Stores.ReadStores.is_known c.args.host.now.stores) (g.H.Stores.ReadStores.files c.args.host.now.stores)) (option_map (λ p. p.now) c.args.job.show.store) (config_source c.args.job.config)) c.args.job.schedule.now (show_of c.args.job.show) (g.H.Watch.Observer.refuses c.args.host.now.watch) c.in-Err-read_kept.fault (g.H.Watch.Observer.watched c.args.host.now.watch) c.args.host.now.output
    (stores_fail (g.H.Files.Files.holds c.args.host.now.files) (source_of (stores_in (g.H.Stores.ReadStores.is_known c.args.host.now.stores) (g.H.Stores.ReadStores.files c.args.host.now.stores)) (option_map (λ p. p.now) c.args.job.show.store) (config_source c.args.job.config)) c.in-Ok.config c.in-Ok-packages_in.packages.items c.in-Err-read_kept.fault c.in-Ok.ensures.says
    (named_there (g.H.Files.Files.holds c.args.host.now.files) c.in-Ok.config c.as_slice.result.now c.in-Ok-package_files.contents.items c.as_slice-2.result.now c.in-Ok-packages_in.packages.items c.as_slice.ensures.value
    c.in-Ok-package_files.ensures.packed c.as_slice-2.ensures.value c.in-Ok-packages_in.ensures.is) c.in-Err-read_kept.ensures.fault)

pub returns-in-Err-schedule-clause-fault : goal.returns-in-Err-schedule-clause-fault
returns-in-Err-schedule-clause-fault g c =
    schedule_ends (g.H.Files.Files.holds c.args.host.now.files) (source_of (stores_in (g.H.Stores.ReadStores.is_known c.args.host.now.stores) (g.H.Stores.ReadStores.files c.args.host.now.stores)) (option_map (λ p. p.now) c.args.job.show.store) (config_source c.args.job.config)) c.args.job.schedule.now (show_of c.args.job.show) (g.H.Watch.Observer.refuses c.args.host.now.watch) (new_world c.in-Ok.config.agent (nodes_made c.in-Ok.config.unit c.in-Ok.config.agent.eid (map device_of c.read_kept.new.devices.items)) c.in-Ok-packages_in.packages.items) c.in-Err-schedule.fault (g.H.Watch.Observer.watched c.args.host.now.watch) c.args.host.now.output
    (set_up (g.H.Files.Files.holds c.args.host.now.files) (source_of (stores_in (g.H.Stores.ReadStores.is_known c.args.host.now.stores) (g.H.Stores.ReadStores.files c.args.host.now.stores)) (option_map (λ p. p.now) c.args.job.show.store) (config_source c.args.job.config)) c.in-Ok.config c.in-Ok-packages_in.packages.items c.in-Ok-packages_in.packages.items (map device_of c.read_kept.new.devices.items) (new_world c.in-Ok.config.agent (nodes_made c.in-Ok.config.unit c.in-Ok.config.agent.eid (map device_of c.read_kept.new.devices.items)) c.in-Ok-packages_in.packages.items)
    c.in-Ok.ensures.says (named_there (g.H.Files.Files.holds c.args.host.now.files) c.in-Ok.config c.as_slice.result.now c.in-Ok-package_files.contents.items c.as_slice-2.result.now c.in-Ok-packages_in.packages.items c.as_slice.ensures.value
    c.in-Ok-package_files.ensures.packed c.as_slice-2.ensures.value c.in-Ok-packages_in.ensures.is) c.in-Ok-read_kept.ensures.devices refl refl)
    c.in-Err-schedule.ensures.fault

pub returns-in-Err-begin_replay-clause-fault : goal.returns-in-Err-begin_replay-clause-fault
returns-in-Err-begin_replay-clause-fault g c =
    unkept_ends (g.H.Files.Files.holds c.args.host.now.files) (source_of (stores_in (g.H.Stores.ReadStores.is_known c.args.host.now.stores) (g.H.Stores.ReadStores.files c.args.host.now.stores)) (option_map (λ p. p.now) c.args.job.show.store) (config_source c.args.job.config)) c.args.job.schedule.now (show_of c.args.job.show) (g.H.Watch.Observer.refuses c.args.host.now.watch) (config_seen c.in-Ok.config) c.in-Ok-packages_in.packages.items (map device_of c.read_kept.new.devices.items) (all_steps c.in-Ok-schedule.script.items)
    c.in-Err-begin_replay.fault (g.H.Watch.Observer.watched c.begin_replay.new.watch) c.args.host.now.output (map (λ p. string_bytes p) c.as_slice-3.result.now) c.in-Ok.ensures.says
    (named_there (g.H.Files.Files.holds c.args.host.now.files) c.in-Ok.config c.as_slice.result.now c.in-Ok-package_files.contents.items c.as_slice-2.result.now c.in-Ok-packages_in.packages.items c.as_slice.ensures.value
    c.in-Ok-package_files.ensures.packed c.as_slice-2.ensures.value c.in-Ok-packages_in.ensures.is) tt c.in-Ok-read_kept.ensures.devices c.in-Ok-schedule.ensures.says
    (ap (λ (xs : List (String Global)). map (λ p. string_bytes p) xs) c.as_slice-3.ensures.value) c.in-Err-begin_replay.ensures.fault

pub returns-in-Err-write-clause-fault : goal.returns-in-Err-write-clause-fault
returns-in-Err-write-clause-fault g c =
    breaks_off (g.H.Files.Files.holds c.args.host.now.files) (source_of (stores_in (g.H.Stores.ReadStores.is_known c.args.host.now.stores) (g.H.Stores.ReadStores.files c.args.host.now.stores)) (option_map (λ p. p.now) c.args.job.show.store) (config_source c.args.job.config)) c.args.job.schedule.now (show_of c.args.job.show) (g.H.Watch.Observer.refuses c.args.host.now.watch) c.in-Ok-replayed.outcome.fault c.in-Ok-replayed.outcome.report.items (g.H.Watch.Observer.watched c.replayed.new.watch) c.args.host.now.output c.write.new.self
    (report_there (g.H.Files.Files.holds c.args.host.now.files) (source_of (stores_in (g.H.Stores.ReadStores.is_known c.args.host.now.stores) (g.H.Stores.ReadStores.files c.args.host.now.stores)) (option_map (λ p. p.now) c.args.job.show.store) (config_source c.args.job.config)) c.args.job.schedule.now c.args.job.show.form (new_world c.in-Ok.config.agent (nodes_made c.in-Ok.config.unit c.in-Ok.config.agent.eid (map device_of c.read_kept.new.devices.items)) c.as_slice-4.result.now) (all_steps c.in-Ok-schedule.script.items) (all_steps c.as_slice-5.result.now) c.in-Ok-replayed.outcome.fault
    c.in-Ok-replayed.outcome.report.items
    (set_up (g.H.Files.Files.holds c.args.host.now.files) (source_of (stores_in (g.H.Stores.ReadStores.is_known c.args.host.now.stores) (g.H.Stores.ReadStores.files c.args.host.now.stores)) (option_map (λ p. p.now) c.args.job.show.store) (config_source c.args.job.config)) c.in-Ok.config c.in-Ok-packages_in.packages.items c.as_slice-4.result.now (map device_of c.read_kept.new.devices.items) (new_world c.in-Ok.config.agent (nodes_made c.in-Ok.config.unit c.in-Ok.config.agent.eid (map device_of c.read_kept.new.devices.items)) c.as_slice-4.result.now)
    c.in-Ok.ensures.says (named_there (g.H.Files.Files.holds c.args.host.now.files) c.in-Ok.config c.as_slice.result.now c.in-Ok-package_files.contents.items c.as_slice-2.result.now c.in-Ok-packages_in.packages.items c.as_slice.ensures.value
    c.in-Ok-package_files.ensures.packed c.as_slice-2.ensures.value c.in-Ok-packages_in.ensures.is) c.in-Ok-read_kept.ensures.devices c.as_slice-4.ensures.value refl)
    c.in-Ok-schedule.ensures.says (ap all_steps c.as_slice-5.ensures.value) c.in-Ok-replayed.ensures.replayed)
    (rw c.deref.ensures.value at c.in-Err-write.ensures.failed)

pub returns-in-Some-clause-fault : goal.returns-in-Some-clause-fault
returns-in-Some-clause-fault g c =
    let few : length (all_steps c.as_slice-5.result.now) ≤ 2 ^ 64 - 1 = subst (λ lines. length (all_steps lines) ≤ 2 ^ 64 - 1) (sym c.as_slice-5.ensures.value) c.in-Ok-schedule.ensures.countable in
    let less = place_within (new_world c.in-Ok.config.agent (nodes_made c.in-Ok.config.unit c.in-Ok.config.agent.eid (map device_of c.read_kept.new.devices.items)) c.as_slice-4.result.now) (all_steps c.as_slice-5.result.now) c.in-Ok-replayed.outcome.fault c.args.job.show.form c.in-Ok-replayed.outcome.report.items c.in-Some.place c.in-Some.fault
    c.in-Ok-replayed.ensures.replayed c.in-Some.is in
    step_ends (g.H.Files.Files.holds c.args.host.now.files) (source_of (stores_in (g.H.Stores.ReadStores.is_known c.args.host.now.stores) (g.H.Stores.ReadStores.files c.args.host.now.stores)) (option_map (λ p. p.now) c.args.job.show.store) (config_source c.args.job.config)) c.args.job.schedule.now (show_of c.args.job.show) (g.H.Watch.Observer.refuses c.args.host.now.watch) c.in-Ok-replayed.outcome.fault c.in-Ok-replayed.outcome.report.items c.in-Some.place c.saturating_add.result c.in-Some.fault
    (g.H.Watch.Observer.watched c.replayed.new.watch) c.args.host.now.output c.write.new.self
    (report_there (g.H.Files.Files.holds c.args.host.now.files) (source_of (stores_in (g.H.Stores.ReadStores.is_known c.args.host.now.stores) (g.H.Stores.ReadStores.files c.args.host.now.stores)) (option_map (λ p. p.now) c.args.job.show.store) (config_source c.args.job.config)) c.args.job.schedule.now c.args.job.show.form (new_world c.in-Ok.config.agent (nodes_made c.in-Ok.config.unit c.in-Ok.config.agent.eid (map device_of c.read_kept.new.devices.items)) c.as_slice-4.result.now) (all_steps c.in-Ok-schedule.script.items) (all_steps c.as_slice-5.result.now) c.in-Ok-replayed.outcome.fault
    c.in-Ok-replayed.outcome.report.items
    (set_up (g.H.Files.Files.holds c.args.host.now.files) (source_of (stores_in (g.H.Stores.ReadStores.is_known c.args.host.now.stores) (g.H.Stores.ReadStores.files c.args.host.now.stores)) (option_map (λ p. p.now) c.args.job.show.store) (config_source c.args.job.config)) c.in-Ok.config c.in-Ok-packages_in.packages.items c.as_slice-4.result.now (map device_of c.read_kept.new.devices.items) (new_world c.in-Ok.config.agent (nodes_made c.in-Ok.config.unit c.in-Ok.config.agent.eid (map device_of c.read_kept.new.devices.items)) c.as_slice-4.result.now)
    c.in-Ok.ensures.says (named_there (g.H.Files.Files.holds c.args.host.now.files) c.in-Ok.config c.as_slice.result.now c.in-Ok-package_files.contents.items c.as_slice-2.result.now c.in-Ok-packages_in.packages.items c.as_slice.ensures.value
    c.in-Ok-package_files.ensures.packed c.as_slice-2.ensures.value c.in-Ok-packages_in.ensures.is) c.in-Ok-read_kept.ensures.devices c.as_slice-4.ensures.value refl)
    c.in-Ok-schedule.ensures.says (ap all_steps c.as_slice-5.ensures.value) c.in-Ok-replayed.ensures.replayed)
    c.in-Some.is (omega (arith, c.saturating_add.ensures, few)) (rw c.deref.ensures.value at c.in-Ok-write.ensures.ok)

pub returns-in-Ok-watched-clause-ok : goal.returns-in-Ok-watched-clause-ok
returns-in-Ok-watched-clause-ok g c =
    seen_ends (g.H.Files.Files.holds c.args.host.now.files) (source_of (stores_in (g.H.Stores.ReadStores.is_known c.args.host.now.stores) (g.H.Stores.ReadStores.files c.args.host.now.stores)) (option_map (λ p. p.now) c.args.job.show.store) (config_source c.args.job.config)) c.args.job.schedule.now (show_of c.args.job.show) (g.H.Watch.Observer.watched c.replayed.new.watch) c.args.host.now.output c.write.new.self (config_seen c.in-Ok.config) (map (λ p. string_bytes p) c.as_slice-3.result.now)
    c.in-Ok.ensures.says (ap (λ (xs : List (String Global)). map (λ p. string_bytes p) xs) c.as_slice-3.ensures.value) c.in-Ok-begin_replay.ensures.apart
    (c.in-Ok-replayed.ensures.same ∙ c.in-Ok-begin_replay.ensures.shows) (rw c.in-Ok-watched.is at c.in-Ok-replayed.ensures.seen) c.in-Ok-replayed.ensures.ended
    (replay_reports (g.H.Files.Files.holds c.args.host.now.files) (source_of (stores_in (g.H.Stores.ReadStores.is_known c.args.host.now.stores) (g.H.Stores.ReadStores.files c.args.host.now.stores)) (option_map (λ p. p.now) c.args.job.show.store) (config_source c.args.job.config)) c.args.job.schedule.now c.args.job.show.form c.in-Ok-replayed.outcome.fault c.in-Ok-replayed.outcome.report.items c.args.host.now.output c.write.new.self
    (report_there (g.H.Files.Files.holds c.args.host.now.files) (source_of (stores_in (g.H.Stores.ReadStores.is_known c.args.host.now.stores) (g.H.Stores.ReadStores.files c.args.host.now.stores)) (option_map (λ p. p.now) c.args.job.show.store) (config_source c.args.job.config)) c.args.job.schedule.now c.args.job.show.form (new_world c.in-Ok.config.agent (nodes_made c.in-Ok.config.unit c.in-Ok.config.agent.eid (map device_of c.read_kept.new.devices.items)) c.as_slice-4.result.now) (all_steps c.in-Ok-schedule.script.items) (all_steps c.as_slice-5.result.now) c.in-Ok-replayed.outcome.fault
    c.in-Ok-replayed.outcome.report.items
    (set_up (g.H.Files.Files.holds c.args.host.now.files) (source_of (stores_in (g.H.Stores.ReadStores.is_known c.args.host.now.stores) (g.H.Stores.ReadStores.files c.args.host.now.stores)) (option_map (λ p. p.now) c.args.job.show.store) (config_source c.args.job.config)) c.in-Ok.config c.in-Ok-packages_in.packages.items c.as_slice-4.result.now (map device_of c.read_kept.new.devices.items) (new_world c.in-Ok.config.agent (nodes_made c.in-Ok.config.unit c.in-Ok.config.agent.eid (map device_of c.read_kept.new.devices.items)) c.as_slice-4.result.now)
    c.in-Ok.ensures.says (named_there (g.H.Files.Files.holds c.args.host.now.files) c.in-Ok.config c.as_slice.result.now c.in-Ok-package_files.contents.items c.as_slice-2.result.now c.in-Ok-packages_in.packages.items c.as_slice.ensures.value
    c.in-Ok-package_files.ensures.packed c.as_slice-2.ensures.value c.in-Ok-packages_in.ensures.is) c.in-Ok-read_kept.ensures.devices c.as_slice-4.ensures.value refl)
    c.in-Ok-schedule.ensures.says (ap all_steps c.as_slice-5.ensures.value) c.in-Ok-replayed.ensures.replayed)
    c.in-None.is (rw c.deref.ensures.value at c.in-Ok-write.ensures.ok))

pub returns-clause-fault : goal.returns-clause-fault
returns-clause-fault g c =
    unseen_ends (g.H.Files.Files.holds c.args.host.now.files) (source_of (stores_in (g.H.Stores.ReadStores.is_known c.args.host.now.stores) (g.H.Stores.ReadStores.files c.args.host.now.stores)) (option_map (λ p. p.now) c.args.job.show.store) (config_source c.args.job.config)) c.args.job.schedule.now (show_of c.args.job.show) (g.H.Watch.Observer.refuses c.args.host.now.watch) c.in-Err-watched.fault c.observer_fault.result (g.H.Watch.Observer.watched c.replayed.new.watch) c.args.host.now.output c.write.new.self
    (replay_reports (g.H.Files.Files.holds c.args.host.now.files) (source_of (stores_in (g.H.Stores.ReadStores.is_known c.args.host.now.stores) (g.H.Stores.ReadStores.files c.args.host.now.stores)) (option_map (λ p. p.now) c.args.job.show.store) (config_source c.args.job.config)) c.args.job.schedule.now c.args.job.show.form c.in-Ok-replayed.outcome.fault c.in-Ok-replayed.outcome.report.items c.args.host.now.output c.write.new.self
    (report_there (g.H.Files.Files.holds c.args.host.now.files) (source_of (stores_in (g.H.Stores.ReadStores.is_known c.args.host.now.stores) (g.H.Stores.ReadStores.files c.args.host.now.stores)) (option_map (λ p. p.now) c.args.job.show.store) (config_source c.args.job.config)) c.args.job.schedule.now c.args.job.show.form (new_world c.in-Ok.config.agent (nodes_made c.in-Ok.config.unit c.in-Ok.config.agent.eid (map device_of c.read_kept.new.devices.items)) c.as_slice-4.result.now) (all_steps c.in-Ok-schedule.script.items) (all_steps c.as_slice-5.result.now) c.in-Ok-replayed.outcome.fault
    c.in-Ok-replayed.outcome.report.items
    (set_up (g.H.Files.Files.holds c.args.host.now.files) (source_of (stores_in (g.H.Stores.ReadStores.is_known c.args.host.now.stores) (g.H.Stores.ReadStores.files c.args.host.now.stores)) (option_map (λ p. p.now) c.args.job.show.store) (config_source c.args.job.config)) c.in-Ok.config c.in-Ok-packages_in.packages.items c.as_slice-4.result.now (map device_of c.read_kept.new.devices.items) (new_world c.in-Ok.config.agent (nodes_made c.in-Ok.config.unit c.in-Ok.config.agent.eid (map device_of c.read_kept.new.devices.items)) c.as_slice-4.result.now)
    c.in-Ok.ensures.says (named_there (g.H.Files.Files.holds c.args.host.now.files) c.in-Ok.config c.as_slice.result.now c.in-Ok-package_files.contents.items c.as_slice-2.result.now c.in-Ok-packages_in.packages.items c.as_slice.ensures.value
    c.in-Ok-package_files.ensures.packed c.as_slice-2.ensures.value c.in-Ok-packages_in.ensures.is) c.in-Ok-read_kept.ensures.devices c.as_slice-4.ensures.value refl)
    c.in-Ok-schedule.ensures.says (ap all_steps c.as_slice-5.ensures.value) c.in-Ok-replayed.ensures.replayed)
    c.in-None.is (rw c.deref.ensures.value at c.in-Ok-write.ensures.ok))
    c.observer_fault.ensures.told (rw c.in-Err-watched.is at c.in-Ok-replayed.ensures.unseen) c.in-Ok-replayed.ensures.ended

pub replayed-requires-clause-countable : goal.replayed-requires-clause-countable
replayed-requires-clause-countable g c = subst (λ lines. length (all_steps lines) ≤ 2 ^ 64 - 1) (sym c.as_slice-5.ensures.value) c.in-Ok-schedule.ensures.countable

pub replayed-requires-clause-whole : goal.replayed-requires-clause-whole
replayed-requires-clause-whole g c = c.in-Ok-read_kept.ensures.whole c.in-Ok.config.agent.eid c.in-Ok.ensures.whole
