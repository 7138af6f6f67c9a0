use Rattle.std.proofs.Common.{ap, map, refl, subst, sym, true, ◌∙◌, List, String, Global}
use Rattle.std.specs.Prelude.{option_map, string_bytes}
use Rattle.fw_script.specs.Seen.{device_of}
use Rattle.fw_script.specs.Whole.{AreWhole}
use Rattle.fwupd_base.specs.ImageFiles.{config_source}
use Rattle.fwupd_base.specs.PackageChoices.{number_for}
use Rattle.fw_setup.specs.Stocks.{HaveStoredImages, stores_in}
use Rattle.fwupd_nodes.proofs.Packed.{chosen_stores_fail, none_stocked, named_there, packed_slice, some_stocked, some_unopened}
use Rattle.fwupd_jobs.proofs.Numbered.{named_with, numbered_in}
use Rattle.fwupd_jobs.proofs.Told.{choice_end, packages_end, stores_end}
use Rattle.fwupd_watch.specs.Running.{show_of}
use Rattle.fwupd_nodes.specs.Setups.{chosen_source, source_of}
use Rattle.fwupd_jobs.proofs.updating.update_files.Goals as goal

pub returns-in-Err-ordered_devices-clause-fault : goal.returns-in-Err-ordered_devices-clause-fault
returns-in-Err-ordered_devices-clause-fault g c =
    choice_end (g.H.Files.Files.holds c.args.host.now.files) (chosen_source (source_of (stores_in (g.H.Stores.ReadStores.is_known c.args.host.now.stores) (g.H.Stores.ReadStores.files c.args.host.now.stores)) (option_map (λ p. p.now) c.args.job.show.store) (config_source c.args.job.config)) c.args.job.order.devices) (number_for c.args.job.order.packages) (show_of c.args.job.show) (g.H.Watch.Observer.refuses c.args.host.now.watch) (g.H.Wires.Wires.lacks c.args.host.now.wires c.args.job.folder.now) c.in-Err-ordered_devices.fault
    (g.H.Watch.Observer.watched c.args.host.now.watch) c.args.host.now.output c.in-Ok.config c.len.result c.in-Ok.ensures.says c.len.ensures c.in-Err-ordered_devices.ensures.fault

pub opening_world-requires : goal.opening_world-requires
opening_world-requires g c = c.in-Ok-ordered_devices.ensures.whole c.in-Ok.config.agent.eid c.in-Ok.ensures.whole

pub packages_in-requires : goal.packages_in-requires
packages_in-requires g c =
    packed_slice (g.H.Files.Files.holds c.args.host.now.files) (map (λ p. string_bytes p) c.as_slice.result.now) c.in-Ok-package_files.contents.items c.as_slice-2.result.now c.in-Ok-package_files.ensures.packed
    c.as_slice-2.ensures.value

pub returns-in-Ok-update_new-clause-ok : goal.returns-in-Ok-update_new-clause-ok
returns-in-Ok-update_new-clause-ok g c =
    let nw = named_with (g.H.Files.Files.holds c.args.host.now.files) (chosen_source (source_of (stores_in (g.H.Stores.ReadStores.is_known c.args.host.now.stores) (g.H.Stores.ReadStores.files c.args.host.now.stores)) (option_map (λ p. p.now) c.args.job.show.store) (config_source c.args.job.config)) c.args.job.order.devices) (number_for c.args.job.order.packages) c.in-Ok.config c.len.result c.in-Ok-packages_in.packages.items c.as_slice-in_default.result.now (map device_of c.in-Ok-ordered_devices.devices.items) (map device_of c.in-Ok-ordered_devices.devices.items) c.in-Ok-opening_world.world c.in-Ok.ensures.says
    (named_there (g.H.Files.Files.holds c.args.host.now.files) c.in-Ok.config c.as_slice.result.now c.in-Ok-package_files.contents.items c.as_slice-2.result.now c.in-Ok-packages_in.packages.items c.as_slice.ensures.value
    c.in-Ok-package_files.ensures.packed c.as_slice-2.ensures.value c.in-Ok-packages_in.ensures.is)
    c.in-Ok-ordered_devices.ensures.chosen
    (none_stocked (stores_in (g.H.Stores.ReadStores.is_known c.args.host.now.stores) (g.H.Stores.ReadStores.files c.args.host.now.stores)) (option_map (λ p. p.now) c.args.job.show.store) (map device_of c.in-Ok-ordered_devices.devices.items) (ap (option_map (λ p. p.now)) c.in_default.is)) c.as_slice-in_default.ensures.value c.in-Ok-opening_world.ensures.made c.len.ensures c.in-Ok-ordered_devices.ensures.numbered in
    c.in-Ok-update_new.ensures.ok (chosen_source (source_of (stores_in (g.H.Stores.ReadStores.is_known c.args.host.now.stores) (g.H.Stores.ReadStores.files c.args.host.now.stores)) (option_map (λ p. p.now) c.args.job.show.store) (config_source c.args.job.config)) c.args.job.order.devices) nw.named refl (nw.is ∙ ap (λ (xs : List (String Global)). map (λ p. string_bytes p) xs) (sym c.deref.ensures.value))

pub returns-in-Err-update_new-clause-fault : goal.returns-in-Err-update_new-clause-fault
returns-in-Err-update_new-clause-fault g c =
    let nw = named_with (g.H.Files.Files.holds c.args.host.now.files) (chosen_source (source_of (stores_in (g.H.Stores.ReadStores.is_known c.args.host.now.stores) (g.H.Stores.ReadStores.files c.args.host.now.stores)) (option_map (λ p. p.now) c.args.job.show.store) (config_source c.args.job.config)) c.args.job.order.devices) (number_for c.args.job.order.packages) c.in-Ok.config c.len.result c.in-Ok-packages_in.packages.items c.as_slice-in_default.result.now (map device_of c.in-Ok-ordered_devices.devices.items) (map device_of c.in-Ok-ordered_devices.devices.items) c.in-Ok-opening_world.world c.in-Ok.ensures.says
    (named_there (g.H.Files.Files.holds c.args.host.now.files) c.in-Ok.config c.as_slice.result.now c.in-Ok-package_files.contents.items c.as_slice-2.result.now c.in-Ok-packages_in.packages.items c.as_slice.ensures.value
    c.in-Ok-package_files.ensures.packed c.as_slice-2.ensures.value c.in-Ok-packages_in.ensures.is)
    c.in-Ok-ordered_devices.ensures.chosen
    (none_stocked (stores_in (g.H.Stores.ReadStores.is_known c.args.host.now.stores) (g.H.Stores.ReadStores.files c.args.host.now.stores)) (option_map (λ p. p.now) c.args.job.show.store) (map device_of c.in-Ok-ordered_devices.devices.items) (ap (option_map (λ p. p.now)) c.in_default.is)) c.as_slice-in_default.ensures.value c.in-Ok-opening_world.ensures.made c.len.ensures c.in-Ok-ordered_devices.ensures.numbered in
    c.in-Err-update_new.ensures.fault (chosen_source (source_of (stores_in (g.H.Stores.ReadStores.is_known c.args.host.now.stores) (g.H.Stores.ReadStores.files c.args.host.now.stores)) (option_map (λ p. p.now) c.args.job.show.store) (config_source c.args.job.config)) c.args.job.order.devices) nw.named refl (nw.is ∙ ap (λ (xs : List (String Global)). map (λ p. string_bytes p) xs) (sym c.deref.ensures.value))

pub returns-in-Err-open_kept-clause-fault : goal.returns-in-Err-open_kept-clause-fault
returns-in-Err-open_kept-clause-fault g c =
    stores_end (g.H.Files.Files.holds c.args.host.now.files) (chosen_source (source_of (stores_in (g.H.Stores.ReadStores.is_known c.args.host.now.stores) (g.H.Stores.ReadStores.files c.args.host.now.stores)) (option_map (λ p. p.now) c.args.job.show.store) (config_source c.args.job.config)) c.args.job.order.devices) (number_for c.args.job.order.packages) (show_of c.args.job.show) (g.H.Watch.Observer.refuses c.args.host.now.watch) (g.H.Wires.Wires.lacks c.args.host.now.wires c.args.job.folder.now) c.in-Err-open_kept.fault (g.H.Watch.Observer.watched c.args.host.now.watch)
    c.args.host.now.output
    (chosen_stores_fail (g.H.Files.Files.holds c.args.host.now.files) (chosen_source (source_of (stores_in (g.H.Stores.ReadStores.is_known c.args.host.now.stores) (g.H.Stores.ReadStores.files c.args.host.now.stores)) (option_map (λ p. p.now) c.args.job.show.store) (config_source c.args.job.config)) c.args.job.order.devices) (number_for c.args.job.order.packages) c.in-Ok.config (map device_of c.in-Ok-ordered_devices.devices.items) c.in-Ok-packages_in.packages.items c.in-Err-open_kept.fault c.in-Ok.ensures.says
    (named_there (g.H.Files.Files.holds c.args.host.now.files) c.in-Ok.config c.as_slice.result.now c.in-Ok-package_files.contents.items c.as_slice-2.result.now c.in-Ok-packages_in.packages.items c.as_slice.ensures.value
    c.in-Ok-package_files.ensures.packed c.as_slice-2.ensures.value c.in-Ok-packages_in.ensures.is)
    c.in-Ok-ordered_devices.ensures.chosen.there c.in-Ok-ordered_devices.ensures.chosen.are
    (numbered_in (chosen_source (source_of (stores_in (g.H.Stores.ReadStores.is_known c.args.host.now.stores) (g.H.Stores.ReadStores.files c.args.host.now.stores)) (option_map (λ p. p.now) c.args.job.show.store) (config_source c.args.job.config)) c.args.job.order.devices) (number_for c.args.job.order.packages) c.in-Ok.config c.len.result (map device_of c.in-Ok-ordered_devices.devices.items) true
    c.in-Ok-ordered_devices.ensures.chosen c.len.ensures c.in-Ok-ordered_devices.ensures.numbered)
    (some_unopened (stores_in (g.H.Stores.ReadStores.is_known c.args.host.now.stores) (g.H.Stores.ReadStores.files c.args.host.now.stores)) (option_map (λ p. p.now) c.args.job.show.store) c.in-Some.root.now (map device_of c.in-Ok-ordered_devices.devices.items) c.in-Err-open_kept.fault (ap (option_map (λ p. p.now)) c.in-Some.is)
    c.in-Err-open_kept.ensures.fault))

pub opening_world_over-requires : goal.opening_world_over-requires
opening_world_over-requires g c =
    subst (λ xs. AreWhole c.in-Ok.config.agent.eid (map device_of xs)) (sym c.as_slice-3.ensures.value) (c.in-Ok-open_kept.ensures.whole c.in-Ok.config.agent.eid (c.in-Ok-ordered_devices.ensures.whole c.in-Ok.config.agent.eid c.in-Ok.ensures.whole))

pub returns-in-Ok-update_new-2-clause-ok : goal.returns-in-Ok-update_new-2-clause-ok
returns-in-Ok-update_new-2-clause-ok g c =
    let nw = named_with (g.H.Files.Files.holds c.args.host.now.files) (chosen_source (source_of (stores_in (g.H.Stores.ReadStores.is_known c.args.host.now.stores) (g.H.Stores.ReadStores.files c.args.host.now.stores)) (option_map (λ p. p.now) c.args.job.show.store) (config_source c.args.job.config)) c.args.job.order.devices) (number_for c.args.job.order.packages) c.in-Ok.config c.len.result c.in-Ok-packages_in.packages.items c.as_slice-4.result.now (map device_of c.in-Ok-ordered_devices.devices.items) (map device_of c.as_slice-3.result.now) c.in-Ok-opening_world_over.world c.in-Ok.ensures.says
    (named_there (g.H.Files.Files.holds c.args.host.now.files) c.in-Ok.config c.as_slice.result.now c.in-Ok-package_files.contents.items c.as_slice-2.result.now c.in-Ok-packages_in.packages.items c.as_slice.ensures.value
    c.in-Ok-package_files.ensures.packed c.as_slice-2.ensures.value c.in-Ok-packages_in.ensures.is)
    c.in-Ok-ordered_devices.ensures.chosen
    (some_stocked (stores_in (g.H.Stores.ReadStores.is_known c.args.host.now.stores) (g.H.Stores.ReadStores.files c.args.host.now.stores)) (option_map (λ p. p.now) c.args.job.show.store) c.in-Some.root.now (map device_of c.in-Ok-ordered_devices.devices.items) (map device_of c.as_slice-3.result.now) (ap (option_map (λ p. p.now)) c.in-Some.is) (subst (λ xs. HaveStoredImages ((stores_in (g.H.Stores.ReadStores.is_known c.args.host.now.stores) (g.H.Stores.ReadStores.files c.args.host.now.stores)) c.in-Some.root.now) (map device_of c.in-Ok-ordered_devices.devices.items) (map device_of xs)) (sym c.as_slice-3.ensures.value) c.in-Ok-open_kept.ensures.stocked)) c.as_slice-4.ensures.value c.in-Ok-opening_world_over.ensures.made c.len.ensures c.in-Ok-ordered_devices.ensures.numbered in
    c.in-Ok-update_new-2.ensures.ok (chosen_source (source_of (stores_in (g.H.Stores.ReadStores.is_known c.args.host.now.stores) (g.H.Stores.ReadStores.files c.args.host.now.stores)) (option_map (λ p. p.now) c.args.job.show.store) (config_source c.args.job.config)) c.args.job.order.devices) nw.named refl (nw.is ∙ ap (λ (xs : List (String Global)). map (λ p. string_bytes p) xs) (sym c.deref-2.ensures.value))

pub returns-clause-fault : goal.returns-clause-fault
returns-clause-fault g c =
    let nw = named_with (g.H.Files.Files.holds c.args.host.now.files) (chosen_source (source_of (stores_in (g.H.Stores.ReadStores.is_known c.args.host.now.stores) (g.H.Stores.ReadStores.files c.args.host.now.stores)) (option_map (λ p. p.now) c.args.job.show.store) (config_source c.args.job.config)) c.args.job.order.devices) (number_for c.args.job.order.packages) c.in-Ok.config c.len.result c.in-Ok-packages_in.packages.items c.as_slice-4.result.now (map device_of c.in-Ok-ordered_devices.devices.items) (map device_of c.as_slice-3.result.now) c.in-Ok-opening_world_over.world c.in-Ok.ensures.says
    (named_there (g.H.Files.Files.holds c.args.host.now.files) c.in-Ok.config c.as_slice.result.now c.in-Ok-package_files.contents.items c.as_slice-2.result.now c.in-Ok-packages_in.packages.items c.as_slice.ensures.value
    c.in-Ok-package_files.ensures.packed c.as_slice-2.ensures.value c.in-Ok-packages_in.ensures.is)
    c.in-Ok-ordered_devices.ensures.chosen
    (some_stocked (stores_in (g.H.Stores.ReadStores.is_known c.args.host.now.stores) (g.H.Stores.ReadStores.files c.args.host.now.stores)) (option_map (λ p. p.now) c.args.job.show.store) c.in-Some.root.now (map device_of c.in-Ok-ordered_devices.devices.items) (map device_of c.as_slice-3.result.now) (ap (option_map (λ p. p.now)) c.in-Some.is) (subst (λ xs. HaveStoredImages ((stores_in (g.H.Stores.ReadStores.is_known c.args.host.now.stores) (g.H.Stores.ReadStores.files c.args.host.now.stores)) c.in-Some.root.now) (map device_of c.in-Ok-ordered_devices.devices.items) (map device_of xs)) (sym c.as_slice-3.ensures.value) c.in-Ok-open_kept.ensures.stocked)) c.as_slice-4.ensures.value c.in-Ok-opening_world_over.ensures.made c.len.ensures c.in-Ok-ordered_devices.ensures.numbered in
    c.in-Err-update_new-2.ensures.fault (chosen_source (source_of (stores_in (g.H.Stores.ReadStores.is_known c.args.host.now.stores) (g.H.Stores.ReadStores.files c.args.host.now.stores)) (option_map (λ p. p.now) c.args.job.show.store) (config_source c.args.job.config)) c.args.job.order.devices) nw.named refl (nw.is ∙ ap (λ (xs : List (String Global)). map (λ p. string_bytes p) xs) (sym c.deref-2.ensures.value))

pub returns-in-Err-package_files-clause-fault : goal.returns-in-Err-package_files-clause-fault
returns-in-Err-package_files-clause-fault g c =
    packages_end (g.H.Files.Files.holds c.args.host.now.files) (chosen_source (source_of (stores_in (g.H.Stores.ReadStores.is_known c.args.host.now.stores) (g.H.Stores.ReadStores.files c.args.host.now.stores)) (option_map (λ p. p.now) c.args.job.show.store) (config_source c.args.job.config)) c.args.job.order.devices) (number_for c.args.job.order.packages) (show_of c.args.job.show) (g.H.Watch.Observer.refuses c.args.host.now.watch) (g.H.Wires.Wires.lacks c.args.host.now.wires c.args.job.folder.now) c.in-Err-package_files.fault
    (g.H.Watch.Observer.watched c.args.host.now.watch) c.args.host.now.output c.in-Ok.config c.len.result (map device_of c.in-Ok-ordered_devices.devices.items) c.as_slice.result.now c.in-Ok.ensures.says
    c.in-Ok-ordered_devices.ensures.chosen c.len.ensures c.in-Ok-ordered_devices.ensures.numbered c.as_slice.ensures.value c.in-Err-package_files.ensures.fault
