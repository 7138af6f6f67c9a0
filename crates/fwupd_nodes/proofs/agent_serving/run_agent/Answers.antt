use Rattle.std.proofs.Common.{◌∷◌, map, refl, sym}
use Rattle.std.specs.Prelude.{string_bytes}
use Rattle.fw_script.specs.Seen.{config_seen}
use Rattle.fwupd_nodes.specs.Processes.{agent_shows}
use Rattle.fwupd_nodes.specs.Setups.{ArePacked}
use Rattle.fwupd_watch.specs.Apart.{IsApart}
use Rattle.fwupd_nodes.proofs.Packed.{packed_slice}
use Rattle.fwupd_nodes.proofs.Processes.{agent_lacks, agent_overwrites, agent_stops, runs_agent}
use Rattle.fwupd_nodes.proofs.agent_serving.run_agent.Goals as goal

pub serve_packages-requires-clause-packed : goal.serve_packages-requires-clause-packed
serve_packages-requires-clause-packed g c =
    packed_slice (g.H.Files.Files.holds c.args.host.now.files) (map (λ p. string_bytes p) c.as_slice-packages.result.now) c.in-Ok-package_files.contents.items c.as_slice.result.now
    c.in-Ok-package_files.ensures.packed c.as_slice.ensures.value

pub returns-clause-runs : goal.returns-clause-runs
returns-clause-runs g c =
    let packed : ArePacked (g.H.Files.Files.holds c.args.host.now.files) (map (λ p. string_bytes p) c.in-Ok.config.packages.items) (map (λ f. f.items) c.as_slice.result.now) =
    rw (c.as_slice.ensures.value, sym c.as_slice-packages.ensures.value) c.in-Ok-package_files.ensures.packed in
    let apart : IsApart (g.H.Files.Files.holds c.args.host.now.files) (agent_shows c.args.job.now)
    (c.args.job.now.config.now ∷ map (λ p. string_bytes p) c.in-Ok.config.packages.items) =
    rw (sym c.as_slice-packages.ensures.value) c.in-Ok-check_agent_outputs.ensures.apart in
    runs_agent c.serve_packages.result c.args.job.now (config_seen c.in-Ok.config) (g.H.Files.Files.holds c.args.host.now.files) _ (map (λ f. f.items) c.as_slice.result.now) _ _ c.in-Ok.ensures.says
    apart packed c.serve_packages.ensures.runs

pub returns-in-Err-check_agent_outputs-clause-fault : goal.returns-in-Err-check_agent_outputs-clause-fault
returns-in-Err-check_agent_outputs-clause-fault g c =
    agent_overwrites c.args.job.now c.in-Err-check_agent_outputs.fault (config_seen c.in-Ok.config) (g.H.Files.Files.holds c.args.host.now.files) _ c.args.host.now.output _ c.in-Ok.ensures.says
    (rw (sym c.as_slice-packages.ensures.value) c.in-Err-check_agent_outputs.ensures.fault) refl

pub returns-in-Err-package_files-clause-fault : goal.returns-in-Err-package_files-clause-fault
returns-in-Err-package_files-clause-fault g c =
    agent_lacks c.args.job.now c.in-Err-package_files.fault (config_seen c.in-Ok.config) (g.H.Files.Files.holds c.args.host.now.files) _ c.args.host.now.output _ c.in-Ok.ensures.says
    (rw (sym c.as_slice-packages.ensures.value) c.in-Ok-check_agent_outputs.ensures.apart) (rw (sym c.as_slice-packages.ensures.value) c.in-Err-package_files.ensures.fault) refl

pub returns-clause-fault : goal.returns-clause-fault
returns-clause-fault g c =
    agent_stops c.serve_packages.result c.args.job.now (config_seen c.in-Ok.config) (g.H.Files.Files.holds c.args.host.now.files) _ (map (λ f. f.items) c.as_slice.result.now) _ _ c.in-Ok.ensures.says
    (rw (sym c.as_slice-packages.ensures.value) c.in-Ok-check_agent_outputs.ensures.apart)
    (rw (c.as_slice.ensures.value, sym c.as_slice-packages.ensures.value) c.in-Ok-package_files.ensures.packed)
    c.serve_packages.ensures.fault
