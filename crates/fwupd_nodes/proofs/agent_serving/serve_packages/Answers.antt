use Rattle.std.proofs.Common.{Ok, ap, map, refl, ◌∙◌}
use Rattle.fw_script.specs.Seen.{config_seen}
use Rattle.fwupd_nodes.proofs.Packed.{through}
use Rattle.fwupd_nodes.proofs.Processes.{packages_stop, runs_packages}
use Rattle.fwupd_nodes.proofs.agent_serving.serve_packages.Goals as goal

pub returns-clause-runs : goal.returns-clause-runs
returns-clause-runs g c =
    runs_packages c.serve_setup.result c.args.job.now _ (config_seen c.args.config.now) (map (λ f. f.items) c.args.contents.now) c.as_slice-3.result.now c.as_slice-2.result.now _ _
    (c.as_slice-2.ensures.value ∙ c.in-Ok-eids_of.ensures.eids ∙ rw (c.as_slice.ensures.value) refl)
    (ap (map (λ p. Ok p)) c.as_slice-3.ensures.value ∙ c.in-Ok.ensures.is ∙ through c.args.contents.now) c.serve_setup.ensures.runs

pub returns-clause-fault : goal.returns-clause-fault
returns-clause-fault g c =
    packages_stop c.serve_setup.result c.args.job.now _ (config_seen c.args.config.now) (map (λ f. f.items) c.args.contents.now) c.as_slice-3.result.now c.as_slice-2.result.now _ _
    (c.as_slice-2.ensures.value ∙ c.in-Ok-eids_of.ensures.eids ∙ rw (c.as_slice.ensures.value) refl)
    (ap (map (λ p. Ok p)) c.as_slice-3.ensures.value ∙ c.in-Ok.ensures.is ∙ through c.args.contents.now) c.serve_setup.ensures.fault
