use Rattle.std.proofs.Common.{Ok, ap, map, refl, ◌∙◌}
use Rattle.fwupd_nodes.proofs.Lone.{packages_end, packages_served}
use Rattle.fwupd_nodes.proofs.Packed.{through}
use Rattle.fwupd_nodes.proofs.alone.serve_packages.Goals as goal

pub returns-clause-ok : goal.returns-clause-ok
returns-clause-ok g c =
    packages_served c.serve_agent.result c.args.job _ _ c.as_slice-3.result.now c.in-Ok-new.filter _ _
    (c.in-Ok-new.ensures ∙ rw (c.front_if.ensures, c.as_slice-2.ensures.value, c.in-Ok-eids_of.ensures.eids, c.as_slice.ensures.value) refl)
    (ap (map (λ p. Ok p)) c.as_slice-3.ensures.value ∙ c.in-Ok.ensures.is ∙ through c.args.contents.now) c.serve_agent.ensures.ok

pub returns-clause-fault : goal.returns-clause-fault
returns-clause-fault g c =
    packages_end c.serve_agent.result c.args.job _ _ c.as_slice-3.result.now c.in-Ok-new.filter _ _
    (c.in-Ok-new.ensures ∙ rw (c.front_if.ensures, c.as_slice-2.ensures.value, c.in-Ok-eids_of.ensures.eids, c.as_slice.ensures.value) refl)
    (ap (map (λ p. Ok p)) c.as_slice-3.ensures.value ∙ c.in-Ok.ensures.is ∙ through c.args.contents.now) c.serve_agent.ensures.fault
