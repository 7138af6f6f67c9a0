use Rattle.std.proofs.Common.{rules}
use Rattle.std.proofs.lemmas.Fn.{filter_same}
use Rattle.fwupd_base.specs.DeviceSets.{has_eid}
use Rattle.fwupd_jobs.proofs.choosing.keep_members.Goals as goal

pub returns : goal.returns
returns c = filter_same _ (λ d. has_eid c.args.set d.endpoint.eid) _ (λ x b f' k. search rules) _ _ c.retain.ensures.filtered
