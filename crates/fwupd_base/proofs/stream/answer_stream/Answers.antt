use Rattle.std.proofs.Common.{ap, refl}
use Rattle.fwupd_base.specs.Answers.{endpoint_of}
use Rattle.fwupd_base.specs.declared.responder.Responder.{Responder}
use Rattle.fwupd_base.proofs.Answering.{answer_err, answer_ok, answer_write_err}
use Rattle.fwupd_base.proofs.Servers.{map_err, map_ok}
use Rattle.fwupd_base.proofs.stream.answer_stream.Goals as goal

pub returns-clause-ok : goal.returns-clause-ok
returns-clause-ok g c =
    let e = endpoint_of c.args.eid c.args.uuid in
    map_ok c.serve_stream.result _ _ (answer_ok e _ _ _ _ _ _ _ refl (ap (λ n. record { endpoint = e; tid = n }) c.unassigned.ensures)) c.serve_stream.ensures.ok

pub returns-clause-stopped : goal.returns-clause-stopped
returns-clause-stopped g c =
    let e = endpoint_of c.args.eid c.args.uuid in
    map_err c.serve_stream.result _ _ _
    (λ f stops again not. answer_err e _ _ _ f _ _ _ _ refl (ap (λ n. record { endpoint = e; tid = n }) c.unassigned.ensures) (stops not))
    c.serve_stream.ensures.stopped c.serve_stream.ensures.stopped

pub returns-clause-broken : goal.returns-clause-broken
returns-clause-broken g c =
    let e = endpoint_of c.args.eid c.args.uuid in
    map_err c.serve_stream.result _ _ _
    (λ f breaks again is. answer_write_err e _ _ _ _ _ _ _ refl (ap (λ n. record { endpoint = e; tid = n }) c.unassigned.ensures) (breaks is))
    c.serve_stream.ensures.broken c.serve_stream.ensures.broken
