use Rattle.std.proofs.Common.{inl, inr, rules}
use Rattle.std.proofs.lemmas.Result.{IfErr-weaker, IfOk-weaker}
use Rattle.fwupd_jobs.proofs.Checks.{checked_all}
use Rattle.fwupd_jobs.proofs.checking.update_checked.Goals as goal

pub returns-in-Err-clause-fault : goal.returns-in-Err-clause-fault
returns-in-Err-clause-fault g c = inr c.in-Err.ensures.fault

pub returns-clause-ok : goal.returns-clause-ok
returns-clause-ok g c = IfOk-weaker c.check.result _ _ (λ done none. checked_all _ _ _ _ _ _ _ _ c.in-Ok.ensures.ok none) c.check.ensures.none

pub returns-clause-fault : goal.returns-clause-fault
returns-clause-fault g c =
    IfErr-weaker c.check.result _ _ (λ e tells. inl (record {
      asked = search rules;
      undone = c.in-Ok.undone;
      reports = c.in-Ok.ensures.ok;
      tells = tells;
    })) c.check.ensures.tells
