use Rattle.std.proofs.lemmas.Bool.{eqb-true}
use Rattle.std.proofs.Common.{sym}
use Rattle.fwupd_base.proofs.Servers.{finish_empty, finish_line, finish_unflushed, if_err, on_ok}
use Rattle.fwupd_base.proofs.serving.finish.Goals as goal

pub returns-then-is_empty-clause-ok : goal.returns-then-is_empty-clause-ok
returns-then-is_empty-clause-ok g c = λ s all before h. finish_empty _ _ _ all before _ _ h (eqb-true _ _ (sym c.if-is_empty.ensures))

pub returns-in-Ok-clause-ok : goal.returns-in-Ok-clause-ok
returns-in-Ok-clause-ok g c = λ s all before h. on_ok c.flush.result _ (finish_line _ _ _ _ all before _ _ _ _ h (λ z. absurd (let bad = rw z at c.if-is_empty.ensures in cc)) c.in-Ok.ensures.ok c.flush.ensures.kept)

pub returns-in-Ok-clause-broken : goal.returns-in-Ok-clause-broken
returns-in-Ok-clause-broken g c = λ s all before h. if_err c.flush.result _ (λ e is. finish_unflushed _ _ _ _ all before _ _ _ _ h c.in-Ok.ensures.ok c.flush.ensures.kept)
