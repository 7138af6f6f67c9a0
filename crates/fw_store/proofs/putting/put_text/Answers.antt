use Rattle.std.proofs.Common.{◌∙◌, inl, inr}
use Rattle.fw_store.proofs.Moments.{held_whole, put_both, put_lasting, unput_second, when_err, when_ok}
use Rattle.fw_store.proofs.putting.put_text.Goals as goal

pub returns-in-Ok-clause-lasts : goal.returns-in-Ok-clause-lasts
returns-in-Ok-clause-lasts g c =
    when_ok c.rename.result
    (λ renamed lasts k. put_lasting _ _ _ _ _ (c.in-Ok.ensures.stored k) (renamed (c.in-Ok.ensures.known ∙ k)) (lasts (c.in-Ok.ensures.known ∙ k)))
    c.rename.ensures.stored c.rename.ensures.lasts

pub returns-in-Ok-clause-unsure : goal.returns-in-Ok-clause-unsure
returns-in-Ok-clause-unsure g c =
    when_err c.rename.result
    (λ e h unsure k. elim (h unsure (c.in-Ok.ensures.known ∙ k)) [
      | inl same ↦ inl (unput_second _ _ _ c.args.text.now _ _ _ (c.in-Ok.ensures.ok k) (c.in-Ok.ensures.moment k) same (c.rename.ensures.moment (c.in-Ok.ensures.known ∙ k)))
      | inr renamed ↦ inr (put_both _ _ _ _ _ _ _ (c.in-Ok.ensures.ok k) (c.in-Ok.ensures.moment k) renamed (c.rename.ensures.moment (c.in-Ok.ensures.known ∙ k)))
    ])
    c.rename.ensures.unsure

pub returns-in-Ok-clause-whole : goal.returns-in-Ok-clause-whole
returns-in-Ok-clause-whole g c =
    when_err c.rename.result
    (λ e h unsure k. held_whole _ _ _ _ (c.in-Ok.ensures.ok k) (h unsure (c.in-Ok.ensures.known ∙ k)))
    c.rename.ensures.unsure

pub returns-in-Ok-clause-all : goal.returns-in-Ok-clause-all
returns-in-Ok-clause-all g c = when_ok c.rename.result (λ lasts same k. lasts (c.in-Ok.ensures.known ∙ k)) c.rename.ensures.lasts c.rename.ensures.lasts
