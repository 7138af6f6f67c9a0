use Rattle.std.proofs.Common.{◌∙◌, ap, sym}
use Rattle.fw_store.proofs.Swept.{only_more, sweeps_next}
use Rattle.fw_store.proofs.sweeping.sweep.Goals as goal

pub returns-in-Err-clause-untouched : goal.returns-in-Err-clause-untouched
returns-in-Err-clause-untouched g c = λ k. c.sweep_one.ensures.untouched (c.loop-name.invariant.known ∙ k) (g.F.Folder.files c.args.folder.now) (c.loop-name.invariant.untouched k)

pub loop-name-preserved : goal.loop-name-preserved
loop-name-preserved g c = record {
  known = c.sweep_one.ensures.known ∙ c.loop-name.invariant.known;
  untouched = λ k. c.sweep_one.ensures.untouched (c.loop-name.invariant.known ∙ k) (g.F.Folder.files c.args.folder.now) (c.loop-name.invariant.untouched k);
  passes = λ k.
      c.sweep_one.ensures.moments (c.loop-name.invariant.known ∙ k) (g.F.Folder.files c.args.folder.now) (g.F.Folder.moments c.args.folder.now) (c.loop-name.invariant.untouched k)
      (c.loop-name.invariant.passes k);
  fails = c.sweep_one.ensures.fails ∙ c.loop-name.invariant.fails;
  only = λ k.
      only_more c.args.entries.now (g.F.Folder.files c.args.folder.now) _ _ (c.loop-name.invariant.only k)
      (c.sweep_one.ensures.only (c.loop-name.invariant.known ∙ k));
  swept = λ k s.
      sweeps_next (λ n. n.items) c.args.entries.now c.args.names.now c.loop-name.name-index _ _ (g.F.Folder.files c.args.folder.now) _ _ c.loop-name-test.true (sym (c.deref.ensures.value ∙ ap (λ v. v.items) c.name-item.is))
      (c.loop-name.invariant.swept k s)
      (c.in-Ok.ensures.swept (c.loop-name.invariant.known ∙ k) (c.loop-name.invariant.fails ∙ s));
}

pub returns-in-Err-clause-only : goal.returns-in-Err-clause-only
returns-in-Err-clause-only g c = λ k.
    only_more c.args.entries.now (g.F.Folder.files c.args.folder.now) _ _ (c.loop-name.invariant.only k)
    (c.sweep_one.ensures.only (c.loop-name.invariant.known ∙ k))
