use Rattle.std.proofs.Common.{sym}
use Rattle.fw_store.proofs.Keeping.{applied_more}
use Rattle.fw_store.proofs.bank.applied_images.Goals as goal

pub loop-key-preserved : goal.loop-key-preserved
loop-key-preserved c =
    rw (c.in_ok-push_applied.ensures, c.loop-key.invariant, c.applied.ensures.image, c.requires.keys)
    (sym (applied_more c.args.bank.now.rows c.loop-key.key-index _ (rw c.requires.keys at c.requires.apart) (rw c.requires.keys at c.loop-key-test.true)))
