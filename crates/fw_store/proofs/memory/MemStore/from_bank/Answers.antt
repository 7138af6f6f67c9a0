use Rattle.std.proofs.Common.{sym}
use Rattle.fw_store.proofs.Keeping.{is_there, not_both, running_more}
use Rattle.fw_store.proofs.memory.MemStore.from_bank.Goals as goal

pub unreachable-requires : goal.unreachable-requires
unreachable-requires c =
    not_both _ c.in_default.ensures.found
    (rw c.requires.keys (is_there c.args.bank.now.rows c.loop-key.key-index _ (rw c.requires.keys at c.requires.apart) (rw c.requires.keys at c.loop-key-test.true)))

pub loop-key-preserved : goal.loop-key-preserved
loop-key-preserved c =
    rw (c.in_ok-push.ensures.items, c.loop-key.invariant, c.in_ok-copied.ensures, c.requires.keys)
    (sym (running_more c.args.bank.now.rows c.loop-key.key-index _ (rw c.requires.keys at c.requires.apart) (rw c.requires.keys at c.loop-key-test.true) _ _ (rw c.requires.keys at c.in-Some.ensures.image)))
