use Rattle.std.proofs.Common.{◌≡◌, take}
use Rattle.fw_store.specs.Kept.{all_running}
use Rattle.fw_store.proofs.memory.MemStore.from_bank.Given as goal

-- the images of the components so far are kept
abbrev pub invariant-loop-key : goal.invariant-loop-key
invariant-loop-key l = l.images.items ≡ all_running (take l.key-index l.bank.rows)
