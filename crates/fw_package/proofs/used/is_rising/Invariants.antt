use Rattle.std.proofs.Common.{ℕ, ◌+◌, ◌<◌, slice_index}
use Rattle.fw_package.proofs.used.is_rising.Given as goal

-- the keys before rise
abbrev pub invariant-loop-later : goal.invariant-loop-later
invariant-loop-later l = (k : ℕ) → k + 1 < l.later → slice_index l.keys k < slice_index l.keys (k + 1)
