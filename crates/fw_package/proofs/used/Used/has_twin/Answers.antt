use Rattle.std.proofs.lemmas.List.Sorted.{IsNonDecreasingBy-from_sort}
use Rattle.fw_package.proofs.Twins.{twins_told}
use Rattle.fw_package.proofs.used.Used.has_twin.Goals as goal

pub returns : goal.returns
returns c =
    twins_told c.is_rising.result c.args.self c.keys-keys.result.items c.sort_unstable.new.self c.keys-keys.ensures (rw c.as_mut_slice-sorted.ensures.value at c.sort_unstable.ensures.permutation)
    (IsNonDecreasingBy-from_sort (λ k. k) c.sort_unstable.new.self c.sort_unstable.ensures.sorted) c.is_rising.ensures
