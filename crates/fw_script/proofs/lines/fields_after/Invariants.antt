use Rattle.std.proofs.Common.{◌≡◌, ◌+◌, ◌≤◌, ◌++◌, false, List, Option, None, Some, ℕ, length, map, option_map, Bor}
use Rattle.std.specs.List.{list_any}
use Rattle.fw_script.specs.Lines.{is_nothing, words_from}
use Rattle.fw_script.proofs.lines.fields_after.Given as goal

-- the words so far, then the remaining words, are all words
abbrev pub invariant-loop-left : goal.invariant-loop-left
invariant-loop-left g l = record {
  passed : map (λ f. f.now) l.fields.items ++ words_from (option_map (λ r. r.now) l.left) ≡ words_from (option_map (λ r. r.now) l.fn.rest);
  kept : list_any is_nothing (map (λ f. f.now) l.fields.items) ≡ false;
  few : length l.fields.items ≤ g.row.N;
}

abbrev left_over : Option (Bor (List ℕ)) → ℕ
left_over None = 0
left_over (Some rest) = length rest.now + 1

abbrev pub decreases-loop-left : goal.decreases-loop-left
decreases-loop-left g l = left_over l.left
