use Rattle.std.proofs.Common.{◌≡◌, ◌≤◌, drop, map, IfOk, Ok, [], length}
use Rattle.fw_script.specs.Schedules.{eids_from}
use Rattle.fw_script.specs.Seen.{seen_eids}
use Rattle.fw_script.proofs.schedule.eids.Given as goal

-- the identifiers so far, then those of the remaining words, are those of all
abbrev pub invariant-loop-word : goal.invariant-loop-word
invariant-loop-word l =
    record {
      read : eids_from (Ok []) (map (λ f. f.now) l.words) ≡ eids_from (seen_eids l.eids) (map (λ f. f.now) (drop l.word-index l.words));
      few : IfOk l.eids (λ e. length e.items ≤ l.word-index);
    }
