-- The line that reports why a job failed, and the exit status.
use Rattle.std.specs.Prelude.{ℕ, List, Option, ◌++◌, codes, option_map}
use Rattle.fwupd_watch.specs.declared.faults.JobFault.{JobFault}
use Rattle.fwupd_watch.specs.declared.faults.JobFault.TheVariants as faults

-- `fwupd: `, the fault's text and a line feed; unknown if the fault's text is
abbrev pub failure_line : (text : Option (List ℕ)) → Option (List ℕ)
failure_line text = option_map (λ known. codes "fwupd: " ++ (known ++ codes "\n")) text

-- 3 if nothing was to be updated on the devices whose sessions aren't Done, and else 1
abbrev pub status_of : JobFault → ℕ
status_of (faults.Skipped sessions) = 3
status_of fault = 1
