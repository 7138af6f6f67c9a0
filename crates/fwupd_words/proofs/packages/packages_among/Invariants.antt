use Rattle.std.proofs.Common.{◌≡◌, ◌<◌, ℕ, Some, length, map}
use Rattle.std.specs.Prelude.{unwrap_or}
use Rattle.fwupd_base.specs.PackageChoices.{number_for}
use Rattle.fwupd_words.specs.Packages.{number_given, package_of}
use Rattle.fwupd_words.proofs.packages.packages_among.Given as goal

-- the remaining values, or else the number so far
abbrev pub invariant-loop-left : goal.invariant-loop-left
invariant-loop-left l =
    (eid : ℕ) → eid < 256 → unwrap_or (number_given (Some eid) (map (λ t. t.now) l.left)) (number_for l.packages eid) ≡ package_of (map (λ t. t.now) l.texts) eid

abbrev pub decreases-loop-left : goal.decreases-loop-left
decreases-loop-left l = length l.left
