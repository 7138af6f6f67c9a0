use Rattle.std.proofs.Common.{◌≡◌, length, map}
use Rattle.fwupd_words.specs.Packages.{first_malformed}
use Rattle.fwupd_words.proofs.packages.malformed_among.Given as goal

abbrev pub invariant-loop-left : goal.invariant-loop-left
invariant-loop-left l = first_malformed (map (λ t. t.now) l.left) ≡ first_malformed (map (λ t. t.now) l.texts)

abbrev pub decreases-loop-left : goal.decreases-loop-left
decreases-loop-left l = length l.left
