use Rattle.std.proofs.Common.{◌≡◌, length, map}
use Rattle.std.specs.Option.{option_or}
use Rattle.fwupd_words.specs.Packages.{number_given}
use Rattle.fwupd_words.proofs.packages.number_given.Given as goal

abbrev pub invariant-loop-left : goal.invariant-loop-left
invariant-loop-left l = option_or (number_given l.device (map (λ t. t.now) l.left)) l.found ≡ number_given l.device (map (λ t. t.now) l.texts)

abbrev pub decreases-loop-left : goal.decreases-loop-left
decreases-loop-left l = length l.left
