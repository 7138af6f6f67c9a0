use Rattle.std.proofs.Common.{◌≡◌, ◌||◌, ℕ, is_some, length, map}
use Rattle.fwupd_words.specs.Packages.{has_any_own, has_own}
use Rattle.fwupd_words.specs.Words.{is_named}
use Rattle.fwupd_words.proofs.choosing.with_own.Given as goal

-- the devices so far, and those of the remaining values
abbrev pub invariant-loop-left : goal.invariant-loop-left
invariant-loop-left l =
    ((is_some l.all || has_any_own (map (λ t. t.now) l.left)) ≡ (is_some l.fn.devices || has_any_own (map (λ t. t.now) l.texts)))
    × ((eid : ℕ) → (is_named l.all eid || has_own (map (λ t. t.now) l.left) eid) ≡ (is_named l.fn.devices eid || has_own (map (λ t. t.now) l.texts) eid))

abbrev pub decreases-loop-left : goal.decreases-loop-left
decreases-loop-left l = length l.left
