-- The fate of a packet, by whether it is lost and whether it is duplicated.
use Rattle.std.proofs.Common.{◌≡◌, ◌+◌, ◌%◌, ℕ, Bool, true, false, refl, arith, nat_lt, if◌then◌else◌}
use Rattle.std.proofs.lemmas.Bool.{ltb-false, ltb-true}
use Rattle.fw_edge.specs.Fates.{fate_by, word_after, word_of}
use Rattle.fw_edge.specs.Roughening.{FatesAreWithin, IsWithinRoughness}
use Rattle.fw_edge.specs.declared.fates.Fate.TheVariants as fates
use Rattle.fwupd_base.specs.declared.roughness.Roughness.{Roughness}

by_tests : (r : Roughness) (lost doubled first second : ℕ) (a b : Bool) → nat_lt (lost % 100) r.loss ≡ a → nat_lt (doubled % 100) r.duplicate ≡ b
    → IsWithinRoughness r (if a then fates.Lost else (if b then fates.Twice (first % (r.delay + 1)) (second % (r.delay + 1)) else fates.Once (first % (r.delay + 1))))
by_tests r lost doubled first second true b is next =
    let low = ltb-true (lost % 100) r.loss is in
    record { none_lost = λ none. absurd (omega arith); all_lost = λ all. refl; none_doubled = λ none. omega arith; all_doubled = λ none all. absurd (omega arith); late = tt }
by_tests r lost doubled first second false true is next =
    let high = ltb-false (lost % 100) r.loss is in
    let low = ltb-true (doubled % 100) r.duplicate next in
    record { none_lost = λ none. omega arith; all_lost = λ all. absurd (omega arith); none_doubled = λ none. absurd (omega arith); all_doubled = λ none all. refl; late = (omega arith, (omega arith, tt)) }
by_tests r lost doubled first second false false is next =
    let high = ltb-false (lost % 100) r.loss is in
    let far = ltb-false (doubled % 100) r.duplicate next in
    record { none_lost = λ none. omega arith; all_lost = λ all. absurd (omega arith); none_doubled = λ none. omega arith; all_doubled = λ none all. absurd (omega arith); late = (omega arith, tt) }

by_words : (r : Roughness) (lost doubled first second : ℕ) → IsWithinRoughness r (fate_by r lost doubled first second)
by_words r lost doubled first second = by_tests r lost doubled first second (nat_lt (lost % 100) r.loss) (nat_lt (doubled % 100) r.duplicate) refl refl

pub within : FatesAreWithin
within r g = by_words r (word_of g) (word_of (word_after g)) (word_of (word_after (word_after g))) (word_of (word_after (word_after (word_after g))))
