-- The random numbers of a run, and what they decide: the seed and the run's number determine all.
use Rattle.std.specs.Prelude.{ℕ, zero, suc, [], ◌∷◌, ◌+◌, ◌*◌, ◌%◌, ◌^◌, ◌==◌, ◌&&◌, ◌||◌, Bool, List, if◌then◌else◌, nat_lt, not}
use Rattle.fd_core.specs.declared.states.Verdict.{Verdict}
use Rattle.fw_edge.specs.Fates.{word_after, word_of}
use Rattle.fw_edge.specs.declared.fates.Fate.{Fate}
use Rattle.fw_edge.specs.declared.fates.Fate.TheVariants as fates
use Rattle.fwupd_base.specs.declared.roughness.Roughness.{Roughness}
use Rattle.rand_pcg.specs.Lcg.{Lcg, increment_of, started}
use Rattle.rand_pcg.specs.Pcg.{multiplier_64}
use Rattle.fw_soak.specs.declared.decisions.Upset.{Upset}
use Rattle.fw_soak.specs.declared.decisions.Upset.TheVariants as upsets

-- the generator of a run
abbrev pub generator_of : (seed run : ℕ) → Lcg
generator_of seed run = started 64 multiplier_64 seed (increment_of 64 run)

-- the generator after `count` numbers, and the number after them
abbrev pub generator_past : (count : ℕ) → Lcg → Lcg
generator_past zero g = g
generator_past (suc count) g = generator_past count (word_after g)

abbrev pub word_past : (count : ℕ) → Lcg → ℕ
word_past count g = word_of (generator_past count g)

-- THE FATE OF A PACKET: the first number decides, as a percentage, whether it is lost, the second
-- is the delay of its first copy, the third decides whether it is duplicated, and the fourth is the
-- delay of the second copy

abbrev pub is_lost : Roughness → Lcg → Bool
is_lost r g = nat_lt (word_of g % 100) r.loss

abbrev pub is_doubled : Roughness → Lcg → Bool
is_doubled r g = nat_lt (word_past 2 g % 100) r.duplicate

abbrev pub drawn_fate : Roughness → Lcg → Fate
drawn_fate r g =
    if is_lost r g then fates.Lost
    else (if is_doubled r g then fates.Twice (word_past 1 g % (r.delay + 1)) (word_past 3 g % (r.delay + 1)) else fates.Once (word_past 1 g % (r.delay + 1)))

abbrev pub generator_after_fate : Roughness → Lcg → Lcg
generator_after_fate r g = if is_lost r g then generator_past 1 g else (if is_doubled r g then generator_past 4 g else generator_past 3 g)

-- the delays of a packet's copies
abbrev pub delays_of : Fate → List ℕ
delays_of fates.Lost = []
delays_of (fates.Once first) = first ∷ []
delays_of (fates.Twice first second) = first ∷ second ∷ []

-- WHAT A RUN DOES

-- the call of a bank that fails, counted from 1, or 0: none. The first number decides among how
-- many calls, up to 512.
abbrev pub failing_call : Lcg → ℕ
failing_call g = word_past 1 g % 2 ^ (word_of g % 10)

-- the number of a package, from 1
abbrev pub drawn_package : (packages : ℕ) → Lcg → ℕ
drawn_package packages g = word_of g % packages + 1

-- one verdict in 16 is bad, on average
abbrev pub drawn_verdict : (good bad : Verdict) → Lcg → Verdict
drawn_verdict good bad g = if word_of g % 16 == 0 then bad else good

-- a run has at most seven upsets, one in 16 to 2,048 turns on average
abbrev pub drawn_upsets : Lcg → ℕ
drawn_upsets g = word_of g % 8

abbrev pub drawn_rareness : Lcg → ℕ
drawn_rareness g = 16 * 2 ^ (word_past 1 g % 8)

-- whether an upset comes in a turn with `left` upsets left
abbrev pub comes_now : (left among : ℕ) → Lcg → Bool
comes_now left among g = not (left == 0 || among == 0) && (word_of g % among == 0)

-- the kind of an upset: each is as likely as the others
abbrev pub upset_by : ℕ → Upset
upset_by zero = upsets.RestartAgent
upset_by (suc zero) = upsets.RestartDevice
upset_by (suc (suc zero)) = upsets.Cancel
upset_by (suc (suc (suc n))) = upsets.Repeat

abbrev pub drawn_upset : Lcg → Upset
drawn_upset g = upset_by (word_of g % 4)
