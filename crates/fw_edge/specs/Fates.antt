-- The fate of a packet on a rough link: the numbers of a generator determine it, so a seed
-- determines the fates of all packets.
use Rattle.std.specs.Prelude.{ℕ, ◌+◌, ◌%◌, if◌then◌else◌, nat_lt}
use Rattle.fw_edge.specs.declared.fates.Fate.{Fate}
use Rattle.fw_edge.specs.declared.fates.Fate.TheVariants as fates
use Rattle.fwupd_base.specs.declared.roughness.Roughness.{Roughness}
use Rattle.rand_pcg.specs.Lcg.{Lcg}
use Rattle.rand_pcg.specs.Pcg.{pcg32}

-- the next number of a generator, and the generator after it
unfoldable pub word_of : Lcg → ℕ
word_of g = (pcg32 g).0

unfoldable pub word_after : Lcg → Lcg
word_after g = (pcg32 g).1

-- the generator after four numbers
abbrev pub generator_after : Lcg → Lcg
generator_after g = word_after (word_after (word_after (word_after g)))

-- The first number decides, as a percentage, whether the packet is lost, the second whether it is
-- duplicated. The third is the delay of the first copy, and the fourth that of the second.
abbrev pub fate_by : Roughness → (lost doubled first second : ℕ) → Fate
fate_by r lost doubled first second =
    if nat_lt (lost % 100) r.loss then fates.Lost
    else (if nat_lt (doubled % 100) r.duplicate then fates.Twice (first % (r.delay + 1)) (second % (r.delay + 1)) else fates.Once (first % (r.delay + 1)))

abbrev pub fate_of : Roughness → Lcg → Fate
fate_of r g = fate_by r (word_of g) (word_of (word_after g)) (word_of (word_after (word_after g))) (word_of (word_after (word_after (word_after g))))
