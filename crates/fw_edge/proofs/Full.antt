-- A tick that no node misses is allowed unless the clock is at its last tick.
use Rattle.std.proofs.Common.{◌≡◌, ◌<◌, ◌-◌, ◌^◌, true, List, [], ◌∷◌, None, refl}
use Rattle.std.proofs.lemmas.Bool.{lt-ltb}
use Rattle.std.specs.List.{list_all}
use Rattle.fw_steps.specs.Steps.{may_site_beat, may_step}
use Rattle.fw_steps.specs.Worlds.{SiteOf, WorldOf, full_tick}

all_may : (xs : List SiteOf) → list_all (may_site_beat []) xs ≡ true
all_may [] = refl
all_may (x ∷ xs) = all_may xs

pub full_may : (w : WorldOf) → w.now < 2 ^ 32 - 1 → may_step w full_tick ≡ None
full_may w soon = rw (lt-ltb w.now (2 ^ 32 - 1) soon, all_may w.sites) refl
