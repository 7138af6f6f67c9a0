-- What is promised of the world that a job leaves.
use Rattle.std.specs.Prelude.{List}
use Rattle.fw_steps.specs.Opening.{IsOpeningWorld}
use Rattle.fw_steps.specs.Promises.{IsPromisedSince}
use Rattle.fw_steps.specs.Worlds.{WorldOf}
use Rattle.fw_steps.specs.declared.step.Step.{Step}

-- The first world is an opening world, and of the second is promised what is of every run of these
-- steps.
pub record IsPromisedRun (w : WorldOf) (steps : List Step) (v : WorldOf) : Type 0 where
  pub begins : IsOpeningWorld w
  pub promised : IsPromisedSince w steps v
