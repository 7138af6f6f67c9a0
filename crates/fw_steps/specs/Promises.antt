-- What is promised of every run of steps (`Steps`) from an opening world (`Opening`): the headline
-- (`fw_message`, `Headline`), and what any two moments of a run have to do with each other
-- (`Moments`, `Clocks`, `Messages`). `IsPromised` holds of every value of the type `World`.
use Rattle.std.specs.Prelude.{ℕ, ◌≡◌, ◌++◌, true, List}
use Rattle.std.specs.Option.{option_map}
use Rattle.fw_message.specs.Headline.{HeadlineHolds, Shown}
use Rattle.fw_message.specs.Laws.{shown_pair}
use Rattle.fw_message.specs.WorldLaws.{history_of}
use Rattle.fw_steps.specs.Clocks.{KeepsTime}
use Rattle.fw_steps.specs.Messages.{IsRunOfMessages}
use Rattle.fw_steps.specs.Moments.{GrowsHistory, IsTiedBetween}
use Rattle.fw_steps.specs.Opening.{AreDifferent, IsOpeningWorld}
use Rattle.fw_steps.specs.Steps.{Run, is_node}
use Rattle.fw_steps.specs.Worlds.{WorldOf, eids_of, pair_for}
use Rattle.fw_steps.specs.declared.step.Step.{Step}

-- what a world shows
abbrev pub shown_world : WorldOf → Shown
shown_world w =
    record {
      packages = w.packages;
      device = λ eid. option_map (λ m. shown_pair m (history_of eid w.history)) (pair_for w eid);
    }

-- The headline, of two worlds.
abbrev pub IsSafeWorld : (opening w : WorldOf) → Type 0
IsSafeWorld opening w = HeadlineHolds (shown_world opening) (shown_world w)

-- The law: the headline holds in every world that steps reach from an opening world.
abbrev pub PacketsAreSafe : Type 0
PacketsAreSafe = (opening w : WorldOf) (steps : List Step) → IsOpeningWorld opening → Run opening steps w → IsSafeWorld opening w

-- OTHER LAWS OF RUNS

-- Every run of packets is one of messages.
abbrev pub PacketsAreMessages : Type 0
PacketsAreMessages = (opening w : WorldOf) (steps : List Step) → IsOpeningWorld opening → Run opening steps w → IsRunOfMessages opening w

-- A run followed by a run is a run.
abbrev pub RunsJoin : Type 0
RunsJoin = (w v u : WorldOf) (ss ts : List Step) → Run w ss v → Run v ts u → Run w (ss ++ ts) u

-- The history only grows.
abbrev pub RunsGrow : Type 0
RunsGrow = (old new : WorldOf) (steps : List Step) → Run old steps new → GrowsHistory old new

-- Any two moments of a run are tied.
abbrev pub RunsStayTied : Type 0
RunsStayTied = (opening old new : WorldOf) (before steps : List Step) → IsOpeningWorld opening
    → Run opening before old → Run old steps new → IsTiedBetween old new

-- WHAT IS PROMISED

-- Of a world that these steps lead to from an opening world: it has the same devices in the same
-- order, the headline holds, the history has only grown, the images and records are those of the
-- opening, changed by the history, the steps are a run of whole messages, and each node kept time.
pub record IsPromisedSince (opening : WorldOf) (steps : List Step) (w : WorldOf) : Type 0 where
  pub devices : eids_of w.sites ≡ eids_of opening.sites
  pub safe : IsSafeWorld opening w
  pub grown : GrowsHistory opening w
  pub tied : IsTiedBetween opening w
  pub messages : IsRunOfMessages opening w
  pub clocks : (eid : ℕ) → is_node opening eid ≡ true → KeepsTime eid steps

-- This is promised of every run from an opening world.
abbrev pub RunsArePromised : Type 0
RunsArePromised = (opening w : WorldOf) (steps : List Step) → IsOpeningWorld opening → Run opening steps w → IsPromisedSince opening steps w

-- steps reached this world from an opening world
pub record IsReached (w : WorldOf) : Type 0 where
  pub opening : WorldOf
  pub before : List Step
  pub opens : IsOpeningWorld opening
  pub run : Run opening before w

-- Of every world, at any moment: its devices have different identifiers, steps reached it from an
-- opening world, and this is promised since each opening world from which steps lead to it: so
-- since the one that `World::new` made, with its packages, devices and first images.
pub record IsPromised (w : WorldOf) : Type 0 where
  pub apart : AreDifferent (eids_of w.sites)
  pub reached : IsReached w
  pub since : (opening : WorldOf) (steps : List Step) → IsOpeningWorld opening → Run opening steps w → IsPromisedSince opening steps w
