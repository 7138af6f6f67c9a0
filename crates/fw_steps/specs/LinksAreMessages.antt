-- A link's step is steps of its pair over whole messages: the two halves, with packets, tags and
-- time, do the same as a device and its session with commands and answers.
use Rattle.std.specs.Prelude.{◌≡◌, ◌∷◌, [], ℕ, List, Some}
use Rattle.std.specs.List.{AllByRecursion}
use Rattle.exch_lane.specs.Cells.{Cell}
use Rattle.fw_package.specs.Package.{PackageText}
use Rattle.fw_message.specs.Headline.{EntryOf}
use Rattle.fw_message.specs.Names.{HasName}
use Rattle.fw_message.specs.Pairs.{PairOf, StepOf, message_along, history_with}
use Rattle.fw_message.specs.declared.side.Side.TheVariants as sides
use Rattle.fw_steps.specs.Joins.{LinkMatchesPair}
use Rattle.fw_steps.specs.Lanes.{LinkExplained}
use Rattle.fw_steps.specs.LinksAreLanes.{LinkStepRoundTrips, StepsInLanes}
use Rattle.fw_steps.specs.Links.{LinkOf, LinkStep, LinkStepped}

-- A restart of the agent is one restart of its session. Any other step of a link is steps other
-- than a restart of the session.
abbrev pub AreStepsOf : LinkStep → List StepOf → Type 0
AreStepsOf (LinkStep.Restart sides.Agent) steps = steps ≡ StepOf.Restart sides.Agent ∷ []
AreStepsOf s steps = AllByRecursion HasName steps

-- These steps over whole messages may be taken from this pair, with any history. They add the
-- entries of the link's step, and they give a pair that matches the link after it.
pub record StepsInMessages (packages : List PackageText) (m : PairOf) (s : LinkStep) (t : LinkStepped) (down_cell up_cell : Cell) : Type 0 where
  pub steps : List StepOf
  pub named : AreStepsOf s steps
  pub pair : PairOf
  pub along : (es : List EntryOf) → message_along packages (Some (record { pair = m; entries = es })) steps
      ≡ Some (record { pair = pair; entries = history_with es t.noted })
  pub joined : LinkMatchesPair packages t.after down_cell up_cell pair

-- This holds for every link that is explained and a pair that matches it, with any packets lost,
-- repeated, reordered or late and any nodes restarted.
abbrev pub LinksAreMessages : Type 0
LinksAreMessages =
    (now : ℕ) (packages : List PackageText) (l : LinkOf) (s : LinkStep) (before : LinkExplained now l)
    (on : StepsInLanes now packages l s before) (m : PairOf)
    → LinkStepRoundTrips packages l s → LinkMatchesPair packages l before.down.run.cell before.up.run.cell m
    → StepsInMessages packages m s on.stepped on.explained.down.run.cell on.explained.up.run.cell
