-- A link that is explained and the pair that it matches, along the link's steps.
use Rattle.std.proofs.Common.{◌≡◌, ◌∙◌, ℕ, List, [], Some, None, refl, ap}
use Rattle.pldm_exch.specs.Caller.{is_quiet}
use Rattle.pldm_exch.specs.Ends.{AskerOf, asker_new}
use Rattle.exch_lane.specs.Cells.{Cell, CellRun}
use Rattle.exch_lane.specs.Lanes.{AreEnds, LaneOf, Sent}
use Rattle.exch_lane.specs.Laws.{IsCellOf, LaneIsACell}
use Rattle.fw_package.specs.Package.{PackageText}
use Rattle.fw_message.specs.Headline.{EntryOf}
use Rattle.fw_message.specs.Pairs.{PairOf, StepOf, message_along, history_with}
use Rattle.fw_steps.specs.LinksAreMessages.{AreStepsOf, LinksAreMessages}
use Rattle.fw_node.specs.Halves.{HalfOf}
use Rattle.fw_steps.specs.Joins.{LinkMatchesPair, MatchesCell}
use Rattle.fw_steps.specs.Lanes.{Explained, LinkExplained, Times, times_of, turned_times, way_of}
use Rattle.fw_steps.specs.LinksAreLanes.{LinkStepRoundTrips, LinksAreLanes, MayHappen}
use Rattle.fw_steps.specs.Links.{LinkOf, LinkStep, LinkStepped, link_after, time_after}
use Rattle.fw_steps.proofs.LinksAreMessages.BothHalves.{pair_at}
use Rattle.fw_steps.proofs.LinksAreLanes.Following.{follows}
use Rattle.fw_steps.proofs.LinksAreLanes.Ways.{ends_turned}
use Rattle.fw_steps.proofs.LinksAreLanes.Openings.{IsNewHalf, new_link_explained}

-- a link is explained, and this is its pair
pub record Stands (packages : List PackageText) (now : ℕ) (l : LinkOf) (m : PairOf) : Type 0 where
  pub explained : LinkExplained now l
  pub joined : LinkMatchesPair packages l explained.down.run.cell explained.up.run.cell m

-- The link takes the step, and its pair takes its steps.
pub record StandsOn (packages : List PackageText) (now : ℕ) (l : LinkOf) (s : LinkStep) (m : PairOf) : Type 0 where
  pub stepped : LinkStepped
  pub after : link_after now packages l s ≡ Some stepped
  pub steps : List StepOf
  pub named : AreStepsOf s steps
  pub pair : PairOf
  pub along : (es : List EntryOf) → message_along packages (Some (record { pair = m; entries = es })) steps
      ≡ Some (record { pair = pair; entries = history_with es stepped.noted })
  pub stands : Stands packages (time_after now s) stepped.after pair

pub stands_on : LinksAreLanes → LinksAreMessages → (now : ℕ) (packages : List PackageText) (l : LinkOf) (s : LinkStep) (m : PairOf) → Stands packages now l m
    → MayHappen now packages l s → LinkStepRoundTrips packages l s → StandsOn packages now l s m
stands_on lanes messages now packages l s m stands may said =
    let on = lanes now packages l s stands.explained may said in
    let goes = messages now packages l s stands.explained on m said stands.joined in
    record {
      stepped = on.stepped;
      after = on.after;
      steps = goes.steps;
      named = goes.named;
      pair = goes.pair;
      along = goes.along;
      stands = record { explained = on.explained; joined = goes.joined };
    }

-- a cell of a new lane is empty
new_cell : (own peer : ℕ) (a : AskerOf) (w : LaneOf) (run : CellRun) → a ≡ asker_new own peer 0 → w.asker ≡ a → IsCellOf w run → run.cell ≡ Cell.Empty
new_cell own peer a w run new is k =
    let asker : w.asker ≡ asker_new own peer 0 = is ∙ new in
    k.quiet (ap (λ x. x.deaf) asker) (ap (λ x. is_quiet x.caller) asker)

same_cell : (run last : CellRun) → Some run ≡ Some last → last.cell ≡ Cell.Empty → run.cell ≡ Cell.Empty
same_cell run last e empty =
    let same : run ≡ last = cc in
    ap (λ r. r.cell) same ∙ empty

new_way : {A B : Type 0} (law : LaneIsACell) (now : Times) (a : HalfOf A) (b : HalfOf B) (ps : List Sent) (e : Explained a.unit a.own b.own (way_of now a b ps)) → AreEnds a.own b.own → IsNewHalf a → e.run.cell ≡ Cell.Empty
new_way law now a b ps e ends new =
    let f = follows law a.unit a.own b.own (way_of now a b ps) e [] ends tt in
    same_cell e.run f.run f.along (new_cell a.own a.peer a.asker (way_of now a b ps e.run.entries) f.run new.asker refl f.cell)

one_deaf : {C : Type 0} (h : HalfOf C) → IsNewHalf h → h.asker.deaf ≡ h.taker.deaf
one_deaf h new = rw (new.asker, new.taker) refl

nothing_asked : (cell : Cell) → cell ≡ Cell.Empty → MatchesCell cell None
nothing_asked cell e = rw e tt

-- A link without packets matches a pair with empty cells.
pub new_link_stands : LaneIsACell → (packages : List PackageText) (l : LinkOf) → l.device.unit ≡ l.agent.unit → l.agent.core.session.unit ≡ l.agent.unit → AreEnds l.agent.own l.device.own → l.agent.peer ≡ l.device.own → l.device.peer ≡ l.agent.own
    → IsNewHalf l.agent → IsNewHalf l.device → l.packets ≡ [] → l.agent_since_miss ≡ 8 → l.device_since_miss ≡ 8 → Stands packages 0 l (pair_at l None None)
new_link_stands law packages l unit session_unit ends peer back agent device none agent_misses device_misses =
    let explained = new_link_explained l unit session_unit ends peer back agent device none agent_misses device_misses in
    record {
      explained = explained;
      joined = record {
        session = refl;
        device = refl;
        down = nothing_asked explained.down.run.cell (new_way law (times_of 0 l) l.agent l.device l.packets explained.down ends agent);
        up = nothing_asked explained.up.run.cell (new_way law (turned_times (times_of 0 l)) l.device l.agent l.packets explained.up (ends_turned l.agent.own l.device.own ends) device);
        agent_deaf = one_deaf l.agent agent;
        device_deaf = one_deaf l.device device;
        down_wished = tt;
        up_wished = tt;
        down_for = tt;
        up_for = tt;
      };
    }
