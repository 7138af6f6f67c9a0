-- The openings of links and messages, and the laws of all worlds that they reach.
use Rattle.std.proofs.Common.{◌≡◌, ◌∙◌, ℕ, Bool, true, false, if◌then◌else◌, List, [], ◌∷◌, ◌++◌, map, Some, None, IfSome, refl, sym, ap, subst}
use Rattle.std.specs.List.{AllByRecursion}
use Rattle.exch_lane.specs.Lanes.{AreEnds}
use Rattle.exch_lane.specs.Laws.{LaneIsACell}
use Rattle.fw_package.specs.Package.{PackageText}
use Rattle.fw_message.specs.Names.{IsNamedStep}
use Rattle.fw_message.specs.WorldLaws.{IsOpeningMessageWorld, IsSafeMessageWorld, WorldsAreSafe}
use Rattle.fw_message.specs.Worlds.{NodeOf, NotedOf, MessageWorldOf, WorldStepOf, world_along}
use Rattle.fw_message.specs.declared.side.Side.TheVariants as sides
use Rattle.fw_message.proofs.Safety.Worlds.{along_append}
use Rattle.fw_steps.specs.Opening.{AreDifferent}
use Rattle.fw_steps.specs.Links.{LinkOf, LinkStep, LinkStepped, link_step_without_entries}
use Rattle.fw_steps.proofs.LinksAreMessages.Each.{AllAfter, AllStand, eid_of, notes_of}
use Rattle.fw_steps.proofs.LinksAreMessages.BothHalves.{pair_at}
use Rattle.fw_steps.proofs.LinksAreMessages.Moves.{MovesOn, WorldStands}
use Rattle.fw_steps.proofs.LinksAreMessages.Pairs.{node_of}
use Rattle.fw_steps.proofs.LinksAreMessages.Sides.{all_along}
use Rattle.fw_steps.proofs.LinksAreMessages.Stands.{new_link_stands}
use Rattle.fw_steps.proofs.LinksAreLanes.Openings.{IsNewHalf}

-- THE OPENING

-- a link without packets
pub record IsNewLink (l : LinkOf) : Type 0 where
  pub unit : l.device.unit ≡ l.agent.unit
  pub session_unit : l.agent.core.session.unit ≡ l.agent.unit
  pub ends : AreEnds l.agent.own l.device.own
  pub peer : l.agent.peer ≡ l.device.own
  pub back : l.device.peer ≡ l.agent.own
  pub agent : IsNewHalf l.agent
  pub device : IsNewHalf l.device
  pub none : l.packets ≡ []
  pub agent_misses : l.agent_since_miss ≡ 8
  pub device_misses : l.device_since_miss ≡ 8

abbrev pub AreNewLinks : List LinkOf → Type 0
AreNewLinks [] = Unit {0}
AreNewLinks (l ∷ ls) = IsNewLink l × AreNewLinks ls

-- its device in the world of messages
abbrev pub opening_node : LinkOf → NodeOf
opening_node l = node_of l.device.own (pair_at l None None)

new_all_stand : LaneIsACell → (packages : List PackageText) (ls : List LinkOf) → AreNewLinks ls → AllStand packages 0 ls (map opening_node ls)
new_all_stand law packages [] new = tt
new_all_stand law packages (l ∷ ls) new = (
  new_link_stands law packages l new.0.unit new.0.session_unit new.0.ends new.0.peer new.0.back new.0.agent new.0.device new.0.none new.0.agent_misses new.0.device_misses,
  new_all_stand law packages ls new.1,
)

-- New links match the pairs with empty cells.
pub new_world_stands : LaneIsACell → (ls : List LinkOf) (v : MessageWorldOf) → AreNewLinks ls → v.nodes ≡ map opening_node ls → AreDifferent (map eid_of v.nodes) → WorldStands 0 ls v
new_world_stands law ls v new are apart = record {
  stand = subst (AllStand v.packages 0 ls) (sym are) (new_all_stand law v.packages ls new);
  apart = apart;
}

-- REACHED WORLDS

-- steps of messages from one world to another
pub record Reaches (opening v : MessageWorldOf) : Type 0 where
  pub steps : List WorldStepOf
  pub named : AllByRecursion IsNamedStep steps
  pub along : world_along (Some opening) steps ≡ Some v

pub reaches_first : (opening : MessageWorldOf) → Reaches opening opening
reaches_first opening = record { steps = []; named = tt; along = refl }

pub reaches_on : (opening v : MessageWorldOf) (now : ℕ) (ls : List LinkOf) (notes : List NotedOf) → Reaches opening v → (m : MovesOn now ls notes v) → Reaches opening m.after
reaches_on opening v now ls notes r m = record {
  steps = r.steps ++ m.steps;
  named = all_along IsNamedStep r.steps m.steps r.named m.named;
  along = along_append r.steps m.steps (Some opening) ∙ ap (λ o. world_along o m.steps) r.along ∙ m.along;
}

-- A world that is reached is safe.
pub reached_safe : WorldsAreSafe → (opening v : MessageWorldOf) → IsOpeningMessageWorld opening → Reaches opening v → IsSafeMessageWorld opening v
reached_safe law opening v begins r = subst (λ o. IfSome o (IsSafeMessageWorld opening)) r.along (law opening r.steps begins)

-- STEPS WITHOUT ENTRIES

-- steps of all links without entries
abbrev pub AreUnnoted : List LinkStepped → Type 0
AreUnnoted [] = Unit {0}
AreUnnoted (t ∷ ts) = (t.noted ≡ []) × AreUnnoted ts

pub none_noted : (eids : List ℕ) (ts : List LinkStepped) → AreUnnoted ts → notes_of eids ts ≡ []
none_noted [] ts e = refl
none_noted (eid ∷ eids) [] e = refl
none_noted (eid ∷ eids) (t ∷ ts) e = rw (e.0, none_noted eids ts e.1) refl

unnoted_if : (may : Bool) (l : LinkOf) (t : LinkStepped) → (if may then Some (link_step_without_entries l) else None) ≡ Some t → t.noted ≡ []
unnoted_if true l t e =
    let is : link_step_without_entries l ≡ t = cc in
    ap (λ x. x.noted) (sym is)
unnoted_if false l t e = absurd (cc)

-- a restart of the agent
pub restarts_unnoted : (packages : List PackageText) (now : ℕ) (ls : List LinkOf) (ts : List LinkStepped) → AllAfter packages now (λ l. LinkStep.Restart sides.Agent) ls ts → AreUnnoted ts
restarts_unnoted packages now [] [] e = tt
restarts_unnoted packages now (l ∷ ls) (t ∷ ts) e = (
  unnoted_if true _ t e.0,
  restarts_unnoted packages now ls ts e.1,
)
restarts_unnoted packages now [] (t ∷ ts) e = absurd e
restarts_unnoted packages now (l ∷ ls) [] e = absurd e
