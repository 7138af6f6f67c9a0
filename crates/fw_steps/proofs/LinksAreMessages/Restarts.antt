-- The agent restarts: each link does, and its pair with it, which is one step of the world of
-- messages.
use Rattle.std.proofs.Common.{◌≡◌, ℕ, List, [], ◌∷◌, map, append-nil, Option, Some, None, refl, sym, ap, subst}
use Rattle.std.specs.Option.{option_map}
use Rattle.fw_package.specs.Package.{PackageText}
use Rattle.fw_message.specs.Headline.{EntryOf}
use Rattle.fw_message.specs.Pairs.{PairOf, PairRun, StepOf, Stepped, message_along, history_with, pair_after, ran_on}
use Rattle.fw_message.specs.Worlds.{NodeOf, MessageWorldOf, WorldStepOf, after_or, agent_restarted, message_world_after, world_along}
use Rattle.fw_message.specs.declared.side.Side.TheVariants as sides
use Rattle.fw_steps.specs.Opening.{AreDifferent}
use Rattle.fw_steps.specs.LinksAreMessages.{LinksAreMessages}
use Rattle.fw_steps.specs.LinksAreLanes.{LinksAreLanes}
use Rattle.fw_steps.specs.Links.{LinkOf, LinkStep, LinkStepped}
use Rattle.fw_steps.proofs.LinksAreMessages.Each.{AllAfter, AllMay, AllStand, eid_of, link_of}
use Rattle.fw_steps.proofs.LinksAreMessages.Moves.{AllMayHappen, MovesOn, WorldStands, all_after, all_may}
use Rattle.fw_steps.proofs.LinksAreMessages.Stands.{Stands, StandsOn}

-- the step of each link
abbrev anew : LinkStep
anew = LinkStep.Restart sides.Agent

-- ONE PAIR

pair_then : (packages : List PackageText) (m pair : PairOf) (es later : List EntryOf) (o : Option Stepped)
    → message_along packages (option_map (ran_on (record { pair = m; entries = es })) o) [] ≡ Some (record { pair = pair; entries = later }) → after_or m o ≡ pair
pair_then packages m pair es later None e = absurd (cc)
pair_then packages m pair es later (Some t) e =
    let is : ◌≡◌ {A = PairRun} (ran_on (record { pair = m; entries = es }) t) (record { pair = pair; entries = later }) = cc in
    ap (λ r. r.pair) is

restarted_pair : (packages : List PackageText) (now : ℕ) (l : LinkOf) (m : PairOf) → (on : StandsOn packages now l anew m) → after_or m (pair_after packages m (StepOf.Restart sides.Agent)) ≡ on.pair
restarted_pair packages now l m on =
    let along = subst (λ ss. message_along packages (Some (record { pair = m; entries = [] })) ss ≡ Some (record { pair = on.pair; entries = history_with [] on.stepped.noted })) on.named (on.along []) in
    pair_then packages m on.pair [] (history_with [] on.stepped.noted) (pair_after packages m (StepOf.Restart sides.Agent)) along

-- ALL LINKS

record AllRestarted (packages : List PackageText) (now : ℕ) (ls : List LinkOf) (ns : List NodeOf) : Type 0 where
  pub stepped : List LinkStepped
  pub after : AllAfter packages now (λ l. anew) ls stepped
  pub stand : AllStand packages now (map link_of stepped) (map (agent_restarted packages) ns)

all_restart : (packages : List PackageText) (now : ℕ) (ls : List LinkOf) (ns : List NodeOf) → AllStand packages now ls ns → AllMay packages now (λ l. anew) ls → AllRestarted packages now ls ns
all_restart packages now [] [] stand may = record { stepped = []; after = tt; stand = tt }
all_restart packages now (l ∷ ls) (n ∷ ns) stand may =
    let on = may.0 n stand.0 in
    let rest = all_restart packages now ls ns stand.1 may.1 in
    record {
      stepped = on.stepped ∷ rest.stepped;
      after = (on.after, rest.after);
      stand = (subst (Stands packages now on.stepped.after) (sym (restarted_pair packages now l n.pair on)) on.stands, rest.stand);
    }
all_restart packages now [] (n ∷ ns) stand may = absurd stand
all_restart packages now (l ∷ ls) [] stand may = absurd stand

same_eids : (packages : List PackageText) (ns : List NodeOf) → map eid_of (map (agent_restarted packages) ns) ≡ map eid_of ns
same_eids packages [] = refl
same_eids packages (n ∷ ns) = ap (λ es. n.eid ∷ es) (same_eids packages ns)

goes_anew : (v : MessageWorldOf) → world_along (Some v) (WorldStepOf.RestartAgent ∷ []) ≡ Some (record v { nodes = map (agent_restarted v.packages) v.nodes })
unfolding message_world_after
goes_anew v = refl

-- The links restart, and nothing is noted.
pub all_restart_move : LinksAreLanes → LinksAreMessages → (now : ℕ) (v : MessageWorldOf) (ls : List LinkOf) (ts : List LinkStepped) → WorldStands now ls v
    → AllMayHappen now v.packages (λ l. anew) ls → AllAfter v.packages now (λ l. anew) ls ts → MovesOn now (map link_of ts) [] v
all_restart_move lanes messages now v ls ts stands may after =
    let g = all_restart v.packages now ls v.nodes stands.stand (all_may lanes messages now v.packages (λ l. anew) ls may) in
    let stepped : g.stepped ≡ ts = all_after v.packages now (λ l. anew) ls g.stepped ts g.after after in
    let same = same_eids v.packages v.nodes in
    record {
      steps = WorldStepOf.RestartAgent ∷ [];
      named = (tt, tt);
      after = record v { nodes = map (agent_restarted v.packages) v.nodes };
      along = goes_anew v;
      packages = refl;
      agent = refl;
      history = sym (append-nil v.history);
      same = same;
      stands = record {
        stand = subst (λ xs. AllStand v.packages now (map link_of xs) (map (agent_restarted v.packages) v.nodes)) stepped g.stand;
        apart = subst AreDifferent (sym same) stands.apart;
      };
    }
