-- The links of a world and the world of messages that they match: it takes a step with each of
-- theirs.
use Rattle.std.proofs.Common.{◌≡◌, ◌∙◌, ℕ, List, [], ◌∷◌, ◌++◌, map, slice_get, slice_set, Option, Some, refl, sym, ap, subst}
use Rattle.std.specs.List.{AllByRecursion}
use Rattle.fw_package.specs.Package.{PackageText}
use Rattle.fw_message.specs.Names.{IsNamedStep}
use Rattle.fw_message.specs.Worlds.{NotedOf, MessageWorldOf, WorldStepOf, noted_of, world_along}
use Rattle.fw_steps.specs.Opening.{AreDifferent}
use Rattle.fw_steps.specs.LinksAreMessages.{LinksAreMessages}
use Rattle.fw_steps.specs.LinksAreLanes.{LinkStepRoundTrips, LinksAreLanes, MayHappen}
use Rattle.fw_steps.specs.Links.{LinkOf, LinkStep, LinkStepped, link_after, time_after}
use Rattle.fw_steps.proofs.LinksAreMessages.Each.{AllAfter, AllMay, AllStand, IsAlone, all_go, eid_of, link_of, nodes_in, notes_of, one_goes}
use Rattle.fw_steps.proofs.LinksAreMessages.Stands.{stands_on}

-- Each link matches the pair at its place, and no identifier is there twice.
pub record WorldStands (now : ℕ) (ls : List LinkOf) (v : MessageWorldOf) : Type 0 where
  pub stand : AllStand v.packages now ls v.nodes
  pub apart : AreDifferent (map eid_of v.nodes)

-- The world of messages takes its steps: it matches these links afterwards, and these entries are
-- added to its history.
pub record MovesOn (now : ℕ) (ls : List LinkOf) (notes : List NotedOf) (v : MessageWorldOf) : Type 0 where
  pub steps : List WorldStepOf
  pub named : AllByRecursion IsNamedStep steps
  pub after : MessageWorldOf
  pub along : world_along (Some v) steps ≡ Some after
  pub packages : after.packages ≡ v.packages
  pub agent : after.agent ≡ v.agent
  pub history : after.history ≡ v.history ++ notes
  pub same : map eid_of after.nodes ≡ map eid_of v.nodes
  pub stands : WorldStands now ls after

-- a link has one state after a step
one_after : (o : Option LinkStepped) (t u : LinkStepped) → o ≡ Some t → o ≡ Some u → t ≡ u
one_after o t u e f = cc

pub all_after : (packages : List PackageText) (now : ℕ) (s : LinkOf → LinkStep) (ls : List LinkOf) (ts us : List LinkStepped) → AllAfter packages now s ls ts → AllAfter packages now s ls us → ts ≡ us
all_after packages now s [] [] [] e f = refl
all_after packages now s (l ∷ ls) (t ∷ ts) (u ∷ us) e f = rw (one_after (link_after now packages l (s l)) t u e.0 f.0, all_after packages now s ls ts us e.1 f.1) refl
all_after packages now s [] (t ∷ ts) us e f = absurd e
all_after packages now s (l ∷ ls) [] us e f = absurd e
all_after packages now s [] [] (u ∷ us) e f = absurd f
all_after packages now s (l ∷ ls) (t ∷ ts) [] e f = absurd f

one_eid : (o : Option ℕ) (x y : ℕ) → o ≡ Some x → o ≡ Some y → x ≡ y
one_eid o x y e f = cc

-- One link takes a step, and the time stays.
pub one_moves : LinksAreLanes → LinksAreMessages → (now : ℕ) (v : MessageWorldOf) (ls : List LinkOf) (place : ℕ) (l : LinkOf) (s : LinkStep) (t : LinkStepped) (eid : ℕ)
    → WorldStands now ls v → slice_get ls place ≡ Some l → slice_get (map eid_of v.nodes) place ≡ Some eid → time_after now s ≡ now → IsAlone s
    → MayHappen now v.packages l s → LinkStepRoundTrips v.packages l s → link_after now v.packages l s ≡ Some t
    → MovesOn now (slice_set ls place t.after) (map (noted_of eid) t.noted) v
one_moves lanes messages now v ls place l s t eid stands is at time alone may said after =
    let g = one_goes now s v ls place l alone time stands.apart stands.stand is (λ n here. stands_on lanes messages now v.packages l s n.pair here may said) in
    let stepped : g.stepped ≡ t = one_after (link_after now v.packages l s) g.stepped t g.after after in
    let eids : g.eid ≡ eid = one_eid (slice_get (map eid_of v.nodes) place) g.eid eid g.is_eid at in
    record {
      steps = g.steps;
      named = g.named;
      after = nodes_in v g.nodes (v.history ++ map (noted_of g.eid) g.stepped.noted);
      along = g.along;
      packages = refl;
      agent = refl;
      history = ap (λ x. v.history ++ map (noted_of g.eid) x.noted) stepped ∙ ap (λ e. v.history ++ map (noted_of e) t.noted) eids;
      same = g.same;
      stands = record {
        stand = subst (λ x. AllStand v.packages now (slice_set ls place x.after) g.nodes) stepped g.stand;
        apart = subst AreDifferent (sym g.same) stands.apart;
      };
    }

-- each link can take the step
abbrev pub AllMayHappen : (now : ℕ) → List PackageText → (LinkOf → LinkStep) → List LinkOf → Type 0
AllMayHappen now packages s [] = Unit {0}
AllMayHappen now packages s (l ∷ ls) = MayHappen now packages l (s l) × LinkStepRoundTrips packages l (s l) × AllMayHappen now packages s ls

pub all_may : LinksAreLanes → LinksAreMessages → (now : ℕ) (packages : List PackageText) (s : LinkOf → LinkStep) (ls : List LinkOf) → AllMayHappen now packages s ls → AllMay packages now s ls
all_may lanes messages now packages s [] may = tt
all_may lanes messages now packages s (l ∷ ls) may = (
  λ n here. stands_on lanes messages now packages l (s l) n.pair here may.0 may.1,
  all_may lanes messages now packages s ls may.2,
)

-- All links take a step.
pub all_move : LinksAreLanes → LinksAreMessages → (now then : ℕ) (v : MessageWorldOf) (ls : List LinkOf) (s : LinkOf → LinkStep) (ts : List LinkStepped) → ((l : LinkOf) → IsAlone (s l)) → ((l : LinkOf) → time_after now (s l) ≡ then) → WorldStands now ls v
    → AllMayHappen now v.packages s ls → AllAfter v.packages now s ls ts
    → MovesOn then (map link_of ts) (notes_of (map eid_of v.nodes) ts) v
all_move lanes messages now then v ls s ts alone time stands may after =
    let g = all_go now then s v ls alone time stands.apart stands.stand (all_may lanes messages now v.packages s ls may) in
    let stepped : g.stepped ≡ ts = all_after v.packages now s ls g.stepped ts g.after after in
    record {
      steps = g.steps;
      named = g.named;
      after = nodes_in v g.nodes (v.history ++ notes_of (map eid_of v.nodes) g.stepped);
      along = g.along;
      packages = refl;
      agent = refl;
      history = ap (λ xs. v.history ++ notes_of (map eid_of v.nodes) xs) stepped;
      same = g.same;
      stands = record {
        stand = subst (λ xs. AllStand v.packages then (map link_of xs) g.nodes) stepped g.stand;
        apart = subst AreDifferent (sym g.same) stands.apart;
      };
    }
