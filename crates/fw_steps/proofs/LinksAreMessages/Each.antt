-- Each link of a world with its pair in the world of messages: one of them takes a step, or all do.
use Rattle.std.proofs.Common.{◌≡◌, ◌≢◌, ◌∙◌, ℕ, zero, suc, List, [], ◌∷◌, ◌++◌, map, append-nil, slice_get, slice_set, Some, None, refl, sym, ap, subst}
use Rattle.std.specs.List.{All, AllByRecursion}
use Rattle.std.proofs.lemmas.List.{append_assoc}
use Rattle.std.proofs.lemmas.List.Elements.{All-head, All-tail}
use Rattle.fw_package.specs.Package.{PackageText}
use Rattle.fw_message.specs.Names.{HasName, IsNamedStep}
use Rattle.fw_message.specs.Pairs.{StepOf}
use Rattle.fw_message.specs.Worlds.{NodeOf, NotedOf, MessageWorldOf, WorldStepOf, node_at, noted_of, world_along}
use Rattle.fw_message.specs.declared.side.Side.TheVariants as sides
use Rattle.fw_message.proofs.Apart.{absent_more}
use Rattle.fw_message.proofs.Safety.Worlds.{along_append}
use Rattle.fw_steps.specs.Opening.{AreDifferent}
use Rattle.fw_steps.specs.LinksAreMessages.{AreStepsOf}
use Rattle.fw_steps.specs.Links.{LinkOf, LinkStep, LinkStepped, link_after, time_after}
use Rattle.fw_steps.proofs.LinksAreMessages.Pairs.{among, node_of, pair_among}
use Rattle.fw_steps.proofs.LinksAreMessages.Sides.{all_along}
use Rattle.fw_steps.proofs.LinksAreMessages.Stands.{Stands, StandsOn}

-- each link matches the pair at its place
abbrev pub AllStand : List PackageText → (now : ℕ) → List LinkOf → List NodeOf → Type 0
AllStand packages now [] [] = Unit {0}
AllStand packages now (l ∷ ls) (n ∷ ns) = Stands packages now l n.pair × AllStand packages now ls ns
AllStand packages now ls ns = ⊥

-- none of these identifiers is among the first nodes
abbrev pub AreAway : List NodeOf → List ℕ → Type 0
AreAway front [] = Unit {0}
AreAway front (eid ∷ eids) = (node_at front eid ≡ None) × AreAway front eids

abbrev pub eid_of : NodeOf → ℕ
eid_of n = n.eid

away_more : (front : List NodeOf) (n : NodeOf) (eids : List ℕ) → AreAway front eids → All (λ y. n.eid ≢ y) eids → AreAway (front ++ n ∷ []) eids
away_more front n [] away differ = tt
away_more front n (eid ∷ eids) away differ = (
  absent_more front n eid away.0 (All-head (λ y. n.eid ≢ y) eid eids differ),
  away_more front n eids away.1 (All-tail (λ y. n.eid ≢ y) eid eids differ),
)

pub away_all : (eids : List ℕ) → AreAway [] eids
away_all [] = tt
away_all (eid ∷ eids) = (refl, away_all eids)

-- the world of messages with these nodes and this history
abbrev pub nodes_in : MessageWorldOf → List NodeOf → List NotedOf → MessageWorldOf
nodes_in w ns history = record w { nodes = ns; history = history }

-- the first nodes are one more
moved_on : (w : MessageWorldOf) (front : List NodeOf) (n : NodeOf) (ns : List NodeOf) (history : List NotedOf) → nodes_in w ((front ++ n ∷ []) ++ ns) history ≡ nodes_in w (front ++ n ∷ ns) history
moved_on w front n ns history = ap (λ xs. nodes_in w xs history) (append_assoc front (n ∷ []) ns)

-- a step of a link that isn't a restart of the agent, which restarts all links
abbrev pub IsAlone : LinkStep → Type 0
IsAlone (LinkStep.Restart sides.Agent) = ⊥
IsAlone s = Unit {0}

-- its steps over whole messages have names
named_alone : (s : LinkStep) (steps : List StepOf) → IsAlone s → AreStepsOf s steps → AllByRecursion HasName steps
named_alone (LinkStep.Restart sides.Agent) steps alone k = absurd alone
named_alone s steps alone k = k

named_among : (eid : ℕ) (steps : List StepOf) → AllByRecursion HasName steps → AllByRecursion IsNamedStep (map (WorldStepOf.OfPair eid) steps)
named_among eid [] k = tt
named_among eid (s ∷ steps) k = (k.0, named_among eid steps k.1)

-- ONE LINK

-- one link took a step, and its pair with it; all others stay
pub record OneGone (packages : List PackageText) (now : ℕ) (s : LinkStep) (w : MessageWorldOf) (front ns : List NodeOf) (ls : List LinkOf) (place : ℕ) (l : LinkOf) (history : List NotedOf) : Type 0 where
  pub stepped : LinkStepped
  pub after : link_after now packages l s ≡ Some stepped
  pub eid : ℕ
  pub is_eid : slice_get (map eid_of ns) place ≡ Some eid
  pub steps : List WorldStepOf
  pub named : AllByRecursion IsNamedStep steps
  pub nodes : List NodeOf
  pub along : world_along (Some (nodes_in w (front ++ ns) history)) steps ≡ Some (nodes_in w (front ++ nodes) (history ++ map (noted_of eid) stepped.noted))
  pub stand : AllStand packages now (slice_set ls place stepped.after) nodes
  pub same : map eid_of nodes ≡ map eid_of ns

-- the first
one_here : (now : ℕ) (s : LinkStep) (w : MessageWorldOf) (front : List NodeOf) (n : NodeOf) (ns : List NodeOf) (l : LinkOf) (ls : List LinkOf) (history : List NotedOf) → IsAlone s → time_after now s ≡ now → node_at front n.eid ≡ None
    → AllStand w.packages now ls ns → StandsOn w.packages now l s n.pair → OneGone w.packages now s w front (n ∷ ns) (l ∷ ls) zero l history
one_here now s w front n ns l ls history alone is away stand on = record {
  stepped = on.stepped;
  after = on.after;
  eid = n.eid;
  is_eid = refl;
  steps = map (WorldStepOf.OfPair n.eid) on.steps;
  named = named_among n.eid on.steps (named_alone s on.steps alone on.named);
  nodes = node_of n.eid on.pair ∷ ns;
  along = pair_among w front ns n.eid history on.steps n.pair on.pair on.stepped.noted away (on.along []);
  stand = (subst (λ t. Stands w.packages t on.stepped.after on.pair) is on.stands, stand);
  same = refl;
}

-- one of the others
one_there : (now : ℕ) (s : LinkStep) (w : MessageWorldOf) (front : List NodeOf) (n : NodeOf) (ns : List NodeOf) (x : LinkOf) (ls : List LinkOf) (place : ℕ) (l : LinkOf) (history : List NotedOf)
    → Stands w.packages now x n.pair → OneGone w.packages now s w (front ++ n ∷ []) ns ls place l history → OneGone w.packages now s w front (n ∷ ns) (x ∷ ls) (suc place) l history
one_there now s w front n ns x ls place l history here g = record {
  stepped = g.stepped;
  after = g.after;
  eid = g.eid;
  is_eid = g.is_eid;
  steps = g.steps;
  named = g.named;
  nodes = n ∷ g.nodes;
  along = ap (λ v. world_along (Some v) g.steps) (sym (moved_on w front n ns history)) ∙ g.along ∙ ap Some (moved_on w front n g.nodes (history ++ map (noted_of g.eid) g.stepped.noted));
  stand = (here, g.stand);
  same = ap (λ es. n.eid ∷ es) g.same;
}

one_from : (now : ℕ) (s : LinkStep) (w : MessageWorldOf) (front ns : List NodeOf) (ls : List LinkOf) (place : ℕ) (l : LinkOf) (history : List NotedOf) → IsAlone s → time_after now s ≡ now
    → AreAway front (map eid_of ns) → AreDifferent (map eid_of ns) → AllStand w.packages now ls ns → slice_get ls place ≡ Some l → ((n : NodeOf) → Stands w.packages now l n.pair → StandsOn w.packages now l s n.pair)
    → OneGone w.packages now s w front ns ls place l history
one_from now s w front [] [] place l history alone is away apart stand e go = absurd (cc)
one_from now s w front (n ∷ ns) (x ∷ ls) zero l history alone is away apart stand e go =
    let same : x ≡ l = cc in
    subst (λ y. OneGone w.packages now s w front (n ∷ ns) (y ∷ ls) zero l history) (sym same)
    (one_here now s w front n ns l ls history alone is away.0 stand.1 (go n (subst (λ y. Stands w.packages now y n.pair) same stand.0)))
one_from now s w front (n ∷ ns) (x ∷ ls) (suc place) l history alone is away apart stand e go =
    one_there now s w front n ns x ls place l history stand.0
    (one_from now s w (front ++ n ∷ []) ns ls place l history alone is (away_more front n (map eid_of ns) away.1 apart.0) apart.1 stand.1 e go)
one_from now s w front [] (x ∷ ls) place l history alone is away apart stand e go = absurd stand
one_from now s w front (n ∷ ns) [] place l history alone is away apart stand e go = absurd stand

-- One link of many takes a step, and the time stays.
pub one_goes : (now : ℕ) (s : LinkStep) (w : MessageWorldOf) (ls : List LinkOf) (place : ℕ) (l : LinkOf) → IsAlone s → time_after now s ≡ now
    → AreDifferent (map eid_of w.nodes) → AllStand w.packages now ls w.nodes → slice_get ls place ≡ Some l → ((n : NodeOf) → Stands w.packages now l n.pair → StandsOn w.packages now l s n.pair)
    → OneGone w.packages now s w [] w.nodes ls place l w.history
one_goes now s w ls place l alone is apart stand e go = one_from now s w [] w.nodes ls place l w.history alone is (away_all (map eid_of w.nodes)) apart stand e go

-- ALL LINKS

-- all links after a step of each
abbrev pub AllAfter : List PackageText → (now : ℕ) → (LinkOf → LinkStep) → List LinkOf → List LinkStepped → Type 0
AllAfter packages now s [] [] = Unit {0}
AllAfter packages now s (l ∷ ls) (t ∷ ts) = (link_after now packages l (s l) ≡ Some t) × AllAfter packages now s ls ts
AllAfter packages now s ls ts = ⊥

abbrev pub link_of : LinkStepped → LinkOf
link_of t = t.after

-- the entries of their devices
abbrev pub notes_of : List ℕ → List LinkStepped → List NotedOf
notes_of (eid ∷ eids) (t ∷ ts) = map (noted_of eid) t.noted ++ notes_of eids ts
notes_of eids ts = []

pub record AllGone (packages : List PackageText) (now then : ℕ) (s : LinkOf → LinkStep) (w : MessageWorldOf) (front ns : List NodeOf) (ls : List LinkOf) (history : List NotedOf) : Type 0 where
  pub stepped : List LinkStepped
  pub after : AllAfter packages now s ls stepped
  pub steps : List WorldStepOf
  pub named : AllByRecursion IsNamedStep steps
  pub nodes : List NodeOf
  pub along : world_along (Some (nodes_in w (front ++ ns) history)) steps ≡ Some (nodes_in w (front ++ nodes) (history ++ notes_of (map eid_of ns) stepped))
  pub stand : AllStand packages then (map link_of stepped) nodes
  pub same : map eid_of nodes ≡ map eid_of ns

-- each of them can take the step
abbrev pub AllMay : List PackageText → (now : ℕ) → (LinkOf → LinkStep) → List LinkOf → Type 0
AllMay packages now s [] = Unit {0}
AllMay packages now s (l ∷ ls) = ((n : NodeOf) → Stands packages now l n.pair → StandsOn packages now l (s l) n.pair) × AllMay packages now s ls

all_more : (now then : ℕ) (s : LinkOf → LinkStep) (w : MessageWorldOf) (front : List NodeOf) (n : NodeOf) (ns : List NodeOf) (l : LinkOf) (ls : List LinkOf) (history : List NotedOf) → IsAlone (s l) → time_after now (s l) ≡ then → node_at front n.eid ≡ None
    → (on : StandsOn w.packages now l (s l) n.pair) → AllGone w.packages now then s w (front ++ node_of n.eid on.pair ∷ []) ns ls (history ++ map (noted_of n.eid) on.stepped.noted)
    → AllGone w.packages now then s w front (n ∷ ns) (l ∷ ls) history
all_more now then s w front n ns l ls history alone time away on g = record {
  stepped = on.stepped ∷ g.stepped;
  after = (on.after, g.after);
  steps = map (WorldStepOf.OfPair n.eid) on.steps ++ g.steps;
  named = all_along IsNamedStep (map (WorldStepOf.OfPair n.eid) on.steps) g.steps (named_among n.eid on.steps (named_alone (s l) on.steps alone on.named)) g.named;
  nodes = node_of n.eid on.pair ∷ g.nodes;
  along =
      let noted = history ++ map (noted_of n.eid) on.stepped.noted in
      let first : world_along (Some (among w front ns n.eid n.pair history)) (map (WorldStepOf.OfPair n.eid) on.steps) ≡ Some (among w front ns n.eid on.pair noted) =
      pair_among w front ns n.eid history on.steps n.pair on.pair on.stepped.noted away (on.along []) in
      along_append (map (WorldStepOf.OfPair n.eid) on.steps) g.steps (Some (nodes_in w (front ++ n ∷ ns) history))
      ∙ ap (λ o. world_along o g.steps) first
      ∙ ap (λ v. world_along (Some v) g.steps) (sym (moved_on w front (node_of n.eid on.pair) ns noted))
      ∙ g.along
      ∙ ap Some (moved_on w front (node_of n.eid on.pair) g.nodes (noted ++ notes_of (map eid_of ns) g.stepped))
      ∙ ap (λ xs. Some (nodes_in w (front ++ node_of n.eid on.pair ∷ g.nodes) xs)) (append_assoc history (map (noted_of n.eid) on.stepped.noted) (notes_of (map eid_of ns) g.stepped));
  stand = (subst (λ m. Stands w.packages m on.stepped.after on.pair) time on.stands, g.stand);
  same = ap (λ es. n.eid ∷ es) g.same;
}

all_from : (now then : ℕ) (s : LinkOf → LinkStep) (w : MessageWorldOf) (front ns : List NodeOf) (ls : List LinkOf) (history : List NotedOf) → ((l : LinkOf) → IsAlone (s l)) → ((l : LinkOf) → time_after now (s l) ≡ then)
    → AreAway front (map eid_of ns) → AreDifferent (map eid_of ns) → AllStand w.packages now ls ns → AllMay w.packages now s ls
    → AllGone w.packages now then s w front ns ls history
all_from now then s w front [] [] history alone time away apart stand may = record {
  stepped = [];
  after = tt;
  steps = [];
  named = tt;
  nodes = [];
  along = ap (λ xs. Some (nodes_in w (front ++ []) xs)) (sym (append-nil history));
  stand = tt;
  same = refl;
}
all_from now then s w front (n ∷ ns) (l ∷ ls) history alone time away apart stand may =
    let on = may.0 n stand.0 in
    all_more now then s w front n ns l ls history (alone l) (time l) away.0 on
    (all_from now then s w (front ++ node_of n.eid on.pair ∷ []) ns ls (history ++ map (noted_of n.eid) on.stepped.noted) alone time
    (away_more front (node_of n.eid on.pair) (map eid_of ns) away.1 apart.0) apart.1 stand.1 may.1)
all_from now then s w front [] (l ∷ ls) history alone time away apart stand may = absurd stand
all_from now then s w front (n ∷ ns) [] history alone time away apart stand may = absurd stand

-- Each link takes its own step, all at the same time.
pub all_go : (now then : ℕ) (s : LinkOf → LinkStep) (w : MessageWorldOf) (ls : List LinkOf) → ((l : LinkOf) → IsAlone (s l)) → ((l : LinkOf) → time_after now (s l) ≡ then) → AreDifferent (map eid_of w.nodes) → AllStand w.packages now ls w.nodes → AllMay w.packages now s ls
    → AllGone w.packages now then s w [] w.nodes ls w.history
all_go now then s w ls alone time apart stand may = all_from now then s w [] w.nodes ls w.history alone time (away_all (map eid_of w.nodes)) apart stand may
