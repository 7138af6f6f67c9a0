-- The run of one pair, in the world of all.
use Rattle.std.proofs.Common.{◌≡◌, ◌∙◌, ℕ, ◌==◌, Bool, true, false, if◌then◌else◌, List, [], ◌∷◌, ◌++◌, map, append-nil, Option, Some, None, refl, sym, ap}
use Rattle.std.specs.Option.{option_map}
use Rattle.std.proofs.lemmas.Bool.{eq-eqb}
use Rattle.std.proofs.lemmas.List.{map-append, append_assoc}
use Rattle.fw_message.specs.Headline.{EntryOf}
use Rattle.fw_message.specs.Pairs.{PairOf, PairRun, StepOf, Stepped, message_along, history_with, pair_after, ran_on}
use Rattle.fw_message.specs.Worlds.{NodeOf, NotedOf, MessageWorldOf, WorldStepOf, node_at, noted_of, step_at, went_on, with_pair, message_world_after, world_along}

-- a device among others
abbrev pub node_of : ℕ → PairOf → NodeOf
node_of eid m = record { eid = eid; pair = m }

abbrev pub among : MessageWorldOf → (front back : List NodeOf) → ℕ → PairOf → List NotedOf → MessageWorldOf
among w front back eid m history = record w { nodes = front ++ node_of eid m ∷ back; history = history }

-- it is found if no node before it has its identifier
skipped : (here : Bool) (m : NodeOf) (o p : Option NodeOf) (n : NodeOf) → (if here then Some m else o) ≡ None → (o ≡ None → p ≡ Some n) → (if here then Some m else p) ≡ Some n
skipped true m o p n e k = absurd (cc)
skipped false m o p n e k = k e

pub found_behind : (front back : List NodeOf) (eid : ℕ) (m : PairOf) → node_at front eid ≡ None → node_at (front ++ node_of eid m ∷ back) eid ≡ Some (node_of eid m)
found_behind [] back eid m e = rw (eq-eqb eid eid refl) refl
found_behind (n ∷ front) back eid m e =
    skipped (n.eid == eid) n (node_at front eid) (node_at (front ++ node_of eid m ∷ back) eid) (node_of eid m) e (λ none. found_behind front back eid m none)

left_alone : (here : Bool) (n : NodeOf) (o : Option NodeOf) (put : List NodeOf) (rest then_put : List NodeOf) → (if here then Some n else o) ≡ None → (o ≡ None → put ≡ then_put)
    → (if here then rest else n ∷ put) ≡ n ∷ then_put
left_alone true n o put rest then_put e k = absurd (cc)
left_alone false n o put rest then_put e k = ap (λ xs. n ∷ xs) (k e)

pub put_behind : (front back : List NodeOf) (eid : ℕ) (m after : PairOf) → node_at front eid ≡ None
    → with_pair (front ++ node_of eid m ∷ back) eid after ≡ front ++ node_of eid after ∷ back
put_behind [] back eid m after e = rw (eq-eqb eid eid refl) refl
put_behind (n ∷ front) back eid m after e =
    left_alone (n.eid == eid) n (node_at front eid) (with_pair (front ++ node_of eid m ∷ back) eid after) (record n { pair = after } ∷ (front ++ node_of eid m ∷ back)) (front ++ node_of eid after ∷ back) e
    (λ none. put_behind front back eid m after none)

-- the entries are appended
pub noted_behind : (es more : List EntryOf) → history_with es more ≡ es ++ more
noted_behind es [] = sym (append-nil es)
noted_behind es (x ∷ more) = noted_behind (es ++ x ∷ []) more ∙ append_assoc es (x ∷ []) more

-- One step of the pair is one step of the world.
step_among : (w : MessageWorldOf) (front back : List NodeOf) (eid : ℕ) (m : PairOf) (history : List NotedOf) (s : StepOf) (t : Stepped) → node_at front eid ≡ None → pair_after w.packages m s ≡ Some t
    → message_world_after (among w front back eid m history) (WorldStepOf.OfPair eid s) ≡ Some (among w front back eid t.after (history ++ map (noted_of eid) t.noted))
unfolding message_world_after
step_among w front back eid m history s t away e =
    let here = among w front back eid m history in
    let found : node_at here.nodes eid ≡ Some (node_of eid m) = found_behind front back eid m away in
    ap (step_at here eid s) found
    ∙ ap (option_map (went_on here eid)) e
    ∙ ap (λ ns. Some (record here { nodes = ns; history = history ++ map (noted_of eid) t.noted })) (put_behind front back eid m t.after away)

-- the history of the world, for this history of the pair
abbrev pub told : List NotedOf → ℕ → List EntryOf → List NotedOf
told history eid es = history ++ map (noted_of eid) es

told_more : (history : List NotedOf) (eid : ℕ) (es more : List EntryOf) → told history eid es ++ map (noted_of eid) more ≡ told history eid (history_with es more)
told_more history eid es more =
    append_assoc history (map (noted_of eid) es) (map (noted_of eid) more)
    ∙ ap (λ xs. history ++ xs) (sym (map-append (noted_of eid) es more))
    ∙ ap (λ xs. history ++ map (noted_of eid) xs) (sym (noted_behind es more))

-- a run of the pair is a run of the world
abbrev pub Runs : MessageWorldOf → (front back : List NodeOf) → ℕ → List NotedOf → List StepOf → (r last : PairRun) → Type 0
Runs w front back eid history steps r last =
    world_along (Some (among w front back eid r.pair (told history eid r.entries))) (map (WorldStepOf.OfPair eid) steps) ≡ Some (among w front back eid last.pair (told history eid last.entries))

goes_by : (w : MessageWorldOf) (front back : List NodeOf) (eid : ℕ) (history : List NotedOf) (s : StepOf) (steps : List StepOf) (r last : PairRun) (o : Option Stepped) → node_at front eid ≡ None → pair_after w.packages r.pair s ≡ o
    → ((next : PairRun) → message_along w.packages (Some next) steps ≡ Some last → Runs w front back eid history steps next last)
    → message_along w.packages (option_map (ran_on r) o) steps ≡ Some last → Runs w front back eid history (s ∷ steps) r last
goes_by w front back eid history s steps r last None away is rest e = absurd (cc)
goes_by w front back eid history s steps r last (Some t) away is rest e =
    ap (λ o. world_along o (map (WorldStepOf.OfPair eid) steps))
    (step_among w front back eid r.pair (told history eid r.entries) s t away is
    ∙ ap (λ xs. Some (among w front back eid t.after xs)) (told_more history eid r.entries t.noted))
    ∙ rest (record { pair = t.after; entries = history_with r.entries t.noted }) e

pub runs_among : (w : MessageWorldOf) (front back : List NodeOf) (eid : ℕ) (history : List NotedOf) (steps : List StepOf) (r last : PairRun) → node_at front eid ≡ None → message_along w.packages (Some r) steps ≡ Some last
    → Runs w front back eid history steps r last
runs_among w front back eid history [] r last away e =
    let same : r ≡ last = cc in
    rw same refl
runs_among w front back eid history (s ∷ steps) r last away e =
    goes_by w front back eid history s steps r last (pair_after w.packages r.pair s) away refl (λ next k. runs_among w front back eid history steps next last away k) e

-- A device's pair takes its steps in the world, from its own empty history.
pub pair_among : (w : MessageWorldOf) (front back : List NodeOf) (eid : ℕ) (history : List NotedOf) (steps : List StepOf) (m after : PairOf) (more : List EntryOf) → node_at front eid ≡ None
    → message_along w.packages (Some (record { pair = m; entries = [] })) steps ≡ Some (record { pair = after; entries = history_with [] more })
    → world_along (Some (among w front back eid m history)) (map (WorldStepOf.OfPair eid) steps) ≡ Some (among w front back eid after (history ++ map (noted_of eid) more))
pair_among w front back eid history steps m after more away e =
    ap (λ xs. world_along (Some (among w front back eid m xs)) (map (WorldStepOf.OfPair eid) steps)) (sym (append-nil history))
    ∙ runs_among w front back eid history steps (record { pair = m; entries = [] }) (record { pair = after; entries = history_with [] more }) away e
    ∙ ap (λ xs. Some (among w front back eid after (history ++ map (noted_of eid) xs))) (noted_behind [] more)
