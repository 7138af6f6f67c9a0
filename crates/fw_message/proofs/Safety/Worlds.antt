-- The invariant of a pair is kept for each device of a world.
use Rattle.std.specs.Prelude.{ℕ, ◌≡◌, ◌==◌, ◌++◌, Bool, true, false, if◌then◌else◌, List, [], ◌∷◌, map, All, Option, Some, None, IfSome, IsSomeAnd}
use Rattle.std.specs.Option.{option_map}
use Rattle.std.proofs.Common.{refl, sym, ap, subst, ◌∙◌, append_assoc, append-nil}
use Rattle.std.proofs.lemmas.Bool.{eqb-true, eq-eqb}
use Rattle.std.proofs.lemmas.List.Elements.{All-head, All-tail}
use Rattle.fw_package.specs.Package.{DescriptorOf, PackageText}
use Rattle.fd_core.specs.Images.{RowOf}
use Rattle.ua_core.specs.Lent.{package_descriptor}
use Rattle.fw_message.specs.Headline.{EntryOf, IsSafeAndTied}
use Rattle.fw_message.specs.Pairs.{PairOf, StepOf, Stepped, history_with, pair_after}
use Rattle.fw_message.specs.Laws.{shown_pair}
use Rattle.fw_message.specs.WorldLaws.{IsOpeningNode, IsOpeningMessageWorld, IsSafeMessageWorld, WorldsAreSafe, WorldsStaySafe, history_of, run_of}
use Rattle.fw_message.specs.Worlds.{NodeOf, NotedOf, MessageWorldOf, WorldStepOf, after_or, agent_restarted, node_at, noted_of, step_at, went_on, with_pair, message_world_after, world_along}
use Rattle.fw_message.specs.declared.side.Side.TheVariants as sides
use Rattle.fw_message.proofs.Safety.Agreement.{IsStanding}
use Rattle.fw_message.proofs.Safety.Runs.{Laws, Stands, opening_stands, pair_stands}
use Rattle.fw_message.proofs.Showing.{IsSafeNode, pairs_show}

-- the nodes after a step of one device
other_node : (ns : List NodeOf) (device eid : ℕ) (m : PairOf) → (device == eid) ≡ false
    → node_at (with_pair ns device m) eid ≡ node_at ns eid
other_node [] device eid m e = refl
other_node (n ∷ ns) device eid m e = at_test (n.eid == device) refl (other_node ns device eid m e)
  where
    at_test : (t : Bool) → (n.eid == device) ≡ t → node_at (with_pair ns device m) eid ≡ node_at ns eid
        → node_at (if t then record n { pair = m } ∷ ns else n ∷ with_pair ns device m) eid ≡ node_at (n ∷ ns) eid
    at_test true is rest =
        let same : n.eid ≡ device = eqb-true n.eid device is in
        let other : (n.eid == eid) ≡ false = subst (λ (k : ℕ). (k == eid) ≡ false) (sym same) e in
        rw other refl
    at_test false is rest = ap (λ o. if n.eid == eid then Some n else o) rest

own_node : (ns : List NodeOf) (eid : ℕ) (m : PairOf) (k : NodeOf) → node_at ns eid ≡ Some k
    → node_at (with_pair ns eid m) eid ≡ Some (record k { pair = m })
own_node [] eid m k e = absurd (cc)
own_node (n ∷ ns) eid m k e = at_test (n.eid == eid) refl (own_node ns eid m k) e
  where
    at_test : (t : Bool) → (n.eid == eid) ≡ t → (node_at ns eid ≡ Some k → node_at (with_pair ns eid m) eid ≡ Some (record k { pair = m }))
        → (if t then Some n else node_at ns eid) ≡ Some k
        → node_at (if t then record n { pair = m } ∷ ns else n ∷ with_pair ns eid m) eid ≡ Some (record k { pair = m })
    at_test true is rest e = let same : n ≡ k = cc in rw is (ap (λ (x : NodeOf). Some (record x { pair = m })) same)
    at_test false is rest e = rw is (rest e)

pub restarted_node : (ps : List PackageText) (ns : List NodeOf) (eid : ℕ)
    → node_at (map (agent_restarted ps) ns) eid ≡ option_map (agent_restarted ps) (node_at ns eid)
restarted_node ps [] eid = refl
restarted_node ps (n ∷ ns) eid = at_test (n.eid == eid) (restarted_node ps ns eid)
  where
    at_test : (t : Bool) → node_at (map (agent_restarted ps) ns) eid ≡ option_map (agent_restarted ps) (node_at ns eid)
        → (if t then Some (agent_restarted ps n) else node_at (map (agent_restarted ps) ns) eid) ≡ option_map (agent_restarted ps) (if t then Some n else node_at ns eid)
    at_test true rest = refl
    at_test false rest = rest

-- the history of one device
pub history_more : (eid : ℕ) (xs ys : List NotedOf) → history_of eid (xs ++ ys) ≡ history_of eid xs ++ history_of eid ys
history_more eid [] ys = refl
history_more eid (x ∷ xs) ys = at_test (x.device == eid) (history_more eid xs ys)
  where
    at_test : (t : Bool) → history_of eid (xs ++ ys) ≡ history_of eid xs ++ history_of eid ys
        → (if t then x.entry ∷ history_of eid (xs ++ ys) else history_of eid (xs ++ ys)) ≡ (if t then x.entry ∷ history_of eid xs else history_of eid xs) ++ history_of eid ys
    at_test true rest = ap (λ zs. x.entry ∷ zs) rest
    at_test false rest = rest

history_own : (eid : ℕ) (es : List EntryOf) → history_of eid (map (noted_of eid) es) ≡ es
history_own eid [] = refl
history_own eid (e ∷ es) = rw (eq-eqb eid eid refl) (ap (λ xs. e ∷ xs) (history_own eid es))

history_other : (device eid : ℕ) (es : List EntryOf) → (device == eid) ≡ false → history_of eid (map (noted_of device) es) ≡ []
history_other device eid [] e = refl
history_other device eid (x ∷ es) e = rw e (history_other device eid es e)

noted_is : (es xs : List EntryOf) → history_with es xs ≡ es ++ xs
noted_is es [] = sym (append-nil es)
noted_is es (x ∷ xs) = noted_is (es ++ x ∷ []) xs ∙ append_assoc es (x ∷ []) xs

history_same : (eid : ℕ) (history : List NotedOf) (es : List EntryOf)
    → history_of eid (history ++ map (noted_of eid) es) ≡ history_with (history_of eid history) es
history_same eid history es =
    history_more eid history (map (noted_of eid) es) ∙ ap (λ xs. history_of eid history ++ xs) (history_own eid es) ∙ sym (noted_is (history_of eid history) es)

history_apart : (device eid : ℕ) (history : List NotedOf) (es : List EntryOf) → (device == eid) ≡ false
    → history_of eid (history ++ map (noted_of device) es) ≡ history_of eid history
history_apart device eid history es e =
    history_more eid history (map (noted_of device) es) ∙ ap (λ xs. history_of eid history ++ xs) (history_other device eid es e) ∙ append-nil (history_of eid history)

-- the invariant of a device that began as this one
abbrev At : List PackageText → NodeOf → Option NodeOf → List EntryOf → Type 0
At ps n o es = IsSomeAnd o (λ m. Stands ps (map package_descriptor n.pair.device.descriptors) n.pair.device.rows (run_of m es))

own_step : (laws : Laws) (ps : List PackageText) (n k : NodeOf) (nodes : List NodeOf) (history : List NotedOf) (eid : ℕ) (s : StepOf) (t : Stepped)
    → node_at nodes eid ≡ Some k → pair_after ps k.pair s ≡ Some t → At ps n (node_at nodes eid) (history_of eid history)
    → At ps n (node_at (with_pair nodes eid t.after) eid) (history_of eid (history ++ map (noted_of eid) t.noted))
own_step laws ps n k nodes history eid s t found taken h =
    let es = history_of eid history in
    let ds = map package_descriptor n.pair.device.descriptors in
    let first = n.pair.device.rows in
    let now : IsStanding ps ds first es k.pair = subst (λ (o : Option NodeOf). At ps n o es) found h in
    let left : IsStanding ps ds first (history_with es t.noted) t.after =
    subst (λ (o : Option Stepped). IfSome o (λ x. IsStanding ps ds first (history_with es x.noted) x.after)) taken (pair_stands ps ds first laws es k.pair s now) in
    let put : At ps n (Some (record k { pair = t.after })) (history_with es t.noted) = left in
    let there : At ps n (node_at (with_pair nodes eid t.after) eid) (history_with es t.noted) =
    subst (λ (o : Option NodeOf). At ps n o (history_with es t.noted)) (sym (own_node nodes eid t.after k found)) put in
    subst (λ (xs : List EntryOf). At ps n (node_at (with_pair nodes eid t.after) eid) xs) (sym (history_same eid history t.noted)) there

other_step : (ps : List PackageText) (n : NodeOf) (nodes : List NodeOf) (history : List NotedOf) (device eid : ℕ) (t : Stepped)
    → (device == eid) ≡ false
    → At ps n (node_at nodes eid) (history_of eid history)
    → At ps n (node_at (with_pair nodes device t.after) eid) (history_of eid (history ++ map (noted_of device) t.noted))
other_step ps n nodes history device eid t e h =
    let there : At ps n (node_at (with_pair nodes device t.after) eid) (history_of eid history) =
    subst (λ (o : Option NodeOf). At ps n o (history_of eid history)) (sym (other_node nodes device eid t.after e)) h in
    subst (λ (xs : List EntryOf). At ps n (node_at (with_pair nodes device t.after) eid) xs) (sym (history_apart device eid history t.noted e)) there

each_step : (laws : Laws) (ps : List PackageText) (n k : NodeOf) (nodes : List NodeOf) (history : List NotedOf) (device eid : ℕ) (s : StepOf) (t : Stepped)
    → node_at nodes device ≡ Some k → pair_after ps k.pair s ≡ Some t → At ps n (node_at nodes eid) (history_of eid history)
    → At ps n (node_at (with_pair nodes device t.after) eid) (history_of eid (history ++ map (noted_of device) t.noted))
each_step laws ps n k nodes history device eid s t found taken h = at_test (device == eid) refl
  where
    at_test : (b : Bool) → (device == eid) ≡ b
        → At ps n (node_at (with_pair nodes device t.after) eid) (history_of eid (history ++ map (noted_of device) t.noted))
    at_test true e =
        let same : device ≡ eid = eqb-true device eid e in
        let P : ℕ → Type 0 = λ d. At ps n (node_at (with_pair nodes d t.after) eid) (history_of eid (history ++ map (noted_of d) t.noted)) in
        let here : node_at nodes eid ≡ Some k = subst (λ (d : ℕ). node_at nodes d ≡ Some k) same found in
        subst P (sym same) (own_step laws ps n k nodes history eid s t here taken h)
    at_test false e = other_step ps n nodes history device eid t e h

-- a restart of the agent
restart_pair : (laws : Laws) (ps : List PackageText) (ds : List DescriptorOf) (first : List RowOf) (es : List EntryOf) (m : PairOf)
    → IsStanding ps ds first es m
    → IsStanding ps ds first es (after_or m (pair_after ps m (StepOf.Restart sides.Agent)))
unfolding pair_after
restart_pair laws ps ds first es m h = pair_stands ps ds first laws es m (StepOf.Restart sides.Agent) h

restart_node : (laws : Laws) (ps : List PackageText) (n : NodeOf) (o : Option NodeOf) (es : List EntryOf) → At ps n o es
    → At ps n (option_map (agent_restarted ps) o) es
restart_node laws ps n None es h = h
restart_node laws ps n (Some m) es h = restart_pair laws ps (map package_descriptor n.pair.device.descriptors) n.pair.device.rows es m.pair h

-- the invariant of all devices
abbrev Nodes : MessageWorldOf → List NodeOf → List NotedOf → Type 0
Nodes opening nodes history =
    (eid : ℕ) → IfSome (node_at opening.nodes eid) (λ n. At opening.packages n (node_at nodes eid) (history_of eid history))

pub record IsKept (opening w : MessageWorldOf) : Type 0 where
  pub packages : w.packages ≡ opening.packages
  pub nodes : Nodes opening w.nodes w.history

step_nodes : (laws : Laws) (opening w : MessageWorldOf) (device : ℕ) (s : StepOf) (k : NodeOf) (t : Stepped) → node_at w.nodes device ≡ Some k
    → pair_after opening.packages k.pair s ≡ Some t → Nodes opening w.nodes w.history
    → Nodes opening (went_on w device t).nodes (went_on w device t).history
step_nodes laws opening w device s k t found taken h eid = at_node (node_at opening.nodes eid) (h eid)
  where
    at_node : (o : Option NodeOf) → IfSome o (λ n. At opening.packages n (node_at w.nodes eid) (history_of eid w.history))
        → IfSome o (λ n. At opening.packages n (node_at (went_on w device t).nodes eid) (history_of eid (went_on w device t).history))
    at_node None h = tt
    at_node (Some n) h = each_step laws opening.packages n k w.nodes w.history device eid s t found taken h

restart_nodes : (laws : Laws) (opening w : MessageWorldOf) → Nodes opening w.nodes w.history
    → Nodes opening (map (agent_restarted opening.packages) w.nodes) w.history
restart_nodes laws opening w h eid = at_node (node_at opening.nodes eid) (h eid)
  where
    at_node : (o : Option NodeOf) → IfSome o (λ n. At opening.packages n (node_at w.nodes eid) (history_of eid w.history))
        → IfSome o (λ n. At opening.packages n (node_at (map (agent_restarted opening.packages) w.nodes) eid) (history_of eid w.history))
    at_node None h = tt
    at_node (Some n) h =
        rw (restarted_node opening.packages w.nodes eid)
        (restart_node laws opening.packages n (node_at w.nodes eid) (history_of eid w.history) h)

step_taken : (laws : Laws) (opening w : MessageWorldOf) (device : ℕ) (s : StepOf) (k : NodeOf) → node_at w.nodes device ≡ Some k → IsKept opening w
    → (o : Option Stepped) → pair_after w.packages k.pair s ≡ o → IfSome (option_map (went_on w device) o) (IsKept opening)
step_taken laws opening w device s k found h None e = tt
step_taken laws opening w device s k found h (Some t) e =
    let taken : pair_after opening.packages k.pair s ≡ Some t = subst (λ (ps : List PackageText). pair_after ps k.pair s ≡ Some t) h.packages e in
    record { packages = h.packages; nodes = step_nodes laws opening w device s k t found taken h.nodes }

step_found : (laws : Laws) (opening w : MessageWorldOf) (device : ℕ) (s : StepOf) → IsKept opening w → (o : Option NodeOf)
    → node_at w.nodes device ≡ o → IfSome (step_at w device s o) (IsKept opening)
step_found laws opening w device s h None e = tt
step_found laws opening w device s h (Some k) e = step_taken laws opening w device s k e h (pair_after w.packages k.pair s) refl

world_step : (laws : Laws) (opening w : MessageWorldOf) (s : WorldStepOf) → IsKept opening w → IfSome (message_world_after w s) (IsKept opening)
unfolding message_world_after
world_step laws opening w (WorldStepOf.OfPair device s) h = step_found laws opening w device s h (node_at w.nodes device) refl
world_step laws opening w WorldStepOf.RestartAgent h = record {
  packages = h.packages;
  nodes = subst (λ (ps : List PackageText). Nodes opening (map (agent_restarted ps) w.nodes) w.history) (sym h.packages) (restart_nodes laws opening w h.nodes);
}

pub world_steps : (laws : Laws) (opening : MessageWorldOf) (steps : List WorldStepOf) (o : Option MessageWorldOf) → IfSome o (IsKept opening)
    → IfSome (world_along o steps) (IsKept opening)
world_steps laws opening steps None h = tt
world_steps laws opening [] (Some w) h = h
world_steps laws opening (s ∷ steps) (Some w) h = world_steps laws opening steps (message_world_after w s) (world_step laws opening w s h)

-- the opening
opening_at : (ps : List PackageText) (ns : List NodeOf) (eid : ℕ) → All IsOpeningNode ns
    → IfSome (node_at ns eid) (λ n. At ps n (node_at ns eid) [])
opening_at ps [] eid h = tt
opening_at ps (n ∷ ns) eid h =
    at_test (n.eid == eid) (opening_stands ps (run_of n []) (All-head IsOpeningNode n ns h))
    (opening_at ps ns eid (All-tail IsOpeningNode n ns h))
  where
    at_test : (t : Bool) → At ps n (Some n) [] → IfSome (node_at ns eid) (λ k. At ps k (node_at ns eid) [])
        → IfSome (if t then Some n else node_at ns eid) (λ k. At ps k (if t then Some n else node_at ns eid) [])
    at_test true here rest = here
    at_test false here rest = rest

opening_kept : (opening : MessageWorldOf) → IsOpeningMessageWorld opening → IsKept opening opening
opening_kept opening h = record {
  packages = refl;
  nodes = subst (λ (xs : List NotedOf). Nodes opening opening.nodes xs) (sym h.history) (λ eid. opening_at opening.packages opening.nodes eid h.nodes);
}

-- the invariant gives safety
kept_at : (ps : List PackageText) (n : NodeOf) (o : Option NodeOf) (before es : List EntryOf) → At ps n o es
    → IsSomeAnd o (IsSafeNode ps before n es)
kept_at ps n None before es h = h
kept_at ps n (Some m) before es h = record { safe = h.history.safe; tied = h.history.tied }

pub kept_safe : (opening w : MessageWorldOf) → IsKept opening w → IsSafeMessageWorld opening w
kept_safe opening w h eid =
    pairs_show (λ n. shown_pair n.pair (history_of eid opening.history)) (λ m. shown_pair m.pair (history_of eid w.history))
    (node_at opening.nodes eid) (node_at w.nodes eid) (IsSafeAndTied opening.packages)
    (at_node (node_at opening.nodes eid) (h.nodes eid))
  where
    at_node : (o : Option NodeOf) → IfSome o (λ n. At opening.packages n (node_at w.nodes eid) (history_of eid w.history))
        → IfSome o (λ n. IsSomeAnd (node_at w.nodes eid) (IsSafeNode opening.packages (history_of eid opening.history) n (history_of eid w.history)))
    at_node None h = tt
    at_node (Some n) h = kept_at opening.packages n (node_at w.nodes eid) (history_of eid opening.history) (history_of eid w.history) h

safe_if : (opening : MessageWorldOf) (o : Option MessageWorldOf) → IfSome o (IsKept opening) → IfSome o (IsSafeMessageWorld opening)
safe_if opening None h = tt
safe_if opening (Some w) h = kept_safe opening w h

pub worlds_are_safe : (laws : Laws) → WorldsAreSafe
worlds_are_safe laws opening steps h =
    safe_if opening (world_along (Some opening) steps) (world_steps laws opening steps (Some opening) (opening_kept opening h))

-- a run that continues another
pub along_append : (ss ts : List WorldStepOf) (o : Option MessageWorldOf) → world_along o (ss ++ ts) ≡ world_along (world_along o ss) ts
along_append ss ts None = refl
along_append [] ts (Some w) = refl
along_append (s ∷ ss) ts (Some w) = along_append ss ts (message_world_after w s)

pub worlds_stay_safe : (laws : Laws) → WorldsStaySafe
worlds_stay_safe laws opening old new before steps h to_old to_new =
    let whole : world_along (Some opening) (before ++ steps) ≡ Some new =
    along_append before steps (Some opening) ∙ ap (λ o. world_along o steps) to_old ∙ to_new in
    subst (λ (o : Option MessageWorldOf). IfSome o (IsSafeMessageWorld opening)) whole (worlds_are_safe laws opening (before ++ steps) h)
