-- Any two moments of a run: the history only grows, the devices stay, and the running images and
-- the records change by the entries between.
use Rattle.std.specs.Prelude.{ℕ, ◌≡◌, ◌==◌, ◌++◌, Bool, true, false, if◌then◌else◌, is_some, List, [], ◌∷◌, drop, length, map, Option, Some, None, IfSome, IsSomeAnd}
use Rattle.std.specs.Option.{option_map}
use Rattle.std.proofs.Common.{refl, sym, ap, subst, ◌∙◌, append_assoc, append-nil}
use Rattle.std.proofs.Math.Seq.{drop-append_seam}
use Rattle.fw_package.specs.Package.{PackageText}
use Rattle.fd_core.specs.Images.{KeyedImage}
use Rattle.fw_message.specs.Headline.{EntryOf, IsSafeAndTied, recorded_in, image_or_replacement, running_image, running_after}
use Rattle.fw_message.specs.Laws.{shown_pair}
use Rattle.fw_message.specs.Pairs.{PairOf, StepOf, Stepped, pair_after}
use Rattle.fw_message.specs.Replays.{CountedWorldOf, MessageRun}
use Rattle.fw_message.specs.RunLaws.{GrowsMessageHistory, IsMessageWorldTiedBetween, IsPairTiedFrom, MessageRunsGrow, MessageRunsJoin, MessageRunsStayTied, message_entries_added}
use Rattle.fw_message.specs.WorldLaws.{IsSafeMessageWorld, WorldsAreSafe, history_of}
use Rattle.fw_message.specs.Worlds.{NodeOf, NotedOf, MessageWorldOf, WorldStepOf, agent_restarted, node_at, noted_of, step_at, went_on, with_pair, message_world_after, world_along}
use Rattle.fw_message.specs.declared.step.MessageStep.{MessageStep}
use Rattle.fw_message.proofs.Running.{Along, run_append, run_safe, taken_along}
use Rattle.fw_message.proofs.Safety.Worlds.{history_more, restarted_node}
use Rattle.fw_message.proofs.Showing.{IsSafeNode, pairs_shown}

-- no device is added or removed
same_if : (b : Bool) (x y : NodeOf) (o p : Option NodeOf) → is_some o ≡ is_some p → is_some (if b then Some x else o) ≡ is_some (if b then Some y else p)
same_if true x y o p e = refl
same_if false x y o p e = e

there_with : (ns : List NodeOf) (device eid : ℕ) (m : PairOf) → is_some (node_at (with_pair ns device m) eid) ≡ is_some (node_at ns eid)
there_with [] device eid m = refl
there_with (n ∷ ns) device eid m = at_test (n.eid == device) (there_with ns device eid m)
  where
    at_test : (t : Bool) → is_some (node_at (with_pair ns device m) eid) ≡ is_some (node_at ns eid)
        → is_some (node_at (if t then record n { pair = m } ∷ ns else n ∷ with_pair ns device m) eid) ≡ is_some (node_at (n ∷ ns) eid)
    at_test true rest = same_if (n.eid == eid) (record n { pair = m }) n (node_at ns eid) (node_at ns eid) refl
    at_test false rest = same_if (n.eid == eid) n n (node_at (with_pair ns device m) eid) (node_at ns eid) rest

there_mapped : (f : NodeOf → NodeOf) (o : Option NodeOf) → is_some (option_map f o) ≡ is_some o
there_mapped f None = refl
there_mapped f (Some n) = refl

there_restarted : (ps : List PackageText) (ns : List NodeOf) (eid : ℕ) → is_some (node_at (map (agent_restarted ps) ns) eid) ≡ is_some (node_at ns eid)
there_restarted ps ns eid = ap is_some (restarted_node ps ns eid) ∙ there_mapped (agent_restarted ps) (node_at ns eid)

-- a world and a later one
pub record Later (w v : MessageWorldOf) : Type 0 where
  pub more : List NotedOf
  pub history : v.history ≡ w.history ++ more
  pub there : (eid : ℕ) → is_some (node_at v.nodes eid) ≡ is_some (node_at w.nodes eid)

later_taken : (w : MessageWorldOf) (device : ℕ) (o : Option Stepped) → IfSome (option_map (went_on w device) o) (Later w)
later_taken w device None = tt
later_taken w device (Some t) = record {
  more = map (noted_of device) t.noted;
  history = refl;
  there = λ eid. there_with w.nodes device eid t.after;
}

later_found : (w : MessageWorldOf) (device : ℕ) (s : StepOf) (o : Option NodeOf) → IfSome (step_at w device s o) (Later w)
later_found w device s None = tt
later_found w device s (Some n) = later_taken w device (pair_after w.packages n.pair s)

pub later_step : (w : MessageWorldOf) (s : WorldStepOf) → IfSome (message_world_after w s) (Later w)
unfolding message_world_after
later_step w (WorldStepOf.OfPair device s) = later_found w device s (node_at w.nodes device)
later_step w WorldStepOf.RestartAgent = record {
  more = [];
  history = sym (append-nil w.history);
  there = λ eid. there_restarted w.packages w.nodes eid;
}

later_on : (w v : MessageWorldOf) (o : Option MessageWorldOf) → Later w v → IfSome o (Later v) → IfSome o (Later w)
later_on w v None g h = tt
later_on w v (Some u) g h = record {
  more = g.more ++ h.more;
  history = h.history ∙ ap (λ xs. xs ++ h.more) g.history ∙ append_assoc w.history g.more h.more;
  there = λ eid. h.there eid ∙ g.there eid;
}

later_along : (w : MessageWorldOf) (steps : List WorldStepOf) (o : Option MessageWorldOf) → IfSome o (Later w) → IfSome (world_along o steps) (Later w)
later_along w steps None h = tt
later_along w [] (Some v) h = h
later_along w (s ∷ steps) (Some v) h = later_along w steps (message_world_after v s) (later_on w v (message_world_after v s) h (later_step v s))

pub run_later : (w v : CountedWorldOf) (ss : List MessageStep) → MessageRun w ss v → Later w.world v.world
run_later w v ss h =
    let a : Along w v = taken_along w v ss h in
    let same : Later w.world w.world = record { more = []; history = sym (append-nil w.world.history); there = λ eid. refl } in
    subst (λ (o : Option MessageWorldOf). IfSome o (Later w.world)) a.along (later_along w.world a.steps (Some w.world) same)

grown : (w v : MessageWorldOf) → Later w v → GrowsMessageHistory w v
grown w v h =
    let rest : message_entries_added w v ≡ h.more = ap (λ xs. drop (length w.history) xs) h.history ∙ drop-append_seam w.history h.more in
    h.history ∙ ap (λ xs. w.history ++ xs) (sym rest)

pub runs_grow : MessageRunsGrow
runs_grow old new steps h = grown old.world new.world (run_later old new steps h)

pub runs_join : MessageRunsJoin
runs_join w v u ss ts h k = run_append w v u ss ts h k

-- the running images and the records, in two parts
pub running_on : (runs : List KeyedImage) (es xs : List EntryOf) → running_after runs (es ++ xs) ≡ running_after (running_after runs es) xs
running_on runs [] xs = refl
running_on runs (EntryOf.Applied p ∷ es) xs = running_on runs es xs
running_on runs (EntryOf.Recording r ∷ es) xs = running_on runs es xs
running_on runs (EntryOf.Activated p ∷ es) xs = running_on (map (image_or_replacement p) runs) es xs

pub recorded_on : (es xs : List EntryOf) → recorded_in (es ++ xs) ≡ recorded_in es ++ recorded_in xs
recorded_on [] xs = refl
recorded_on (EntryOf.Applied p ∷ es) xs = recorded_on es xs
recorded_on (EntryOf.Recording r ∷ es) xs = ap (λ rs. r ∷ rs) (recorded_on es xs)
recorded_on (EntryOf.Activated p ∷ es) xs = recorded_on es xs

tied_from : (ps : List PackageText) (first n m : NodeOf) (b es more : List EntryOf) → IsSafeNode ps b first es n
    → IsSafeNode ps b first (es ++ more) m → IsPairTiedFrom n m more
tied_from ps first n m b es more g h = record {
  active = h.tied.active ∙ running_on (map running_image first.pair.device.rows) es more ∙ ap (λ rs. running_after rs more) (sym g.tied.active);
  records = h.tied.records ∙ recorded_on es more ∙ ap (λ rs. rs ++ recorded_in more) (sym g.tied.records);
}

-- the same for the node of an identifier
tied_new : (ps : List PackageText) (first n : NodeOf) (o : Option NodeOf) (b es more all : List EntryOf) → all ≡ es ++ more
    → IsSafeNode ps b first es n → IsSomeAnd o (IsSafeNode ps b first all) → IsSomeAnd o (λ m. IsPairTiedFrom n m more)
tied_new ps first n None b es more all e g h = h
tied_new ps first n (Some m) b es more all e g h =
    let now : IsSafeNode ps b first (es ++ more) m = subst (λ (xs : List EntryOf). IsSafeNode ps b first xs m) e h in
    tied_from ps first n m b es more g now

tied_at : (ps : List PackageText) (f o p : Option NodeOf) (b es more all : List EntryOf) → all ≡ es ++ more → is_some o ≡ is_some f
    → IfSome f (λ first. IsSomeAnd o (IsSafeNode ps b first es))
    → IfSome f (λ first. IsSomeAnd p (IsSafeNode ps b first all))
    → IfSome o (λ n. IsSomeAnd p (λ m. IsPairTiedFrom n m more))
tied_at ps f None p b es more all e there g h = tt
tied_at ps None (Some n) p b es more all e there g h = absurd (cc)
tied_at ps (Some first) (Some n) p b es more all e there g h = tied_new ps first n p b es more all e g h

tied_between : (opening old new : MessageWorldOf) → Later opening old → Later old new → IsSafeMessageWorld opening old → IsSafeMessageWorld opening new → IsMessageWorldTiedBetween old new
tied_between opening old new before after g h eid =
    let all : history_of eid new.history ≡ history_of eid old.history ++ history_of eid (message_entries_added old new) =
    ap (history_of eid) (grown old new after) ∙ history_more eid old.history (message_entries_added old new) in
    tied_at opening.packages (node_at opening.nodes eid) (node_at old.nodes eid) (node_at new.nodes eid) (history_of eid opening.history) (history_of eid old.history) (history_of eid (message_entries_added old new)) (history_of eid new.history)
    all (before.there eid) (shown old g) (shown new h)
  where
    shown : (w : MessageWorldOf) → IsSafeMessageWorld opening w
        → IfSome (node_at opening.nodes eid) (λ first. IsSomeAnd (node_at w.nodes eid) (IsSafeNode opening.packages (history_of eid opening.history) first (history_of eid w.history)))
    shown w k =
        pairs_shown (λ n. shown_pair n.pair (history_of eid opening.history)) (λ m. shown_pair m.pair (history_of eid w.history))
        (node_at opening.nodes eid) (node_at w.nodes eid) (IsSafeAndTied opening.packages) (k eid)

pub runs_stay_tied : WorldsAreSafe → MessageRunsStayTied
runs_stay_tied law opening old new before steps begins to_old to_new =
    tied_between opening.world old.world new.world (run_later opening old before to_old) (run_later old new steps to_new)
    (run_safe law opening old before begins to_old)
    (run_safe law opening new (before ++ steps) begins (run_append opening old new before steps to_old to_new))
