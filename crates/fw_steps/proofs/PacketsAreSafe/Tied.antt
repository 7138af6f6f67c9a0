-- Any two moments of a run of the packet world are tied.
use Rattle.std.proofs.Common.{◌≡◌, ◌∙◌, ◌++◌, ℕ, List, [], map, Option, Some, None, IfSome, IsSomeAnd, refl, sym, ap, subst}
use Rattle.std.specs.Option.{option_map}
use Rattle.exch_lane.specs.Laws.{LaneIsACell}
use Rattle.fw_package.specs.Package.{PackageText}
use Rattle.fw_message.specs.Headline.{EntryOf, IsSafeAndTied, recorded_in, running_after, running_image}
use Rattle.fw_message.specs.Pairs.{PairOf}
use Rattle.fw_message.specs.WorldLaws.{history_of}
use Rattle.fw_message.proofs.Moments.{recorded_on, running_on}
use Rattle.fw_message.proofs.Safety.Worlds.{history_more}
use Rattle.fw_node.specs.Agents.{half_for}
use Rattle.fw_message.specs.Laws.{shown_pair}
use Rattle.fw_steps.specs.Promises.{PacketsAreSafe, RunsJoin, RunsStayTied}
use Rattle.fw_steps.specs.LinksAreMessages.{LinksAreMessages}
use Rattle.fw_steps.specs.LinksAreLanes.{LinksAreLanes}
use Rattle.fw_steps.specs.Links.{LinkOf}
use Rattle.fw_steps.specs.Moments.{IsTiedFrom, entries_between}
use Rattle.fw_steps.specs.Worlds.{WorldOf, pair_for, site_for}
use Rattle.fw_steps.proofs.LinksAreLanes.Projection.{link_at}
use Rattle.fw_steps.proofs.Running.{run_append}
use Rattle.fw_steps.proofs.PacketsAreSafe.Grown.{runs_grow}
use Rattle.fw_steps.proofs.PacketsAreSafe.Safe.{pair_linked, pair_of, pairs_safe, stand_along}
use Rattle.fw_steps.proofs.PacketsAreSafe.SafeOpening.{opening_stands}
use Rattle.fw_steps.proofs.PacketsAreSafe.SafeStands.{Stand, known_links, stays_absent}

-- ONE DEVICE

tied_from : (ps : List PackageText) (first m n : PairOf) (es more : List EntryOf) → IsSafeAndTied ps (shown_pair first []) (shown_pair m es)
    → IsSafeAndTied ps (shown_pair first []) (shown_pair n (es ++ more)) → IsTiedFrom m n (es ++ more) more
tied_from ps first m n es more g h = record {
  active = h.tied.active ∙ running_on (map running_image first.device.rows) es more ∙ ap (λ rs. running_after rs more) (sym g.tied.active);
  applied = h.tied.applied;
  records = h.tied.records;
  recorded = h.tied.records ∙ recorded_on es more ∙ ap (λ rs. rs ++ recorded_in more) (sym g.tied.records);
}

-- the same for the pair of an identifier
tied_new : (ps : List PackageText) (first m : PairOf) (o : Option PairOf) (es more all : List EntryOf) → all ≡ es ++ more
    → IsSafeAndTied ps (shown_pair first []) (shown_pair m es) → IsSomeAnd o (λ n. IsSafeAndTied ps (shown_pair first []) (shown_pair n all)) → IsSomeAnd o (λ n. IsTiedFrom m n all more)
tied_new ps first m None es more all e g h = h
tied_new ps first m (Some n) es more all e g h =
    let now : IsSafeAndTied ps (shown_pair first []) (shown_pair n (es ++ more)) = subst (λ (xs : List EntryOf). IsSafeAndTied ps (shown_pair first []) (shown_pair n xs)) e h in
    subst (λ (xs : List EntryOf). IsTiedFrom m n xs more) (sym e) (tied_from ps first m n es more g now)

tied_at : (ps : List PackageText) (f o p : Option PairOf) (es more all : List EntryOf) → all ≡ es ++ more → (f ≡ None → o ≡ None)
    → IfSome f (λ first. IsSomeAnd o (λ m. IsSafeAndTied ps (shown_pair first []) (shown_pair m es)))
    → IfSome f (λ first. IsSomeAnd p (λ n. IsSafeAndTied ps (shown_pair first []) (shown_pair n all)))
    → IfSome o (λ m. IsSomeAnd p (λ n. IsTiedFrom m n all more))
tied_at ps f None p es more all e there g h = tt
tied_at ps None (Some m) p es more all e there g h = absurd (let no : Some m ≡ None = there refl in cc)
tied_at ps (Some first) (Some m) p es more all e there g h = tied_new ps first m p es more all e g h

-- THE WORLD

-- a device that isn't in the opening world isn't in this one
absent_link : (o : Option LinkOf) → option_map pair_of o ≡ None → o ≡ None
absent_link None e = refl
absent_link (Some l) e = absurd (cc)

absent_pair : (opening w : WorldOf) (eid : ℕ) → Stand opening opening → Stand opening w → pair_for opening eid ≡ None → pair_for w eid ≡ None
absent_pair opening w eid begins k none =
    let first : link_at opening eid ≡ None = absent_link (link_at opening eid) (sym (pair_linked _ (half_for opening.agent eid) (site_for opening.sites eid)) ∙ none) in
    pair_linked _ (half_for w.agent eid) (site_for w.sites eid)
    ∙ ap (option_map pair_of) (stays_absent opening w eid (known_links opening opening begins) k.devices first)

pub runs_join : RunsJoin
runs_join w v u ss ts h k = run_append w v u ss ts h k

pub runs_stay_tied : LaneIsACell → LinksAreLanes → LinksAreMessages → PacketsAreSafe → RunsStayTied
runs_stay_tied law lanes messages safe opening old new before steps is to_old to_new eid =
    let begins = opening_stands law opening is in
    let k = stand_along law lanes messages opening opening old before begins to_old in
    let all : history_of eid new.history ≡ history_of eid old.history ++ history_of eid (entries_between old new) =
    ap (history_of eid) (runs_grow old new steps to_new) ∙ history_more eid old.history (entries_between old new) in
    tied_at opening.packages (pair_for opening eid) (pair_for old eid) (pair_for new eid) (history_of eid old.history) (history_of eid (entries_between old new)) (history_of eid new.history)
    all (absent_pair opening old eid begins k)
    (pairs_safe safe opening old before is to_old eid)
    (pairs_safe safe opening new (before ++ steps) is (run_append opening old new before steps to_old to_new) eid)
