-- The steps of each half, as steps of its pair over whole messages.
use Rattle.std.proofs.Common.{◌≡◌, ◌∙◌, ◌&&◌, not, Bool, true, false, List, [], ◌∷◌, ◌++◌, Option, Some, None, Ok, refl, sym, ap}
use Rattle.std.specs.List.{AllByRecursion}
use Rattle.std.specs.Option.{option_map}
use Rattle.fw_package.specs.Package.{PackageText}
use Rattle.fwup_wire.specs.Commands.{command_code}
use Rattle.fwup_wire.specs.Values.{AnswerOf, CommandOf}
use Rattle.fw_message.specs.Headline.{EntryOf}
use Rattle.fw_message.specs.Names.{HasName}
use Rattle.fw_message.specs.Pairs.{CellContentOf, PairOf, PairRun, StepOf, Stepped, closed_unless, closing, fresh_cell, is_empty, message_along, history_with, pair_after, ran_on, run_after, step_of, unwished_closed}
use Rattle.fw_node.specs.Halves.{CoreOf}
use Rattle.fw_steps.specs.Joins.{IsCommandFor, IsWishedIn}

-- Steps of whole messages from one pair to another, which add these entries to the history. None
-- restarts the session alone.
pub record PairLeads (packages : List PackageText) (m : PairOf) (more : List EntryOf) (after : PairOf) : Type 0 where
  pub steps : List StepOf
  pub named : AllByRecursion HasName steps
  pub along : (es : List EntryOf) → message_along packages (Some (record { pair = m; entries = es })) steps
      ≡ Some (record { pair = after; entries = history_with es more })

pub no_step : (packages : List PackageText) (m : PairOf) → PairLeads packages m [] m
no_step packages m = record { steps = []; named = tt; along = λ es. refl }

pub one_step : (packages : List PackageText) (m : PairOf) (s : StepOf) (t : Stepped) → HasName s → pair_after packages m s ≡ Some t → PairLeads packages m t.noted t.after
one_step packages m s t named e = record {
  steps = s ∷ [];
  named = (named, tt);
  along = λ es. ap (λ o. message_along packages (option_map (ran_on (record { pair = m; entries = es })) o) []) e;
}

along_more : (packages : List PackageText) (r : Option PairRun) (ss ts : List StepOf)
    → message_along packages r (ss ++ ts) ≡ message_along packages (message_along packages r ss) ts
along_more packages None ss ts = refl
along_more packages (Some r) [] ts = refl
along_more packages (Some r) (s ∷ ss) ts = along_more packages (run_after packages r s) ss ts

noted_more : (es more later : List EntryOf) → history_with es (more ++ later) ≡ history_with (history_with es more) later
noted_more es [] later = refl
noted_more es (x ∷ more) later = noted_more (es ++ x ∷ []) more later

-- a property of all elements of two lists is a property of all of both together
pub all_along : {A : Type 0} (P : A → Type 0) (xs ys : List A) → AllByRecursion P xs → AllByRecursion P ys → AllByRecursion P (xs ++ ys)
all_along P [] ys k h = h
all_along P (x ∷ xs) ys k h = (k.0, all_along P xs ys k.1 h)

-- one after another
pub leads_on : {packages : List PackageText} {m mid after : PairOf} {more later : List EntryOf} → PairLeads packages m more mid → PairLeads packages mid later after
    → PairLeads packages m (more ++ later) after
leads_on {packages} {m} {mid} {after} {more} {later} a b = record {
  steps = a.steps ++ b.steps;
  named = all_along HasName a.steps b.steps a.named b.named;
  along = λ es. along_more packages (Some (record { pair = m; entries = es })) a.steps b.steps
      ∙ ap (λ r. message_along packages r b.steps) (a.along es)
      ∙ b.along (history_with es more)
      ∙ ap (λ x. Some (record { pair = after; entries = x })) (sym (noted_more es more later));
}

-- the pair of a half's core, its own cell and the other half's cell; and the entries of a command
-- that it takes
abbrev pub Place : Type 0 → Type 0
Place C = C → Option CellContentOf → Option CellContentOf → PairOf

abbrev pub Notes : Type 0 → Type 0
Notes C = C → CommandOf → Bool → Bool → List EntryOf

-- The steps of a half with this core, as steps of its pair: its commands are for the agent or for a
-- device, and `peer_wish` is the other half's pending command.
pub record Sided {C : Type 0} (packages : List PackageText) (core : CoreOf C) (agent : Bool) (place : Place C) (peer_wish : Option CommandOf) (notes : Notes C) : Type 0 where
  pub drop : (x : C) (h : CellContentOf) (other : Option CellContentOf) → IsWishedIn other peer_wish → h.live ≡ false
      → PairLeads packages (place x (Some h) other) [] (place x None other)
  pub give : (x : C) (h : CellContentOf) (other : Option CellContentOf) → IsWishedIn other peer_wish → h.live ≡ true
      → PairLeads packages (place x (Some h) other) [] (place (core.silent x) (Some (record h { live = false })) other)
  pub tick : (x : C) (own other : Option CellContentOf) → IsWishedIn other peer_wish → IsWishedIn own (core.wish x)
      → PairLeads packages (place x own other) [] (place (core.ticked x) (closed_unless (core.wish (core.ticked x)) own) other)
  pub ask : (x : C) (c : CommandOf) (other : Option CellContentOf) → IsWishedIn other peer_wish → core.wish x ≡ Some c
      → PairLeads packages (place x None other) [] (place x (Some (fresh_cell c)) other)
  pub learn : (x : C) (h : CellContentOf) (a : AnswerOf) (works : Bool) (other : Option CellContentOf) → IsWishedIn other peer_wish → h.live ≡ true → h.reply ≡ Some a
      → PairLeads packages (place x (Some h) other) [] (place (core.learn x (Ok a) works) None other)
  pub take : (x : C) (own : Option CellContentOf) (h : CellContentOf) (quiet works : Bool) → IsWishedIn (Some h) peer_wish → h.reply ≡ None → (quiet && not (is_empty own)) ≡ false
      → PairLeads packages (place x own (Some h)) (notes x h.command quiet works)
      (place (core.take x h.command quiet works).core (closed_unless (core.wish (core.take x h.command quiet works).core) own) (Some (record h { reply = Some (core.take x h.command quiet works).answer })))
  pub wishes : (x : C) (c : CommandOf) → core.wish x ≡ Some c → IsCommandFor agent c
  pub serves : (c : CommandOf) → IsCommandFor (not agent) c → core.serves (command_code c) ≡ true

-- a step with this result is closed to this pair
pub closed_to : (packages : List PackageText) (m : PairOf) (t : Stepped) (after : PairOf) (s : StepOf) → step_of packages m s ≡ Some t → unwished_closed packages t.after ≡ after
    → pair_after packages m s ≡ Some (record { after = after; noted = t.noted })
unfolding pair_after
closed_to packages m t after s e c = ap (option_map (closing packages)) e ∙ rw c refl

pub closes : (packages : List PackageText) (m : PairOf) (t : Stepped) (after : PairOf) (s : StepOf) → HasName s → step_of packages m s ≡ Some t → unwished_closed packages t.after ≡ after
    → PairLeads packages m t.noted after
closes packages m t after s named e c = one_step packages m s (record { after = after; noted = t.noted }) named (closed_to packages m t after s e c)
