-- Only the twelve subcommands are parsed: `help` prints help.
use Rattle.std.proofs.Common.{◌≡◌, ◌∙◌, ◌||◌, ◌∷◌, [], Bool, ℕ, List, Option, None, Some, ap, cond, codes, drop, false, true, option_map, refl, subst, sym, true≢false}
use Rattle.std.specs.Prelude.{IfSome, unwrap_or}
use Rattle.std.proofs.lemmas.Slice.Eq.{bytes_eq-Decides}
use Rattle.std.specs.List.{find, fold}
use Rattle.std.specs.Str.{bytes_eq}
use Rattle.clap.specs.Faults.{other_fault, turn_fault, walk_fault, word_fault}
use Rattle.clap.specs.Kinds.{Kinds, or_else}
use Rattle.clap.specs.Lexer.{long_of, short_of}
use Rattle.clap.specs.Simple.{Shape, built, entered, label_of, names_of, rows_at}
use Rattle.clap.specs.Walk.{Held, Names, Outcome, Row, Rule, Step, Text, Waiting, Walk, after_flag, after_step, answers_to, done, idle, long_or_other, next, nothing_held, option, plain, plain_word, positional, refused, short_or_plain, stop_after, subcommand, subcommand_met, subcommand_or_other, to_positional, trailing, value, waits, walk_from, walked, walked_from, word_met}
use Rattle.clap.specs.Words.{fault_of, subcommand_of}
use Rattle.fwupd_words.specs.CommandLine.{Forms, command_line}
use Rattle.fwupd_words.specs.Reading.{IsNoJob}

-- both parts of an empty list of kinds are empty
pub none_of_both : (a b : Kinds) → or_else a b ≡ [] → (a ≡ []) × (b ≡ [])
none_of_both [] b is = (refl, is)
none_of_both (k ∷ ks) b is = cc

-- the step names a subcommand
names_one : Step → Bool
names_one (subcommand name) = true
names_one _ = false

plain_names_none : (c : List Rule) (waiting : Waiting) (word : Text) (h : Held) → names_one (plain_word c waiting word h).1 ≡ false
unfolding names_one
plain_names_none c idle word h = refl
plain_names_none c (option id) word h = refl
plain_names_none c positional word h = refl

flag_names_none : (c : List Rule) (waiting : Waiting) (word : Text) (h : Held) (o : Outcome) → names_one (after_flag c waiting word h o).1 ≡ false
unfolding names_one
flag_names_none c waiting word h done = refl
flag_names_none c waiting word h (waits id) = refl
flag_names_none c waiting word h plain = plain_names_none c waiting word h
flag_names_none c waiting word h refused = plain_names_none c waiting word h

short_names_none : (c : List Rule) (waiting : Waiting) (word : Text) (o : Option Text) (h : Held) → names_one (short_or_plain c waiting word o h).1 ≡ false
short_names_none c waiting word (Some flags) h = flag_names_none c waiting word _ _
short_names_none c waiting word None h = plain_names_none c waiting word h

long_names_none : (c : List Rule) (waiting : Waiting) (word : Text) (o : Option (Text × Option Text)) (h : Held) → names_one (long_or_other c waiting word o h).1 ≡ false
long_names_none c waiting word (Some p) h = flag_names_none c waiting word _ _
long_names_none c waiting word None h = short_names_none c waiting word (short_of word) h

abbrev pub IsNoHelp : Text → Type 0
IsNoHelp name = bytes_eq name (codes "help") ≡ false

-- the step is not a call for help
abbrev HelpsNot : Step → Type 0
HelpsNot (subcommand name) = IsNoHelp name
HelpsNot _ = Unit {0}

other_helps_not : (step : Step) → names_one step ≡ false → HelpsNot step
unfolding names_one
other_helps_not (subcommand name) is = absurd (true≢false is)
other_helps_not (next waiting) is = tt
other_helps_not (trailing n) is = tt
other_helps_not value is = tt

-- a call for help is a fault
met_helps_not : (s : Shape) (o : Option Text) (waiting : Waiting) (position : ℕ) (word : Text) (h : Held) → s.disable_help_subcommand ≡ false
    → other_fault s o word h ≡ [] → HelpsNot (subcommand_or_other s.rules o waiting position word h).1
met_helps_not s (Some name) waiting position word h helps passed = go (bytes_eq name (codes "help")) refl
  where
    go : (b : Bool) → bytes_eq name (codes "help") ≡ b → IsNoHelp name
    go true is = absurd (cc)
    go false is = is
met_helps_not s None waiting position word h helps passed = go (bytes_eq word (45 ∷ 45 ∷ []))
  where
    go : (b : Bool) → HelpsNot (cond b (h, trailing position) (long_or_other s.rules waiting word (long_of word) h)).1
    go true = tt
    go false = other_helps_not _ (long_names_none s.rules waiting word (long_of word) h)

word_helps_not : (s : Shape) (names : Names) (t : Bool) (waiting : Waiting) (position : ℕ) (word : Text) (h : Held) → s.disable_help_subcommand ≡ false
    → word_fault s names t waiting word h ≡ [] → HelpsNot (word_met s.rules names t waiting position word h).1
word_helps_not s names true waiting position word h helps passed = tt
word_helps_not s names false waiting position word h helps passed = met_helps_not s (subcommand_met names waiting word) waiting position word h helps passed

-- the walk doesn't stop at a call for help
abbrev pub StopsWell : Option (Text × List Text) → Type 0
StopsWell stop = IfSome stop (λ p. IsNoHelp p.0)

to_stops_well : (c : List Rule) (found : Option Rule) (word : Text) (w : Walk) (h : Held) → StopsWell w.stopped → StopsWell (to_positional c found word w h).stopped
to_stops_well c None word w h well = well
to_stops_well c (Some a) word w h well = tt

step_stops_well : (c : List Rule) (word : Text) (w : Walk) (h : Held) (step : Step) → StopsWell w.stopped → HelpsNot step → StopsWell (after_step c word w h step).stopped
step_stops_well c word w h (next waiting) well helps = well
step_stops_well c word w h (trailing n) well helps = well
step_stops_well c word w h (subcommand name) well helps = helps
step_stops_well c word w h value well helps = to_stops_well c _ word w h well

turn_stops_well : (s : Shape) (names : Names) (w : Walk) (word : Text) → s.disable_help_subcommand ≡ false → turn_fault s names w word ≡ []
    → StopsWell w.stopped → StopsWell (walked s.rules names w word).stopped
unfolding walked
turn_stops_well s names w word helps passed well = go w.stopped refl well
  where
    go : (o : Option (Text × List Text)) → w.stopped ≡ o → StopsWell o → StopsWell (walked_from s.rules names o w word).stopped
    go (Some p) is well = well
    go None is well =
        let word_passed = none_of_both (word_fault s names w.is_trailing w.waiting word w.held) _ (rw is at passed) in
        step_stops_well s.rules word w _ _ (subst StopsWell (sym is) tt)
        (word_helps_not s names w.is_trailing w.waiting w.position word w.held helps word_passed.0)

walk_stops_well : (s : Shape) (names : Names) (w : Walk) (words : List Text) → s.disable_help_subcommand ≡ false → walk_fault s names w words ≡ []
    → StopsWell w.stopped → StopsWell (fold (walked s.rules names) w words).stopped
unfolding walk_fault
walk_stops_well s names w [] helps passed well = well
walk_stops_well s names w (word ∷ rest) helps passed well =
    let parts = none_of_both (turn_fault s names w word) _ passed in
    walk_stops_well s names (walked s.rules names w word) rest helps parts.1 (turn_stops_well s names w word helps parts.0 well)

-- the found shape has the property that each searched shape has
abbrev pub EachThat : (Shape → Type 0) → (Shape → Bool) → List Shape → Type 0
EachThat Q p [] = Unit {0}
EachThat Q p (x ∷ xs) = (p x ≡ true → Q x) × EachThat Q p xs

pub found_has : (Q : Shape → Type 0) (p : Shape → Bool) (xs : List Shape) → EachThat Q p xs → IfSome (find p xs) Q
found_has Q p [] each = tt
found_has Q p (x ∷ xs) each = go (p x) refl (found_has Q p xs each.1)
  where
    go : (b : Bool) → p x ≡ b → IfSome (find p xs) Q → IfSome (cond b (Some x) (find p xs)) Q
    go true is rest = each.0 is
    go false is rest = rest

-- the shape's name is that of a subcommand
abbrev HasJob : Shape → Type 0
HasJob s = IsNoJob s.name → ⊥

help_is_not : (name : Text) → IsNoHelp name → answers_to name (codes "help", []) ≡ true → ⊥
help_is_not name no_help answers = go (bytes_eq (codes "help") name) refl answers
  where
    go : (b : Bool) → bytes_eq (codes "help") name ≡ b → (b || false) ≡ true → ⊥
    go false is answers = true≢false (sym answers)
    go true is answers =
        let same : codes "help" ≡ name = (bytes_eq-Decides (codes "help") name).0 is in
        true≢false (ap (λ (n : Text). bytes_eq n (codes "help")) same ∙ no_help)

each_has_job : (forms : Forms) (name : Text) → IsNoHelp name → EachThat HasJob (λ s. answers_to name (label_of s)) (built (command_line forms)).subs
each_has_job forms name no_help = (
  λ _ other. other.0 refl,
  (
    λ _ other. other.1 refl,
    (
      λ _ other. other.2 refl,
      (
        λ _ other. other.3 refl,
        (
          λ _ other. other.4 refl,
          (λ _ other. other.5 refl, (λ _ other. other.6 refl, (λ _ other. other.7 refl, (λ _ other. other.8 refl, (λ _ other. other.9 refl, (λ _ other. other.10 refl, (λ _ other. other.11 refl, (λ answers other. help_is_not name no_help answers, tt)))))))),
        ),
      ),
    ),
  ),
)

-- if arguments have no fault, their subcommand is one of the twelve
pub names_a_job : (forms : Forms) (words : List Text) (name : Text) (rows : List Row) → fault_of (command_line forms) words ≡ []
    → subcommand_of (command_line forms) words ≡ Some (name, rows) → IsNoJob name → ⊥
names_a_job forms words name rows passed is other =
    let line = built (command_line forms) in
    let parts = none_of_both (walk_fault line.top (names_of line) (walk_from nothing_held) (drop 1 words)) _ passed in
    go (stop_after line.top.rules (names_of line) (drop 1 words))
    (walk_stops_well line.top (names_of line) (walk_from nothing_held) (drop 1 words) refl parts.0 tt) is
  where
    named : (p : Text × List Text) (o : Option Shape) → IfSome o HasJob → option_map (λ s. rows_at s p.1) o ≡ Some (name, rows) → ⊥
    named p None has is = cc
    named p (Some s) has is = has (subst IsNoJob (sym (ap (λ (o : Option (Text × List Row)). (unwrap_or o (name, rows)).0) is)) other)

    go : (stop : Option (Text × List Text)) → StopsWell stop → entered (built (command_line forms)) stop ≡ Some (name, rows) → ⊥
    go None well is = cc
    go (Some p) well is = named p _ (found_has HasJob (λ s. answers_to p.0 (label_of s)) (built (command_line forms)).subs (each_has_job forms p.0 well)) is
