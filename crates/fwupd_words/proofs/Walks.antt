-- A walk without a fault keeps the facts about the rows that each use keeps.
use Rattle.std.proofs.Common.{◌≡◌, ◌∷◌, [], Bool, ℕ, zero, suc, List, Option, None, Some, cond, drop, false, true, length, refl}
use Rattle.std.specs.Prelude.{IfSome, encode_utf8, slice_get}
use Rattle.std.specs.List.{find, fold}
use Rattle.std.specs.Option.{option_map_or}
use Rattle.std.specs.Str.{bytes_eq, chars}
use Rattle.clap.specs.Faults.{bundle_fault, bundle_step_fault, flag_word_fault, flags_fault, long_fault, option_fault, other_fault, positional_fault, react_fault, settle_fault, short_fault, step_fault, stray_fault, turn_fault, use_fault, walk_fault, word_fault}
use Rattle.clap.specs.Kinds.{Kinds}
use Rattle.clap.specs.Lexer.{long_of, short_of}
use Rattle.clap.specs.Simple.{Shape}
use Rattle.clap.specs.Walk.{Held, Names, Outcome, Row, Rule, Step, Text, Waiting, Walk, after_flag, after_step, arg_by_id, arg_by_index, arg_by_long, arg_by_short, attached_value, bundle, bundle_met, bundle_step, done, idle, long_met, long_or_other, next, option, option_met, option_word, plain, plain_word, positional, reacted, refused, settled, settled_rows, short_met, short_or_plain, subcommand, subcommand_met, subcommand_or_other, takes_values, to_positional, trailing, used, used_by_id, value, waits, walked, walked_from, word_met}
use Rattle.fwupd_words.proofs.Named.{none_of_both}

module _ (s : Shape) (Known : Rule → Type 0) (Keeps : List Row → Type 0) (known : (p : Rule → Bool) → IfSome (find p s.rules) Known)
    (kept : (a : Rule) (values : List Text) (rows : List Row) → Known a → use_fault s.args_override_self a values rows ≡ [] → Keeps rows → Keeps (used a values rows)) where
  by_id : (o : Option Rule) (values : List Text) (rows : List Row) → IfSome o Known → option_map_or (λ a. use_fault s.args_override_self a values rows) o [] ≡ []
      → Keeps rows → Keeps (used_by_id o values rows)
  by_id None values rows is_known passed good = good
  by_id (Some a) values rows is_known passed good = kept a values rows is_known passed good

  pending_keeps : (o : Option (Text × List Text)) (rows : List Row)
      → option_map_or (λ p. option_map_or (λ a. use_fault s.args_override_self a p.1 rows) (arg_by_id s.rules p.0) []) o [] ≡ []
      → Keeps rows → Keeps (settled_rows s.rules o rows)
  pending_keeps None rows passed good = good
  pending_keeps (Some p) rows passed good = by_id (arg_by_id s.rules p.0) p.1 rows (known _) passed good

  pub settled_keeps : (h : Held) → settle_fault s.rules s.args_override_self h ≡ [] → Keeps h.rows → Keeps (settled s.rules h).rows
  settled_keeps h passed good = pending_keeps h.pending h.rows passed good

  reacted_keeps : (a : Rule) (values : List Text) (h : Held) → Known a → react_fault s.rules s.args_override_self a values h ≡ [] → Keeps h.rows
      → Keeps (reacted s.rules a values h).rows
  reacted_keeps a values h is_known passed good =
      let parts = none_of_both (settle_fault s.rules s.args_override_self h) _ passed in
      kept a values (settled s.rules h).rows is_known parts.1 (settled_keeps h parts.0 good)

  option_keeps : (a : Rule) (v : Option Text) (h : Held) → Known a → option_fault s.rules s.args_override_self a v h ≡ [] → Keeps h.rows
      → Keeps (option_met s.rules a v h).0.rows
  option_keeps a (Some v) h is_known passed good = reacted_keeps a (v ∷ []) h is_known passed good
  option_keeps a None h is_known passed good = settled_keeps h passed good

  long_keeps : (o : Option Rule) (v : Option Text) (h : Held) → IfSome o Known → long_fault s.rules s.args_override_self o v h ≡ [] → Keeps h.rows
      → Keeps (long_met s.rules o v h).0.rows
  long_keeps None v h is_known passed good = good
  long_keeps (Some a) v h is_known passed good = go (takes_values a) refl v passed
    where
      go : (b : Bool) → takes_values a ≡ b → (v : Option Text) → long_fault s.rules s.args_override_self (Some a) v h ≡ [] → Keeps (long_met s.rules (Some a) v h).0.rows
      go true takes v passed = rw takes (option_keeps a v h is_known (rw takes at passed) good)
      go false takes (Some v) passed = rw takes good
      go false takes None passed = rw takes (reacted_keeps a [] h is_known (rw takes at passed) good)

  short_keeps : (o : Option Rule) (rest : Text) (h : Held) (go_on : Held → Held × Outcome) (faults : Held → Kinds) → IfSome o Known
      → ((k : Held) → faults k ≡ [] → Keeps k.rows → Keeps (go_on k).0.rows)
      → short_fault s.rules s.args_override_self o rest h faults ≡ [] → Keeps h.rows → Keeps (short_met s.rules o rest h go_on).0.rows
  short_keeps None rest h go_on faults is_known more passed good = good
  short_keeps (Some a) rest h go_on faults is_known more passed good = go (takes_values a) refl
    where
      go : (b : Bool) → takes_values a ≡ b → Keeps (short_met s.rules (Some a) rest h go_on).0.rows
      go true takes = rw takes (option_keeps a (attached_value rest) h is_known (rw takes at passed) good)
      go false takes =
          let parts = none_of_both (react_fault s.rules s.args_override_self a [] h) _ (rw takes at passed) in
          rw takes (more (reacted s.rules a [] h) parts.1 (reacted_keeps a [] h is_known parts.0 good))

  flags_keep : (k : ℕ) (flags : Text) (skip : ℕ) (so_far : Outcome) (h : Held) → flags_fault s.rules s.args_override_self k flags skip h ≡ [] → Keeps h.rows
      → Keeps (bundle_met s.rules k flags skip so_far h).0.rows
  unfolding flags_fault bundle_met
  flags_keep zero flags skip so_far h passed good = good
  flags_keep (suc k) flags skip so_far h passed good =
      go (slice_get (chars flags) 0) skip (λ rest n o g p q. flags_keep k rest n o g p q) passed
    where
      go : (o : Option ℕ) (n : ℕ)
          → ((rest : Text) (n : ℕ) (o : Outcome) (g : Held) → flags_fault s.rules s.args_override_self k rest n g ≡ [] → Keeps g.rows → Keeps (bundle_met s.rules k rest n o g).0.rows)
          → bundle_step_fault s.rules s.args_override_self o flags n h (flags_fault s.rules s.args_override_self k) ≡ []
          → Keeps (bundle_step s.rules o flags n so_far h (bundle_met s.rules k)).0.rows
      go None n more passed = good
      go (Some x) zero more passed =
          let rest = drop (length (encode_utf8 x)) flags in
          short_keeps (arg_by_short s.rules x) rest h (bundle_met s.rules k rest 0 done) (flags_fault s.rules s.args_override_self k rest 0) (known _) (more rest 0 done) passed good
      go (Some x) (suc n) more passed = more (drop (length (encode_utf8 x)) flags) n so_far h passed good

  word_keeps : (o : Option Rule) (id word : Text) (h : Held) → Keeps h.rows → Keeps (option_word o id word h).0.rows
  word_keeps None id word h good = good
  word_keeps (Some a) id word h good = good

  plain_keeps : (waiting : Waiting) (word : Text) (h : Held) → Keeps h.rows → Keeps (plain_word s.rules waiting word h).0.rows
  plain_keeps idle word h good = good
  plain_keeps (option id) word h good = word_keeps (arg_by_id s.rules id) id word h good
  plain_keeps positional word h good = good

  after_keeps : (waiting : Waiting) (word : Text) (h : Held) (o : Outcome) → Keeps h.rows → Keeps (after_flag s.rules waiting word h o).0.rows
  after_keeps waiting word h done good = good
  after_keeps waiting word h (waits id) good = good
  after_keeps waiting word h plain good = plain_keeps waiting word h good
  after_keeps waiting word h refused good = plain_keeps waiting word h good

  short_word_keeps : (waiting : Waiting) (word : Text) (o : Option Text) (h : Held) → option_map_or (λ flags. bundle_fault s.rules s.args_override_self flags h) o [] ≡ []
      → Keeps h.rows → Keeps (short_or_plain s.rules waiting word o h).0.rows
  short_word_keeps waiting word (Some flags) h passed good =
      after_keeps waiting word (bundle s.rules flags h).0 (bundle s.rules flags h).1 (flags_keep (length flags) flags h.skip plain (record h { skip = 0 }) passed good)
  short_word_keeps waiting word None h passed good = plain_keeps waiting word h good

  other_keeps : (waiting : Waiting) (word : Text) (o : Option (Text × Option Text)) (h : Held) → flag_word_fault s.rules s.args_override_self o word h ≡ []
      → Keeps h.rows → Keeps (long_or_other s.rules waiting word o h).0.rows
  other_keeps waiting word (Some p) h passed good =
      after_keeps waiting word _ _ (long_keeps (arg_by_long s.rules p.0) p.1 h (known _) passed good)
  other_keeps waiting word None h passed good = short_word_keeps waiting word (short_of word) h passed good

  met_keeps : (o : Option Text) (waiting : Waiting) (position : ℕ) (word : Text) (h : Held) → other_fault s o word h ≡ [] → Keeps h.rows
      → Keeps (subcommand_or_other s.rules o waiting position word h).0.rows
  met_keeps (Some name) waiting position word h passed good = good
  met_keeps None waiting position word h passed good = go (bytes_eq word (45 ∷ 45 ∷ [])) passed
    where
      go : (b : Bool) → cond b [] (flag_word_fault s.rules s.args_override_self (long_of word) word h) ≡ []
          → Keeps (cond b (h, trailing position) (long_or_other s.rules waiting word (long_of word) h)).0.rows
      go true passed = good
      go false passed = other_keeps waiting word (long_of word) h passed good

  word_met_keeps : (names : Names) (t : Bool) (waiting : Waiting) (position : ℕ) (word : Text) (h : Held) → word_fault s names t waiting word h ≡ [] → Keeps h.rows
      → Keeps (word_met s.rules names t waiting position word h).0.rows
  word_met_keeps names true waiting position word h passed good = good
  word_met_keeps names false waiting position word h passed good = met_keeps (subcommand_met names waiting word) waiting position word h passed good

  held_keeps : (b : Bool) (h : Held) → cond b [] (settle_fault s.rules s.args_override_self h) ≡ [] → Keeps h.rows → Keeps (cond b h (settled s.rules h)).rows
  held_keeps true h passed good = good
  held_keeps false h passed good = settled_keeps h passed good

  to_keeps : (o : Option Rule) (word : Text) (w : Walk) (h : Held)
      → option_map_or (λ a. positional_fault s.rules s.args_override_self a h) o (stray_fault s) ≡ [] → Keeps h.rows → Keeps (to_positional s.rules o word w h).held.rows
  to_keeps None word w h passed good = good
  to_keeps (Some a) word w h passed good = held_keeps _ h passed good

  step_keeps : (word : Text) (w : Walk) (h : Held) (step : Step) → step_fault s w.position h step ≡ [] → Keeps h.rows → Keeps (after_step s.rules word w h step).held.rows
  step_keeps word w h (next waiting) passed good = good
  step_keeps word w h (trailing n) passed good = good
  step_keeps word w h (subcommand name) passed good = good
  step_keeps word w h value passed good = to_keeps (arg_by_index s.rules w.position) word w h passed good

  turn_keeps : (names : Names) (w : Walk) (word : Text) → turn_fault s names w word ≡ [] → Keeps w.held.rows → Keeps (walked s.rules names w word).held.rows
  unfolding walked
  turn_keeps names w word passed good = go w.stopped refl
    where
      go : (o : Option (Text × List Text)) → w.stopped ≡ o → Keeps (walked_from s.rules names o w word).held.rows
      go (Some p) is = good
      go None is =
          let parts = none_of_both (word_fault s names w.is_trailing w.waiting word w.held) _ (rw is at passed) in
          step_keeps word w _ _ parts.1 (word_met_keeps names w.is_trailing w.waiting w.position word w.held parts.0 good)

  pub walk_keeps : (names : Names) (w : Walk) (words : List Text) → walk_fault s names w words ≡ [] → Keeps w.held.rows → Keeps (fold (walked s.rules names) w words).held.rows
  unfolding walk_fault
  walk_keeps names w [] passed good = good
  walk_keeps names w (word ∷ rest) passed good =
      let parts = none_of_both (turn_fault s names w word) _ passed in
      walk_keeps names (walked s.rules names w word) rest parts.1 (turn_keeps names w word parts.0 good)
