-- If a step calls no bank, nothing depends on whether a call works.
use Rattle.std.proofs.Common.{◌≡◌, ◌&&◌, ◌||◌, Bool, true, false, not, if◌then◌else◌, List, Option, Some, None, is_some, ap, refl, sym, ◌∙◌}
use Rattle.std.specs.Option.{option_map}
use Rattle.fw_package.specs.Package.{PackageText}
use Rattle.fwup_wire.specs.Values.{AnswerOf}
use Rattle.fd_core.specs.BankCalls.{DifferIf, answer_calls_bank, command_calls_bank, verdict_calls_bank}
use Rattle.fd_core.specs.Commands.{device_take}
use Rattle.fd_core.specs.Steps.{VerdictEffect, device_verdict}
use Rattle.fd_core.specs.Wishes.{has_failed, learn_at}
use Rattle.fd_core.specs.declared.states.Verdict.{Verdict}
use Rattle.fd_core.proofs.BankCalls.{answers_differ, commands_differ, differ_through, effect_failed, judges_alike, learns_alike, takes_alike, verdicts_differ}
use Rattle.fw_message.specs.BankCalls.{PairStepsDependOnCalls, brought_calls_bank, held_calls_bank, node_calls_bank, pair_step_calls_bank, message_step_calls_bank}
use Rattle.fw_message.specs.Pairs.{CellContentOf, PairOf, Stepped, waiting_answer, closing, down_taken, is_empty, step_after_verdict, learn_up, pair_after, step_without_entries, step_of, take_down, take_down_at}
use Rattle.fw_message.specs.Worlds.{NodeOf, MessageWorldOf, WorldStepOf, device_of, named_step, node_at, pair_step, restarts_agent, step_at, went_on, message_world_after}
use Rattle.fw_message.specs.declared.side.Way.TheVariants as ways
use Rattle.fw_message.specs.declared.step.MessageStep.{MessageStep}
use Rattle.fw_message.specs.declared.step.MessageStep.TheVariants as steps

-- a command in a cell
takes_held : (m : PairOf) (h : CellContentOf) (reply : Option AnswerOf) (quiet works : Bool) → held_calls_bank m.device (Some h) quiet ≡ false → take_down_at m h reply quiet works ≡ take_down_at m h reply quiet true
takes_held m h None quiet works e = ap (λ t. if quiet && not (is_empty m.up) then None else Some (down_taken m h t)) (takes_alike m.device h.command quiet works e)
takes_held m h (Some a) quiet works e = refl

takes_alone : (m : PairOf) (held : Option CellContentOf) (quiet works : Bool) → held_calls_bank m.device held quiet ≡ false → take_down m held quiet works ≡ take_down m held quiet true
takes_alone m None quiet works e = refl
takes_alone m (Some h) quiet works e = takes_held m h h.reply quiet works e

-- an answer that the device waits for
learns_alone : (m : PairOf) (a : Option AnswerOf) (works : Bool) → brought_calls_bank m.device a ≡ false → learn_up m a works ≡ learn_up m a true
learns_alone m None works e = refl
learns_alone m (Some a) works e = ap (λ d. Some (step_without_entries (record m { device = d; up = None }))) (learns_alike m.device (Some a) works e)

-- a step of a pair
step_alone : (packages : List PackageText) (m : PairOf) (s : MessageStep) (works : Bool) → pair_step_calls_bank m (pair_step true s) ≡ false
    → step_of packages m (pair_step works s) ≡ step_of packages m (pair_step true s)
step_alone packages m (steps.Take device ways.Down quiet) works e = takes_alone m m.down quiet works e
step_alone packages m (steps.Take device ways.Up quiet) works e = refl
step_alone packages m (steps.Learn device ways.Up) works e = learns_alone m (waiting_answer m.up) works e
step_alone packages m (steps.Learn device ways.Down) works e = refl
step_alone packages m (steps.Verdict device verdict) works e = ap (step_after_verdict m) (judges_alike m.device verdict works e)
step_alone packages m (steps.Ask device ways.Down) works e = refl
step_alone packages m (steps.Ask device ways.Up) works e = refl
step_alone packages m s works e = refl

pair_alone : (packages : List PackageText) (m : PairOf) (s : MessageStep) (works : Bool) → pair_step_calls_bank m (pair_step true s) ≡ false
    → pair_after packages m (pair_step works s) ≡ pair_after packages m (pair_step true s)
unfolding pair_after
pair_alone packages m s works e = ap (option_map (closing packages)) (step_alone packages m s works e)

-- a step of the world
node_alone : (w : MessageWorldOf) (s : MessageStep) (works : Bool) (n : Option NodeOf) → node_calls_bank s n ≡ false
    → step_at w (device_of s) (pair_step works s) n ≡ step_at w (device_of s) (pair_step true s) n
node_alone w s works None e = refl
node_alone w s works (Some n) e = ap (option_map (went_on w (device_of s))) (pair_alone w.packages n.pair s works e)

named_alone : (w : MessageWorldOf) (s : MessageStep) (works restarts : Bool) → message_step_calls_bank w s ≡ false
    → message_world_after w (if restarts then WorldStepOf.RestartAgent else WorldStepOf.OfPair (device_of s) (pair_step works s))
    ≡ message_world_after w (if restarts then WorldStepOf.RestartAgent else WorldStepOf.OfPair (device_of s) (pair_step true s))
unfolding message_world_after
named_alone w s works true e = refl
named_alone w s works false e = node_alone w s works (node_at w.nodes (device_of s)) e

world_alone : (w : MessageWorldOf) (s : MessageStep) (works : Bool) → message_step_calls_bank w s ≡ false → message_world_after w (named_step w.agent works s) ≡ message_world_after w (named_step w.agent true s)
world_alone w s works e = named_alone w s works (restarts_agent w.agent s) e

-- A STEP THAT CALLS THE BANK

abbrev reply_or : Option AnswerOf → AnswerOf
reply_or None = AnswerOf.TransferComplete
reply_or (Some a) = a

abbrev reply_in : Option CellContentOf → AnswerOf
reply_in None = AnswerOf.TransferComplete
reply_in (Some h) = reply_or h.reply

-- the answer in the cell of what the agent asks
abbrev answer_given : Option Stepped → AnswerOf
answer_given None = AnswerOf.TransferComplete
answer_given (Some t) = reply_in t.after.down

-- the work of the device failed
abbrev work_failed : Option Stepped → Bool
work_failed None = false
work_failed (Some t) = has_failed t.after.device.phase

taken_depends : (m : PairOf) (h : CellContentOf) (quiet blocked : Bool)
    → is_some (if blocked then None else Some (down_taken m h (device_take m.device h.command quiet true))) ≡ true
    → DifferIf (command_calls_bank m.device h.command quiet)
    (if blocked then None else Some (down_taken m h (device_take m.device h.command quiet false)))
    (if blocked then None else Some (down_taken m h (device_take m.device h.command quiet true)))
unfolding down_taken
taken_depends m h quiet true e = absurd (cc)
taken_depends m h quiet false e =
    differ_through (λ t. t.answer) (λ t. Some (down_taken m h t)) answer_given (command_calls_bank m.device h.command quiet)
    (device_take m.device h.command quiet false) (device_take m.device h.command quiet true) refl refl (commands_differ m.device h.command quiet)

held_depends : (m : PairOf) (h : CellContentOf) (reply : Option AnswerOf) (quiet : Bool) → is_some (take_down_at m h reply quiet true) ≡ true
    → DifferIf (command_calls_bank m.device h.command quiet) (take_down_at m h reply quiet false) (take_down_at m h reply quiet true)
held_depends m h None quiet e = taken_depends m h quiet (quiet && not (is_empty m.up)) e
held_depends m h (Some a) quiet e = absurd (cc)

take_depends : (m : PairOf) (cell : Option CellContentOf) (quiet : Bool) → is_some (take_down m cell quiet true) ≡ true
    → DifferIf (held_calls_bank m.device cell quiet) (take_down m cell quiet false) (take_down m cell quiet true)
take_depends m None quiet e = absurd (cc)
take_depends m (Some h) quiet e = held_depends m h h.reply quiet e

learn_depends : (m : PairOf) (a : Option AnswerOf) → is_some (learn_up m a true) ≡ true → DifferIf (brought_calls_bank m.device a) (learn_up m a false) (learn_up m a true)
learn_depends m None e = absurd (cc)
learn_depends m (Some a) e =
    differ_through (λ l. has_failed l.after.phase) (λ l. Some (step_without_entries (record m { device = l.after; up = None }))) work_failed (answer_calls_bank m.device (Some a))
    (learn_at m.device m.device.phase (Some a) false) (learn_at m.device m.device.phase (Some a) true) refl refl (answers_differ m.device (Some a))

failed_alike : (m : PairOf) (o : Option VerdictEffect) → work_failed (step_after_verdict m o) ≡ effect_failed o
failed_alike m None = refl
failed_alike m (Some j) = refl

verdict_depends : (m : PairOf) (verdict : Verdict)
    → DifferIf (verdict_calls_bank m.device verdict) (step_after_verdict m (device_verdict m.device verdict false)) (step_after_verdict m (device_verdict m.device verdict true))
verdict_depends m verdict =
    differ_through effect_failed (step_after_verdict m) work_failed (verdict_calls_bank m.device verdict)
    (device_verdict m.device verdict false) (device_verdict m.device verdict true) (failed_alike m _) (failed_alike m _) (verdicts_differ m.device verdict)

pub pair_steps_depend : PairStepsDependOnCalls
pair_steps_depend packages m (steps.Take device ways.Down quiet) e = take_depends m m.down quiet e
pair_steps_depend packages m (steps.Take device ways.Up quiet) e = refl
pair_steps_depend packages m (steps.Learn device ways.Up) e = learn_depends m (waiting_answer m.up) e
pair_steps_depend packages m (steps.Learn device ways.Down) e = refl
pair_steps_depend packages m (steps.Verdict device verdict) e = verdict_depends m verdict
pair_steps_depend packages m (steps.Ask device ways.Down) e = refl
pair_steps_depend packages m (steps.Ask device ways.Up) e = refl
pair_steps_depend packages m s e = refl

-- A step with a flag for its call: if no bank is called, the flag is true.
said_so : {R : Type 0} (f : Bool → R) (r : R) (works called : Bool) → (called ≡ false → f works ≡ f true) → f works ≡ r → f (works || not called) ≡ r
said_so f r true called alone e = e
said_so f r false true alone e = e
said_so f r false false alone e = sym (alone refl) ∙ e

pub works_if_uncalled : (w v : MessageWorldOf) (s : MessageStep) (works : Bool) → message_world_after w (named_step w.agent works s) ≡ Some v
    → message_world_after w (named_step w.agent (works || not (message_step_calls_bank w s)) s) ≡ Some v
works_if_uncalled w v s works e = said_so (λ b. message_world_after w (named_step w.agent b s)) (Some v) works (message_step_calls_bank w s) (world_alone w s works) e

pub called_if_fails : (works called : Bool) → (works || not called) ≡ false → called ≡ true
called_if_fails true called e = absurd (cc)
called_if_fails false true e = refl
called_if_fails false false e = absurd (cc)
