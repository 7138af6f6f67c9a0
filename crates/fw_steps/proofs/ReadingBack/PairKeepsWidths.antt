-- A pair whose values fit the fields of messages still does after any step.
use Rattle.std.proofs.Common.{◌≡◌, ◌&&◌, not, ℕ, Bool, true, false, if◌then◌else◌, zero, suc, List, [], ◌∷◌, slice_index_or, Option, Some, None, IfSome, Ok, Result, refl}
use Rattle.std.specs.Option.{option_map}
use Rattle.fw_package.specs.Package.{PackageText}
use Rattle.fwup_wire.specs.Commands.{HasCommandWidths, CommandRoundTrips}
use Rattle.fwup_wire.specs.Values.{AnswerOf, CommandOf}
use Rattle.fd_core.specs.Commands.{device_take}
use Rattle.fd_core.specs.Steps.{VerdictEffect, device_verdict, judged_or, times_out as device_times_out}
use Rattle.fd_core.specs.Wishes.{device_wish}
use Rattle.ua_core.specs.Calls.{activated_stage, agent_activated, agent_cancelled, agent_started, agent_timeout, may_cancel, silent_stage, timeout_stage, times_out as session_times_out}
use Rattle.ua_core.specs.Laws.{LearnsInPlan, ServesInPlan, IsStageInPlan}
use Rattle.ua_core.specs.Learn.{SessionLearnRow, agent_learn, learn_by, learn_row}
use Rattle.ua_core.specs.Serve.{ServeRow, after_by, agent_after, serve_row}
use Rattle.fwup_wire.specs.declared.answer.Malformed.{Malformed}
use Rattle.ua_core.specs.Lent.{no_package, package_at}
use Rattle.ua_core.specs.Session.{SessionOf, Stage, at_stage}
use Rattle.ua_core.specs.declared.state.Cause.TheVariants as causes
use Rattle.fw_message.specs.Pairs.{CellContentOf, PairOf, StepOf, Stepped, activate_with, cell_after_ask, waiting_answer, cell_after_close, closed_unless, closing, down_taken, down_wish, dropped_cell, cell_after_give_up, is_empty, step_after_verdict, learn_down, learn_up, may_start, pair_after, put_down, put_up, step_without_entries, step_after_give_up, step_of, take_down, take_down_at, take_up, take_up_at, unwished_closed, up_taken, with_session}
use Rattle.fw_message.specs.declared.side.Side.TheVariants as sides
use Rattle.fw_message.specs.declared.side.Way.TheVariants as ways
use Rattle.fw_steps.specs.Widths.{HasDeviceWidths, HasPackageWidths, HavePackageWidths, HasPairWidths, SessionIsInPlan, HasSteppedWidths}
use Rattle.fw_steps.proofs.ReadingBack.DeviceKeepsWidths.{judge_speaks, learn_speaks, restart_speaks, take_speaks, timeout_speaks}
use Rattle.fw_steps.proofs.ReadingBack.SessionRoundTrips.{session_spoken}

-- PACKAGES

indexed : (packages : List PackageText) (n : ℕ) → HavePackageWidths packages → HasPackageWidths (slice_index_or packages n no_package)
indexed [] n h = tt
indexed (p ∷ ps) zero h = h.0
indexed (p ∷ ps) (suc n) h = indexed ps n h.1

pub package_fits : (packages : List PackageText) (n : ℕ) → HavePackageWidths packages → HasPackageWidths (package_at packages n)
package_fits packages zero h = tt
package_fits packages (suc n) h = indexed packages n h

pub wish_spoken : (packages : List PackageText) (s : SessionOf) → HavePackageWidths packages → SessionIsInPlan packages s → IfSome (down_wish packages s) CommandRoundTrips
wish_spoken packages s h k = session_spoken (package_at packages s.number) s (package_fits packages s.number h) k

-- CELLS

abbrev CellFits : Option CellContentOf → Type 0
CellFits cell = IfSome cell (λ h. HasCommandWidths h.command)

unless_speaks : (wish : Option CommandOf) (cell : Option CellContentOf) → CellFits cell → CellFits (closed_unless wish cell)
unless_speaks wish None h = h
unless_speaks wish (Some c) h = h

closed_speaks : (cell : Option CellContentOf) → CellFits cell → CellFits (cell_after_close cell)
closed_speaks None h = h
closed_speaks (Some c) h = h

asked_speaks : (cell : Option CellContentOf) (wish : Option CommandOf) → IfSome wish CommandRoundTrips → IfSome (cell_after_ask cell wish) CellFits
asked_speaks None (Some c) h = h.widths
asked_speaks None None h = tt
asked_speaks (Some c) wish h = tt

given_speaks : (live : Bool) (c : CellContentOf) → HasCommandWidths c.command → IfSome (if live then Some (Some (record c { live = false })) else None) CellFits
given_speaks true c h = h
given_speaks false c h = tt

up_speaks : (cell : Option CellContentOf) → CellFits cell → IfSome (cell_after_give_up cell) CellFits
up_speaks None h = tt
up_speaks (Some c) h = given_speaks c.live c h

dropped_if : (live : Bool) → IfSome (if live then None else Some None) CellFits
dropped_if true = tt
dropped_if false = tt

dropped_speaks : (cell : Option CellContentOf) → IfSome (dropped_cell cell) CellFits
dropped_speaks None = tt
dropped_speaks (Some c) = dropped_if c.live

-- SESSIONS

pub silent_in : (p : PackageText) (g : Stage) → IsStageInPlan p (silent_stage g)
silent_in p Stage.Cancelling = tt
silent_in p g = tt

ended_in : (p : PackageText) (b : Bool) (g : Stage) → IsStageInPlan p g → IsStageInPlan p (if b then Stage.Failed causes.TimeOut else g)
ended_in p true g h = tt
ended_in p false g h = h

pub timeout_in : (p : PackageText) (g : Stage) → IsStageInPlan p g → IsStageInPlan p (timeout_stage g)
timeout_in p Stage.Cancelling h = tt
timeout_in p g h = ended_in p (session_times_out g) g h

cancelled_if : (packages : List PackageText) (b : Bool) (s : SessionOf) → SessionIsInPlan packages s → SessionIsInPlan packages (if b then at_stage s Stage.Cancelling else s)
cancelled_if packages true s h = tt
cancelled_if packages false s h = h

activated_in : (p : PackageText) (g : Stage) → IsStageInPlan p g → IfSome (activated_stage g) (IsStageInPlan p)
activated_in p (Stage.AllApplied j) h = h
activated_in p g h = tt

activated_at : (packages : List PackageText) (s : SessionOf) (o : Option Stage) → IfSome o (IsStageInPlan (package_at packages s.number)) → IfSome (option_map (at_stage s) o) (SessionIsInPlan packages)
activated_at packages s None h = tt
activated_at packages s (Some g) h = h

-- a session keeps its package's number
served_number : (s : SessionOf) (row : ServeRow) → (after_by s row).number ≡ s.number
served_number s (ServeRow.Move g a) = refl
served_number s (ServeRow.Record t) = refl
served_number s (ServeRow.Say a) = refl
served_number s (ServeRow.Give bytes) = refl

learnt_number : (s : SessionOf) (row : SessionLearnRow) → (learn_by s row).number ≡ s.number
learnt_number s SessionLearnRow.Stay = refl
learnt_number s (SessionLearnRow.Go g) = refl

number_stays : ServesInPlan → (packages : List PackageText) (s : SessionOf) (c : CommandOf) → SessionIsInPlan packages s → SessionIsInPlan packages (agent_after (package_at packages s.number) s c)
number_stays serves packages s c h =
    let p = package_at packages s.number in
    rw (served_number s (serve_row s.unit p s.stage c)) (serves p s c h)

learnt_stays : LearnsInPlan → (packages : List PackageText) (s : SessionOf) (a : Result AnswerOf Malformed) → SessionIsInPlan packages s → SessionIsInPlan packages (agent_learn (package_at packages s.number) s a)
learnt_stays learns packages s a h =
    let p = package_at packages s.number in
    rw (learnt_number s (learn_row p s.stage a)) (learns p s a h)

-- STEPS

abbrev Goes : List PackageText → Option Stepped → Type 0
Goes packages o = IfSome o (HasSteppedWidths packages)

put_down_speaks : (packages : List PackageText) (m : PairOf) (o : Option (Option CellContentOf)) → HasPairWidths packages m → IfSome o CellFits → Goes packages (put_down m o)
put_down_speaks packages m None h k = tt
put_down_speaks packages m (Some cell) h k = record { device = h.device; session = h.session; down = k }

put_up_speaks : (packages : List PackageText) (m : PairOf) (o : Option (Option CellContentOf)) → HasPairWidths packages m → Goes packages (put_up m o)
put_up_speaks packages m None h = tt
put_up_speaks packages m (Some cell) h = record { device = h.device; session = h.session; down = h.down }

silenced_speaks : (packages : List PackageText) (m : PairOf) (o : Option (Option CellContentOf)) → HasPairWidths packages m → IfSome o CellFits → Goes packages (step_after_give_up m o)
silenced_speaks packages m None h k = tt
silenced_speaks packages m (Some cell) h k = record { device = h.device; session = silent_in (package_at packages m.session.number) m.session.stage; down = k }

if_taken : (packages : List PackageText) (b : Bool) (t : Stepped) → HasSteppedWidths packages t → Goes packages (if b then None else Some t)
if_taken packages true t h = tt
if_taken packages false t h = h

if_may : (packages : List PackageText) (b : Bool) (t : Stepped) → HasSteppedWidths packages t → Goes packages (if b then Some t else None)
if_may packages true t h = h
if_may packages false t h = tt

down_taken_speaks : (packages : List PackageText) (m : PairOf) (c : CellContentOf) (quiet works : Bool) → HasPairWidths packages m → HasCommandWidths c.command → HasSteppedWidths packages (down_taken m c (device_take m.device c.command quiet works))
unfolding down_taken
down_taken_speaks packages m c quiet works h k = record { device = take_speaks m.device c.command quiet works k h.device; session = h.session; down = k }

take_down_speaks : (packages : List PackageText) (m : PairOf) (cell : Option CellContentOf) (quiet works : Bool) → HasPairWidths packages m → CellFits cell → Goes packages (take_down m cell quiet works)
take_down_speaks packages m None quiet works h k = tt
take_down_speaks packages m (Some c) quiet works h k = at_reply c.reply
  where
    at_reply : (reply : Option AnswerOf) → Goes packages (take_down_at m c reply quiet works)
    at_reply None = if_taken packages (quiet && not (is_empty m.up)) _ (down_taken_speaks packages m c quiet works h k)
    at_reply (Some a) = tt

up_taken_speaks : ServesInPlan → (packages : List PackageText) (m : PairOf) (c : CellContentOf) → HasPairWidths packages m → HasSteppedWidths packages (up_taken packages m c)
unfolding up_taken
up_taken_speaks serves packages m c h = record { device = h.device; session = number_stays serves packages m.session c.command h.session; down = h.down }

take_up_speaks : ServesInPlan → (packages : List PackageText) (m : PairOf) (cell : Option CellContentOf) → HasPairWidths packages m → Goes packages (take_up packages m cell)
take_up_speaks serves packages m None h = tt
take_up_speaks serves packages m (Some c) h = at_reply c.reply
  where
    at_reply : (reply : Option AnswerOf) → Goes packages (take_up_at packages m c reply)
    at_reply None = up_taken_speaks serves packages m c h
    at_reply (Some a) = tt

learn_down_speaks : LearnsInPlan → (packages : List PackageText) (m : PairOf) (o : Option AnswerOf) → HasPairWidths packages m → Goes packages (learn_down packages m o)
learn_down_speaks learns packages m None h = tt
learn_down_speaks learns packages m (Some a) h = record { device = h.device; session = learnt_stays learns packages m.session (Ok a) h.session; down = tt }

learn_up_speaks : (packages : List PackageText) (m : PairOf) (o : Option AnswerOf) (works : Bool) → HasPairWidths packages m → Goes packages (learn_up m o works)
learn_up_speaks packages m None works h = tt
learn_up_speaks packages m (Some a) works h = record { device = learn_speaks m.device (Some a) works h.device; session = h.session; down = h.down }

with_session_speaks : (packages : List PackageText) (m : PairOf) (s : SessionOf) → HasPairWidths packages m → SessionIsInPlan packages s → HasSteppedWidths packages (step_without_entries (with_session m s))
with_session_speaks packages m s h k = record { device = h.device; session = k; down = h.down }

activate_speaks : (packages : List PackageText) (m : PairOf) (o : Option SessionOf) → HasPairWidths packages m → IfSome o (SessionIsInPlan packages) → Goes packages (activate_with m o)
activate_speaks packages m None h k = tt
activate_speaks packages m (Some s) h k = with_session_speaks packages m s h k

judged_speaks : (packages : List PackageText) (m : PairOf) (o : Option VerdictEffect) → HasPairWidths packages m → HasDeviceWidths (judged_or m.device o) → Goes packages (step_after_verdict m o)
judged_speaks packages m None h k = tt
judged_speaks packages m (Some j) h k = record { device = k; session = h.session; down = h.down }

step_speaks : ServesInPlan → LearnsInPlan → (packages : List PackageText) (m : PairOf) (s : StepOf) → HavePackageWidths packages → HasPairWidths packages m → Goes packages (step_of packages m s)
step_speaks serves learns packages m StepOf.AskDown ps h = put_down_speaks packages m (cell_after_ask m.down (down_wish packages m.session)) h (asked_speaks m.down (down_wish packages m.session) (wish_spoken packages m.session ps h.session))
step_speaks serves learns packages m StepOf.AskUp ps h = put_up_speaks packages m (cell_after_ask m.up (device_wish m.device)) h
step_speaks serves learns packages m (StepOf.TakeDown quiet works) ps h = take_down_speaks packages m m.down quiet works h h.down
step_speaks serves learns packages m StepOf.TakeUp ps h = take_up_speaks serves packages m m.up h
step_speaks serves learns packages m StepOf.LearnDown ps h = learn_down_speaks learns packages m (waiting_answer m.down) h
step_speaks serves learns packages m (StepOf.LearnUp works) ps h = learn_up_speaks packages m (waiting_answer m.up) works h
step_speaks serves learns packages m (StepOf.GiveUp ways.Down) ps h = silenced_speaks packages m (cell_after_give_up m.down) h (up_speaks m.down h.down)
step_speaks serves learns packages m (StepOf.GiveUp ways.Up) ps h = put_up_speaks packages m (cell_after_give_up m.up) h
step_speaks serves learns packages m (StepOf.Drop ways.Down) ps h = put_down_speaks packages m (dropped_cell m.down) h (dropped_speaks m.down)
step_speaks serves learns packages m (StepOf.Drop ways.Up) ps h = put_up_speaks packages m (dropped_cell m.up) h
step_speaks serves learns packages m (StepOf.Start number) ps h = if_may packages (may_start packages m.session number) _ (with_session_speaks packages m (agent_started m.session number) h tt)
step_speaks serves learns packages m StepOf.Cancel ps h = with_session_speaks packages m (agent_cancelled m.session) h (cancelled_if packages (may_cancel m.session.stage) m.session h.session)
step_speaks serves learns packages m StepOf.Activate ps h =
    activate_speaks packages m (agent_activated m.session) h
    (activated_at packages m.session (activated_stage m.session.stage) (activated_in (package_at packages m.session.number) m.session.stage h.session))
step_speaks serves learns packages m (StepOf.Judge verdict works) ps h = judged_speaks packages m (device_verdict m.device verdict works) h (judge_speaks m.device verdict works h.device)
step_speaks serves learns packages m (StepOf.TimeOut sides.Agent) ps h =
    if_may packages (session_times_out m.session.stage) _ (with_session_speaks packages m (agent_timeout m.session) h (timeout_in (package_at packages m.session.number) m.session.stage h.session))
step_speaks serves learns packages m (StepOf.TimeOut sides.Device) ps h =
    if_may packages (device_times_out m.device.phase) _ (record { device = timeout_speaks m.device h.device; session = h.session; down = h.down })
step_speaks serves learns packages m (StepOf.Restart sides.Agent) ps h = record { device = h.device; session = tt; down = closed_speaks m.down h.down }
step_speaks serves learns packages m (StepOf.Restart sides.Device) ps h = record { device = restart_speaks m.device h.device; session = h.session; down = h.down }

-- a command that is no longer pending is closed
unwished_speaks : (packages : List PackageText) (m : PairOf) → HasPairWidths packages m → HasPairWidths packages (unwished_closed packages m)
unfolding unwished_closed
unwished_speaks packages m h = record { device = h.device; session = h.session; down = unless_speaks (down_wish packages m.session) m.down h.down }

closing_speaks : (packages : List PackageText) (o : Option Stepped) → Goes packages o → Goes packages (option_map (closing packages) o)
closing_speaks packages None h = tt
closing_speaks packages (Some t) h = unwished_speaks packages t.after h

pub pair_speaks : ServesInPlan → LearnsInPlan → (packages : List PackageText) (m : PairOf) (s : StepOf) → HavePackageWidths packages → HasPairWidths packages m → IfSome (pair_after packages m s) (HasSteppedWidths packages)
unfolding pair_after
pair_speaks serves learns packages m s ps h = closing_speaks packages (step_of packages m s) (step_speaks serves learns packages m s ps h)
