-- A device and its session over whole messages: each of the two ways has one cell, which is empty,
-- or has a command, or a command with its answer. There are no packets, no tags and no time.
use Rattle.std.specs.Prelude.{ℕ, ◌&&◌, not, Bool, true, false, nat_le, nat_lt, if◌then◌else◌, List, [], ◌∷◌, ◌++◌, length, map, Option, Some, None, Ok}
use Rattle.std.specs.Option.{option_map}
use Rattle.fw_package.specs.Package.{PackageText}
use Rattle.fwup_wire.specs.Values.{AnswerOf, CommandOf}
use Rattle.fd_core.specs.Commands.{CommandEffect, device_take}
use Rattle.fd_core.specs.Images.{KeyedImage}
use Rattle.fd_core.specs.States.{DeviceState}
use Rattle.fd_core.specs.Steps.{VerdictEffect, device_restart, device_timeout, device_verdict, times_out as device_times_out}
use Rattle.fd_core.specs.Wishes.{device_learn, device_wish}
use Rattle.fd_core.specs.declared.states.Verdict.{Verdict}
use Rattle.ua_core.specs.Calls.{agent_activated, agent_cancelled, agent_restart, agent_silent, agent_started, agent_timeout, is_free, times_out as session_times_out}
use Rattle.ua_core.specs.Learn.{agent_learn}
use Rattle.ua_core.specs.Serve.{agent_after, agent_answer, recorded_by}
use Rattle.ua_core.specs.Session.{SessionOf}
use Rattle.ua_core.specs.Wish.{agent_wish}
use Rattle.fw_message.specs.Headline.{EntryOf}
use Rattle.ua_core.specs.Lent.{package_at}
use Rattle.fwup_wire.specs.Same.{same_command}
use Rattle.fw_message.specs.declared.side.Side.{Side}
use Rattle.fw_message.specs.declared.side.Side.TheVariants as sides
use Rattle.fw_message.specs.declared.side.Way.{Way}
use Rattle.fw_message.specs.declared.side.Way.TheVariants as ways

-- the content of a cell: a command, its answer after it was taken, and whether its asker still
-- waits for it
pub record CellContentOf : Type 0 where
  pub command : CommandOf
  pub reply : Option AnswerOf
  pub live : Bool

-- a device, its session, and the cells of the agent's and of the device's commands
pub record PairOf : Type 0 where
  pub device : DeviceState
  pub session : SessionOf
  pub down : Option CellContentOf
  pub up : Option CellContentOf

-- a pair after a step, and the entries that the step adds to the history
pub record Stepped : Type 0 where
  pub after : PairOf
  pub noted : List EntryOf

abbrev pub has_entry : List EntryOf → Bool
has_entry [] = false
has_entry (e ∷ es) = true

-- whether a step adds to the history, if it may be taken
abbrev pub adds_entries : Option Stepped → Bool
adds_entries None = false
adds_entries (Some t) = has_entry t.noted

-- A step of a pair. `quiet` is passed to a device in a Take: whether it has no command of its own
-- in progress. `works` says whether the one call of its bank that the step makes succeeds.
pub data StepOf : Type 0 where
  AskDown : StepOf
  AskUp : StepOf
  TakeDown : (quiet works : Bool) → StepOf
  TakeUp : StepOf
  LearnDown : StepOf
  LearnUp : (works : Bool) → StepOf
  GiveUp : (way : Way) → StepOf
  Drop : (way : Way) → StepOf
  Start : (number : ℕ) → StepOf
  Cancel : StepOf
  Activate : StepOf
  Judge : (verdict : Verdict) (works : Bool) → StepOf
  TimeOut : (side : Side) → StepOf
  Restart : (side : Side) → StepOf

-- the session's pending command, from the package of its number
abbrev pub down_wish : List PackageText → SessionOf → Option CommandOf
down_wish packages s = agent_wish (package_at packages s.number) s

abbrev pub is_wished : CommandOf → Option CommandOf → Bool
is_wished c None = false
is_wished c (Some d) = same_command c d

-- a cell, closed unless its command is the pending command
abbrev pub closed_unless : Option CommandOf → Option CellContentOf → Option CellContentOf
closed_unless wish None = None
closed_unless wish (Some h) = Some (record h { live = h.live && is_wished h.command wish })

-- No asker waits for a command that is no longer pending.
unfoldable pub unwished_closed : List PackageText → PairOf → PairOf
unwished_closed packages m =
    record m {
      down = closed_unless (down_wish packages m.session) m.down;
      up = closed_unless (device_wish m.device) m.up;
    }

abbrev pub cell_after_close : Option CellContentOf → Option CellContentOf
cell_after_close None = None
cell_after_close (Some h) = Some (record h { live = false })

abbrev pub is_empty : Option CellContentOf → Bool
is_empty None = true
is_empty (Some h) = false

-- the step changes the pair and adds nothing to the history
abbrev pub step_without_entries : PairOf → Stepped
step_without_entries m = record { after = m; noted = [] }

-- Ask: the asker's pending command is put into its empty cell.
abbrev pub fresh_cell : CommandOf → CellContentOf
fresh_cell c = record { command = c; reply = None; live = true }

abbrev pub cell_after_ask : Option CellContentOf → Option CommandOf → Option (Option CellContentOf)
cell_after_ask None (Some c) = Some (Some (fresh_cell c))
cell_after_ask cell wish = None

abbrev pub with_down : PairOf → Option CellContentOf → PairOf
with_down m cell = record m { down = cell }

abbrev pub with_up : PairOf → Option CellContentOf → PairOf
with_up m cell = record m { up = cell }

abbrev pub put_down : PairOf → Option (Option CellContentOf) → Option Stepped
put_down m None = None
put_down m (Some cell) = Some (step_without_entries (with_down m cell))

abbrev pub put_up : PairOf → Option (Option CellContentOf) → Option Stepped
put_up m None = None
put_up m (Some cell) = Some (step_without_entries (with_up m cell))

-- Take: the command is answered. A device may take it with `quiet` only if its own cell is empty.
abbrev pub cell_after_answer : CellContentOf → AnswerOf → Option CellContentOf
cell_after_answer h a = Some (record h { reply = Some a })

unfoldable pub down_taken : PairOf → CellContentOf → CommandEffect → Stepped
down_taken m h t = record { after = record m { device = t.after; down = cell_after_answer h t.answer }; noted = map EntryOf.Activated t.activated }

unfoldable pub up_taken : List PackageText → PairOf → CellContentOf → Stepped
up_taken packages m h =
    record {
      after = record m {
        session = agent_after (package_at packages m.session.number) m.session h.command;
        up = cell_after_answer h (agent_answer (package_at packages m.session.number) m.session h.command);
      };
      noted = map EntryOf.Recording (recorded_by (package_at packages m.session.number) m.session h.command);
    }

-- the images that the device activates in a Take
abbrev pub activated_in : DeviceState → Option CellContentOf → Bool → Bool → List KeyedImage
activated_in v None quiet works = []
activated_in v (Some h) quiet works = (device_take v h.command quiet works).activated

abbrev pub activated_down : PairOf → Bool → Bool → List KeyedImage
activated_down m quiet works = activated_in m.device m.down quiet works

abbrev pub take_down_at : PairOf → CellContentOf → Option AnswerOf → Bool → Bool → Option Stepped
take_down_at m h None quiet works =
    if quiet && not (is_empty m.up) then None else Some (down_taken m h (device_take m.device h.command quiet works))
take_down_at m h (Some a) quiet works = None

abbrev pub take_down : PairOf → Option CellContentOf → Bool → Bool → Option Stepped
take_down m None quiet works = None
take_down m (Some h) quiet works = take_down_at m h h.reply quiet works

abbrev pub take_up_at : List PackageText → PairOf → CellContentOf → Option AnswerOf → Option Stepped
take_up_at packages m h None = Some (up_taken packages m h)
take_up_at packages m h (Some a) = None

abbrev pub take_up : List PackageText → PairOf → Option CellContentOf → Option Stepped
take_up packages m None = None
take_up packages m (Some h) = take_up_at packages m h h.reply

-- Learn: the answer in a cell whose asker waits for it
abbrev pub waiting_answer : Option CellContentOf → Option AnswerOf
waiting_answer None = None
waiting_answer (Some h) = if h.live then h.reply else None

abbrev pub learn_down : List PackageText → PairOf → Option AnswerOf → Option Stepped
learn_down packages m None = None
learn_down packages m (Some a) =
    Some (step_without_entries (record m { session = agent_learn (package_at packages m.session.number) m.session (Ok a); down = None }))

abbrev pub learn_up : PairOf → Option AnswerOf → Bool → Option Stepped
learn_up m None works = None
learn_up m (Some a) works = Some (step_without_entries (record m { device = device_learn m.device (Some a) works; up = None }))

-- GiveUp: an asker that waits no longer does. A session handles that there was no answer.
abbrev pub cell_after_give_up : Option CellContentOf → Option (Option CellContentOf)
cell_after_give_up None = None
cell_after_give_up (Some h) = if h.live then Some (Some (record h { live = false })) else None

abbrev pub step_after_give_up : PairOf → Option (Option CellContentOf) → Option Stepped
step_after_give_up m None = None
step_after_give_up m (Some cell) = Some (step_without_entries (record m { session = agent_silent m.session; down = cell }))

-- Drop: a cell that nobody waits for is emptied.
abbrev pub dropped_cell : Option CellContentOf → Option (Option CellContentOf)
dropped_cell None = None
dropped_cell (Some h) = if h.live then None else Some None

-- the operator's calls
abbrev pub with_session : PairOf → SessionOf → PairOf
with_session m s = record m { session = s }

abbrev pub may_start : List PackageText → SessionOf → ℕ → Bool
may_start packages s number = is_free s && (nat_lt 0 number && nat_le number (length packages))

abbrev pub activate_with : PairOf → Option SessionOf → Option Stepped
activate_with m None = None
activate_with m (Some s) = Some (step_without_entries (with_session m s))

abbrev pub step_after_verdict : PairOf → Option VerdictEffect → Option Stepped
step_after_verdict m None = None
step_after_verdict m (Some j) = Some (record { after = record m { device = j.after }; noted = map EntryOf.Applied j.applied })

-- A step as the tables allow it, without closing the commands that are no longer pending.
abbrev pub step_of : List PackageText → PairOf → StepOf → Option Stepped
step_of packages m StepOf.AskDown = put_down m (cell_after_ask m.down (down_wish packages m.session))
step_of packages m StepOf.AskUp = put_up m (cell_after_ask m.up (device_wish m.device))
step_of packages m (StepOf.TakeDown quiet works) = take_down m m.down quiet works
step_of packages m StepOf.TakeUp = take_up packages m m.up
step_of packages m StepOf.LearnDown = learn_down packages m (waiting_answer m.down)
step_of packages m (StepOf.LearnUp works) = learn_up m (waiting_answer m.up) works
step_of packages m (StepOf.GiveUp ways.Down) = step_after_give_up m (cell_after_give_up m.down)
step_of packages m (StepOf.GiveUp ways.Up) = put_up m (cell_after_give_up m.up)
step_of packages m (StepOf.Drop ways.Down) = put_down m (dropped_cell m.down)
step_of packages m (StepOf.Drop ways.Up) = put_up m (dropped_cell m.up)
step_of packages m (StepOf.Start number) =
    if may_start packages m.session number then Some (step_without_entries (with_session m (agent_started m.session number))) else None
step_of packages m StepOf.Cancel = Some (step_without_entries (with_session m (agent_cancelled m.session)))
step_of packages m StepOf.Activate = activate_with m (agent_activated m.session)
step_of packages m (StepOf.Judge verdict works) = step_after_verdict m (device_verdict m.device verdict works)
step_of packages m (StepOf.TimeOut sides.Agent) =
    if session_times_out m.session.stage then Some (step_without_entries (with_session m (agent_timeout m.session))) else None
step_of packages m (StepOf.TimeOut sides.Device) =
    if device_times_out m.device.phase then Some (step_without_entries (record m { device = device_timeout m.device })) else None
step_of packages m (StepOf.Restart sides.Agent) =
    Some (step_without_entries (record m { session = agent_restart m.session; down = cell_after_close m.down }))
step_of packages m (StepOf.Restart sides.Device) =
    Some (step_without_entries (record m { device = device_restart m.device; up = cell_after_close m.up }))

abbrev pub closing : List PackageText → Stepped → Stepped
closing packages t = record t { after = unwished_closed packages t.after }

-- A step of a pair, if it may be taken.
unfoldable pub pair_after : List PackageText → PairOf → StepOf → Option Stepped
pair_after packages m s = option_map (closing packages) (step_of packages m s)

-- a pair and its history so far
pub record PairRun : Type 0 where
  pub pair : PairOf
  pub entries : List EntryOf

-- a history with more appended
abbrev pub history_with : List EntryOf → List EntryOf → List EntryOf
history_with es [] = es
history_with es (x ∷ xs) = history_with (es ++ x ∷ []) xs

abbrev pub ran_on : PairRun → Stepped → PairRun
ran_on r t = record { pair = t.after; entries = history_with r.entries t.noted }

abbrev pub run_after : List PackageText → PairRun → StepOf → Option PairRun
run_after packages r s = option_map (ran_on r) (pair_after packages r.pair s)

-- A run of messages: each step is taken in the pair after the step before it.
abbrev pub message_along : List PackageText → Option PairRun → List StepOf → Option PairRun
message_along packages None steps = None
message_along packages (Some r) [] = Some r
message_along packages (Some r) (s ∷ steps) = message_along packages (run_after packages r s) steps
