-- The steps of the agent's half, as steps of its pair over whole messages.
use Rattle.mctp_wire.specs.declared.unit.Unit.{«Unit»}
use Rattle.std.proofs.Common.{◌≡◌, ℕ, ◌+◌, ◌==◌, ◌&&◌, not, Bool, true, false, if◌then◌else◌, List, [], length, map, Option, Some, None, Ok, refl, sym, subst}
use Rattle.fw_package.specs.Package.{PackageText}
use Rattle.fwup_wire.specs.Values.{AnswerOf, CommandOf}
use Rattle.fwup_wire.proofs.SameCommands.{same_self}
use Rattle.fd_core.specs.States.{DeviceState}
use Rattle.fd_core.specs.Wishes.{device_wish}
use Rattle.ua_core.specs.Calls.{agent_restart, agent_silent, agent_timeout, idle_ticked, times_out}
use Rattle.ua_core.specs.Serve.{agent_answer, recorded_by}
use Rattle.ua_core.specs.Session.{SessionOf, Stage, TimedOf}
use Rattle.ua_core.specs.Wish.{entry_wish, offer_wish, request_wish, stage_wish}
use Rattle.fw_message.specs.Headline.{EntryOf}
use Rattle.fw_message.specs.Names.{HasName}
use Rattle.fw_message.specs.Pairs.{CellContentOf, PairOf, StepOf, cell_after_close, closed_unless, down_wish, fresh_cell, is_empty, pair_after, step_without_entries, step_of, unwished_closed, up_taken}
use Rattle.fw_message.specs.declared.side.Side.TheVariants as sides
use Rattle.fw_message.specs.declared.side.Way.TheVariants as ways
use Rattle.fw_node.specs.Cores.{package_of, session_core}
use Rattle.fw_steps.specs.Joins.{IsCommandFor, IsWishedIn}
use Rattle.fw_steps.proofs.LinksAreMessages.Cells.{closed_stays, stays, told_for}
use Rattle.fw_steps.proofs.LinksAreMessages.Sides.{closed_to, PairLeads, Sided, closes, no_step}

-- the pair of the agent's half and this device
abbrev pub agent_place : DeviceState → TimedOf → Option CellContentOf → Option CellContentOf → PairOf
agent_place d x own other = record { device = d; session = x.session; down = own; up = other }

-- the record that the session makes of a command
abbrev pub agent_notes : List PackageText → TimedOf → CommandOf → Bool → Bool → List EntryOf
agent_notes packages x c quiet works = map EntryOf.Recording (recorded_by (package_of packages x.session) x.session c)

-- the pair after closing, if the device's own cell stays
closed_so : (packages : List PackageText) (d : DeviceState) (s : SessionOf) (own after other : Option CellContentOf) → IsWishedIn other (device_wish d)
    → closed_unless (down_wish packages s) own ≡ after
    → unwished_closed packages (record { device = d; session = s; down = own; up = other }) ≡ record { device = d; session = s; down = after; up = other }
unfolding unwished_closed
closed_so packages d s own after other k e = rw (e, stays (device_wish d) other k) refl

drops : (packages : List PackageText) (d : DeviceState) (x : TimedOf) (h : CellContentOf) (other : Option CellContentOf) → IsWishedIn other (device_wish d) → h.live ≡ false
    → PairLeads packages (agent_place d x (Some h) other) [] (agent_place d x None other)
drops packages d x h other k dead =
    closes packages (agent_place d x (Some h) other) (step_without_entries (agent_place d x None other)) (agent_place d x None other) (StepOf.Drop ways.Down) tt
    (rw dead refl) (closed_so packages d x.session None None other k refl)

gives : (packages : List PackageText) (d : DeviceState) (x : TimedOf) (h : CellContentOf) (other : Option CellContentOf) → IsWishedIn other (device_wish d) → h.live ≡ true
    → PairLeads packages (agent_place d x (Some h) other) [] (agent_place d ((session_core packages).silent x) (Some (record h { live = false })) other)
gives packages d x h other k live =
    closes packages (agent_place d x (Some h) other) (step_without_entries (agent_place d ((session_core packages).silent x) (Some (record h { live = false })) other))
    (agent_place d ((session_core packages).silent x) (Some (record h { live = false })) other) (StepOf.GiveUp ways.Down) tt
    (rw live refl) (closed_so packages d (agent_silent x.session) (Some (record h { live = false })) (Some (record h { live = false })) other k refl)

-- the session and its command are unchanged
unmoved : (packages : List PackageText) (d : DeviceState) (s : SessionOf) (idle later : ℕ) (own other : Option CellContentOf) → IsWishedIn own (down_wish packages s)
    → PairLeads packages (agent_place d (record { session = s; idle = idle }) own other) [] (agent_place d (record { session = s; idle = later }) (closed_unless (down_wish packages s) own) other)
unmoved packages d s idle later own other k =
    subst (λ o. PairLeads packages (agent_place d (record { session = s; idle = idle }) own other) [] (agent_place d (record { session = s; idle = later }) o other))
    (sym (stays (down_wish packages s) own k)) (no_step packages (agent_place d (record { session = s; idle = idle }) own other))

abbrev ticked_by : (may last : Bool) → TimedOf → TimedOf
ticked_by may last x =
    if not may then x
    else if last then record { session = agent_timeout x.session; idle = 0 }
    else record { session = x.session; idle = x.idle + 1 }

ticks_by : (packages : List PackageText) (d : DeviceState) (x : TimedOf) (may last : Bool) (own other : Option CellContentOf) → IsWishedIn other (device_wish d) → IsWishedIn own (down_wish packages x.session)
    → times_out x.session.stage ≡ may
    → PairLeads packages (agent_place d x own other) [] (agent_place d (ticked_by may last x) (closed_unless (down_wish packages (ticked_by may last x).session) own) other)
ticks_by packages d x false last own other k w is = unmoved packages d x.session x.idle x.idle own other w
ticks_by packages d x true false own other k w is = unmoved packages d x.session x.idle (x.idle + 1) own other w
ticks_by packages d x true true own other k w is =
    closes packages (agent_place d x own other) (step_without_entries (record { device = d; session = agent_timeout x.session; down = own; up = other }))
    (agent_place d (ticked_by true true x) (closed_unless (down_wish packages (agent_timeout x.session)) own) other) (StepOf.TimeOut sides.Agent) tt
    (rw is refl) (closed_so packages d (agent_timeout x.session) own (closed_unless (down_wish packages (agent_timeout x.session)) own) other k refl)

ticks : (packages : List PackageText) (d : DeviceState) (x : TimedOf) (own other : Option CellContentOf) → IsWishedIn other (device_wish d) → IsWishedIn own (down_wish packages x.session)
    → PairLeads packages (agent_place d x own other) [] (agent_place d (idle_ticked x) (closed_unless (down_wish packages (idle_ticked x).session) own) other)
ticks packages d x own other k w = ticks_by packages d x (times_out x.session.stage) ((x.idle + 1) == 240) own other k w refl

asks : (packages : List PackageText) (d : DeviceState) (x : TimedOf) (c : CommandOf) (other : Option CellContentOf) → IsWishedIn other (device_wish d) → (session_core packages).wish x ≡ Some c
    → PairLeads packages (agent_place d x None other) [] (agent_place d x (Some (fresh_cell c)) other)
asks packages d x c other k wish =
    closes packages (agent_place d x None other) (step_without_entries (agent_place d x (Some (fresh_cell c)) other)) (agent_place d x (Some (fresh_cell c)) other) StepOf.AskDown tt
    (rw wish refl) (closed_so packages d x.session (Some (fresh_cell c)) (Some (fresh_cell c)) other k (rw (wish, same_self c) refl))

learns : (packages : List PackageText) (d : DeviceState) (x : TimedOf) (h : CellContentOf) (a : AnswerOf) (works : Bool) (other : Option CellContentOf) → IsWishedIn other (device_wish d) → h.live ≡ true → h.reply ≡ Some a
    → PairLeads packages (agent_place d x (Some h) other) [] (agent_place d ((session_core packages).learn x (Ok a) works) None other)
learns packages d x h a works other k live answered =
    closes packages (agent_place d x (Some h) other) (step_without_entries (agent_place d ((session_core packages).learn x (Ok a) works) None other))
    (agent_place d ((session_core packages).learn x (Ok a) works) None other) StepOf.LearnDown tt
    (rw (live, answered) refl) (closed_so packages d ((session_core packages).learn x (Ok a) works).session None None other k refl)

-- The session restarts.
pub agent_restarts : (packages : List PackageText) (d : DeviceState) (x : TimedOf) (own other : Option CellContentOf) → IsWishedIn other (device_wish d)
    → pair_after packages (agent_place d x own other) (StepOf.Restart sides.Agent) ≡ Some (step_without_entries (agent_place d ((session_core packages).restarted x) (cell_after_close own) other))
agent_restarts packages d x own other k =
    closed_to packages (agent_place d x own other) (step_without_entries (agent_place d ((session_core packages).restarted x) (cell_after_close own) other))
    (agent_place d ((session_core packages).restarted x) (cell_after_close own) other) (StepOf.Restart sides.Agent)
    refl (closed_so packages d (agent_restart x.session) (cell_after_close own) (cell_after_close own) other k (closed_stays (down_wish packages (agent_restart x.session)) own))

-- A call of the operator, which leaves this session.
pub session_calls : (packages : List PackageText) (d : DeviceState) (x after : TimedOf) (own other : Option CellContentOf) (s : StepOf) → HasName s → IsWishedIn other (device_wish d)
    → step_of packages (agent_place d x own other) s ≡ Some (step_without_entries (record { device = d; session = after.session; down = own; up = other }))
    → PairLeads packages (agent_place d x own other) [] (agent_place d after (closed_unless (down_wish packages after.session) own) other)
session_calls packages d x after own other s named k e =
    closes packages (agent_place d x own other) (step_without_entries (record { device = d; session = after.session; down = own; up = other }))
    (agent_place d after (closed_unless (down_wish packages after.session) own) other) s named e
    (closed_so packages d after.session own (closed_unless (down_wish packages after.session) own) other k refl)

-- the session after it took a command
abbrev pub agent_took : List PackageText → TimedOf → CommandOf → TimedOf
agent_took packages x c = ((session_core packages).take x c true true).core

takes_closed : (packages : List PackageText) (d : DeviceState) (x : TimedOf) (own : Option CellContentOf) (h : CellContentOf) → IsWishedIn (Some h) (device_wish d)
    → unwished_closed packages (up_taken packages (agent_place d x own (Some h)) h).after
    ≡ agent_place d (agent_took packages x h.command) (closed_unless (down_wish packages (agent_took packages x h.command).session) own)
    (Some (record h { reply = Some (agent_answer (package_of packages x.session) x.session h.command) }))
unfolding up_taken
takes_closed packages d x own h k =
    closed_so packages d (agent_took packages x h.command).session own (closed_unless (down_wish packages (agent_took packages x h.command).session) own)
    (Some (record h { reply = Some (agent_answer (package_of packages x.session) x.session h.command) })) k refl

takes_noted : (packages : List PackageText) (d : DeviceState) (x : TimedOf) (own : Option CellContentOf) (h : CellContentOf) (quiet works : Bool)
    → (up_taken packages (agent_place d x own (Some h)) h).noted ≡ agent_notes packages x h.command quiet works
unfolding up_taken
takes_noted packages d x own h quiet works = refl

takes : (packages : List PackageText) (d : DeviceState) (x : TimedOf) (own : Option CellContentOf) (h : CellContentOf) (quiet works : Bool) → IsWishedIn (Some h) (device_wish d) → h.reply ≡ None → (quiet && not (is_empty own)) ≡ false
    → PairLeads packages (agent_place d x own (Some h)) (agent_notes packages x h.command quiet works)
    (agent_place d ((session_core packages).take x h.command quiet works).core
    (closed_unless ((session_core packages).wish ((session_core packages).take x h.command quiet works).core) own)
    (Some (record h { reply = Some ((session_core packages).take x h.command quiet works).answer })))
takes packages d x own h quiet works k new may =
    subst (λ es. PairLeads packages (agent_place d x own (Some h)) es (agent_place d (agent_took packages x h.command) (closed_unless (down_wish packages (agent_took packages x h.command).session) own)
    (Some (record h { reply = Some (agent_answer (package_of packages x.session) x.session h.command) }))))
    (takes_noted packages d x own h quiet works)
    (closes packages (agent_place d x own (Some h)) (up_taken packages (agent_place d x own (Some h)) h)
    (agent_place d (agent_took packages x h.command) (closed_unless (down_wish packages (agent_took packages x h.command).session) own)
    (Some (record h { reply = Some (agent_answer (package_of packages x.session) x.session h.command) })))
    StepOf.TakeUp tt (rw new refl) (takes_closed packages d x own h k))

-- a session's pending command is one for a device
wishes_at : (u : «Unit») (p : PackageText) (g : Stage) (c : CommandOf) → stage_wish u p g ≡ Some c → IsCommandFor false c
wishes_at u p Stage.Query c e = told_for false CommandOf.QueryDeviceIdentifiers c e refl
wishes_at u p (Stage.Params _) c e = told_for false CommandOf.GetFirmwareParameters c e refl
wishes_at u p (Stage.ClearOld _) c e = told_for false CommandOf.CancelUpdate c e refl
wishes_at u p (Stage.Request j) c e = told_for false (request_wish u p j) c e refl
wishes_at u p (Stage.Pass j i left later) c e = told_for false (entry_wish p j i (length left)) c e refl
wishes_at u p (Stage.Update t) c e = told_for false (offer_wish p t.at_hand) c e refl
wishes_at u p (Stage.Activate _) c e = told_for false (CommandOf.ActivateFirmware true) c e refl
wishes_at u p Stage.Cancelling c e = told_for false CommandOf.CancelUpdate c e refl
wishes_at u p g c e = absurd (cc)

wishes : (packages : List PackageText) (x : TimedOf) (c : CommandOf) → (session_core packages).wish x ≡ Some c → IsCommandFor false c
wishes packages x c e = wishes_at x.session.unit (package_of packages x.session) x.session.stage c e

pub agent_side : (packages : List PackageText) (d : DeviceState) → Sided packages (session_core packages) false (agent_place d) (device_wish d) (agent_notes packages)
agent_side packages d = record {
  drop = drops packages d;
  give = gives packages d;
  tick = ticks packages d;
  ask = asks packages d;
  learn = learns packages d;
  take = takes packages d;
  wishes = wishes packages;
  serves = λ c k. k;
}
