-- The steps of a device's half, as steps of its pair over whole messages.
use Rattle.mctp_wire.specs.declared.unit.Unit.{«Unit»}
use Rattle.std.proofs.Common.{◌≡◌, ℕ, ◌+◌, ◌&&◌, not, nat_lt, Bool, true, false, if◌then◌else◌, List, [], length, map, Option, Some, None, Ok, refl, sym, subst}
use Rattle.fw_package.specs.Package.{PackageText}
use Rattle.fwup_wire.specs.Commands.{command_code}
use Rattle.fwup_wire.specs.Values.{AnswerOf, CommandOf}
use Rattle.fwup_wire.proofs.SameCommands.{same_self}
use Rattle.fd_core.specs.Codes.{application_failed, patience, transfer_failed, verification_failed}
use Rattle.fd_core.specs.Commands.{device_take}
use Rattle.fd_core.specs.States.{DeviceState, Phase, UpdateOf, WorkOf}
use Rattle.fd_core.specs.Steps.{device_restart, device_timeout, tick_at, times_out}
use Rattle.fd_core.specs.Wishes.{apply_report, asked_length, device_wish, download_wish, report_of, report_if, wish_at}
use Rattle.fd_core.specs.declared.states.Progress.{Progress}
use Rattle.fd_core.specs.declared.states.Progress.TheVariants as progress
use Rattle.ua_core.specs.Session.{SessionOf}
use Rattle.fw_message.specs.Headline.{EntryOf}
use Rattle.fw_message.specs.Names.{HasName}
use Rattle.fw_message.specs.Pairs.{CellContentOf, PairOf, StepOf, cell_after_close, closed_unless, down_taken, down_wish, fresh_cell, is_empty, step_without_entries, step_of, unwished_closed}
use Rattle.fw_message.specs.declared.side.Side.TheVariants as sides
use Rattle.fw_message.specs.declared.side.Way.TheVariants as ways
use Rattle.fw_node.specs.Cores.{TimedDevice, device_core}
use Rattle.fw_steps.specs.Joins.{IsCommandFor, IsWishedIn}
use Rattle.fw_steps.proofs.LinksAreMessages.Cells.{closed_stays, stays, told_for}
use Rattle.fw_steps.proofs.LinksAreMessages.Sides.{PairLeads, Sided, closes, no_step}

-- the pair of the device's half and an update session
abbrev pub device_place : SessionOf → TimedDevice → Option CellContentOf → Option CellContentOf → PairOf
device_place s x own other = record { device = x.device; session = s; down = other; up = own }

-- the images that the device activates by a command
abbrev pub device_notes : TimedDevice → CommandOf → Bool → Bool → List EntryOf
device_notes x c quiet works = map EntryOf.Activated (device_take x.device c quiet works).activated

-- the pair after closing, if the session's own cell stays
closed_so : (packages : List PackageText) (s : SessionOf) (d : DeviceState) (own after other : Option CellContentOf) → IsWishedIn other (down_wish packages s)
    → closed_unless (device_wish d) own ≡ after
    → unwished_closed packages (record { device = d; session = s; down = other; up = own }) ≡ record { device = d; session = s; down = other; up = after }
unfolding unwished_closed
closed_so packages s d own after other k e = rw (e, stays (down_wish packages s) other k) refl

drops : (packages : List PackageText) (s : SessionOf) (x : TimedDevice) (h : CellContentOf) (other : Option CellContentOf) → IsWishedIn other (down_wish packages s) → h.live ≡ false
    → PairLeads packages (device_place s x (Some h) other) [] (device_place s x None other)
drops packages s x h other k dead =
    closes packages (device_place s x (Some h) other) (step_without_entries (device_place s x None other)) (device_place s x None other) (StepOf.Drop ways.Up) tt
    (rw dead refl) (closed_so packages s x.device None None other k refl)

gives : (packages : List PackageText) (s : SessionOf) (x : TimedDevice) (h : CellContentOf) (other : Option CellContentOf) → IsWishedIn other (down_wish packages s) → h.live ≡ true
    → PairLeads packages (device_place s x (Some h) other) [] (device_place s x (Some (record h { live = false })) other)
gives packages s x h other k live =
    closes packages (device_place s x (Some h) other) (step_without_entries (device_place s x (Some (record h { live = false })) other))
    (device_place s x (Some (record h { live = false })) other) (StepOf.GiveUp ways.Up) tt
    (rw live refl) (closed_so packages s x.device (Some (record h { live = false })) (Some (record h { live = false })) other k refl)

-- the device after a tick
abbrev timed_by : DeviceState × ℕ → TimedDevice
timed_by p = record { device = p.0; idle = p.1 }

-- the device and its command are unchanged
unmoved : (packages : List PackageText) (s : SessionOf) (d : DeviceState) (idle later : ℕ) (own other : Option CellContentOf) → IsWishedIn own (device_wish d)
    → PairLeads packages (device_place s (record { device = d; idle = idle }) own other) [] (device_place s (record { device = d; idle = later }) (closed_unless (device_wish d) own) other)
unmoved packages s d idle later own other k =
    subst (λ o. PairLeads packages (device_place s (record { device = d; idle = idle }) own other) [] (device_place s (record { device = d; idle = later }) o other))
    (sym (stays (device_wish d) own k)) (no_step packages (device_place s (record { device = d; idle = idle }) own other))

-- its wait timed out
outwaited : (packages : List PackageText) (s : SessionOf) (d : DeviceState) (idle : ℕ) (own other : Option CellContentOf) → IsWishedIn other (down_wish packages s) → times_out d.phase ≡ true
    → PairLeads packages (device_place s (record { device = d; idle = idle }) own other) []
    (device_place s (record { device = device_timeout d; idle = 0 }) (closed_unless (device_wish (device_timeout d)) own) other)
outwaited packages s d idle own other k may =
    closes packages (device_place s (record { device = d; idle = idle }) own other) (step_without_entries (record { device = device_timeout d; session = s; down = other; up = own }))
    (device_place s (record { device = device_timeout d; idle = 0 }) (closed_unless (device_wish (device_timeout d)) own) other) (StepOf.TimeOut sides.Device) tt
    (rw may refl) (closed_so packages s (device_timeout d) own (closed_unless (device_wish (device_timeout d)) own) other k refl)

abbrev waited_by : (early : Bool) → DeviceState → ℕ → DeviceState × ℕ
waited_by early d idle = if early then (d, idle + 1) else (device_timeout d, 0)

waits_by : (packages : List PackageText) (s : SessionOf) (d : DeviceState) (idle : ℕ) (early : Bool) (own other : Option CellContentOf) → IsWishedIn other (down_wish packages s) → IsWishedIn own (device_wish d)
    → times_out d.phase ≡ true
    → PairLeads packages (device_place s (record { device = d; idle = idle }) own other) []
    (device_place s (timed_by (waited_by early d idle)) (closed_unless (device_wish (waited_by early d idle).0) own) other)
waits_by packages s d idle true own other k w may = unmoved packages s d idle (idle + 1) own other w
waits_by packages s d idle false own other k w may = outwaited packages s d idle own other k may

ticks_at : (packages : List PackageText) (s : SessionOf) (d : DeviceState) (idle : ℕ) (p : Phase) (own other : Option CellContentOf) → IsWishedIn other (down_wish packages s) → IsWishedIn own (device_wish d)
    → d.phase ≡ p
    → PairLeads packages (device_place s (record { device = d; idle = idle }) own other) []
    (device_place s (timed_by (tick_at p d idle)) (closed_unless (device_wish (tick_at p d idle).0) own) other)
ticks_at packages s d idle Phase.Idle own other k w is = unmoved packages s d idle idle own other w
ticks_at packages s d idle Phase.Activated own other k w is = outwaited packages s d idle own other k (rw is refl)
ticks_at packages s d idle (Phase.Learn u) own other k w is = waits_by packages s d idle (nat_lt (idle + 1) patience) own other k w (rw is refl)
ticks_at packages s d idle (Phase.Ready u) own other k w is = waits_by packages s d idle (nat_lt (idle + 1) patience) own other k w (rw is refl)
ticks_at packages s d idle (Phase.Download u v p) own other k w is = waits_by packages s d idle (nat_lt (idle + 1) patience) own other k w (rw is refl)
ticks_at packages s d idle (Phase.Verify u v p) own other k w is = waits_by packages s d idle (nat_lt (idle + 1) patience) own other k w (rw is refl)
ticks_at packages s d idle (Phase.Apply u v p) own other k w is = waits_by packages s d idle (nat_lt (idle + 1) patience) own other k w (rw is refl)

ticks : (packages : List PackageText) (s : SessionOf) (x : TimedDevice) (own other : Option CellContentOf) → IsWishedIn other (down_wish packages s) → IsWishedIn own (device_wish x.device)
    → PairLeads packages (device_place s x own other) [] (device_place s (device_core.ticked x) (closed_unless (device_wish (device_core.ticked x).device) own) other)
ticks packages s x own other k w = ticks_at packages s x.device x.idle x.device.phase own other k w refl

asks : (packages : List PackageText) (s : SessionOf) (x : TimedDevice) (c : CommandOf) (other : Option CellContentOf) → IsWishedIn other (down_wish packages s) → device_wish x.device ≡ Some c
    → PairLeads packages (device_place s x None other) [] (device_place s x (Some (fresh_cell c)) other)
asks packages s x c other k wish =
    closes packages (device_place s x None other) (step_without_entries (device_place s x (Some (fresh_cell c)) other)) (device_place s x (Some (fresh_cell c)) other) StepOf.AskUp tt
    (rw wish refl) (closed_so packages s x.device (Some (fresh_cell c)) (Some (fresh_cell c)) other k (rw (wish, same_self c) refl))

learns : (packages : List PackageText) (s : SessionOf) (x : TimedDevice) (h : CellContentOf) (a : AnswerOf) (works : Bool) (other : Option CellContentOf) → IsWishedIn other (down_wish packages s) → h.live ≡ true → h.reply ≡ Some a
    → PairLeads packages (device_place s x (Some h) other) [] (device_place s (device_core.learn x (Ok a) works) None other)
learns packages s x h a works other k live answered =
    closes packages (device_place s x (Some h) other) (step_without_entries (device_place s (device_core.learn x (Ok a) works) None other))
    (device_place s (device_core.learn x (Ok a) works) None other) (StepOf.LearnUp works) tt
    (rw (live, answered) refl) (closed_so packages s (device_core.learn x (Ok a) works).device None None other k refl)

-- The device restarts.
pub device_restarts : (packages : List PackageText) (s : SessionOf) (x : TimedDevice) (own other : Option CellContentOf) → IsWishedIn other (down_wish packages s)
    → PairLeads packages (device_place s x own other) [] (device_place s (device_core.restarted x) (cell_after_close own) other)
device_restarts packages s x own other k =
    closes packages (device_place s x own other) (step_without_entries (device_place s (device_core.restarted x) (cell_after_close own) other))
    (device_place s (device_core.restarted x) (cell_after_close own) other) (StepOf.Restart sides.Device) tt
    refl (closed_so packages s (device_restart x.device) (cell_after_close own) (cell_after_close own) other k (closed_stays (device_wish (device_restart x.device)) own))

-- A verdict, which leaves this device.
pub device_judged : (packages : List PackageText) (s : SessionOf) (x after : TimedDevice) (own other : Option CellContentOf) (step : StepOf) (es : List EntryOf) → HasName step → IsWishedIn other (down_wish packages s)
    → step_of packages (device_place s x own other) step ≡ Some (record { after = record { device = after.device; session = s; down = other; up = own }; noted = es })
    → PairLeads packages (device_place s x own other) es (device_place s after (closed_unless (device_wish after.device) own) other)
device_judged packages s x after own other step es named k e =
    closes packages (device_place s x own other) (record { after = record { device = after.device; session = s; down = other; up = own }; noted = es })
    (device_place s after (closed_unless (device_wish after.device) own) other) step named e
    (closed_so packages s after.device own (closed_unless (device_wish after.device) own) other k refl)

-- the pair after the device took a command
abbrev took : SessionOf → TimedDevice → Option CellContentOf → CellContentOf → Bool → Bool → PairOf
took s x own h quiet works =
    device_place s (device_core.take x h.command quiet works).core
    (closed_unless (device_wish (device_core.take x h.command quiet works).core.device) own)
    (Some (record h { reply = Some (device_core.take x h.command quiet works).answer }))

takes_closed : (packages : List PackageText) (s : SessionOf) (x : TimedDevice) (own : Option CellContentOf) (h : CellContentOf) (quiet works : Bool) → IsWishedIn (Some h) (down_wish packages s)
    → unwished_closed packages (down_taken (device_place s x own (Some h)) h (device_take x.device h.command quiet works)).after ≡ took s x own h quiet works
unfolding down_taken
takes_closed packages s x own h quiet works k =
    closed_so packages s (device_take x.device h.command quiet works).after own (closed_unless (device_wish (device_take x.device h.command quiet works).after) own)
    (Some (record h { reply = Some (device_take x.device h.command quiet works).answer })) k refl

takes_noted : (s : SessionOf) (x : TimedDevice) (own : Option CellContentOf) (h : CellContentOf) (quiet works : Bool)
    → (down_taken (device_place s x own (Some h)) h (device_take x.device h.command quiet works)).noted ≡ device_notes x h.command quiet works
unfolding down_taken
takes_noted s x own h quiet works = refl

takes : (packages : List PackageText) (s : SessionOf) (x : TimedDevice) (own : Option CellContentOf) (h : CellContentOf) (quiet works : Bool) → IsWishedIn (Some h) (down_wish packages s) → h.reply ≡ None → (quiet && not (is_empty own)) ≡ false
    → PairLeads packages (device_place s x own (Some h)) (device_notes x h.command quiet works) (took s x own h quiet works)
takes packages s x own h quiet works k new may =
    subst (λ es. PairLeads packages (device_place s x own (Some h)) es (took s x own h quiet works))
    (takes_noted s x own h quiet works)
    (closes packages (device_place s x own (Some h)) (down_taken (device_place s x own (Some h)) h (device_take x.device h.command quiet works))
    (took s x own h quiet works) (StepOf.TakeDown quiet works) tt (rw (new, may) refl) (takes_closed packages s x own h quiet works k))

-- a device's pending command is one for the agent
reports_at : (command : ℕ → CommandOf) (result : Option ℕ) (c : CommandOf) → report_if command result ≡ Some c → ((n : ℕ) → IsCommandFor true (command n)) → IsCommandFor true c
reports_at command None c e k = absurd (cc)
reports_at command (Some n) c e k = told_for true (command n) c e (k n)

download_at : (n : «Unit») (u : UpdateOf) (w : WorkOf) (p : Progress) (have : ℕ) (c : CommandOf) → download_wish n u w p have ≡ Some c → IsCommandFor true c
download_at n u w progress.InProgress have c e = told_for true (CommandOf.RequestFirmwareData have (asked_length n u w have)) c e refl
download_at n u w progress.Succeeded have c e = reports_at CommandOf.TransferComplete (report_of progress.Succeeded transfer_failed) c e (λ m. refl)
download_at n u w (progress.Failed told) have c e = reports_at CommandOf.TransferComplete (report_of (progress.Failed told) transfer_failed) c e (λ m. refl)

wishes_at : (n : «Unit») (p : Phase) (have : ℕ) (c : CommandOf) → wish_at n p have ≡ Some c → IsCommandFor true c
wishes_at n (Phase.Download u w p) have c e = download_at n u w p have c e
wishes_at n (Phase.Verify u w p) have c e = reports_at CommandOf.VerifyComplete (report_of p verification_failed) c e (λ m. refl)
wishes_at n (Phase.Apply u w p) have c e = reports_at apply_report (report_of p application_failed) c e (λ m. refl)
wishes_at n p have c e = absurd (cc)

wishes : (x : TimedDevice) (c : CommandOf) → device_wish x.device ≡ Some c → IsCommandFor true c
wishes x c e = wishes_at x.device.unit x.device.phase (length x.device.stage) c e

serves : (c : CommandOf) → IsCommandFor false c → device_core.serves (command_code c) ≡ true
serves c k = rw k refl

pub device_side : (packages : List PackageText) (s : SessionOf) → Sided packages device_core true (device_place s) (down_wish packages s) device_notes
device_side packages s = record {
  drop = drops packages s;
  give = gives packages s;
  tick = ticks packages s;
  ask = asks packages s;
  learn = learns packages s;
  take = takes packages s;
  wishes = wishes;
  serves = serves;
}
