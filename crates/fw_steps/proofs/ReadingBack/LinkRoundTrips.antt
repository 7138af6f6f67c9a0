-- On a link between a session and a device whose values fit, all messages round-trip.
use Rattle.std.proofs.Common.{◌==◌, ◌+◌, not, ℕ, Bool, true, false, if◌then◌else◌, nat_lt, List, [], ◌∷◌, Option, Some, None, IfSome, Result, Ok, Err}
use Rattle.mctp_wire.specs.declared.unit.Unit.{«Unit»}
use Rattle.mctp_wire.specs.declared.unit.Unit.TheVariants.{U64}
use Rattle.mctp_reasm.specs.Held.{Held}
use Rattle.mctp_reasm.specs.Pieces.{MessageOf}
use Rattle.pldm_base.specs.declared.header.PldmHead.{PldmHead}
use Rattle.pldm_exch.specs.Caller.{is_quiet, may_begin}
use Rattle.pldm_exch.specs.Sides.{AskerRow, AskerTick, TakerRow, asker_counts, asker_row, taker_counts, taker_row}
use Rattle.exch_lane.specs.Lanes.{Sent, item_numbered}
use Rattle.fw_package.specs.Package.{PackageText}
use Rattle.fwup_wire.specs.Commands.{CommandRoundTrips}
use Rattle.fwup_wire.specs.Laws.{WritesAnswers}
use Rattle.fwup_wire.specs.Values.{CommandOf}
use Rattle.fd_core.specs.States.{DeviceState, Phase}
use Rattle.fd_core.specs.Steps.{device_timeout, tick_at}
use Rattle.fd_core.specs.Codes.{patience}
use Rattle.ua_core.specs.Calls.{agent_timeout, times_out}
use Rattle.ua_core.specs.Lent.{package_at}
use Rattle.ua_core.specs.Session.{TimedOf}
use Rattle.fw_message.specs.declared.side.Side.TheVariants as sides
use Rattle.fw_node.specs.Cores.{TimedDevice, device_core, session_core}
use Rattle.fw_node.specs.Halves.{CoreOf, HalfOf, begins_if, begins_wish, half_tick_by_row, half_on_packet, half_on_rows, half_takes, half_ticks, tick_if, read_by, takes_if, takes_read, unwished_abandoned, with_caller}
use Rattle.fw_node.specs.Nodes.{AnswerRoundTrips, TakenAnswerRoundTrips}
use Rattle.fw_steps.specs.Links.{LinkOf, LinkStep}
use Rattle.fw_steps.specs.LinksAreLanes.{LinkStepRoundTrips, AnswerRoundTripsOn}
use Rattle.fw_steps.specs.Widths.{HasDeviceWidths, HavePackageWidths, SessionIsInPlan}
use Rattle.fw_steps.proofs.ReadingBack.DeviceKeepsWidths.{timeout_speaks}
use Rattle.fw_steps.proofs.ReadingBack.DeviceRoundTrips.{device_heard, device_spoken}
use Rattle.fw_steps.proofs.ReadingBack.PairKeepsWidths.{package_fits, silent_in, timeout_in}
use Rattle.fw_steps.proofs.ReadingBack.SessionRoundTrips.{session_heard, session_spoken}

-- ANSWERS

-- each answer of this core round-trips
abbrev AnswersWell : {C : Type 0} → «Unit» → CoreOf C → C → Type 0
AnswersWell u core x = (c : CommandOf) (quiet works : Bool) → AnswerRoundTrips u c (core.take x c quiet works).answer

told_read : {C : Type 0} (u : «Unit») (core : CoreOf C) (quiet works : Bool) (h : HalfOf C) (requests : List (Option Held)) (m : MessageOf) (head : PldmHead) (r : Result CommandOf ℕ) → AnswersWell u core h.core → TakenAnswerRoundTrips u (takes_read core quiet works h requests m head r)
told_read u core quiet works h requests m head (Ok c) k = k c quiet works
told_read u core quiet works h requests m head (Err code) k = tt

told_if : {C : Type 0} (u : «Unit») (five : Bool) (core : CoreOf C) (works : Bool) (h : HalfOf C) (requests : List (Option Held)) (m : MessageOf) (head : PldmHead) (body : List ℕ) → AnswersWell u core h.core → TakenAnswerRoundTrips u (takes_if five core works h requests m head body)
told_if u true core works h requests m head body k = told_read u core (is_quiet h.asker.caller) works h requests m head (read_by core head.command body) k
told_if u false core works h requests m head body k = tt

told_takes : {C : Type 0} (u : «Unit») (core : CoreOf C) (works : Bool) (h : HalfOf C) (row : TakerRow) → AnswersWell u core h.core → TakenAnswerRoundTrips u (half_takes core works h row)
told_takes u core works h (TakerRow.Silent requests) k = tt
told_takes u core works h (TakerRow.Repeats requests answer) k = tt
told_takes u core works h (TakerRow.TakesUp requests m head body) k = told_if u (head.pldm_type == 5) core works h requests m head body k
told_takes u core works h (TakerRow.Strays requests m) k = tt

told_by : {C : Type 0} (u : «Unit») (core : CoreOf C) (works : Bool) (h : HalfOf C) (row : AskerRow) (taken : TakerRow) → AnswersWell u core h.core → TakenAnswerRoundTrips u (half_on_rows core works h row taken)
told_by u core works h (AskerRow.Ignores replies) taken k = told_takes u core works (record h { asker = record h.asker { replies = replies } }) taken k
told_by u core works h (AskerRow.Learns replies caller heard) taken k = tt

told : {C : Type 0} (u : «Unit») (core : CoreOf C) (works : Bool) (h : HalfOf C) (bytes : List ℕ) → AnswersWell u core h.core → TakenAnswerRoundTrips u (half_on_packet core works h bytes)
told u core works h bytes k = told_by u core works h (asker_row h.unit h.own h.peer h.asker bytes) (taker_row h.unit h.own h.peer h.taker bytes) k

-- PENDING COMMANDS

-- a core after a tick
begun_core : {C : Type 0} (P : C → Type 0) (may : Bool) (h : HalfOf C) (c : CommandOf) (sent : List MessageOf) → P h.core → P (begins_if may h c sent).half.core
begun_core P true h c sent k = k
begun_core P false h c sent k = k

wished_core : {C : Type 0} (P : C → Type 0) (wish : Option CommandOf) (h : HalfOf C) (sent : List MessageOf) → P h.core → P (begins_wish wish h sent).half.core
wished_core P None h sent k = k
wished_core P (Some c) h sent k = begun_core P (may_begin h.asker.caller) h c sent k

hears_core : {C : Type 0} (P : C → Type 0) (hears : Bool) (core : CoreOf C) (h : HalfOf C) (sent : List MessageOf) → ((x : C) → P x → P (core.ticked x)) → P h.core → P (tick_if hears core h sent).half.core
hears_core P true core h sent ticks k =
    wished_core P (core.wish (core.ticked h.core)) (with_caller (record h { core = core.ticked h.core }) (unwished_abandoned (core.wish (core.ticked h.core)) h.asker.caller)) sent (ticks h.core k)
hears_core P false core h sent ticks k = k

called_core : {C : Type 0} (P : C → Type 0) (core : CoreOf C) (h : HalfOf C) (row : AskerTick) → ((x : C) → P x → P (core.ticked x)) → ((x : C) → P x → P (core.silent x)) → P h.core → P (half_tick_by_row core h row).half.core
called_core P core h (AskerTick.Waits a) ticks silent k = hears_core P (a.deaf == 0) core (record h { asker = a }) [] ticks k
called_core P core h (AskerTick.Resends a m) ticks silent k = hears_core P (a.deaf == 0) core (record h { asker = a }) (m ∷ []) ticks k
called_core P core h (AskerTick.GivesUp a) ticks silent k = hears_core P (a.deaf == 0) core (record h { asker = a; core = core.silent h.core }) [] ticks (silent h.core k)

tick_core : {C : Type 0} (P : C → Type 0) (core : CoreOf C) (h : HalfOf C) → ((x : C) → P x → P (core.ticked x)) → ((x : C) → P x → P (core.silent x)) → P h.core → P (half_ticks core true h).half.core
tick_core P core h ticks silent k = called_core P core (record h { taker = taker_counts h.taker }) (asker_counts h.asker) ticks silent k

-- BOTH CORES

abbrev CoreFits : TimedDevice → Type 0
CoreFits d = HasDeviceWidths d.device

abbrev FirstFits : DeviceState × ℕ → Type 0
FirstFits x = HasDeviceWidths x.0

ended_if : (soon : Bool) (v : DeviceState) (idle : ℕ) → HasDeviceWidths v → FirstFits (if soon then (v, idle + 1) else (device_timeout v, 0))
ended_if true v idle h = h
ended_if false v idle h = timeout_speaks v h

device_at_tick : (p : Phase) (v : DeviceState) (idle : ℕ) → HasDeviceWidths v → HasDeviceWidths (tick_at p v idle).0
device_at_tick Phase.Idle v idle h = h
device_at_tick Phase.Activated v idle h = timeout_speaks v h
device_at_tick p v idle h = ended_if (nat_lt (idle + 1) patience) v idle h

device_ticks : (d : TimedDevice) → CoreFits d → CoreFits (device_core.ticked d)
device_ticks d h = device_at_tick d.device.phase d.device d.idle h

abbrev TimedFits : List PackageText → TimedOf → Type 0
TimedFits packages s = SessionIsInPlan packages s.session

session_ended : (packages : List PackageText) (last : Bool) (s : TimedOf) → TimedFits packages s → TimedFits packages (if last then record { session = agent_timeout s.session; idle = 0 } else record { session = s.session; idle = s.idle + 1 })
session_ended packages true s h = timeout_in (package_at packages s.session.number) s.session.stage h
session_ended packages false s h = h

session_idles : (packages : List PackageText) (free : Bool) (s : TimedOf) → TimedFits packages s
    → TimedFits packages (if free then s else if s.idle + 1 == 240 then record { session = agent_timeout s.session; idle = 0 } else record { session = s.session; idle = s.idle + 1 })
session_idles packages true s h = h
session_idles packages false s h = session_ended packages (s.idle + 1 == 240) s h

session_ticks : (packages : List PackageText) (s : TimedOf) → TimedFits packages s → TimedFits packages ((session_core packages).ticked s)
session_ticks packages s h = session_idles packages (not (times_out s.session.stage)) s h

-- A LINK

come : (o : Option Sent) (P : Sent → Type 0) → ((p : Sent) → P p) → IfSome o P
come None P k = tt
come (Some p) P k = k p

-- each half's answer to these bytes, and its pending command after a tick
pub agent_answers : (packages : List PackageText) (h : HalfOf TimedOf) (bytes : List ℕ) → TakenAnswerRoundTrips h.core.session.unit (half_on_packet (session_core packages) true h bytes)
agent_answers packages h bytes =
    told h.core.session.unit (session_core packages) true h bytes (λ c quiet works. session_heard (package_at packages h.core.session.number) h.core.session c)

pub device_answers : WritesAnswers → (h : HalfOf TimedDevice) (works : Bool) (bytes : List ℕ) → HasDeviceWidths h.core.device → TakenAnswerRoundTrips U64 (half_on_packet device_core works h bytes)
device_answers law h works bytes d = told U64 device_core works h bytes (λ c quiet works. device_heard law h.core.device c quiet works d)

pub agent_asks : (packages : List PackageText) (h : HalfOf TimedOf) → HavePackageWidths packages → SessionIsInPlan packages h.core.session
    → IfSome ((session_core packages).wish (half_ticks (session_core packages) true h).half.core) CommandRoundTrips
agent_asks packages h ps k =
    let after = tick_core (TimedFits packages) (session_core packages) h (session_ticks packages) (λ s h. silent_in (package_at packages s.session.number) s.session.stage) k in
    let s = (half_ticks (session_core packages) true h).half.core.session in
    session_spoken (package_at packages s.number) s (package_fits packages s.number ps) after

pub device_asks : (h : HalfOf TimedDevice) → HasDeviceWidths h.core.device → IfSome (device_core.wish (half_ticks device_core true h).half.core) CommandRoundTrips
device_asks h d =
    let after = tick_core CoreFits device_core h device_ticks (λ x h. h) d in
    device_spoken (half_ticks device_core true h).half.core.device after

pub link_says : WritesAnswers → (packages : List PackageText) (l : LinkOf) (s : LinkStep) → HavePackageWidths packages → HasDeviceWidths l.device.core.device → SessionIsInPlan packages l.agent.core.session → LinkStepRoundTrips packages l s
link_says law packages l (LinkStep.Deliver number sides.Agent works) ps d k =
    come (item_numbered l.packets number) (λ p. AnswerRoundTripsOn packages l sides.Agent works p.bytes) (λ p. agent_answers packages l.agent p.bytes)
link_says law packages l (LinkStep.Deliver number sides.Device works) ps d k =
    come (item_numbered l.packets number) (λ p. AnswerRoundTripsOn packages l sides.Device works p.bytes) (λ p. device_answers law l.device works p.bytes d)
link_says law packages l (LinkStep.Tick agent device) ps d k = (λ e soon. agent_asks packages l.agent ps k, λ e soon. device_asks l.device d)
link_says law packages l s ps d k = tt
