-- A step of a link is steps of its two lanes.
use Rattle.mctp_wire.specs.declared.unit.Unit.{«Unit»}
use Rattle.mctp_wire.specs.declared.unit.Unit.TheVariants.{U64}
use Rattle.fw_node.specs.Nodes.{TakenAnswerRoundTrips}
use Rattle.fw_steps.proofs.LinksAreLanes.Hears.{fits_each}
use Rattle.fw_steps.proofs.LinksAreLanes.Units.{activated_keeps, cancelled_keeps, hears_keeps, session_keeps, ticks_keep}
use Rattle.std.proofs.Common.{◌≡◌, ◌∙◌, sym, subst, ◌≤◌, ◌+◌, ◌-◌, ◌^◌, ◌&&◌, ℕ, nat_lt, Bool, true, false, if◌then◌else◌, List, [], ◌∷◌, Option, Some, None, IfSome, IsSomeAnd, is_some, refl}
use Rattle.std.proofs.lemmas.Bool.{le-ltb, ltb-true}
use Rattle.fw_package.specs.Package.{PackageText}
use Rattle.fd_core.specs.Steps.{VerdictEffect, device_verdict}
use Rattle.ua_core.specs.Calls.{agent_activated, agent_started}
use Rattle.ua_core.specs.Session.{SessionOf, TimedOf}
use Rattle.exch_lane.specs.Clocks.{may_beat}
use Rattle.exch_lane.specs.Lanes.{Sent, LaneStepOf, item_numbered}
use Rattle.exch_lane.specs.Laws.{LaneIsACell}
use Rattle.exch_lane.specs.declared.step.End.TheVariants as ends
use Rattle.fw_message.specs.Pairs.{may_start}
use Rattle.fw_message.specs.declared.side.Side.{Side}
use Rattle.fw_message.specs.declared.side.Side.TheVariants as sides
use Rattle.fw_node.specs.Agents.{half_after_activate, half_after_cancel, half_after_start}
use Rattle.fw_node.specs.Cores.{TimedDevice, device_core, session_core}
use Rattle.fw_node.specs.Halves.{HalfOutcome, HalfOf, half_on_packet}
use Rattle.fw_steps.specs.Lanes.{LinkExplained, Times, tick_steps, times_of, turned_times, activate_steps, down_packet_steps, down_steps, judge_steps, up_packet_steps, up_steps}
use Rattle.fw_steps.specs.LinksAreLanes.{LinkStepRoundTrips, PendingRoundTrips, AnswerRoundTripsOn, LinksAreLanes, MayHappen, StepsInLanes}
use Rattle.fw_steps.specs.Links.{LinkOf, LinkStep, LinkStepped, activates_on, link_step_of_agent, delivers_on, link_step_of_device, link_step_of_packet, link_step_of_verdict, link_after, link_ticks, packets_with_messages, time_after, link_step_without_entries}
use Rattle.fw_steps.proofs.LinksAreLanes.Comings.{hears_in_lane}
use Rattle.fw_steps.proofs.LinksAreLanes.Hears.{IsPassed, half_in, sent_in}
use Rattle.fw_steps.proofs.LinksAreLanes.Moves.{call_ways, restart_ways, tick_ways}
use Rattle.fw_steps.proofs.LinksAreLanes.Routes.{both_hold}
use Rattle.fw_steps.proofs.LinksAreLanes.Ways.{BothWays, WaysGo, turned}

-- a link as both ways between its halves
abbrev pub ways_of : (now : ℕ) (l : LinkOf) → LinkExplained now l → BothWays (times_of now l) l.agent l.device l.packets
ways_of now l e = record {
  unit = e.unit;
  ends = e.ends;
  peer = e.agent_peer;
  back = e.device_peer;
  asks = e.down;
  answers = e.up;
  packets = e.packets;
}

ways_turned : {A B : Type 0} (now later : Times) (a x : HalfOf A) (b y : HalfOf B) (ps qs : List Sent) (ss ts : List LaneStepOf) (h : BothWays now a b ps)
    → WaysGo (turned_times now) (turned_times later) b y a x ps qs ts ss (turned now a b ps h) → WaysGo now later a x b y ps qs ss ts h
ways_turned now later a x b y ps qs ss ts h w = record { same = record { unit = w.same.other_unit; own = w.same.other; peer = w.same.back; other_unit = w.same.unit; other = w.same.own; back = w.same.peer }; explained = turned (turned_times later) y x qs w.explained; asks = w.answers; answers = w.asks }

-- A link takes a step, and both ways take theirs.
pub record LinkGoes (now later : ℕ) (l : LinkOf) (e : LinkExplained now l) (o : Option LinkStepped) (ds us : List LaneStepOf) : Type 0 where
  pub stepped : LinkStepped
  pub after : o ≡ Some stepped
  pub session_unit : stepped.after.agent.core.session.unit ≡ l.agent.core.session.unit
  pub ways : WaysGo (times_of now l) (times_of later stepped.after) l.agent stepped.after.agent l.device stepped.after.device l.packets stepped.after.packets ds us (ways_of now l e)

in_lanes : (now : ℕ) (packages : List PackageText) (l : LinkOf) (s : LinkStep) (e : LinkExplained now l)
    → LinkGoes now (time_after now s) l e (link_after now packages l s) (down_steps packages l s) (up_steps packages l s) → StepsInLanes now packages l s e
in_lanes now packages l s e g =
    let x = g.ways.explained in
    record {
      stepped = g.stepped;
      after = g.after;
      agent_unit = g.ways.same.unit;
      device_unit = g.ways.same.other_unit;
      agent_own = g.ways.same.own;
      device_own = g.ways.same.other;
      explained = record { unit = x.unit; session_unit = g.session_unit ∙ e.session_unit ∙ sym g.ways.same.unit; ends = x.ends; agent_peer = x.peer; device_peer = x.back; down = x.asks; up = x.answers; packets = x.packets };
      down = g.ways.asks;
      up = g.ways.answers;
    }

-- the outcome, on the link
agent_goes : (now : ℕ) (packages : List PackageText) (l : LinkOf) (e : LinkExplained now l) (heard : HalfOutcome TimedOf) (ds us : List LaneStepOf) → IsPassed heard
    → WaysGo (times_of now l) (times_of now l) l.agent (half_in heard) l.device l.device l.packets (packets_with_messages l.agent.unit now l.packets (sent_in heard)) ds us (ways_of now l e)
    → (half_in heard).core.session.unit ≡ l.agent.core.session.unit
    → LinkGoes now now l e (link_step_of_agent now packages l heard) ds us
agent_goes now packages l e (HalfOutcome.Went half sent) ds us passed ways keeps = record { stepped = _; after = refl; session_unit = keeps; ways = ways }
agent_goes now packages l e (HalfOutcome.Took half sent command answer) ds us passed ways keeps = record { stepped = _; after = refl; session_unit = keeps; ways = ways }
agent_goes now packages l e (HalfOutcome.Asks half m head body) ds us passed ways keeps = absurd passed
agent_goes now packages l e (HalfOutcome.Strayed half m) ds us passed ways keeps = absurd passed

device_goes : (now : ℕ) (works : Bool) (l : LinkOf) (e : LinkExplained now l) (heard : HalfOutcome TimedDevice) (ds us : List LaneStepOf) → IsPassed heard
    → WaysGo (times_of now l) (times_of now l) l.agent l.agent l.device (half_in heard) l.packets (packets_with_messages l.device.unit now l.packets (sent_in heard)) ds us (ways_of now l e)
    → LinkGoes now now l e (link_step_of_device now works l heard) ds us
device_goes now works l e (HalfOutcome.Went half sent) ds us passed ways = record { stepped = _; after = refl; session_unit = refl; ways = ways }
device_goes now works l e (HalfOutcome.Took half sent command answer) ds us passed ways = record { stepped = _; after = refl; session_unit = refl; ways = ways }
device_goes now works l e (HalfOutcome.Asks half m head body) ds us passed ways = absurd passed
device_goes now works l e (HalfOutcome.Strayed half m) ds us passed ways = absurd passed

-- an answer that round-trips at one unit does at an equal one; and a length that fits the smaller
-- unit fits each
pub told_fits : {C : Type 0} (u v : «Unit») (heard : HalfOutcome C) → u ≡ v → TakenAnswerRoundTrips u heard → TakenAnswerRoundTrips v heard
told_fits u v heard same told = subst (λ n. TakenAnswerRoundTrips n heard) same told

pub told_any : {C : Type 0} (u : «Unit») (heard : HalfOutcome C) → TakenAnswerRoundTrips U64 heard → TakenAnswerRoundTrips u heard
told_any u (HalfOutcome.Went half sent) told = tt
told_any u (HalfOutcome.Took half sent command answer) told = record { reads = told.reads; fits = fits_each u _ told.fits }
told_any u (HalfOutcome.Asks half m head body) told = tt
told_any u (HalfOutcome.Strayed half m) told = tt

-- a packet is delivered
hears_go : (law : LaneIsACell) (now : ℕ) (packages : List PackageText) (l : LinkOf) (e : LinkExplained now l) (to : Side) (works : Bool) (number : ℕ) (p : Sent)
    → item_numbered l.packets number ≡ Some p → now ≤ p.date + 8 → AnswerRoundTripsOn packages l to works p.bytes
    → LinkGoes now now l e (link_step_of_packet now packages l to works p.bytes) (down_packet_steps packages l to works number (Some p)) (up_packet_steps packages l to works number (Some p))
hears_go law now packages l e sides.Agent works number p is soon told =
    let k = hears_in_lane law (session_core packages) true (times_of now l) l.agent l.device l.packets (ways_of now l e) number p is soon (told_fits l.agent.core.session.unit l.agent.unit _ e.session_unit told) in
    agent_goes now packages l e (half_on_packet (session_core packages) true l.agent p.bytes)
    (down_packet_steps packages l sides.Agent works number (Some p)) (up_packet_steps packages l sides.Agent works number (Some p)) k.passed k.ways
    (hears_keeps (session_core packages) (session_keeps packages) true l.agent p.bytes)
hears_go law now packages l e sides.Device works number p is soon told =
    let k = hears_in_lane law device_core works (turned_times (times_of now l)) l.device l.agent l.packets (turned (times_of now l) l.agent l.device l.packets (ways_of now l e)) number p is soon (told_any l.device.unit (half_on_packet device_core works l.device p.bytes) told) in
    let heard = half_on_packet device_core works l.device p.bytes in
    let ds = down_packet_steps packages l sides.Device works number (Some p) in
    let us = up_packet_steps packages l sides.Device works number (Some p) in
    device_goes now works l e heard ds us k.passed
    (ways_turned (times_of now l) (times_of now l) l.agent l.agent l.device (half_in heard) l.packets (packets_with_messages l.device.unit now l.packets (sent_in heard)) ds us (ways_of now l e) k.ways)

comes_go : (law : LaneIsACell) (now : ℕ) (packages : List PackageText) (l : LinkOf) (e : LinkExplained now l) (to : Side) (works : Bool) (number : ℕ) (o : Option Sent)
    → item_numbered l.packets number ≡ o → IsSomeAnd o (λ p. now ≤ p.date + 8) → IfSome o (λ p. AnswerRoundTripsOn packages l to works p.bytes)
    → LinkGoes now now l e (delivers_on now packages l to works o) (down_packet_steps packages l to works number o) (up_packet_steps packages l to works number o)
comes_go law now packages l e to works number None is soon told = absurd soon
comes_go law now packages l e to works number (Some p) is soon told =
    rw (le-ltb (p.date + 8) now soon) (hears_go law now packages l e to works number p is soon told)

-- a call that is allowed
allowed : {A : Type 0} (may : Bool) (x : A) → is_some (if may then Some x else None) ≡ true → (if may then Some x else None) ≡ Some x
allowed true x e = refl
allowed false x e = absurd (cc)

activates_go : (law : LaneIsACell) (now : ℕ) (packages : List PackageText) (l : LinkOf) (e : LinkExplained now l) (o : Option SessionOf) → is_some (activates_on packages l o) ≡ true
    → IfSome o (λ s. s.unit ≡ l.agent.core.session.unit)
    → LinkGoes now now l e (activates_on packages l o) (activate_steps packages l o) []
activates_go law now packages l e None may keeps = absurd (cc)
activates_go law now packages l e (Some s) may keeps = record {
  stepped = link_step_without_entries (record l { agent = half_after_activate packages l.agent s });
  after = refl;
  session_unit = keeps;
  ways = call_ways law (session_core packages) (record { session = s; idle = 0 }) (times_of now l) l.agent l.device l.packets (ways_of now l e);
}

-- a verdict
judges_go : (law : LaneIsACell) (now : ℕ) (l : LinkOf) (e : LinkExplained now l) (o : Option VerdictEffect) → is_some (link_step_of_verdict l o) ≡ true
    → LinkGoes now now l e (link_step_of_verdict l o) [] (judge_steps l o)
judges_go law now l e None may = absurd (cc)
judges_go law now l e (Some j) may = record {
  stepped = _;
  after = refl;
  session_unit = refl;
  ways = ways_turned (times_of now l) (times_of now l) l.agent l.agent l.device _ l.packets l.packets [] (judge_steps l (Some j)) (ways_of now l e)
      (call_ways law device_core (record { device = j.after; idle = 0 }) (turned_times (times_of now l)) l.device l.agent l.packets (turned (times_of now l) l.agent l.device l.packets (ways_of now l e)));
}

-- a tick
allows : {A : Type 0} (may : Bool) (x : A) → is_some (if may then Some x else None) ≡ true → may ≡ true
allows true x e = refl
allows false x e = absurd (cc)

tick_goes : (law : LaneIsACell) (now : ℕ) (packages : List PackageText) (l : LinkOf) (agent device : Bool) (e : LinkExplained now l)
    → is_some (link_after now packages l (LinkStep.Tick agent device)) ≡ true → (agent ≡ true → PendingRoundTrips (session_core packages) l.agent) → (device ≡ true → PendingRoundTrips device_core l.device)
    → LinkGoes now (now + 1) l e (link_after now packages l (LinkStep.Tick agent device)) (tick_steps (session_core packages) agent device l.agent) (tick_steps device_core device agent l.device)
tick_goes law now packages l agent device e may agent_said device_said =
    let beats = may_beat agent l.agent_since_miss && may_beat device l.device_since_miss in
    let all = both_hold (nat_lt now (2 ^ 32 - 1)) beats (allows (nat_lt now (2 ^ 32 - 1) && beats) (link_step_without_entries (link_ticks now packages l agent device)) may) in
    let each = both_hold (may_beat agent l.agent_since_miss) (may_beat device l.device_since_miss) all.1 in
    record {
      stepped = link_step_without_entries (link_ticks now packages l agent device);
      after = allowed (nat_lt now (2 ^ 32 - 1) && beats) (link_step_without_entries (link_ticks now packages l agent device)) may;
      session_unit = ticks_keep (session_core packages) (session_keeps packages) agent l.agent;
      ways = tick_ways law (session_core packages) device_core agent device (times_of now l) l.agent l.device l.packets (ways_of now l e) (ltb-true now (2 ^ 32 - 1) all.0) each.0 each.1 agent_said device_said;
    }

-- each step
link_goes : (law : LaneIsACell) (now : ℕ) (packages : List PackageText) (l : LinkOf) (s : LinkStep) (e : LinkExplained now l) → MayHappen now packages l s → LinkStepRoundTrips packages l s
    → LinkGoes now (time_after now s) l e (link_after now packages l s) (down_steps packages l s) (up_steps packages l s)
link_goes law now packages l (LinkStep.Deliver number to works) e may said =
    comes_go law now packages l e to works number (item_numbered l.packets number) refl may said
link_goes law now packages l (LinkStep.Tick agent device) e may said = tick_goes law now packages l agent device e may said.0 said.1
link_goes law now packages l (LinkStep.Start number) e may said = record {
  stepped = link_step_without_entries (record l { agent = half_after_start packages l.agent number });
  after = allowed (may_start packages l.agent.core.session number) (link_step_without_entries (record l { agent = half_after_start packages l.agent number })) may;
  session_unit = refl;
  ways = call_ways law (session_core packages) (record { session = agent_started l.agent.core.session number; idle = 0 }) (times_of now l) l.agent l.device l.packets (ways_of now l e);
}
link_goes law now packages l LinkStep.Cancel e may said = record {
  stepped = link_step_without_entries (record l { agent = half_after_cancel packages l.agent });
  after = refl;
  session_unit = cancelled_keeps l.agent.core.session;
  ways = call_ways law (session_core packages) (half_after_cancel packages l.agent).core (times_of now l) l.agent l.device l.packets (ways_of now l e);
}
link_goes law now packages l LinkStep.Activate e may said = activates_go law now packages l e (agent_activated l.agent.core.session) may (activated_keeps l.agent.core.session)
link_goes law now packages l (LinkStep.Judge verdict works) e may said = judges_go law now l e (device_verdict l.device.core.device verdict works) may
link_goes law now packages l (LinkStep.Restart sides.Agent) e may said = record {
  stepped = _;
  after = refl;
  session_unit = refl;
  ways = restart_ways law (session_core packages) (times_of now l) l.agent l.device l.packets (ways_of now l e);
}
link_goes law now packages l (LinkStep.Restart sides.Device) e may said = record {
  stepped = _;
  after = refl;
  session_unit = refl;
  ways = ways_turned (times_of now l) (times_of now l) l.agent l.agent l.device _ l.packets l.packets (LaneStepOf.Restart ends.Taker ∷ []) (LaneStepOf.Restart ends.Asker ∷ []) (ways_of now l e)
      (restart_ways law device_core (turned_times (times_of now l)) l.device l.agent l.packets (turned (times_of now l) l.agent l.device l.packets (ways_of now l e)));
}

-- Every link that is explained stays so, and each of its steps is steps of both lanes.
pub link_in_lanes : LaneIsACell → LinksAreLanes
link_in_lanes law now packages l s e may said = in_lanes now packages l s e (link_goes law now packages l s e may said)
