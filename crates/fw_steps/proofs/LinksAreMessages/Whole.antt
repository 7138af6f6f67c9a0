-- Each step of a link is steps of its pair over whole messages.
use Rattle.std.proofs.Common.{◌≡◌, ◌⊎◌, ◌≤◌, ◌^◌, ◌-◌, ℕ, ◌+◌, ◌&&◌, nat_lt, Bool, true, false, if◌then◌else◌, List, [], Option, Some, None, IfSome, refl, sym, subst, inl, inr}
use Rattle.std.proofs.lemmas.Bool.{cases_lt, lt-ltb}
use Rattle.pldm_exch.specs.Caller.{is_quiet}
use Rattle.exch_lane.specs.Cells.{Cell, CellRun, cells_along}
use Rattle.exch_lane.specs.Clocks.{may_beat}
use Rattle.exch_lane.specs.Lanes.{Sent, item_numbered}
use Rattle.exch_lane.specs.Lanes.{LaneEntryOf as LaneEntry}
use Rattle.fw_package.specs.Package.{PackageText}
use Rattle.fwup_wire.specs.Laws.{WritesCommands}
use Rattle.fd_core.specs.Wishes.{device_wish}
use Rattle.ua_core.specs.Session.{TimedOf}
use Rattle.fw_message.specs.Headline.{EntryOf}
use Rattle.fw_message.specs.Pairs.{CellContentOf, PairOf, down_wish}
use Rattle.fw_message.specs.declared.side.Side.{Side}
use Rattle.fw_message.specs.declared.side.Side.TheVariants as sides
use Rattle.fw_node.specs.Cores.{TimedDevice, device_core, session_core}
use Rattle.fw_node.specs.Halves.{HalfOutcome, HalfOf, half_on_packet}
use Rattle.fw_steps.specs.LinksAreMessages.{AreStepsOf, LinksAreMessages, StepsInMessages}
use Rattle.fw_steps.specs.Lanes.{LinkExplained, times_of, turned_times, down_packet_steps, down_lane, down_steps, is_down, is_up, up_packet_steps, up_lane, up_steps}
use Rattle.fw_steps.specs.LinksAreLanes.{LinkStepRoundTrips, AnswerRoundTripsOn}
use Rattle.fw_steps.specs.Links.{LinkOf, LinkStep, LinkStepped, link_step_of_agent, delivers_on, link_step_of_device, link_step_of_packet, link_after, link_ticks, packets_with_messages, link_step_without_entries}
use Rattle.fw_steps.proofs.LinksAreMessages.AgentSide.{agent_notes, agent_place, agent_side}
use Rattle.fw_steps.proofs.LinksAreMessages.Calls.{activate_joins, agent_restart_joins, cancel_joins, device_restart_joins, judge_joins, start_joins}
use Rattle.fw_steps.proofs.LinksAreMessages.Delivers.{half_comes}
use Rattle.fw_steps.proofs.LinksAreMessages.DeviceSide.{device_notes, device_place, device_side}
use Rattle.fw_steps.proofs.LinksAreMessages.Learns.{HeardGoes}
use Rattle.fw_steps.proofs.LinksAreMessages.BothHalves.{BothHold, BothRest, BothWait, PairGoes, both_joined, joined_both, joined_pair, pair_at, tick_joins}
use Rattle.fw_steps.proofs.LinksAreLanes.Comings.{fact_of}

-- A PACKET

-- the outcome of the agent's half, on the link
agent_on : (packages : List PackageText) (l : LinkOf) (m : PairOf) (x : TimedOf) (quiet works : Bool) (heard : HalfOutcome TimedOf) (half : HalfOf TimedOf) (ps : List Sent) (es : List EntryOf) (down_cell up_cell : Cell)
    → (g : HeardGoes packages (session_core packages) false (agent_place l.device.core.device) (device_wish l.device.core.device) (agent_notes packages) m x quiet works heard down_cell up_cell)
    → half ≡ g.half → es ≡ g.es → l.device.asker.deaf ≡ l.device.taker.deaf
    → PairGoes packages m (record { after = record l { agent = half; packets = ps }; noted = es }) down_cell up_cell
agent_on packages l m x quiet works heard half ps es down_cell up_cell g is same deaf = rw (is, same) (record {
  down = g.own;
  up = g.other;
  leads = g.leads;
  both = record {
    agent = g.holds;
    device = record { stands = g.theirs.stands; wished = g.theirs.wished; is_for = g.theirs.is_for };
    agent_deaf = g.deaf;
    device_deaf = deaf;
  };
})

agent_hears : (packages : List PackageText) (now : ℕ) (l : LinkOf) (m : PairOf) (quiet works : Bool) (heard : HalfOutcome TimedOf) (t : LinkStepped) (down_cell up_cell : Cell)
    → HeardGoes packages (session_core packages) false (agent_place l.device.core.device) (device_wish l.device.core.device) (agent_notes packages) m l.agent.core quiet works heard down_cell up_cell
    → link_step_of_agent now packages l heard ≡ Some t → l.device.asker.deaf ≡ l.device.taker.deaf → PairGoes packages m t down_cell up_cell
agent_hears packages now l m quiet works (HalfOutcome.Went half sent) t down_cell up_cell g e deaf =
    let is : link_step_without_entries (record l { agent = half; packets = packets_with_messages l.agent.unit now l.packets sent }) ≡ t = cc in
    subst (λ x. PairGoes packages m x down_cell up_cell) is
    (agent_on packages l m l.agent.core quiet works (HalfOutcome.Went half sent) half (packets_with_messages l.agent.unit now l.packets sent) [] down_cell up_cell g g.is.0 (sym g.is.1) deaf)
agent_hears packages now l m quiet works (HalfOutcome.Took half sent command answer) t down_cell up_cell g e deaf =
    let is : ◌≡◌ {A = LinkStepped} (record { after = record l { agent = half; packets = packets_with_messages l.agent.unit now l.packets sent }; noted = agent_notes packages l.agent.core command quiet works }) t = cc in
    subst (λ x. PairGoes packages m x down_cell up_cell) is
    (agent_on packages l m l.agent.core quiet works (HalfOutcome.Took half sent command answer) half (packets_with_messages l.agent.unit now l.packets sent) (agent_notes packages l.agent.core command quiet works) down_cell up_cell g g.is.0 (sym g.is.1) deaf)
agent_hears packages now l m quiet works (HalfOutcome.Asks half request head body) t down_cell up_cell g e deaf = absurd (cc)
agent_hears packages now l m quiet works (HalfOutcome.Strayed half message) t down_cell up_cell g e deaf = absurd (cc)

-- the outcome of the device's half, on the link
device_on : (packages : List PackageText) (l : LinkOf) (m : PairOf) (x : TimedDevice) (quiet works : Bool) (heard : HalfOutcome TimedDevice) (half : HalfOf TimedDevice) (ps : List Sent) (es : List EntryOf) (down_cell up_cell : Cell)
    → (g : HeardGoes packages device_core true (device_place l.agent.core.session) (down_wish packages l.agent.core.session) device_notes m x quiet works heard up_cell down_cell)
    → half ≡ g.half → es ≡ g.es → l.agent.asker.deaf ≡ l.agent.taker.deaf
    → PairGoes packages m (record { after = record l { device = half; packets = ps }; noted = es }) down_cell up_cell
device_on packages l m x quiet works heard half ps es down_cell up_cell g is same deaf = rw (is, same) (record {
  down = g.other;
  up = g.own;
  leads = g.leads;
  both = record {
    agent = record { stands = g.theirs.stands; wished = g.theirs.wished; is_for = g.theirs.is_for };
    device = g.holds;
    agent_deaf = deaf;
    device_deaf = g.deaf;
  };
})

device_hears : (packages : List PackageText) (now : ℕ) (l : LinkOf) (m : PairOf) (works : Bool) (heard : HalfOutcome TimedDevice) (t : LinkStepped) (down_cell up_cell : Cell)
    → HeardGoes packages device_core true (device_place l.agent.core.session) (down_wish packages l.agent.core.session) device_notes m l.device.core (is_quiet l.device.asker.caller) works heard up_cell down_cell
    → link_step_of_device now works l heard ≡ Some t → l.agent.asker.deaf ≡ l.agent.taker.deaf → PairGoes packages m t down_cell up_cell
device_hears packages now l m works (HalfOutcome.Went half sent) t down_cell up_cell g e deaf =
    let is : link_step_without_entries (record l { device = half; packets = packets_with_messages l.device.unit now l.packets sent }) ≡ t = cc in
    subst (λ x. PairGoes packages m x down_cell up_cell) is
    (device_on packages l m l.device.core (is_quiet l.device.asker.caller) works (HalfOutcome.Went half sent) half (packets_with_messages l.device.unit now l.packets sent) [] down_cell up_cell g g.is.0 (sym g.is.1) deaf)
device_hears packages now l m works (HalfOutcome.Took half sent command answer) t down_cell up_cell g e deaf =
    let is : ◌≡◌ {A = LinkStepped} (record { after = record l { device = half; packets = packets_with_messages l.device.unit now l.packets sent }; noted = device_notes l.device.core command (is_quiet l.device.asker.caller) works }) t = cc in
    subst (λ x. PairGoes packages m x down_cell up_cell) is
    (device_on packages l m l.device.core (is_quiet l.device.asker.caller) works (HalfOutcome.Took half sent command answer) half (packets_with_messages l.device.unit now l.packets sent) (device_notes l.device.core command (is_quiet l.device.asker.caller) works) down_cell up_cell g g.is.0 (sym g.is.1) deaf)
device_hears packages now l m works (HalfOutcome.Asks half request head body) t down_cell up_cell g e deaf = absurd (cc)
device_hears packages now l m works (HalfOutcome.Strayed half message) t down_cell up_cell g e deaf = absurd (cc)

coming : (late : Bool) (o : Option LinkStepped) (t : LinkStepped) → (if late then None else o) ≡ Some t → o ≡ Some t
coming true o t e = absurd (cc)
coming false o t e = e

-- a packet that is delivered is living
living : (date now : ℕ) (o : Option LinkStepped) (t : LinkStepped) → (if nat_lt date now then None else o) ≡ Some t → (now ≤ date) × (o ≡ Some t)
living date now o t e = elim (cases_lt date now) [
  | inl late ↦ absurd (let dead = lt-ltb date now late in cc)
  | inr soon ↦ (soon, coming (nat_lt date now) o t e)
]

either_way : {A B : Type 0} → A ⊎ B → B ⊎ A
either_way (inl a) = inr a
either_way (inr b) = inl b

-- A packet of the link is delivered to a side.
deliver_joins : (packages : List PackageText) (now : ℕ) (l : LinkOf) (to : Side) (works : Bool) (number : ℕ) (o : Option Sent) (t : LinkStepped) (down up : Option CellContentOf) (down_past up_past : List LaneEntry) (down_run up_run down_last up_last : CellRun)
    → LinkExplained now l → BothHold packages l down_run.cell up_run.cell down up → BothWait l down_run.cell up_run.cell → BothRest l down_run.cell up_run.cell
    → item_numbered l.packets number ≡ o → IfSome o (λ p. AnswerRoundTripsOn packages l to works p.bytes) → delivers_on now packages l to works o ≡ Some t
    → cells_along (down_lane now l down_past) (down_packet_steps packages l to works number o) (Some down_run) ≡ Some down_last
    → cells_along (up_lane now l up_past) (up_packet_steps packages l to works number o) (Some up_run) ≡ Some up_last
    → PairGoes packages (pair_at l down up) t down_last.cell up_last.cell
deliver_joins packages now l to works number None t down up down_past up_past down_run up_run down_last up_last x both waits rests is told s e f = absurd (cc)
deliver_joins packages now l sides.Agent works number (Some p) t down up down_past up_past down_run up_run down_last up_last x both waits rests is told s e f =
    let live = living (p.date + 8) now (link_step_of_packet now packages l sides.Agent works p.bytes) t s in
    let way = fact_of {A = Sent} (λ q. now ≤ q.date + 8 → (is_down l q ≡ true) ⊎ (is_up l q ≡ true)) l.packets number p x.packets is live.0 in
    agent_hears packages now l (pair_at l down up) (is_quiet l.agent.asker.caller) true (half_on_packet (session_core packages) true l.agent p.bytes) t down_last.cell up_last.cell
    (half_comes (agent_side packages l.device.core.device) true (times_of now l) l.agent l.device l.packets down_past up_past number p down up down_run down_last up_run up_last
    x.unit x.ends.differ x.agent_peer x.device_peer is way both.agent (record { stands = both.device.stands; wished = both.device.wished; is_for = both.device.is_for }) both.agent_deaf waits.down rests.down told e f)
    live.1 both.device_deaf
deliver_joins packages now l sides.Device works number (Some p) t down up down_past up_past down_run up_run down_last up_last x both waits rests is told s e f =
    let live = living (p.date + 8) now (link_step_of_packet now packages l sides.Device works p.bytes) t s in
    let way = fact_of {A = Sent} (λ q. now ≤ q.date + 8 → (is_down l q ≡ true) ⊎ (is_up l q ≡ true)) l.packets number p x.packets is live.0 in
    device_hears packages now l (pair_at l down up) works (half_on_packet device_core works l.device p.bytes) t down_last.cell up_last.cell
    (half_comes (device_side packages l.agent.core.session) works (turned_times (times_of now l)) l.device l.agent l.packets up_past down_past number p up down up_run up_last down_run down_last
    (sym x.unit) (λ z. x.ends.differ (sym z)) x.device_peer x.agent_peer is (either_way way) both.device (record { stands = both.agent.stands; wished = both.agent.wished; is_for = both.agent.is_for }) both.device_deaf waits.up rests.up told f e)
    live.1 both.agent_deaf

-- ALL STEPS

ticks_if : (packages : List PackageText) (m : PairOf) (may : Bool) (u t : LinkStepped) (down_cell up_cell : Cell) → (if may then Some u else None) ≡ Some t → PairGoes packages m u down_cell up_cell → PairGoes packages m t down_cell up_cell
ticks_if packages m true u t down_cell up_cell e g =
    let is : u ≡ t = cc in
    subst (λ x. PairGoes packages m x down_cell up_cell) is g
ticks_if packages m false u t down_cell up_cell e g = absurd (cc)

-- in the form of the law
in_messages : (packages : List PackageText) (l : LinkOf) (s : LinkStep) (t : LinkStepped) (down up : Option CellContentOf) (down_cell up_cell : Cell) → (g : PairGoes packages (pair_at l down up) t down_cell up_cell)
    → AreStepsOf s g.leads.steps → StepsInMessages packages (pair_at l down up) s t down_cell up_cell
in_messages packages l s t down up down_cell up_cell g named = record {
  steps = g.leads.steps;
  named = named;
  pair = pair_at t.after g.down g.up;
  along = g.leads.along;
  joined = both_joined packages t.after down_cell up_cell g.down g.up g.both;
}

-- Each step of a link is steps of its pair.
pub link_joins : (written : WritesCommands) (packages : List PackageText) (now : ℕ) (l : LinkOf) (s : LinkStep) (t : LinkStepped) (down up : Option CellContentOf) (down_past up_past : List LaneEntry) (down_run up_run down_last up_last : CellRun)
    → LinkExplained now l → LinkStepRoundTrips packages l s → BothHold packages l down_run.cell up_run.cell down up → BothWait l down_run.cell up_run.cell → BothRest l down_run.cell up_run.cell
    → link_after now packages l s ≡ Some t
    → cells_along (down_lane now l down_past) (down_steps packages l s) (Some down_run) ≡ Some down_last
    → cells_along (up_lane now l up_past) (up_steps packages l s) (Some up_run) ≡ Some up_last
    → StepsInMessages packages (pair_at l down up) s t down_last.cell up_last.cell
link_joins written packages now l (LinkStep.Deliver number to works) t down up down_past up_past down_run up_run down_last up_last x said both waits rests s e f =
    let g = deliver_joins packages now l to works number (item_numbered l.packets number) t down up down_past up_past down_run up_run down_last up_last x both waits rests refl said s e f in
    in_messages packages l (LinkStep.Deliver number to works) t down up down_last.cell up_last.cell g g.leads.named
link_joins written packages now l (LinkStep.Tick agent device) t down up down_past up_past down_run up_run down_last up_last x said both waits rests s e f =
    let g = ticks_if packages (pair_at l down up) (nat_lt now (2 ^ 32 - 1) && (may_beat agent l.agent_since_miss && may_beat device l.device_since_miss)) (link_step_without_entries (link_ticks now packages l agent device)) t down_last.cell up_last.cell s
    (tick_joins packages now l agent device down up down_past up_past down_run up_run down_last up_last written both waits said.0 said.1 e f) in
    in_messages packages l (LinkStep.Tick agent device) t down up down_last.cell up_last.cell g g.leads.named
link_joins written packages now l (LinkStep.Start number) t down up down_past up_past down_run up_run down_last up_last x said both waits rests s e f =
    let g = start_joins packages now l number t down up down_past down_run up_run down_last up_last both waits s e f in
    in_messages packages l (LinkStep.Start number) t down up down_last.cell up_last.cell g g.leads.named
link_joins written packages now l LinkStep.Cancel t down up down_past up_past down_run up_run down_last up_last x said both waits rests s e f =
    let g = cancel_joins packages now l t down up down_past down_run up_run down_last up_last both waits s e f in
    in_messages packages l LinkStep.Cancel t down up down_last.cell up_last.cell g g.leads.named
link_joins written packages now l LinkStep.Activate t down up down_past up_past down_run up_run down_last up_last x said both waits rests s e f =
    let g = activate_joins packages now l t down up down_past down_run up_run down_last up_last both waits s e f in
    in_messages packages l LinkStep.Activate t down up down_last.cell up_last.cell g g.leads.named
link_joins written packages now l (LinkStep.Judge verdict works) t down up down_past up_past down_run up_run down_last up_last x said both waits rests s e f =
    let g = judge_joins packages now l verdict works t down up up_past down_run up_run down_last up_last both waits s e f in
    in_messages packages l (LinkStep.Judge verdict works) t down up down_last.cell up_last.cell g g.leads.named
link_joins written packages now l (LinkStep.Restart sides.Agent) t down up down_past up_past down_run up_run down_last up_last x said both waits rests s e f =
    agent_restart_joins packages now l t down up down_past up_past down_run up_run down_last up_last both waits s e f
link_joins written packages now l (LinkStep.Restart sides.Device) t down up down_past up_past down_run up_run down_last up_last x said both waits rests s e f =
    let g = device_restart_joins packages now l t down up down_past up_past down_run up_run down_last up_last both waits s e f in
    in_messages packages l (LinkStep.Restart sides.Device) t down up down_last.cell up_last.cell g g.leads.named

-- from the link's own pair
from_pair : (packages : List PackageText) (m n : PairOf) (s : LinkStep) (t : LinkStepped) (down_cell up_cell : Cell) → m ≡ n → StepsInMessages packages n s t down_cell up_cell → StepsInMessages packages m s t down_cell up_cell
from_pair packages m n s t down_cell up_cell is k = subst (λ x. StepsInMessages packages x s t down_cell up_cell) (sym is) k

-- Every step of a link that is explained is steps of a pair that it matches.
pub links_are_messages : WritesCommands → LinksAreMessages
links_are_messages written now packages l s before on m said j =
    from_pair packages m (pair_at l m.down m.up) s on.stepped on.explained.down.run.cell on.explained.up.run.cell
    (joined_pair packages l before.down.run.cell before.up.run.cell m j)
    (link_joins written packages now l s on.stepped m.down m.up before.down.run.entries before.up.run.entries before.down.run before.up.run on.explained.down.run on.explained.up.run
    before said (joined_both packages l before.down.run.cell before.up.run.cell m j)
    (record { down = on.down.cell_before.waits; up = on.up.cell_before.waits })
    (record { down = on.down.cell_before.quiet; up = on.up.cell_before.quiet })
    on.after on.down.along on.up.along)
