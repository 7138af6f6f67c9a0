-- The ticks for which the agent is deaf after a step, and each of its halves with it.
use Rattle.std.proofs.Common.{◌≡◌, ◌∙◌, ◌==◌, ◌-◌, ◌^◌, ◌&&◌, ℕ, nat_lt, Bool, true, false, if◌then◌else◌, nat_le, List, [], ◌∷◌, Option, Some, None, refl, sym, ap}
use Rattle.mctp_reasm.specs.Pieces.{MessageOf}
use Rattle.exch_lane.specs.Clocks.{may_beat}
use Rattle.fwup_wire.specs.Values.{CommandOf}
use Rattle.fd_core.specs.Steps.{VerdictEffect, device_verdict}
use Rattle.fw_package.specs.Package.{PackageText}
use Rattle.pldm_exch.specs.Caller.{is_quiet, may_begin}
use Rattle.pldm_exch.specs.Sides.{AskerRow, AskerTick, TakerRow, asker_counts, asker_row, taker_counts, taker_row}
use Rattle.pldm_base.specs.declared.header.PldmHead.{PldmHead}
use Rattle.mctp_reasm.specs.Held.{Held}
use Rattle.std.specs.Prelude.{Result, Ok, Err, ◌-◌, ◌^◌, nat_lt, ◌+◌}
use Rattle.ua_core.specs.Calls.{agent_activated}
use Rattle.ua_core.specs.Session.{SessionOf, TimedOf}
use Rattle.exch_lane.specs.Lanes.{Sent, item_numbered}
use Rattle.fw_message.specs.Pairs.{may_start}
use Rattle.fw_message.specs.declared.side.Side.{Side}
use Rattle.fw_message.specs.declared.side.Side.TheVariants as sides
use Rattle.fw_node.specs.Agents.{any_packet, AgentOf, agent_ticks, agent_unmoved, becomes_at, half_at, half_for, agent_on_packet_at, place_of_sender, place_of as half_place, half_after_activate, half_after_cancel, ready_for, half_after_start}
use Rattle.fw_node.specs.Cores.{TimedDevice, device_core, session_core}
use Rattle.fw_node.specs.Halves.{CoreOf, HalfOutcome, HalfOf, begins_if, begins_wish, half_tick_by_row, half_on_packet, half_on_rows, half_takes, half_ticks, tick_if, read_by, takes_if, takes_read, unwished_abandoned, with_caller}
use Rattle.fw_steps.specs.Steps.{world_after}
use Rattle.fw_steps.specs.Links.{LinkOf, LinkStep, LinkStepped, activates_on as link_activates, link_step_of_agent, delivers_on, link_step_of_device, link_step_of_packet, link_step_of_verdict, link_after, link_ticks, link_step_without_entries}
use Rattle.fw_steps.specs.Worlds.{WorldOf, activates_on, agent_passes, world_after_log_request, at_agent, at_device, world_after_call, counts, world_after_deliver, packets_of, place_of, site_for}
use Rattle.fw_steps.specs.declared.step.Step.{Step}
use Rattle.fw_steps.specs.declared.step.Step.TheVariants as steps
use Rattle.fw_steps.proofs.LinksAreMessages.Rows.{asker_deaf, asker_in, counts_are, deaf_after}
use Rattle.fw_steps.proofs.LinksAreLanes.Arrivals.{device_agent}
use Rattle.fw_steps.proofs.LinksAreLanes.Hears.{half_in}
use Rattle.fw_steps.proofs.LinksAreLanes.Projected.{comes_as, link_step, restart_as, where_mine}
use Rattle.fw_steps.proofs.LinksAreLanes.Projection.{judges_agent}

-- A HALF'S ASKER, TICK BY TICK

begun_asker : {C : Type 0} (may : Bool) (h : HalfOf C) (c : CommandOf) (ms : List MessageOf) → (begins_if may h c ms).half.asker.deaf ≡ h.asker.deaf
begun_asker true h c ms = refl
begun_asker false h c ms = refl

wished_asker : {C : Type 0} (wish : Option CommandOf) (h : HalfOf C) (ms : List MessageOf) → (begins_wish wish h ms).half.asker.deaf ≡ h.asker.deaf
wished_asker None h ms = refl
wished_asker (Some c) h ms = begun_asker (may_begin h.asker.caller) h c ms

hearing_asker : {C : Type 0} (hears : Bool) (core : CoreOf C) (h : HalfOf C) (ms : List MessageOf) → (tick_if hears core h ms).half.asker.deaf ≡ h.asker.deaf
hearing_asker true core h ms =
    wished_asker (core.wish (core.ticked h.core)) (with_caller (record h { core = core.ticked h.core }) (unwished_abandoned (core.wish (core.ticked h.core)) h.asker.caller)) ms
hearing_asker false core h ms = refl

called_asker : {C : Type 0} (core : CoreOf C) (h : HalfOf C) (row : AskerTick) → (half_tick_by_row core h row).half.asker.deaf ≡ (asker_in row).deaf
called_asker core h (AskerTick.Waits a) = hearing_asker (a.deaf == 0) core (record h { asker = a }) []
called_asker core h (AskerTick.Resends a m) = hearing_asker (a.deaf == 0) core (record h { asker = a }) (m ∷ [])
called_asker core h (AskerTick.GivesUp a) = hearing_asker (a.deaf == 0) core (record h { asker = a; core = core.silent h.core }) []

ticked_asker : {C : Type 0} (core : CoreOf C) (h : HalfOf C) → (half_ticks core true h).half.asker.deaf ≡ deaf_after (nat_le h.asker.deaf 1) h.asker.deaf
ticked_asker core h =
    called_asker core (record h { taker = taker_counts h.taker }) (asker_counts h.asker)
    ∙ ap (λ r. (asker_in r).deaf) (counts_are h.asker (nat_le h.asker.deaf 1) refl)
    ∙ asker_deaf h.asker (nat_le h.asker.deaf 1)

-- AND PACKET BY PACKET

read_asker : {C : Type 0} (core : CoreOf C) (quiet works : Bool) (h : HalfOf C) (requests : List (Option Held)) (m : MessageOf) (head : PldmHead) (r : Result CommandOf ℕ)
    → (half_in (takes_read core quiet works h requests m head r)).asker.deaf ≡ h.asker.deaf
read_asker core quiet works h requests m head (Ok c) = refl
read_asker core quiet works h requests m head (Err code) = refl

taken_asker : {C : Type 0} (five : Bool) (core : CoreOf C) (works : Bool) (h : HalfOf C) (requests : List (Option Held)) (m : MessageOf) (head : PldmHead) (body : List ℕ)
    → (half_in (takes_if five core works h requests m head body)).asker.deaf ≡ h.asker.deaf
taken_asker true core works h requests m head body = read_asker core (is_quiet h.asker.caller) works h requests m head (read_by core head.command body)
taken_asker false core works h requests m head body = refl

takes_asker : {C : Type 0} (core : CoreOf C) (works : Bool) (h : HalfOf C) (row : TakerRow) → (half_in (half_takes core works h row)).asker.deaf ≡ h.asker.deaf
takes_asker core works h (TakerRow.Silent requests) = refl
takes_asker core works h (TakerRow.Repeats requests answer) = refl
takes_asker core works h (TakerRow.TakesUp requests m head body) = taken_asker (head.pldm_type == 5) core works h requests m head body
takes_asker core works h (TakerRow.Strays requests m) = refl

rows_asker : {C : Type 0} (core : CoreOf C) (works : Bool) (h : HalfOf C) (asks : AskerRow) (answers : TakerRow) → (half_in (half_on_rows core works h asks answers)).asker.deaf ≡ h.asker.deaf
rows_asker core works h (AskerRow.Ignores replies) answers = takes_asker core works (record h { asker = record h.asker { replies = replies } }) answers
rows_asker core works h (AskerRow.Learns replies caller heard) answers = refl

hears_asker : {C : Type 0} (core : CoreOf C) (works : Bool) (h : HalfOf C) (bytes : List ℕ) → (half_in (half_on_packet core works h bytes)).asker.deaf ≡ h.asker.deaf
hears_asker core works h bytes = rows_asker core works h (asker_row h.unit h.own h.peer h.asker bytes) (taker_row h.unit h.own h.peer h.taker bytes)

-- A LINK'S STEP

-- the ticks for which the agent is deaf after it
abbrev pub deaf_then : LinkStep → ℕ → ℕ
deaf_then (LinkStep.Tick true device) deaf = deaf_after (nat_le deaf 1) deaf
deaf_then (LinkStep.Tick false device) deaf = deaf
deaf_then (LinkStep.Restart sides.Agent) deaf = 40
deaf_then s deaf = deaf

-- a number of a link, after equal steps
pub became : (f : LinkOf → ℕ) (u t : LinkStepped) (d : ℕ) → Some u ≡ Some t → f u.after ≡ d → f t.after ≡ d
became f u t d e is =
    let same : u ≡ t = cc in
    ap (λ x. f x.after) (sym same) ∙ is

pub became_if : (f : LinkOf → ℕ) (may : Bool) (u t : LinkStepped) (d : ℕ) → (if may then Some u else None) ≡ Some t → f u.after ≡ d → f t.after ≡ d
became_if f true u t d e is = became f u t d e is
became_if f false u t d e is = absurd (cc)

abbrev deaf_of : LinkOf → ℕ
deaf_of l = l.agent.asker.deaf

agent_heard_deaf : (now : ℕ) (packages : List PackageText) (l : LinkOf) (heard : HalfOutcome TimedOf) (t : LinkStepped) (d : ℕ) → link_step_of_agent now packages l heard ≡ Some t → (half_in heard).asker.deaf ≡ d
    → t.after.agent.asker.deaf ≡ d
agent_heard_deaf now packages l (HalfOutcome.Went h sent) t d e is = became deaf_of _ t d e is
agent_heard_deaf now packages l (HalfOutcome.Took h sent c answer) t d e is = became deaf_of _ t d e is
agent_heard_deaf now packages l (HalfOutcome.Asks h m head body) t d e is = absurd (cc)
agent_heard_deaf now packages l (HalfOutcome.Strayed h m) t d e is = absurd (cc)

device_heard_deaf : (now : ℕ) (works : Bool) (l : LinkOf) (heard : HalfOutcome TimedDevice) (t : LinkStepped) → link_step_of_device now works l heard ≡ Some t
    → t.after.agent.asker.deaf ≡ l.agent.asker.deaf
device_heard_deaf now works l (HalfOutcome.Went h sent) t e = became deaf_of _ t l.agent.asker.deaf e refl
device_heard_deaf now works l (HalfOutcome.Took h sent c answer) t e = became deaf_of _ t l.agent.asker.deaf e refl
device_heard_deaf now works l (HalfOutcome.Asks h m head body) t e = absurd (cc)
device_heard_deaf now works l (HalfOutcome.Strayed h m) t e = absurd (cc)

heard_deaf : (now : ℕ) (packages : List PackageText) (l : LinkOf) (to : Side) (works : Bool) (bytes : List ℕ) (t : LinkStepped) → link_step_of_packet now packages l to works bytes ≡ Some t
    → t.after.agent.asker.deaf ≡ l.agent.asker.deaf
heard_deaf now packages l sides.Agent works bytes t e =
    agent_heard_deaf now packages l (half_on_packet (session_core packages) true l.agent bytes) t l.agent.asker.deaf e (hears_asker (session_core packages) true l.agent bytes)
heard_deaf now packages l sides.Device works bytes t e = device_heard_deaf now works l (half_on_packet device_core works l.device bytes) t e

heard_deaf_if : (dead : Bool) (now : ℕ) (packages : List PackageText) (l : LinkOf) (to : Side) (works : Bool) (bytes : List ℕ) (t : LinkStepped)
    → (if dead then None else link_step_of_packet now packages l to works bytes) ≡ Some t → t.after.agent.asker.deaf ≡ l.agent.asker.deaf
heard_deaf_if true now packages l to works bytes t e = absurd (cc)
heard_deaf_if false now packages l to works bytes t e = heard_deaf now packages l to works bytes t e

comes_deaf : (now : ℕ) (packages : List PackageText) (l : LinkOf) (to : Side) (works : Bool) (o : Option Sent) (t : LinkStepped) → delivers_on now packages l to works o ≡ Some t
    → t.after.agent.asker.deaf ≡ l.agent.asker.deaf
comes_deaf now packages l to works None t e = absurd (cc)
comes_deaf now packages l to works (Some p) t e = heard_deaf_if (nat_lt (p.date + 8) now) now packages l to works p.bytes t e

activated_deaf : (packages : List PackageText) (l : LinkOf) (o : Option SessionOf) (t : LinkStepped) → link_activates packages l o ≡ Some t → t.after.agent.asker.deaf ≡ l.agent.asker.deaf
activated_deaf packages l None t e = absurd (cc)
activated_deaf packages l (Some s) t e = became deaf_of _ t l.agent.asker.deaf e refl

judged_deaf : (l : LinkOf) (o : Option VerdictEffect) (t : LinkStepped) → link_step_of_verdict l o ≡ Some t → t.after.agent.asker.deaf ≡ l.agent.asker.deaf
judged_deaf l None t e = absurd (cc)
judged_deaf l (Some j) t e = became deaf_of _ t l.agent.asker.deaf e refl

pub deaf_on_link : (now : ℕ) (packages : List PackageText) (l : LinkOf) (s : LinkStep) (t : LinkStepped) → link_after now packages l s ≡ Some t
    → t.after.agent.asker.deaf ≡ deaf_then s l.agent.asker.deaf
deaf_on_link now packages l (LinkStep.Deliver number to works) t e = comes_deaf now packages l to works (item_numbered l.packets number) t e
deaf_on_link now packages l (LinkStep.Tick true device) t e =
    became_if deaf_of (nat_lt now (2 ^ 32 - 1) && (may_beat true l.agent_since_miss && may_beat device l.device_since_miss)) (link_step_without_entries (link_ticks now packages l true device)) t _ e (ticked_asker (session_core packages) l.agent)
deaf_on_link now packages l (LinkStep.Tick false device) t e =
    became_if deaf_of (nat_lt now (2 ^ 32 - 1) && (may_beat false l.agent_since_miss && may_beat device l.device_since_miss)) (link_step_without_entries (link_ticks now packages l false device)) t _ e refl
deaf_on_link now packages l (LinkStep.Start number) t e =
    became_if deaf_of (may_start packages l.agent.core.session number) (link_step_without_entries (record l { agent = half_after_start packages l.agent number })) t l.agent.asker.deaf e refl
deaf_on_link now packages l LinkStep.Cancel t e = became deaf_of _ t l.agent.asker.deaf e refl
deaf_on_link now packages l LinkStep.Activate t e = activated_deaf packages l (agent_activated l.agent.core.session) t e
deaf_on_link now packages l (LinkStep.Judge verdict works) t e = judged_deaf l (device_verdict l.device.core.device verdict works) t e
deaf_on_link now packages l (LinkStep.Restart sides.Agent) t e = became deaf_of _ t 40 e refl
deaf_on_link now packages l (LinkStep.Restart sides.Device) t e = became deaf_of _ t l.agent.asker.deaf e refl

-- A STEP OF THE WORLD

-- the agent's count after a step of the link, or after none
abbrev pub DeafAs : Option LinkStep → (before after : ℕ) → Type 0
DeafAs None before after = after ≡ before
DeafAs (Some s) before after = after ≡ deaf_then s before

-- the agent's own identifier and its count stay
pub record SameAgent (n m : AgentOf) : Type 0 where
  pub eid : m.endpoint.eid ≡ n.endpoint.eid
  pub deaf : m.deaf ≡ n.deaf

same_agent : (n m : AgentOf) → m ≡ n → SameAgent n m
same_agent n m e = record { eid = ap (λ x. x.endpoint.eid) e; deaf = ap (λ x. x.deaf) e }

hears_same : (packages : List PackageText) (n : AgentOf) (bytes : List ℕ) (now : ℕ) (o : Option ℕ) (s : Option (HalfOf TimedOf)) → SameAgent n (agent_on_packet_at packages n bytes now o s).agent
hears_same packages n bytes now None s = same_agent n n refl
hears_same packages n bytes now (Some p) None = same_agent n n refl
hears_same packages n bytes now (Some p) (Some h) = record { eid = refl; deaf = refl }

hears_same_if : (hears : Bool) (w : WorldOf) (bytes : List ℕ)
    → SameAgent w.agent (if hears then agent_on_packet_at w.packages w.agent bytes w.now (place_of_sender w.agent.halves (any_packet bytes)) (half_at w.agent.halves (place_of_sender w.agent.halves (any_packet bytes))) else agent_unmoved w.agent).agent
hears_same_if true w bytes = hears_same w.packages w.agent bytes w.now (place_of_sender w.agent.halves (any_packet bytes)) (half_at w.agent.halves (place_of_sender w.agent.halves (any_packet bytes)))
hears_same_if false w bytes = same_agent w.agent w.agent refl

same_if : (agent : Bool) (w u v : WorldOf) → SameAgent w.agent u.agent → SameAgent w.agent v.agent → SameAgent w.agent (if agent then u else v).agent
same_if true w u v h k = h
same_if false w u v h k = k

delivers_same : (works : Bool) (faults : ℕ) (w : WorldOf) (node : ℕ) (o : Option Sent) → SameAgent w.agent (world_after_deliver works faults w node o).agent
delivers_same works faults w node None = same_agent w.agent w.agent refl
delivers_same works faults w node (Some p) =
    same_if (node == w.agent.endpoint.eid) w (at_agent w p.bytes) (at_device works faults w p.bytes (place_of w.sites node) (site_for w.sites node))
    (hears_same_if (w.agent.deaf == 0) w p.bytes) (same_agent w.agent _ (device_agent works faults w p.bytes (place_of w.sites node) (site_for w.sites node)))

becomes_same : (n : AgentOf) (now : ℕ) (g : HalfOf TimedOf → HalfOf TimedOf) (o : Option ℕ) (s : Option (HalfOf TimedOf)) → SameAgent n (becomes_at n now g o s)
becomes_same n now g None s = same_agent n n refl
becomes_same n now g (Some p) None = same_agent n n refl
becomes_same n now g (Some p) (Some h) = record { eid = refl; deaf = refl }

calls_same : (w : WorldOf) (device : ℕ) (g : HalfOf TimedOf → HalfOf TimedOf) → SameAgent w.agent (world_after_call w device g).agent
calls_same w device g = becomes_same w.agent w.now g (half_place w.agent.halves device) (half_for w.agent device)

activates_same : (w : WorldOf) (device : ℕ) (o : Option SessionOf) → SameAgent w.agent (activates_on w device o).agent
activates_same w device None = same_agent w.agent w.agent refl
activates_same w device (Some s) = calls_same w device (λ h. half_after_activate w.packages h s)

log_same : (w : WorldOf) (bytes : List ℕ) → SameAgent w.agent (world_after_log_request w bytes).agent
log_same w [] = same_agent w.agent w.agent refl
log_same w (command ∷ bytes) = record { eid = refl; deaf = refl }

tick_deaf : (hears : Bool) (packages : List PackageText) (now : ℕ) (n : AgentOf) → nat_le n.deaf 1 ≡ hears → (agent_ticks packages now n).deaf ≡ deaf_after hears n.deaf
tick_deaf true packages now n e = rw e refl
tick_deaf false packages now n e = rw e refl

tick_eid : (hears : Bool) (packages : List PackageText) (now : ℕ) (n : AgentOf) → nat_le n.deaf 1 ≡ hears → (agent_ticks packages now n).endpoint.eid ≡ n.endpoint.eid
tick_eid true packages now n e = rw e refl
tick_eid false packages now n e = rw e refl

pass_eid : (counts : Bool) (packages : List PackageText) (now : ℕ) (n : AgentOf) → (agent_passes counts packages now n).endpoint.eid ≡ n.endpoint.eid
pass_eid true packages now n = tick_eid (nat_le n.deaf 1) packages now n refl
pass_eid false packages now n = refl

pass_deaf : (counts device : Bool) (packages : List PackageText) (now : ℕ) (n : AgentOf) → (agent_passes counts packages now n).deaf ≡ deaf_then (LinkStep.Tick counts device) n.deaf
pass_deaf true device packages now n = tick_deaf (nat_le n.deaf 1) packages now n refl
pass_deaf false device packages now n = refl

restart_eid : (agent : Bool) (w u v : WorldOf) → u.agent.endpoint.eid ≡ w.agent.endpoint.eid → v.agent.endpoint.eid ≡ w.agent.endpoint.eid → (if agent then u else v).agent.endpoint.eid ≡ w.agent.endpoint.eid
restart_eid true w u v h k = h
restart_eid false w u v h k = k

-- The agent keeps its identifier.
pub agent_stays : (works : Bool) (faults : ℕ) (w : WorldOf) (s : Step) → (world_after works faults w s).agent.endpoint.eid ≡ w.agent.endpoint.eid
agent_stays works faults w (steps.Deliver device number node) = (delivers_same works faults w node (item_numbered (packets_of w device) number)).eid
agent_stays works faults w (steps.Tick missed) = pass_eid (counts missed.items w.agent.endpoint.eid) w.packages (w.now + 1) w.agent
agent_stays works faults w (steps.Start device number) = (calls_same w device (λ h. half_after_start w.packages h number)).eid
agent_stays works faults w (steps.Cancel device) = (calls_same w device (half_after_cancel w.packages)).eid
agent_stays works faults w (steps.Activate device) = (activates_same w device (ready_for w.agent device)).eid
agent_stays works faults w (steps.Verdict device verdict) = ap (λ n. n.endpoint.eid) (judges_agent works faults w verdict (place_of w.sites device) (site_for w.sites device))
agent_stays works faults w (steps.Restart node) = restart_eid (node == w.agent.endpoint.eid) w _ _ refl refl
agent_stays works faults w (steps.Sel bytes) = (log_same w bytes.items).eid

-- a delivery that isn't for the agent leaves its count
deaf_comes : (works : Bool) (number : ℕ) (mine agent device : Bool) (before after : ℕ) → after ≡ before → DeafAs (where_mine mine (comes_as works number agent device)) before after
deaf_comes works number true true device before after e = e
deaf_comes works number true false true before after e = e
deaf_comes works number true false false before after e = e
deaf_comes works number false agent device before after e = e

deaf_mine : (mine : Bool) (s : LinkStep) (before after : ℕ) → deaf_then s before ≡ before → after ≡ before → DeafAs (where_mine mine (Some s)) before after
deaf_mine true s before after same e = e ∙ sym same
deaf_mine false s before after same e = e

deaf_restart : (agent device : Bool) (w u v : WorldOf) → u.agent.deaf ≡ 40 → v.agent.deaf ≡ w.agent.deaf → DeafAs (restart_as agent device) w.agent.deaf (if agent then u else v).agent.deaf
deaf_restart true device w u v e k = e
deaf_restart false true w u v e k = k
deaf_restart false false w u v e k = k

-- The agent is deaf for as long as its halves.
pub deaf_goes : (works : Bool) (faults : ℕ) (w : WorldOf) (s : Step) (eid : ℕ) → DeafAs (link_step works w.agent.endpoint.eid s eid) w.agent.deaf (world_after works faults w s).agent.deaf
deaf_goes works faults w (steps.Deliver device number node) eid =
    deaf_comes works number (device == eid) (node == w.agent.endpoint.eid) (node == eid) w.agent.deaf _ (delivers_same works faults w node (item_numbered (packets_of w device) number)).deaf
deaf_goes works faults w (steps.Tick missed) eid = pass_deaf (counts missed.items w.agent.endpoint.eid) (counts missed.items eid) w.packages (w.now + 1) w.agent
deaf_goes works faults w (steps.Start device number) eid = deaf_mine (device == eid) (LinkStep.Start number) w.agent.deaf _ refl (calls_same w device (λ h. half_after_start w.packages h number)).deaf
deaf_goes works faults w (steps.Cancel device) eid = deaf_mine (device == eid) LinkStep.Cancel w.agent.deaf _ refl (calls_same w device (half_after_cancel w.packages)).deaf
deaf_goes works faults w (steps.Activate device) eid = deaf_mine (device == eid) LinkStep.Activate w.agent.deaf _ refl (activates_same w device (ready_for w.agent device)).deaf
deaf_goes works faults w (steps.Verdict device verdict) eid =
    deaf_mine (device == eid) (LinkStep.Judge verdict works) w.agent.deaf _ refl (ap (λ n. n.deaf) (judges_agent works faults w verdict (place_of w.sites device) (site_for w.sites device)))
deaf_goes works faults w (steps.Restart node) eid = deaf_restart (node == w.agent.endpoint.eid) (node == eid) w _ _ refl refl
deaf_goes works faults w (steps.Sel bytes) eid = (log_same w bytes.items).deaf
