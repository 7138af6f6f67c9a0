-- The operator's calls, verdicts and restarts on a link, as steps of its pair.
use Rattle.std.proofs.Common.{◌≡◌, ℕ, Bool, true, false, if◌then◌else◌, is_some, List, [], ◌∷◌, map, Option, Some, None, refl, sym, ap, subst}
use Rattle.std.specs.Option.{option_map}
use Rattle.pldm_exch.specs.Caller.{Open, request_of_open}
use Rattle.exch_lane.specs.Cells.{Cell, CellRun, cell_closes_if, cells_along, close_in}
use Rattle.exch_lane.specs.Lanes.{LaneStepOf as LaneStepOf}
use Rattle.exch_lane.specs.Lanes.{LaneEntryOf as LaneEntry}
use Rattle.exch_lane.specs.Laws.{awaited_request}
use Rattle.exch_lane.specs.declared.step.End.TheVariants as ends
use Rattle.fw_package.specs.Package.{PackageText}
use Rattle.fd_core.specs.Steps.{VerdictEffect, device_verdict}
use Rattle.fd_core.specs.declared.states.Verdict.{Verdict}
use Rattle.ua_core.specs.Calls.{agent_activated, agent_cancelled, agent_started, may_cancel}
use Rattle.ua_core.specs.Session.{SessionOf, TimedOf}
use Rattle.fw_message.specs.Headline.{EntryOf}
use Rattle.fw_message.specs.Names.{HasName}
use Rattle.fw_message.specs.Pairs.{CellContentOf, StepOf, cell_after_close, closed_unless, down_wish, may_start, message_along, step_without_entries, ran_on, step_of}
use Rattle.fw_message.specs.declared.side.Side.TheVariants as sides
use Rattle.fw_node.specs.Agents.{half_after_activate, half_after_cancel, half_after_start}
use Rattle.fw_node.specs.Cores.{device_core, session_core}
use Rattle.fw_node.specs.Halves.{CoreOf, half_restarts, half_with_core}
use Rattle.fwup_wire.specs.Values.{CommandOf}
use Rattle.fw_steps.specs.LinksAreMessages.{StepsInMessages}
use Rattle.fw_steps.specs.Joins.{IsCellFor, IsWishedIn, MatchesCell}
use Rattle.fw_steps.specs.Lanes.{activate_steps, call_steps, down_lane, judge_steps, settle_steps, up_lane}
use Rattle.fw_steps.specs.Links.{LinkOf, LinkStep, LinkStepped, activates_on, link_step_of_verdict, link_step_without_entries}
use Rattle.fw_steps.proofs.LinksAreMessages.AgentSide.{agent_restarts, session_calls}
use Rattle.fw_steps.proofs.LinksAreMessages.DeviceSide.{device_judged, device_restarts}
use Rattle.fw_steps.proofs.LinksAreMessages.Holding.{Holds, holds_still, settled_cell, settles}
use Rattle.fw_steps.proofs.LinksAreMessages.BothHalves.{BothHold, BothWait, PairGoes, both_joined, pair_at}

-- The agent's half with a new session.
recast_joins : (packages : List PackageText) (now : ℕ) (l : LinkOf) (after : TimedOf) (step : StepOf) (named : HasName step) (down up : Option CellContentOf) (down_past : List LaneEntry) (down_run up_run down_last up_last : CellRun)
    → BothHold packages l down_run.cell up_run.cell down up → BothWait l down_run.cell up_run.cell
    → step_of packages (pair_at l down up) step ≡ Some (step_without_entries (record { device = l.device.core.device; session = after.session; down = down; up = up }))
    → cells_along (down_lane now l down_past) (settle_steps (session_core packages) l.agent.asker.caller.asked after) (Some down_run) ≡ Some down_last → Some up_run ≡ Some up_last
    → PairGoes packages (pair_at l down up) (link_step_without_entries (record l { agent = half_with_core (session_core packages) l.agent after })) down_last.cell up_last.cell
recast_joins packages now l after step named down up down_past down_run up_run down_last up_last both waits s e f = record {
  down = closed_unless (down_wish packages after.session) down;
  up = up;
  leads = session_calls packages l.device.core.device l.agent.core after down up step named both.device.wished s;
  both = record {
    agent = settles (session_core packages) false after l.agent.asker.caller.asked down_run.cell down_last.cell down waits.down both.agent.stands both.agent.is_for
        (settled_cell ((session_core packages).wish after) l.agent.asker.caller.asked (down_lane now l down_past) down_run down_last e);
    device = holds_still device_core true l.device.core up_run up_last up f both.device;
    agent_deaf = both.agent_deaf;
    device_deaf = both.device_deaf;
  };
}

-- a step that may be taken or is refused
taken_if : (t u : LinkStepped) (may : Bool) → (if may then Some t else None) ≡ Some u → (may ≡ true) × (t ≡ u)
taken_if t u true e = (refl, cc)
taken_if t u false e = absurd (cc)

pub start_joins : (packages : List PackageText) (now : ℕ) (l : LinkOf) (number : ℕ) (t : LinkStepped) (down up : Option CellContentOf) (down_past : List LaneEntry) (down_run up_run down_last up_last : CellRun)
    → BothHold packages l down_run.cell up_run.cell down up → BothWait l down_run.cell up_run.cell
    → (if may_start packages l.agent.core.session number then Some (link_step_without_entries (record l { agent = half_after_start packages l.agent number })) else None) ≡ Some t
    → cells_along (down_lane now l down_past) (call_steps (session_core packages) l.agent (half_after_start packages l.agent number)) (Some down_run) ≡ Some down_last → Some up_run ≡ Some up_last
    → PairGoes packages (pair_at l down up) t down_last.cell up_last.cell
start_joins packages now l number t down up down_past down_run up_run down_last up_last both waits s e f =
    let taken = taken_if (link_step_without_entries (record l { agent = half_after_start packages l.agent number })) t (may_start packages l.agent.core.session number) s in
    subst (λ x. PairGoes packages (pair_at l down up) x down_last.cell up_last.cell) taken.1
    (recast_joins packages now l (record { session = agent_started l.agent.core.session number; idle = 0 }) (StepOf.Start number) tt down up down_past down_run up_run down_last up_last both waits
    (rw taken.0 refl) e f)

pub cancel_joins : (packages : List PackageText) (now : ℕ) (l : LinkOf) (t : LinkStepped) (down up : Option CellContentOf) (down_past : List LaneEntry) (down_run up_run down_last up_last : CellRun)
    → BothHold packages l down_run.cell up_run.cell down up → BothWait l down_run.cell up_run.cell
    → Some (link_step_without_entries (record l { agent = half_after_cancel packages l.agent })) ≡ Some t
    → cells_along (down_lane now l down_past) (call_steps (session_core packages) l.agent (half_after_cancel packages l.agent)) (Some down_run) ≡ Some down_last → Some up_run ≡ Some up_last
    → PairGoes packages (pair_at l down up) t down_last.cell up_last.cell
cancel_joins packages now l t down up down_past down_run up_run down_last up_last both waits s e f =
    let taken : link_step_without_entries (record l { agent = half_after_cancel packages l.agent }) ≡ t = cc in
    subst (λ x. PairGoes packages (pair_at l down up) x down_last.cell up_last.cell) taken
    (recast_joins packages now l (record { session = agent_cancelled l.agent.core.session; idle = if may_cancel l.agent.core.session.stage then 0 else l.agent.core.idle }) StepOf.Cancel tt down up down_past down_run up_run down_last up_last both waits
    refl e f)

activate_from : (packages : List PackageText) (now : ℕ) (l : LinkOf) (o : Option SessionOf) (t : LinkStepped) (down up : Option CellContentOf) (down_past : List LaneEntry) (down_run up_run down_last up_last : CellRun)
    → BothHold packages l down_run.cell up_run.cell down up → BothWait l down_run.cell up_run.cell → agent_activated l.agent.core.session ≡ o
    → activates_on packages l o ≡ Some t
    → cells_along (down_lane now l down_past) (activate_steps packages l o) (Some down_run) ≡ Some down_last → Some up_run ≡ Some up_last
    → PairGoes packages (pair_at l down up) t down_last.cell up_last.cell
activate_from packages now l None t down up down_past down_run up_run down_last up_last both waits is s e f = absurd (cc)
activate_from packages now l (Some x) t down up down_past down_run up_run down_last up_last both waits is s e f =
    let taken : link_step_without_entries (record l { agent = half_after_activate packages l.agent x }) ≡ t = cc in
    subst (λ x. PairGoes packages (pair_at l down up) x down_last.cell up_last.cell) taken
    (recast_joins packages now l (record { session = x; idle = 0 }) StepOf.Activate tt down up down_past down_run up_run down_last up_last both waits
    (rw is refl) e f)

pub activate_joins : (packages : List PackageText) (now : ℕ) (l : LinkOf) (t : LinkStepped) (down up : Option CellContentOf) (down_past : List LaneEntry) (down_run up_run down_last up_last : CellRun)
    → BothHold packages l down_run.cell up_run.cell down up → BothWait l down_run.cell up_run.cell
    → activates_on packages l (agent_activated l.agent.core.session) ≡ Some t
    → cells_along (down_lane now l down_past) (activate_steps packages l (agent_activated l.agent.core.session)) (Some down_run) ≡ Some down_last → Some up_run ≡ Some up_last
    → PairGoes packages (pair_at l down up) t down_last.cell up_last.cell
activate_joins packages now l t down up down_past down_run up_run down_last up_last both waits s e f =
    activate_from packages now l (agent_activated l.agent.core.session) t down up down_past down_run up_run down_last up_last both waits refl s e f

-- A verdict that the device waits for.
abbrev judged_link : LinkOf → VerdictEffect → LinkStepped
judged_link l j = record {
  after = record l { device = half_with_core device_core l.device (record { device = j.after; idle = 0 }) };
  noted = map EntryOf.Applied j.applied;
}

judge_from : (packages : List PackageText) (now : ℕ) (l : LinkOf) (verdict : Verdict) (works : Bool) (o : Option VerdictEffect) (t : LinkStepped) (down up : Option CellContentOf) (up_past : List LaneEntry) (down_run up_run down_last up_last : CellRun)
    → BothHold packages l down_run.cell up_run.cell down up → BothWait l down_run.cell up_run.cell → device_verdict l.device.core.device verdict works ≡ o
    → link_step_of_verdict l o ≡ Some t
    → Some down_run ≡ Some down_last → cells_along (up_lane now l up_past) (judge_steps l o) (Some up_run) ≡ Some up_last
    → PairGoes packages (pair_at l down up) t down_last.cell up_last.cell
judge_from packages now l verdict works None t down up up_past down_run up_run down_last up_last both waits is s e f = absurd (cc)
judge_from packages now l verdict works (Some j) t down up up_past down_run up_run down_last up_last both waits is s e f =
    let taken : judged_link l j ≡ t = cc in
    subst (λ x. PairGoes packages (pair_at l down up) x down_last.cell up_last.cell) taken (record {
      down = down;
      up = closed_unless (device_core.wish (record { device = j.after; idle = 0 })) up;
      leads = device_judged packages l.agent.core.session l.device.core (record { device = j.after; idle = 0 }) up down (StepOf.Judge verdict works) (map EntryOf.Applied j.applied) tt both.agent.wished (rw is refl);
      both = record {
        agent = holds_still (session_core packages) false l.agent.core down_run down_last down e both.agent;
        device = settles device_core true (record { device = j.after; idle = 0 }) l.device.asker.caller.asked up_run.cell up_last.cell up waits.up both.device.stands both.device.is_for
            (settled_cell (device_core.wish (record { device = j.after; idle = 0 })) l.device.asker.caller.asked (up_lane now l up_past) up_run up_last f);
        agent_deaf = both.agent_deaf;
        device_deaf = both.device_deaf;
      };
    })

pub judge_joins : (packages : List PackageText) (now : ℕ) (l : LinkOf) (verdict : Verdict) (works : Bool) (t : LinkStepped) (down up : Option CellContentOf) (up_past : List LaneEntry) (down_run up_run down_last up_last : CellRun)
    → BothHold packages l down_run.cell up_run.cell down up → BothWait l down_run.cell up_run.cell
    → link_step_of_verdict l (device_verdict l.device.core.device verdict works) ≡ Some t
    → Some down_run ≡ Some down_last → cells_along (up_lane now l up_past) (judge_steps l (device_verdict l.device.core.device verdict works)) (Some up_run) ≡ Some up_last
    → PairGoes packages (pair_at l down up) t down_last.cell up_last.cell
judge_joins packages now l verdict works t down up up_past down_run up_run down_last up_last both waits s e f =
    judge_from packages now l verdict works (device_verdict l.device.core.device verdict works) t down up up_past down_run up_run down_last up_last both waits refl s e f

-- RESTARTS

-- a cell whose asker restarts
closed_stands : (asked : Option Open) (run last : CellRun) (cell : Cell) (own : Option CellContentOf) → awaited_request cell ≡ option_map request_of_open asked → run.cell ≡ cell → MatchesCell cell own
    → (if is_some asked then close_in run cell else Some run) ≡ Some last → MatchesCell last.cell (cell_after_close own)
closed_stands None run last Cell.Empty None waits at k e =
    let same : run ≡ last = cc in
    rw (sym same, at) tt
closed_stands None run last (Cell.Asked command body false) (Some h) waits at k e =
    let same : run ≡ last = cc in
    rw (sym same, at) (record { said = k.said; reply = k.reply; live_is = refl })
closed_stands None run last (Cell.Answered command body reply false) (Some h) waits at k e =
    let same : run ≡ last = cc in
    rw (sym same, at) (record { said = k.said; answer = k.answer; reply_is = k.reply_is; reads = k.reads; live_is = refl })
closed_stands None run last (Cell.Asked command body true) (Some h) waits at k e = absurd (cc)
closed_stands None run last (Cell.Answered command body reply true) (Some h) waits at k e = absurd (cc)
closed_stands (Some o) run last (Cell.Asked command body true) (Some h) waits at k e =
    let is : ◌≡◌ {A = CellRun} (record run { cell = Cell.Asked command body false }) last = cc in
    rw (sym is) (record { said = k.said; reply = k.reply; live_is = refl })
closed_stands (Some o) run last (Cell.Answered command body reply true) (Some h) waits at k e =
    let is : ◌≡◌ {A = CellRun} (record run { cell = Cell.Answered command body reply false }) last = cc in
    rw (sym is) (record { said = k.said; answer = k.answer; reply_is = k.reply_is; reads = k.reads; live_is = refl })
closed_stands (Some o) run last (Cell.Asked command body false) (Some h) waits at k e = absurd (cc)
closed_stands (Some o) run last (Cell.Answered command body reply false) (Some h) waits at k e = absurd (cc)
closed_stands (Some o) run last Cell.Empty own waits at k e = absurd (cc)
closed_stands asked run last cell own waits at k e = absurd k

closes_as : (waits : Bool) (run last : CellRun) → cell_closes_if waits run ≡ Some last → (if waits then close_in run run.cell else Some run) ≡ Some last
closes_as true run last e = e
closes_as false run last e = e

-- then nobody waits for a command
closed_wished : (wish : Option CommandOf) (own : Option CellContentOf) → IsWishedIn (cell_after_close own) wish
closed_wished wish None = tt
closed_wished wish (Some h) = λ f. absurd (cc)

closed_for : (agent : Bool) (own : Option CellContentOf) → IsCellFor agent own → IsCellFor agent (cell_after_close own)
closed_for agent None k = tt
closed_for agent (Some h) k = k

restarted : {C : Type 0} (core : CoreOf C) (agent : Bool) (x : C) (asked : Option Open) (run last : CellRun) (own : Option CellContentOf) → awaited_request run.cell ≡ option_map request_of_open asked → Holds core agent x run.cell own
    → cell_closes_if (is_some asked) run ≡ Some last → Holds core agent (core.restarted x) last.cell (cell_after_close own)
restarted core agent x asked run last own waits holds e = record {
  stands = closed_stands asked run last run.cell own waits refl holds.stands (closes_as (is_some asked) run last e);
  wished = closed_wished (core.wish (core.restarted x)) own;
  is_for = closed_for agent own holds.is_for;
}

-- A side of the link restarts.
pub agent_restart_joins : (packages : List PackageText) (now : ℕ) (l : LinkOf) (t : LinkStepped) (down up : Option CellContentOf) (down_past up_past : List LaneEntry) (down_run up_run down_last up_last : CellRun)
    → BothHold packages l down_run.cell up_run.cell down up → BothWait l down_run.cell up_run.cell
    → Some (link_step_without_entries (record l { agent = half_restarts (session_core packages) l.agent })) ≡ Some t
    → cells_along (down_lane now l down_past) (LaneStepOf.Restart ends.Asker ∷ []) (Some down_run) ≡ Some down_last
    → cells_along (up_lane now l up_past) (LaneStepOf.Restart ends.Taker ∷ []) (Some up_run) ≡ Some up_last
    → StepsInMessages packages (pair_at l down up) (LinkStep.Restart sides.Agent) t down_last.cell up_last.cell
agent_restart_joins packages now l t down up down_past up_past down_run up_run down_last up_last both waits s e f =
    let after = record l { agent = half_restarts (session_core packages) l.agent } in
    let taken : link_step_without_entries after ≡ t = cc in
    subst (λ x. StepsInMessages packages (pair_at l down up) (LinkStep.Restart sides.Agent) x down_last.cell up_last.cell) taken (record {
      steps = StepOf.Restart sides.Agent ∷ [];
      named = refl;
      pair = pair_at after (cell_after_close down) up;
      along = λ es. ap (λ o. message_along packages (option_map (ran_on (record { pair = pair_at l down up; entries = es })) o) [])
          (agent_restarts packages l.device.core.device l.agent.core down up both.device.wished);
      joined = both_joined packages after down_last.cell up_last.cell (cell_after_close down) up (record {
        agent = restarted (session_core packages) false l.agent.core l.agent.asker.caller.asked down_run down_last down waits.down both.agent e;
        device = holds_still device_core true l.device.core up_run up_last up f both.device;
        agent_deaf = refl;
        device_deaf = both.device_deaf;
      });
    })

pub device_restart_joins : (packages : List PackageText) (now : ℕ) (l : LinkOf) (t : LinkStepped) (down up : Option CellContentOf) (down_past up_past : List LaneEntry) (down_run up_run down_last up_last : CellRun)
    → BothHold packages l down_run.cell up_run.cell down up → BothWait l down_run.cell up_run.cell
    → Some (link_step_without_entries (record l { device = half_restarts device_core l.device })) ≡ Some t
    → cells_along (down_lane now l down_past) (LaneStepOf.Restart ends.Taker ∷ []) (Some down_run) ≡ Some down_last
    → cells_along (up_lane now l up_past) (LaneStepOf.Restart ends.Asker ∷ []) (Some up_run) ≡ Some up_last
    → PairGoes packages (pair_at l down up) t down_last.cell up_last.cell
device_restart_joins packages now l t down up down_past up_past down_run up_run down_last up_last both waits s e f =
    let taken : link_step_without_entries (record l { device = half_restarts device_core l.device }) ≡ t = cc in
    subst (λ x. PairGoes packages (pair_at l down up) x down_last.cell up_last.cell) taken (record {
      down = down;
      up = cell_after_close up;
      leads = device_restarts packages l.agent.core.session l.device.core up down both.agent.wished;
      both = record {
        agent = holds_still (session_core packages) false l.agent.core down_run down_last down e both.agent;
        device = restarted device_core true l.device.core l.device.asker.caller.asked up_run up_last up waits.up both.device f;
        agent_deaf = both.agent_deaf;
        device_deaf = refl;
      };
    })
