-- What the nodes of a run print by themselves for their parts of it (`agent_parts`,
-- `device_parts`), step by step (`agent_serves`, `device_serves`).
use Rattle.std.proofs.Common.{◌≡◌, ◌∙◌, ◌+◌, ◌-◌, ◌^◌, ◌==◌, ◌&&◌, ◌++◌, ℕ, Bool, true, false, not, if◌then◌else◌, nat_lt, nat_le, is_some, List, [], ◌∷◌, Option, Some, None, IfSome, IsSomeAnd, refl, sym, ap, subst, append_assoc, append-nil, arith, eqb-true, le-leb, ltb-true}
use Rattle.exch_lane.specs.Lanes.{Sent, item_numbered}
use Rattle.fd_core.specs.BankCalls.{verdict_calls_bank}
use Rattle.fd_core.specs.Banks.{CountsFailure}
use Rattle.fd_core.specs.Steps.{device_verdict}
use Rattle.fd_core.specs.declared.states.Verdict.{Verdict}
use Rattle.ua_core.specs.Session.{SessionOf}
use Rattle.fw_node.specs.Agents.{free_for, half_for, ready_for}
use Rattle.fw_node.specs.BankCalls.{packet_calls_bank}
use Rattle.fw_node.specs.Cores.{device_core}
use Rattle.fw_node.specs.Nodes.{DeviceNodeOf}
use Rattle.fw_steps.specs.Alone.{AgentCall, DeviceCall, agent_after_calls, agent_receipt, agent_step_calls, device_after_calls, device_call_packets, device_receipt, device_step_calls}
use Rattle.fw_steps.specs.BankCalls.{delivery_calls_bank, judgement_calls_bank, receipt_calls_bank}
use Rattle.fw_steps.specs.Steps.{Run, StepsTo, faults_of, is_package, may_step, ready_fault, start_fault, tick_fault, verdict_fault, where_known}
use Rattle.fw_steps.specs.Worlds.{SiteOf, WorldOf, counts, packets_of, site_for}
use Rattle.fw_steps.specs.declared.step.Step.{Step}
use Rattle.fw_steps.specs.declared.step.Step.TheVariants as steps
use Rattle.fw_steps.specs.declared.step.StepFault.{StepFault}
use Rattle.fw_steps.proofs.LinksAreLanes.Projected.{verdict_counts}
use Rattle.fw_steps.proofs.NodesAlone.{agent_steps, device_steps}
use Rattle.fw_steps.proofs.PacketsAreSafe.SafeSteps.{now_then, packages_stay, time_goes}
use Rattle.fw_serve.specs.Agents.{AgentServedOf, ServedAgentOf, agent_read_served, agent_served, now_after, start_refusal}
use Rattle.fw_serve.specs.Lines.{AgentLineOf, DeviceLineOf}
use Rattle.fw_serve.specs.Parts.{AgentPrintsItsPart, CountsTick, DevicePrintsItsPart, IsAgentIn, PrintsDevicePart, ServesLines, agent_after_lines, agent_call_prints, agent_lines_print, agent_packet_line, agent_run_lines, agent_step_lines, agent_step_prints, device_calls_print, device_packet_line, device_run_lines, device_run_prints, device_step_lines, device_step_prints}
use Rattle.fw_serve.specs.Serving.{IsReceipt, IsRestart, IsTick, IsVerdict, MayCall, MayWork, ServedDeviceOf, ServesRead, ServesVerdict, TakesSuch, served_after_call}
use Rattle.fw_serve.specs.Texts.{packets_line}

-- THE AGENT

-- the agent by itself, as the agent of a world
abbrev agent_in : WorldOf → ServedAgentOf → ServedAgentOf
agent_in w s = record s { packages = w.packages; now = w.now; agent = w.agent }

agent_is : (w : WorldOf) (s : ServedAgentOf) → IsAgentIn w s → s ≡ agent_in w s
agent_is w s is = rw (sym is.packages, sym is.now, sym is.agent) refl

-- The agent serves the lines of these calls, and it is then this time.
record Serves (s : ServedAgentOf) (lines : List AgentLineOf) (calls : List AgentCall) (now : ℕ) : Type 0 where
  packages : (agent_after_lines s lines).packages ≡ s.packages
  agent : (agent_after_lines s lines).agent ≡ agent_after_calls s.packages s.agent calls
  time : (agent_after_lines s lines).now ≡ now
  prints : agent_lines_print s lines ≡ agent_step_prints s.packages s.agent calls

serves_none : (s : ServedAgentOf) → Serves s [] [] s.now
serves_none s = record { packages = refl; agent = refl; time = refl; prints = refl }

serves_one : (s : ServedAgentOf) (line : AgentLineOf) (call : AgentCall) (now : ℕ)
    → agent_read_served false s line ≡ record { agent = agent_served s call; text = agent_call_prints s.packages s.agent call } → now_after s.now call ≡ now
    → Serves s (line ∷ []) (call ∷ []) now
serves_one s line call now is time =
    record {
      packages = ap (λ (a : AgentServedOf). a.agent.packages) is;
      agent = ap (λ (a : AgentServedOf). a.agent.agent) is;
      time = ap (λ (a : AgentServedOf). a.agent.now) is ∙ time;
      prints = append-nil _ ∙ ap (λ (a : AgentServedOf). a.text) is;
    }

packet_serves : (mine : Bool) (w : WorldOf) (s : ServedAgentOf) (o : Option Sent) → Serves (agent_in w s) (agent_packet_line mine o) (agent_receipt mine w.now o) w.now
packet_serves true w s (Some p) = serves_one (agent_in w s) (AgentLineOf.Packet p.bytes) (AgentCall.Receives w.now p.bytes) w.now refl refl
packet_serves true w s None = serves_none (agent_in w s)
packet_serves false w s (Some p) = serves_none (agent_in w s)
packet_serves false w s None = serves_none (agent_in w s)

restart_serves : (mine : Bool) (w : WorldOf) (s : ServedAgentOf)
    → Serves (agent_in w s) (if mine then AgentLineOf.Restarts ∷ [] else []) (if mine then AgentCall.Restarts ∷ [] else []) w.now
restart_serves true w s = serves_one (agent_in w s) AgentLineOf.Restarts AgentCall.Restarts w.now refl refl
restart_serves false w s = serves_none (agent_in w s)

-- the clock isn't at its end
soon_of : (known soon may : Bool) → tick_fault known soon may ≡ None → soon ≡ true
soon_of true true true e = refl
soon_of true true false e = absurd (cc)
soon_of true false true e = absurd (cc)
soon_of true false false e = absurd (cc)
soon_of false true may e = refl
soon_of false false may e = absurd (cc)

tick_serves : (counted : Bool) (w : WorldOf) (s : ServedAgentOf) → counted ≡ true → nat_lt w.now (2 ^ 32 - 1) ≡ true
    → Serves (agent_in w s) (if counted then AgentLineOf.Ticks 1 ∷ [] else []) (if counted then AgentCall.Ticks (w.now + 1) ∷ [] else []) (w.now + 1)
tick_serves true w s e soon =
    let within : nat_le (w.now + 1) (2 ^ 32 - 1) ≡ true = le-leb (w.now + 1) (2 ^ 32 - 1) (omega (arith, ltb-true w.now (2 ^ 32 - 1) soon)) in
    serves_one (agent_in w s) (AgentLineOf.Ticks 1) (AgentCall.Ticks (w.now + 1)) (w.now + 1) (rw within refl) refl
tick_serves false w s e soon = absurd (cc)

-- a call of the operator that is taken
start_taken : (has : Bool) (o : Option Bool) → start_fault has o ≡ None → start_refusal has o ≡ None
start_taken true None e = absurd (cc)
start_taken false None e = absurd (cc)
start_taken false (Some free) e = absurd (cc)
start_taken true (Some false) e = absurd (cc)
start_taken true (Some true) e = refl

known_of : (known : Bool) (o : Option StepFault) → where_known known o ≡ None → known ≡ true
known_of true o e = refl
known_of false o e = absurd (cc)

then_of : (known : Bool) (o : Option StepFault) → where_known known o ≡ None → o ≡ None
then_of true o e = e
then_of false o e = absurd (cc)

ready_of : (o : Option SessionOf) → ready_fault o ≡ None → is_some o ≡ true
ready_of None e = absurd (cc)
ready_of (Some s) e = refl

-- each step
agent_serves : (w : WorldOf) (s : ServedAgentOf) (step : Step) → may_step w step ≡ None → CountsTick w.agent.endpoint.eid step
    → Serves (agent_in w s) (agent_step_lines w step) (agent_step_calls w step) (now_then w.now step)
agent_serves w s (steps.Deliver device number node) may counted = packet_serves (node == w.agent.endpoint.eid) w s (item_numbered (packets_of w device) number)
agent_serves w s (steps.Tick missed) may counted = tick_serves (counts missed.items w.agent.endpoint.eid) w s counted (soon_of _ _ _ may)
agent_serves w s (steps.Start device number) may counted =
    serves_one (agent_in w s) (AgentLineOf.Calls (steps.Start device number)) (AgentCall.Starts w.now device number) w.now
    (rw (start_taken (is_package w.packages number) (free_for w.agent device) may) refl) refl
agent_serves w s (steps.Cancel device) may counted =
    serves_one (agent_in w s) (AgentLineOf.Calls (steps.Cancel device)) (AgentCall.Cancels w.now device) w.now
    (rw (known_of (is_some (half_for w.agent device)) None may) refl) refl
agent_serves w s (steps.Activate device) may counted =
    serves_one (agent_in w s) (AgentLineOf.Calls (steps.Activate device)) (AgentCall.Activates w.now device) w.now
    (rw (known_of (is_some (half_for w.agent device)) _ may, ready_of (ready_for w.agent device) (then_of (is_some (half_for w.agent device)) _ may)) refl) refl
agent_serves w s (steps.Verdict device verdict) may counted = serves_none (agent_in w s)
agent_serves w s (steps.Restart node) may counted = restart_serves (node == w.agent.endpoint.eid) w s
agent_serves w s (steps.Sel bytes) may counted =
    serves_one (agent_in w s) (AgentLineOf.Calls (steps.Sel bytes)) (AgentCall.AsksLog w.now bytes.items) w.now refl refl

-- lines after lines
after_then : (s : ServedAgentOf) (xs ys : List AgentLineOf) → agent_after_lines s (xs ++ ys) ≡ agent_after_lines (agent_after_lines s xs) ys
after_then s [] ys = refl
after_then s (x ∷ xs) ys = after_then (agent_read_served false s x).agent xs ys

print_then : (s : ServedAgentOf) (xs ys : List AgentLineOf) → agent_lines_print s (xs ++ ys) ≡ agent_lines_print s xs ++ agent_lines_print (agent_after_lines s xs) ys
print_then s [] ys = refl
print_then s (x ∷ xs) ys =
    ap (λ (text : List ℕ). (agent_read_served false s x).text ++ text) (print_then (agent_read_served false s x).agent xs ys)
    ∙ sym (append_assoc (agent_read_served false s x).text (agent_lines_print (agent_read_served false s x).agent xs) _)

pub agent_parts : AgentPrintsItsPart
agent_parts w v [] run s is counted = record { printed = refl; is = subst (λ (u : WorldOf). IsAgentIn u s) (sym run) is }
agent_parts w v (step ∷ ss) run s is counted =
    let l : StepsTo w step run.0 = run.1 in
    let lines = agent_step_lines w step in
    let calls = agent_step_calls w step in
    let served : Serves s lines calls (now_then w.now step) =
    subst (λ (t : ServedAgentOf). Serves t lines calls (now_then w.now step)) (sym (agent_is w s is)) (agent_serves w s step l.may counted.0) in
    let next : IsAgentIn run.0 (agent_after_lines s lines) = record {
      packages = served.packages ∙ is.packages ∙ sym (ap (λ (u : WorldOf). u.packages) l.after ∙ packages_stay l.works l.faults w step);
      now = served.time ∙ sym (ap (λ (u : WorldOf). u.now) l.after ∙ time_goes l.works l.faults w step);
      agent = served.agent ∙ rw (is.packages, is.agent) refl ∙ sym (ap (λ (u : WorldOf). u.agent) l.after ∙ agent_steps l.works l.faults w step);
    } in
    let rest = agent_parts run.0 v ss run.2 (agent_after_lines s lines) next counted.1 in
    let printed : agent_lines_print s lines ≡ agent_step_prints w.packages w.agent calls = served.prints ∙ rw (is.packages, is.agent) refl in
    record {
      printed = print_then s lines (agent_run_lines run.0 ss v run.2)
          ∙ ap (λ (text : List ℕ). text ++ agent_lines_print (agent_after_lines s lines) (agent_run_lines run.0 ss v run.2)) printed
          ∙ ap (λ (text : List ℕ). agent_step_prints w.packages w.agent calls ++ text) rest.printed;
      is = subst (λ (t : ServedAgentOf). IsAgentIn v t) (sym (after_then s lines (agent_run_lines run.0 ss v run.2))) rest.is;
    }

-- A DEVICE

one_call : (s : ServedDeviceOf) (asked : List DeviceCall → Type 0) (call : DeviceCall) → asked (call ∷ []) → MayCall s.node call
    → TakesSuch s asked (served_after_call s call) (device_call_packets s.node call)
one_call s asked call such may = record { calls = call ∷ []; such = such; takes = ([], may, (refl, refl), sym (append-nil _)) }

packet_read : (s : ServedDeviceOf) (works : Bool) (faults : ℕ) (bytes : List ℕ) → MayWork works s.node.faults faults (packet_calls_bank device_core s.node.half bytes)
    → ServesRead false s (DeviceLineOf.Packet bytes) (served_after_call s (DeviceCall.Receives works faults bytes)) (packets_line (device_call_packets s.node (DeviceCall.Receives works faults bytes)))
packet_read s works faults bytes may =
    record {
      sent = device_call_packets s.node (DeviceCall.Receives works faults bytes);
      takes = one_call s (IsReceipt bytes) (DeviceCall.Receives works faults bytes) refl may;
      printed = refl;
    }

tick_read : (s : ServedDeviceOf)
    → ServesRead false s (DeviceLineOf.Ticks 1) (served_after_call s DeviceCall.Ticks) (packets_line (device_call_packets s.node DeviceCall.Ticks))
tick_read s =
    record {
      sent = device_call_packets s.node DeviceCall.Ticks;
      takes = (
        s,
        [],
        device_call_packets s.node DeviceCall.Ticks,
        (refl, refl),
        record {
          mid = s;
          due = record { calls = []; such = refl; takes = (refl, refl) };
          ticks = one_call s IsTick DeviceCall.Ticks refl tt;
        },
        refl,
      );
      printed = refl;
    }

restart_read : (s : ServedDeviceOf) → ServesRead false s DeviceLineOf.Restarts (served_after_call s DeviceCall.Restarts) (packets_line [])
restart_read s = record { sent = []; takes = one_call s IsRestart DeviceCall.Restarts refl tt; printed = refl }

verdict_read : (s : ServedDeviceOf) (works : Bool) (faults : ℕ) (verdict : Verdict) → is_some (device_verdict s.node.half.core.device verdict true) ≡ true
    → MayWork works s.node.faults faults (verdict_calls_bank s.node.half.core.device verdict)
    → ServesRead false s (DeviceLineOf.Judges verdict) (served_after_call s (DeviceCall.Judges works faults verdict)) (packets_line [])
verdict_read s works faults verdict awaited may =
    let counted : is_some (device_verdict s.node.half.core.device verdict works) ≡ true = verdict_counts s.node.half.core.device s.node.half.core.device.phase verdict works awaited in
    let read : ServesVerdict true verdict s (served_after_call s (DeviceCall.Judges works faults verdict)) (packets_line []) =
    record { sent = []; takes = one_call s (IsVerdict verdict) (DeviceCall.Judges works faults verdict) refl (counted, may); printed = refl } in
    subst (λ (b : Bool). ServesVerdict b verdict s (served_after_call s (DeviceCall.Judges works faults verdict)) (packets_line [])) (sym awaited) read

-- A device serves the lines of these calls.
record ServesStep (s : ServedDeviceOf) (lines : List DeviceLineOf) (calls : List DeviceCall) : Type 0 where
  last : ServedDeviceOf
  serves : ServesLines s lines last (device_calls_print s.node calls)
  node : last.node ≡ device_after_calls s.node calls

step_none : (s : ServedDeviceOf) → ServesStep s [] []
step_none s = record { last = s; serves = (refl, refl); node = refl }

step_one : (s : ServedDeviceOf) (line : DeviceLineOf) (call : DeviceCall) → ServesRead false s line (served_after_call s call) (packets_line (device_call_packets s.node call))
    → ServesStep s (line ∷ []) (call ∷ [])
step_one s line call read =
    record {
      last = served_after_call s call;
      serves = (served_after_call s call, packets_line (device_call_packets s.node call), [], read, (refl, refl), sym (append-nil _));
      node = refl;
    }

receipt_serves : (mine works : Bool) (faults : ℕ) (s : ServedDeviceOf) (o : Option Sent)
    → ((p : Sent) → mine ≡ true → o ≡ Some p → MayWork works s.node.faults faults (packet_calls_bank device_core s.node.half p.bytes))
    → ServesStep s (device_packet_line mine o) (device_receipt mine works faults o)
receipt_serves true works faults s (Some p) may =
    step_one s (DeviceLineOf.Packet p.bytes) (DeviceCall.Receives works faults p.bytes) (packet_read s works faults p.bytes (may p refl refl))
receipt_serves true works faults s None may = step_none s
receipt_serves false works faults s (Some p) may = step_none s
receipt_serves false works faults s None may = step_none s

device_tick_serves : (counted : Bool) (s : ServedDeviceOf) → ServesStep s (if counted then DeviceLineOf.Ticks 1 ∷ [] else []) (if counted then DeviceCall.Ticks ∷ [] else [])
device_tick_serves true s = step_one s (DeviceLineOf.Ticks 1) DeviceCall.Ticks (tick_read s)
device_tick_serves false s = step_none s

device_restart_serves : (mine : Bool) (s : ServedDeviceOf) → ServesStep s (if mine then DeviceLineOf.Restarts ∷ [] else []) (if mine then DeviceCall.Restarts ∷ [] else [])
device_restart_serves true s = step_one s DeviceLineOf.Restarts DeviceCall.Restarts (restart_read s)
device_restart_serves false s = step_none s

verdict_serves : (mine works : Bool) (faults : ℕ) (s : ServedDeviceOf) (verdict : Verdict)
    → (mine ≡ true → is_some (device_verdict s.node.half.core.device verdict true) ≡ true)
    → (mine ≡ true → MayWork works s.node.faults faults (verdict_calls_bank s.node.half.core.device verdict))
    → ServesStep s (if mine then DeviceLineOf.Judges verdict ∷ [] else []) (if mine then DeviceCall.Judges works faults verdict ∷ [] else [])
verdict_serves true works faults s verdict awaited may =
    step_one s (DeviceLineOf.Judges verdict) (DeviceCall.Judges works faults verdict) (verdict_read s works faults verdict (awaited refl) (may refl))
verdict_serves false works faults s verdict awaited may = step_none s

-- what a step of the world says of the device's bank
pub second : (a b : Bool) → (a && b) ≡ true → b ≡ true
second true b e = e
second false b e = absurd (cc)

pub there_at : (sites : List SiteOf) (node eid : ℕ) (x : SiteOf) → (node == eid) ≡ true → site_for sites eid ≡ Some x → site_for sites node ≡ Some x
there_at sites node eid x here there = subst (λ (k : ℕ). site_for sites k ≡ Some x) (sym (eqb-true node eid here)) there

receipt_may : (w v : WorldOf) (device number node eid : ℕ) (x : SiteOf) (s : ServedDeviceOf) (p : Sent) (l : StepsTo w (steps.Deliver device number node) v)
    → site_for w.sites eid ≡ Some x → s.node ≡ x.node → (not (node == w.agent.endpoint.eid) && (node == eid)) ≡ true → item_numbered (packets_of w device) number ≡ Some p
    → MayWork l.works s.node.faults l.faults (packet_calls_bank device_core s.node.half p.bytes)
receipt_may w v device number node eid x s p l there is mine found =
    let at : site_for w.sites node ≡ Some x = there_at w.sites node eid x (second (not (node == w.agent.endpoint.eid)) (node == eid) mine) there in
    let faults : faults_of (site_for w.sites node) ≡ s.node.faults = ap faults_of at ∙ ap (λ (n : DeviceNodeOf). n.faults) (sym is) in
    record {
      worked = λ e. l.worked e ∙ faults;
      failed = λ e. subst (λ (k : ℕ). CountsFailure k l.faults) faults (l.failed e);
      called = λ e. ap (λ (n : DeviceNodeOf). packet_calls_bank device_core n.half p.bytes) is
          ∙ sym (ap (receipt_calls_bank p.bytes) at)
          ∙ second (not (node == w.agent.endpoint.eid)) (receipt_calls_bank p.bytes (site_for w.sites node)) (sym (ap (delivery_calls_bank w node) found) ∙ l.called e);
    }

verdict_may : (w v : WorldOf) (device eid : ℕ) (verdict : Verdict) (x : SiteOf) (s : ServedDeviceOf) (l : StepsTo w (steps.Verdict device verdict) v)
    → site_for w.sites eid ≡ Some x → s.node ≡ x.node → (device == eid) ≡ true → MayWork l.works s.node.faults l.faults (verdict_calls_bank s.node.half.core.device verdict)
verdict_may w v device eid verdict x s l there is mine =
    let at : site_for w.sites device ≡ Some x = there_at w.sites device eid x mine there in
    let faults : faults_of (site_for w.sites device) ≡ s.node.faults = ap faults_of at ∙ ap (λ (n : DeviceNodeOf). n.faults) (sym is) in
    record {
      worked = λ e. l.worked e ∙ faults;
      failed = λ e. subst (λ (k : ℕ). CountsFailure k l.faults) faults (l.failed e);
      called = λ e. ap (λ (n : DeviceNodeOf). verdict_calls_bank n.half.core.device verdict) is ∙ sym (ap (judgement_calls_bank verdict) at) ∙ l.called e;
    }

taken_if : (b : Bool) (fault : StepFault) → (if b then None else Some fault) ≡ None → b ≡ true
taken_if true fault e = refl
taken_if false fault e = absurd (cc)

pub verdict_awaited : (w v : WorldOf) (device eid : ℕ) (verdict : Verdict) (x : SiteOf) (s : ServedDeviceOf) (l : StepsTo w (steps.Verdict device verdict) v)
    → site_for w.sites eid ≡ Some x → s.node ≡ x.node → (device == eid) ≡ true → is_some (device_verdict s.node.half.core.device verdict true) ≡ true
verdict_awaited w v device eid verdict x s l there is mine =
    ap (λ (n : DeviceNodeOf). is_some (device_verdict n.half.core.device verdict true)) is
    ∙ taken_if (is_some (device_verdict x.node.half.core.device verdict true)) _ (sym (ap (verdict_fault verdict) (there_at w.sites device eid x mine there)) ∙ l.may)

-- each step
device_serves : (eid : ℕ) (w v : WorldOf) (step : Step) (x : SiteOf) (s : ServedDeviceOf) → site_for w.sites eid ≡ Some x → s.node ≡ x.node → (l : StepsTo w step v)
    → ServesStep s (device_step_lines eid w step) (device_step_calls eid l.works l.faults w step)
device_serves eid w v (steps.Deliver device number node) x s there is l =
    receipt_serves (not (node == w.agent.endpoint.eid) && (node == eid)) l.works l.faults s (item_numbered (packets_of w device) number)
    (λ p mine found. receipt_may w v device number node eid x s p l there is mine found)
device_serves eid w v (steps.Tick missed) x s there is l = device_tick_serves (counts missed.items eid) s
device_serves eid w v (steps.Start device number) x s there is l = step_none s
device_serves eid w v (steps.Cancel device) x s there is l = step_none s
device_serves eid w v (steps.Activate device) x s there is l = step_none s
device_serves eid w v (steps.Verdict device verdict) x s there is l =
    verdict_serves (device == eid) l.works l.faults s verdict (λ mine. verdict_awaited w v device eid verdict x s l there is mine)
    (λ mine. verdict_may w v device eid verdict x s l there is mine)
device_serves eid w v (steps.Restart node) x s there is l = device_restart_serves (not (node == w.agent.endpoint.eid) && (node == eid)) s
device_serves eid w v (steps.Sel bytes) x s there is l = step_none s

-- lines after lines
lines_then : (s mid t : ServedDeviceOf) (xs ys : List DeviceLineOf) (a b : List ℕ) → ServesLines s xs mid a → ServesLines mid ys t b → ServesLines s (xs ++ ys) t (a ++ b)
lines_then s mid t [] ys a b h k =
    subst (λ (text : List ℕ). ServesLines s ys t (text ++ b)) (sym h.1) (subst (λ (m : ServedDeviceOf). ServesLines m ys t b) h.0 k)
lines_then s mid t (x ∷ xs) ys a b (m, first, rest, read, more, is) k =
    (m, first, rest ++ b, read, lines_then m mid t xs ys rest b more k, ap (λ (text : List ℕ). text ++ b) is ∙ append_assoc first rest b)

-- a run after a step
part_on : (eid : ℕ) (w v : WorldOf) (step : Step) (ss : List Step) (run : Run w (step ∷ ss) v) (x : SiteOf) (s : ServedDeviceOf) (o : Option SiteOf)
    → site_for w.sites eid ≡ Some x → s.node ≡ x.node
    → (served : ServesStep s (device_step_lines eid w step) (device_step_calls eid run.1.works run.1.faults w step))
    → site_for run.0.sites eid ≡ o → IsSomeAnd o (λ y. y.node ≡ device_after_calls x.node (device_step_calls eid run.1.works run.1.faults w step))
    → ((y : SiteOf) → site_for run.0.sites eid ≡ Some y → served.last.node ≡ y.node → PrintsDevicePart eid run.0 v ss run.2 served.last)
    → PrintsDevicePart eid w v (step ∷ ss) run s
part_on eid w v step ss run x s None there is served at stepped onwards = absurd stepped
part_on eid w v step ss run x s (Some y) there is served at stepped onwards =
    let calls = device_step_calls eid run.1.works run.1.faults w step in
    let node : served.last.node ≡ y.node = served.node ∙ ap (λ (n : DeviceNodeOf). device_after_calls n calls) is ∙ sym stepped in
    let rest = onwards y at node in
    let prints : device_calls_print s.node calls ≡ device_step_prints (site_for w.sites eid) calls =
    ap (λ (n : DeviceNodeOf). device_calls_print n calls) is ∙ sym (ap (λ (q : Option SiteOf). device_step_prints q calls) there) in
    record {
      last = rest.last;
      serves = lines_then s served.last rest.last (device_step_lines eid w step) (device_run_lines eid run.0 ss v run.2) (device_step_prints (site_for w.sites eid) calls)
          (device_run_prints eid run.0 ss v run.2) (subst (λ (text : List ℕ). ServesLines s (device_step_lines eid w step) served.last text) prints served.serves) rest.serves;
      is = rest.is;
    }

part_of : (eid : ℕ) (w v : WorldOf) (ss : List Step) (run : Run w ss v) (x : SiteOf) (s : ServedDeviceOf) → site_for w.sites eid ≡ Some x → s.node ≡ x.node
    → PrintsDevicePart eid w v ss run s
part_of eid w v [] run x s there is =
    record {
      last = s;
      serves = (refl, refl);
      is = subst (λ (o : Option SiteOf). IsSomeAnd o (λ y. s.node ≡ y.node)) (sym (ap (λ (u : WorldOf). site_for u.sites eid) run ∙ there)) is;
    }
part_of eid w v (step ∷ ss) run x s there is =
    let l : StepsTo w step run.0 = run.1 in
    part_on eid w v step ss run x s (site_for run.0.sites eid) there is (device_serves eid w run.0 step x s there is l) refl
    (subst (λ (u : WorldOf). IsSomeAnd (site_for u.sites eid) (λ y. y.node ≡ device_after_calls x.node (device_step_calls eid l.works l.faults w step))) (sym l.after)
    (device_steps l.works l.faults w step eid x there))
    (λ y at node. part_of eid run.0 v ss run.2 y _ at node)

part_if : (eid : ℕ) (w v : WorldOf) (ss : List Step) (run : Run w ss v) (s : ServedDeviceOf) (o : Option SiteOf) → site_for w.sites eid ≡ o
    → IfSome o (λ x. s.node ≡ x.node → PrintsDevicePart eid w v ss run s)
part_if eid w v ss run s None e = tt
part_if eid w v ss run s (Some x) e = λ is. part_of eid w v ss run x s e is

pub device_parts : DevicePrintsItsPart
device_parts eid w v ss run s = part_if eid w v ss run s (site_for w.sites eid) refl
