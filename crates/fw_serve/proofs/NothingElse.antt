-- Where no call of a bank fails, a device by itself prints nothing but what it sends in a run
-- (`device_only`).
use Rattle.std.proofs.Common.{◌≡◌, ◌≤◌, ◌<◌, ◌∙◌, ◌-◌, ◌^◌, ◌==◌, ◌&&◌, ◌++◌, ℕ, Bool, true, false, not, if◌then◌else◌, is_some, List, [], ◌∷◌, Option, Some, None, IfSome, IsSomeAnd, refl, sym, ap, subst, append_assoc, append-nil, arith, inl, inr, zero, suc}
use Rattle.exch_lane.specs.Lanes.{Sent, item_numbered}
use Rattle.fd_core.specs.BankCalls.{verdict_calls_bank}
use Rattle.fd_core.specs.Steps.{device_verdict}
use Rattle.fd_core.specs.declared.states.Verdict.{Verdict}
use Rattle.fw_node.specs.BankCalls.{packet_calls_bank}
use Rattle.fw_node.specs.Cores.{device_core}
use Rattle.fw_node.specs.Nodes.{DeviceNodeOf}
use Rattle.fw_steps.specs.Alone.{DeviceCall, device_after_calls, device_call_packets, device_receipt, device_step_calls}
use Rattle.fw_steps.specs.Steps.{Run, StepsTo, faults_of}
use Rattle.fw_steps.specs.Worlds.{SiteOf, WorldOf, counts, packets_of, site_for}
use Rattle.fw_steps.specs.declared.step.Step.{Step}
use Rattle.fw_steps.specs.declared.step.Step.TheVariants as steps
use Rattle.fw_steps.proofs.NodesAlone.{device_steps}
use Rattle.fw_serve.specs.Lines.{DeviceLineOf}
use Rattle.fw_serve.specs.Parts.{CountsNone, DevicePrintsNothingElse, IsDevicePart, NoneFails, ServesLines, device_calls_print, device_packet_line, device_run_lines, device_step_lines, device_step_prints}
use Rattle.fw_serve.specs.Serving.{IsReceipt, IsVerdict, MayWork, ServedDeviceOf, ServesRead, ServesVerdict, TakesCalls, TakesTurn, TakesTurns, served_after_call}
use Rattle.fw_serve.specs.Texts.{packets_line}
use Rattle.fw_serve.proofs.Parts.{second, there_at, verdict_awaited}

-- A call of the bank was made, and which.
record Received (s : ServedDeviceOf) (bytes : List ℕ) (t : ServedDeviceOf) (text : List ℕ) : Type 0 where
  works : Bool
  faults : ℕ
  may : MayWork works s.node.faults faults (packet_calls_bank device_core s.node.half bytes)
  after : t ≡ served_after_call s (DeviceCall.Receives works faults bytes)
  prints : text ≡ packets_line (device_call_packets s.node (DeviceCall.Receives works faults bytes))

received_by : (s t : ServedDeviceOf) (bytes sent_text : List ℕ) (sent : List (List ℕ)) (calls : List DeviceCall) → IsReceipt bytes calls → TakesCalls s calls t sent → sent_text ≡ packets_line sent
    → Received s bytes t sent_text
received_by s t bytes text sent [] such takes printed = absurd such
received_by s t bytes text sent (DeviceCall.Receives works faults received ∷ []) such (rest, may, last, is) printed =
    let same : received ≡ bytes = such in
    let all : sent ≡ device_call_packets s.node (DeviceCall.Receives works faults bytes) =
    is ∙ rw (last.1, same) (append-nil _) in
    record {
      works = works;
      faults = faults;
      may = subst (λ (bs : List ℕ). MayWork works s.node.faults faults (packet_calls_bank device_core s.node.half bs)) same may;
      after = last.0 ∙ ap (λ (bs : List ℕ). served_after_call s (DeviceCall.Receives works faults bs)) same;
      prints = printed ∙ ap packets_line all;
    }
received_by s t bytes text sent (DeviceCall.Receives works faults received ∷ (c ∷ cs)) such takes printed = absurd such
received_by s t bytes text sent (DeviceCall.Ticks ∷ cs) such takes printed = absurd such
received_by s t bytes text sent (DeviceCall.Judges works faults verdict ∷ cs) such takes printed = absurd such
received_by s t bytes text sent (DeviceCall.Restarts ∷ cs) such takes printed = absurd such

record Judged (s : ServedDeviceOf) (verdict : Verdict) (t : ServedDeviceOf) (text : List ℕ) : Type 0 where
  works : Bool
  faults : ℕ
  may : MayWork works s.node.faults faults (verdict_calls_bank s.node.half.core.device verdict)
  after : t ≡ served_after_call s (DeviceCall.Judges works faults verdict)
  prints : text ≡ packets_line []

judged_by : (s t : ServedDeviceOf) (verdict : Verdict) (text : List ℕ) (sent : List (List ℕ)) (calls : List DeviceCall) → IsVerdict verdict calls → TakesCalls s calls t sent → text ≡ packets_line sent
    → Judged s verdict t text
judged_by s t verdict text sent [] such takes printed = absurd such
judged_by s t verdict text sent (DeviceCall.Judges works faults judged ∷ []) such (rest, may, last, is) printed =
    let same : judged ≡ verdict = such in
    let none : sent ≡ [] = is ∙ last.1 in
    record {
      works = works;
      faults = faults;
      may = subst (λ (v : Verdict). MayWork works s.node.faults faults (verdict_calls_bank s.node.half.core.device v)) same may.1;
      after = last.0 ∙ ap (λ (v : Verdict). served_after_call s (DeviceCall.Judges works faults v)) same;
      prints = printed ∙ ap packets_line none;
    }
judged_by s t verdict text sent (DeviceCall.Judges works faults judged ∷ (c ∷ cs)) such takes printed = absurd such
judged_by s t verdict text sent (DeviceCall.Receives works faults bytes ∷ cs) such takes printed = absurd such
judged_by s t verdict text sent (DeviceCall.Ticks ∷ cs) such takes printed = absurd such
judged_by s t verdict text sent (DeviceCall.Restarts ∷ cs) such takes printed = absurd such

-- a call that is known
known_by : (s t : ServedDeviceOf) (call : DeviceCall) (text : List ℕ) (sent : List (List ℕ)) (calls : List DeviceCall) → calls ≡ call ∷ [] → TakesCalls s calls t sent → text ≡ packets_line sent
    → (t ≡ served_after_call s call) × (text ≡ packets_line (device_call_packets s.node call))
known_by s t call text sent calls such takes printed =
    let k : TakesCalls s (call ∷ []) t sent = subst (λ (cs : List DeviceCall). TakesCalls s cs t sent) such takes in
    (k.2.0, printed ∙ ap packets_line (k.3 ∙ rw k.2.1 (append-nil _)))

-- a tick
ticked_by : (s t : ServedDeviceOf) (text : List ℕ) → ServesRead false s (DeviceLineOf.Ticks 1) t text
    → (t ≡ served_after_call s DeviceCall.Ticks) × (text ≡ packets_line (device_call_packets s.node DeviceCall.Ticks))
ticked_by s t text h =
    let first : (h.takes.0 ≡ s) × (h.takes.1 ≡ []) = h.takes.3 in
    let turn : TakesTurn false h.takes.0 t h.takes.2 = h.takes.4 in
    let none : TakesCalls h.takes.0 [] turn.mid [] = subst (λ (cs : List DeviceCall). TakesCalls h.takes.0 cs turn.mid []) turn.due.such turn.due.takes in
    let mid : turn.mid ≡ s = none.0 ∙ first.0 in
    let sent : h.sent ≡ h.takes.2 = h.takes.5 ∙ rw first.1 refl in
    let k = known_by turn.mid t DeviceCall.Ticks text h.takes.2 turn.ticks.calls turn.ticks.such turn.ticks.takes (h.printed ∙ ap packets_line sent) in
    (k.0 ∙ ap (λ (m : ServedDeviceOf). served_after_call m DeviceCall.Ticks) mid, k.1 ∙ ap (λ (m : ServedDeviceOf). packets_line (device_call_packets m.node DeviceCall.Ticks)) mid)

-- the bank's count of failures never falls; if it stays, no call failed
rises : (works : Bool) (before after : ℕ) (calls : Bool) → MayWork works before after calls → before ≤ after
rises true before after calls may = omega (arith, may.worked refl)
rises false before after calls may = elim (may.failed refl) [
  | inl more ↦ omega (arith, more)
  | inr full ↦ omega (arith, full.1)
]

none_failed : (works : Bool) (before after : ℕ) (calls : Bool) → MayWork works before after calls → after ≡ before → before < 2 ^ 64 - 1 → works ≡ true
none_failed true before after calls may same counts = refl
none_failed false before after calls may same counts = elim (may.failed refl) [
  | inl more ↦ absurd (omega (arith, more, same))
  | inr full ↦ absurd (omega (arith, full.0, counts))
]

-- What a device makes of the lines of a step; `calls` are the step's, if no call fails.
record Makes (s : ServedDeviceOf) (calls : List DeviceCall) (t : ServedDeviceOf) (text : List ℕ) : Type 0 where
  exact : t.node.faults ≡ s.node.faults → s.node.faults < 2 ^ 64 - 1 → (t.node ≡ device_after_calls s.node calls) × (text ≡ device_calls_print s.node calls)

makes_none : (s t : ServedDeviceOf) (text : List ℕ) → ServesLines s [] t text → Makes s [] t text
makes_none s t text h = record { exact = λ same counts. (ap (λ (m : ServedDeviceOf). m.node) h.0, h.1) }

-- one line
makes_one : (s t : ServedDeviceOf) (line : DeviceLineOf) (text : List ℕ) (calls : List DeviceCall) → ((u : ServedDeviceOf) (first : List ℕ) → ServesRead false s line u first → Makes s calls u first)
    → ServesLines s (line ∷ []) t text → Makes s calls t text
makes_one s t line text calls one (mid, first, rest, read, last, is) =
    let k : Makes s calls mid first = one mid first read in
    let same : t ≡ mid = last.0 in
    let all : text ≡ first = is ∙ rw last.1 (append-nil first) in
    subst (λ (b : List ℕ). Makes s calls t b) (sym all) (subst (λ (m : ServedDeviceOf). Makes s calls m first) (sym same) k)

packet_makes : (s u : ServedDeviceOf) (bytes first : List ℕ) → ServesRead false s (DeviceLineOf.Packet bytes) u first → Makes s (DeviceCall.Receives true s.node.faults bytes ∷ []) u first
packet_makes s u bytes first h =
    let r = received_by s u bytes first h.sent h.takes.calls h.takes.such h.takes.takes h.printed in
    let counted : u.node.faults ≡ r.faults = ap (λ (m : ServedDeviceOf). m.node.faults) r.after in
    record {
      exact = λ same counts.
          let works = none_failed r.works s.node.faults r.faults _ r.may (sym counted ∙ same) counts in
          let faults : r.faults ≡ s.node.faults = sym counted ∙ same in (
            ap (λ (m : ServedDeviceOf). m.node) r.after ∙ rw (works, faults) refl,
            r.prints ∙ ap (λ (b : Bool). packets_line (device_call_packets s.node (DeviceCall.Receives b s.node.faults bytes))) works,
          );
    }

verdict_makes : (s u : ServedDeviceOf) (verdict : Verdict) (first : List ℕ) → is_some (device_verdict s.node.half.core.device verdict true) ≡ true
    → ServesRead false s (DeviceLineOf.Judges verdict) u first → Makes s (DeviceCall.Judges true s.node.faults verdict ∷ []) u first
verdict_makes s u verdict first awaited h =
    let k : ServesVerdict true verdict s u first = subst (λ (b : Bool). ServesVerdict b verdict s u first) awaited h in
    let r = judged_by s u verdict first k.sent k.takes.calls k.takes.such k.takes.takes k.printed in
    let counted : u.node.faults ≡ r.faults = ap (λ (m : ServedDeviceOf). m.node.faults) r.after in
    record {
      exact = λ same counts.
          let works = none_failed r.works s.node.faults r.faults _ r.may (sym counted ∙ same) counts in
          let faults : r.faults ≡ s.node.faults = sym counted ∙ same in
          (ap (λ (m : ServedDeviceOf). m.node) r.after ∙ rw (works, faults) refl, r.prints);
    }

known_makes : (s u : ServedDeviceOf) (call : DeviceCall) (first : List ℕ)
    → (u ≡ served_after_call s call) × (first ≡ packets_line (device_call_packets s.node call)) → Makes s (call ∷ []) u first
known_makes s u call first h =
    record {
      exact = λ same counts. (ap (λ (m : ServedDeviceOf). m.node) h.0, h.1);
    }

-- the lines of each step
receipt_makes : (mine : Bool) (s t : ServedDeviceOf) (o : Option Sent) (text : List ℕ) → ServesLines s (device_packet_line mine o) t text → Makes s (device_receipt mine true s.node.faults o) t text
receipt_makes true s t (Some p) text h = makes_one s t (DeviceLineOf.Packet p.bytes) text (DeviceCall.Receives true s.node.faults p.bytes ∷ []) (λ u first read. packet_makes s u p.bytes first read) h
receipt_makes true s t None text h = makes_none s t text h
receipt_makes false s t (Some p) text h = makes_none s t text h
receipt_makes false s t None text h = makes_none s t text h

tick_makes : (counted : Bool) (s t : ServedDeviceOf) (text : List ℕ) → ServesLines s (if counted then DeviceLineOf.Ticks 1 ∷ [] else []) t text → Makes s (if counted then DeviceCall.Ticks ∷ [] else []) t text
tick_makes true s t text h = makes_one s t (DeviceLineOf.Ticks 1) text (DeviceCall.Ticks ∷ []) (λ u first read. known_makes s u DeviceCall.Ticks first (ticked_by s u first read)) h
tick_makes false s t text h = makes_none s t text h

restart_makes : (mine : Bool) (s t : ServedDeviceOf) (text : List ℕ) → ServesLines s (if mine then DeviceLineOf.Restarts ∷ [] else []) t text → Makes s (if mine then DeviceCall.Restarts ∷ [] else []) t text
restart_makes true s t text h =
    makes_one s t DeviceLineOf.Restarts text (DeviceCall.Restarts ∷ [])
    (λ u first read. known_makes s u DeviceCall.Restarts first (known_by s u DeviceCall.Restarts first read.sent read.takes.calls read.takes.such read.takes.takes read.printed)) h
restart_makes false s t text h = makes_none s t text h

judge_makes : (mine : Bool) (s t : ServedDeviceOf) (verdict : Verdict) (text : List ℕ) → (mine ≡ true → is_some (device_verdict s.node.half.core.device verdict true) ≡ true)
    → ServesLines s (if mine then DeviceLineOf.Judges verdict ∷ [] else []) t text → Makes s (if mine then DeviceCall.Judges true s.node.faults verdict ∷ [] else []) t text
judge_makes true s t verdict text awaited h =
    makes_one s t (DeviceLineOf.Judges verdict) text (DeviceCall.Judges true s.node.faults verdict ∷ []) (λ u first read. verdict_makes s u verdict first (awaited refl) read) h
judge_makes false s t verdict text awaited h = makes_none s t text h

step_makes : (eid : ℕ) (w v : WorldOf) (step : Step) (x : SiteOf) (s t : ServedDeviceOf) (text : List ℕ) → site_for w.sites eid ≡ Some x → s.node ≡ x.node → StepsTo w step v
    → ServesLines s (device_step_lines eid w step) t text → Makes s (device_step_calls eid true s.node.faults w step) t text
step_makes eid w v (steps.Deliver device number node) x s t text there is l h =
    receipt_makes (not (node == w.agent.endpoint.eid) && (node == eid)) s t (item_numbered (packets_of w device) number) text h
step_makes eid w v (steps.Tick missed) x s t text there is l h = tick_makes (counts missed.items eid) s t text h
step_makes eid w v (steps.Start device number) x s t text there is l h = makes_none s t text h
step_makes eid w v (steps.Cancel device) x s t text there is l h = makes_none s t text h
step_makes eid w v (steps.Activate device) x s t text there is l h = makes_none s t text h
step_makes eid w v (steps.Verdict device verdict) x s t text there is l h =
    judge_makes (device == eid) s t verdict text (λ mine. verdict_awaited w v device eid verdict x s l there is mine) h
step_makes eid w v (steps.Restart node) x s t text there is l h = restart_makes (not (node == w.agent.endpoint.eid) && (node == eid)) s t text h
step_makes eid w v (steps.Sel bytes) x s t text there is l h = makes_none s t text h

-- the calls of a step in which none fails
receipt_alike : (mine : Bool) (faults other : ℕ) (o : Option Sent) → (mine ≡ true → faults ≡ other) → device_receipt mine true faults o ≡ device_receipt mine true other o
receipt_alike true faults other (Some p) e = ap (λ (k : ℕ). DeviceCall.Receives true k p.bytes ∷ []) (e refl)
receipt_alike true faults other None e = refl
receipt_alike false faults other (Some p) e = refl
receipt_alike false faults other None e = refl

judge_alike : (mine : Bool) (faults other : ℕ) (verdict : Verdict) → (mine ≡ true → faults ≡ other)
    → (if mine then DeviceCall.Judges true faults verdict ∷ [] else []) ≡ (if mine then DeviceCall.Judges true other verdict ∷ [] else [])
judge_alike true faults other verdict e = ap (λ (k : ℕ). DeviceCall.Judges true k verdict ∷ []) (e refl)
judge_alike false faults other verdict e = refl

calls_alike : (eid : ℕ) (w v : WorldOf) (step : Step) (x : SiteOf) (s : ServedDeviceOf) → site_for w.sites eid ≡ Some x → s.node ≡ x.node → (l : StepsTo w step v) → l.works ≡ true
    → device_step_calls eid l.works l.faults w step ≡ device_step_calls eid true s.node.faults w step
calls_alike eid w v (steps.Deliver device number node) x s there is l works =
    ap (λ (b : Bool). device_receipt (not (node == w.agent.endpoint.eid) && (node == eid)) b l.faults (item_numbered (packets_of w device) number)) works
    ∙ receipt_alike (not (node == w.agent.endpoint.eid) && (node == eid)) l.faults s.node.faults (item_numbered (packets_of w device) number)
    (λ mine. l.worked works ∙ ap faults_of (there_at w.sites node eid x (second (not (node == w.agent.endpoint.eid)) (node == eid) mine) there) ∙ ap (λ (n : DeviceNodeOf). n.faults) (sym is))
calls_alike eid w v (steps.Tick missed) x s there is l works = refl
calls_alike eid w v (steps.Start device number) x s there is l works = refl
calls_alike eid w v (steps.Cancel device) x s there is l works = refl
calls_alike eid w v (steps.Activate device) x s there is l works = refl
calls_alike eid w v (steps.Verdict device verdict) x s there is l works =
    ap (λ (b : Bool). if device == eid then DeviceCall.Judges b l.faults verdict ∷ [] else []) works
    ∙ judge_alike (device == eid) l.faults s.node.faults verdict (λ mine. l.worked works ∙ ap faults_of (there_at w.sites device eid x mine there) ∙ ap (λ (n : DeviceNodeOf). n.faults) (sym is))
calls_alike eid w v (steps.Restart node) x s there is l works = refl
calls_alike eid w v (steps.Sel bytes) x s there is l works = refl

-- lines in two parts
record InTwo (s : ServedDeviceOf) (xs ys : List DeviceLineOf) (t : ServedDeviceOf) (text : List ℕ) : Type 0 where
  mid : ServedDeviceOf
  first : List ℕ
  rest : List ℕ
  before : ServesLines s xs mid first
  after : ServesLines mid ys t rest
  is : text ≡ first ++ rest

in_two : (s t : ServedDeviceOf) (xs ys : List DeviceLineOf) (text : List ℕ) → ServesLines s (xs ++ ys) t text → InTwo s xs ys t text
in_two s t [] ys text h = record { mid = s; first = []; rest = text; before = (refl, refl); after = h; is = refl }
in_two s t (x ∷ xs) ys text (m, a, b, read, more, is) =
    let k = in_two m t xs ys b more in
    record {
      mid = k.mid;
      first = a ++ k.first;
      rest = k.rest;
      before = (m, a, k.first, read, k.before, refl);
      after = k.after;
      is = is ∙ ap (λ (c : List ℕ). a ++ c) k.is ∙ sym (append_assoc a k.first k.rest);
    }

-- the count never falls while lines are served
turn_rises : (s t : ServedDeviceOf) (sent : List (List ℕ)) → TakesTurn false s t sent → s.node.faults ≤ t.node.faults
turn_rises s t sent turn =
    let none : TakesCalls s [] turn.mid [] = subst (λ (cs : List DeviceCall). TakesCalls s cs turn.mid []) turn.due.such turn.due.takes in
    let k = known_by turn.mid t DeviceCall.Ticks (packets_line sent) sent turn.ticks.calls turn.ticks.such turn.ticks.takes refl in
    omega (arith, ap (λ (m : ServedDeviceOf). m.node.faults) k.0, ap (λ (m : ServedDeviceOf). m.node.faults) none.0)

turns_rise : (count : ℕ) (s t : ServedDeviceOf) (sent : List (List ℕ)) → TakesTurns false count s t sent → s.node.faults ≤ t.node.faults
turns_rise zero s t sent h = omega (arith, ap (λ (m : ServedDeviceOf). m.node.faults) h.0)
turns_rise (suc count) s t sent (mid, before, last, turns, turn, is) = omega (arith, turns_rise count s mid before turns, turn_rises mid t last turn)

verdict_rises : (awaited : Bool) (s t : ServedDeviceOf) (verdict : Verdict) (text : List ℕ) → ServesVerdict awaited verdict s t text → s.node.faults ≤ t.node.faults
verdict_rises true s t verdict text h =
    let r = judged_by s t verdict text h.sent h.takes.calls h.takes.such h.takes.takes h.printed in
    omega (arith, rises r.works s.node.faults r.faults _ r.may, ap (λ (m : ServedDeviceOf). m.node.faults) r.after)
verdict_rises false s t verdict text h = omega (arith, ap (λ (m : ServedDeviceOf). m.node.faults) h.0)

read_rises : (s t : ServedDeviceOf) (line : DeviceLineOf) (text : List ℕ) → ServesRead false s line t text → s.node.faults ≤ t.node.faults
read_rises s t (DeviceLineOf.Packet bytes) text h =
    let r = received_by s t bytes text h.sent h.takes.calls h.takes.such h.takes.takes h.printed in
    omega (arith, rises r.works s.node.faults r.faults _ r.may, ap (λ (m : ServedDeviceOf). m.node.faults) r.after)
read_rises s t (DeviceLineOf.Ticks count) text h = turns_rise count s t h.sent h.takes
read_rises s t (DeviceLineOf.Judges verdict) text h = verdict_rises (is_some (device_verdict s.node.half.core.device verdict true)) s t verdict text h
read_rises s t DeviceLineOf.Restarts text h =
    let k = known_by s t DeviceCall.Restarts text h.sent h.takes.calls h.takes.such h.takes.takes h.printed in
    omega (arith, ap (λ (m : ServedDeviceOf). m.node.faults) k.0)
read_rises s t DeviceLineOf.Reports text h = omega (arith, ap (λ (m : ServedDeviceOf). m.node.faults) h.0)

lines_rise : (s t : ServedDeviceOf) (lines : List DeviceLineOf) (text : List ℕ) → ServesLines s lines t text → s.node.faults ≤ t.node.faults
lines_rise s t [] text h = omega (arith, ap (λ (m : ServedDeviceOf). m.node.faults) h.0)
lines_rise s t (line ∷ lines) text (mid, first, rest, read, more, is) = omega (arith, read_rises s mid line first read, lines_rise mid t lines rest more)

-- a run after a step
only_on : (eid : ℕ) (w v : WorldOf) (step : Step) (ss : List Step) (run : Run w (step ∷ ss) v) (x : SiteOf) (s t : ServedDeviceOf) (text : List ℕ) (o : Option SiteOf)
    → site_for w.sites eid ≡ Some x → s.node ≡ x.node → run.1.works ≡ true → (two : InTwo s (device_step_lines eid w step) (device_run_lines eid run.0 ss v run.2) t text)
    → site_for run.0.sites eid ≡ o → IsSomeAnd o (λ y. y.node ≡ device_after_calls x.node (device_step_calls eid run.1.works run.1.faults w step))
    → ((y : SiteOf) → site_for run.0.sites eid ≡ Some y → two.mid.node ≡ y.node → CountsNone two.mid t → IsDevicePart eid run.0 v ss run.2 t two.rest)
    → CountsNone s t → IsDevicePart eid w v (step ∷ ss) run t text
only_on eid w v step ss run x s t text None there is works two at stepped onwards none = absurd stepped
only_on eid w v step ss run x s t text (Some y) there is works two at stepped onwards none =
    let l : StepsTo w step run.0 = run.1 in
    let makes = step_makes eid w run.0 step x s two.mid two.first there is l two.before in
    let same : two.mid.node.faults ≡ s.node.faults = omega (arith, lines_rise s two.mid (device_step_lines eid w step) two.first two.before, lines_rise two.mid t (device_run_lines eid run.0 ss v run.2) two.rest two.after, none.same) in
    let exact = makes.exact same none.counts in
    let calls : device_step_calls eid l.works l.faults w step ≡ device_step_calls eid true s.node.faults w step = calls_alike eid w run.0 step x s there is l works in
    let node : two.mid.node ≡ y.node =
    exact.0 ∙ ap (λ (n : DeviceNodeOf). device_after_calls n (device_step_calls eid true s.node.faults w step)) is
    ∙ sym (ap (λ (cs : List DeviceCall). device_after_calls x.node cs) calls) ∙ sym stepped in
    let rest = onwards y at node (record { same = none.same ∙ sym same; counts = subst (λ (k : ℕ). k < 2 ^ 64 - 1) (sym same) none.counts }) in
    let prints : two.first ≡ device_step_prints (site_for w.sites eid) (device_step_calls eid l.works l.faults w step) =
    exact.1 ∙ ap (λ (n : DeviceNodeOf). device_calls_print n (device_step_calls eid true s.node.faults w step)) is
    ∙ sym (ap (λ (cs : List DeviceCall). device_calls_print x.node cs) calls)
    ∙ sym (ap (λ (q : Option SiteOf). device_step_prints q (device_step_calls eid l.works l.faults w step)) there) in
    record {
      printed = two.is ∙ ap (λ (a : List ℕ). a ++ two.rest) prints ∙ ap (λ (b : List ℕ). device_step_prints (site_for w.sites eid) (device_step_calls eid l.works l.faults w step) ++ b) rest.printed;
      is = rest.is;
    }

only_of : (eid : ℕ) (w v : WorldOf) (ss : List Step) (run : Run w ss v) (x : SiteOf) (s t : ServedDeviceOf) (text : List ℕ) → site_for w.sites eid ≡ Some x → s.node ≡ x.node
    → NoneFails w ss v run → ServesLines s (device_run_lines eid w ss v run) t text → CountsNone s t → IsDevicePart eid w v ss run t text
only_of eid w v [] run x s t text there is works h none =
    record {
      printed = h.1;
      is = subst (λ (o : Option SiteOf). IsSomeAnd o (λ y. t.node ≡ y.node)) (sym (ap (λ (u : WorldOf). site_for u.sites eid) run ∙ there)) (ap (λ (m : ServedDeviceOf). m.node) h.0 ∙ is);
    }
only_of eid w v (step ∷ ss) run x s t text there is works h none =
    let l : StepsTo w step run.0 = run.1 in
    let two = in_two s t (device_step_lines eid w step) (device_run_lines eid run.0 ss v run.2) text h in
    only_on eid w v step ss run x s t text (site_for run.0.sites eid) there is works.0 two refl
    (subst (λ (u : WorldOf). IsSomeAnd (site_for u.sites eid) (λ y. y.node ≡ device_after_calls x.node (device_step_calls eid l.works l.faults w step))) (sym l.after)
    (device_steps l.works l.faults w step eid x there))
    (λ y at node counts. only_of eid run.0 v ss run.2 y two.mid t two.rest at node works.1 two.after counts) none

only_if : (eid : ℕ) (w v : WorldOf) (ss : List Step) (run : Run w ss v) (s t : ServedDeviceOf) (text : List ℕ) (o : Option SiteOf) → site_for w.sites eid ≡ o
    → ServesLines s (device_run_lines eid w ss v run) t text → NoneFails w ss v run → CountsNone s t → IfSome o (λ x. s.node ≡ x.node → IsDevicePart eid w v ss run t text)
only_if eid w v ss run s t text None e h works none = tt
only_if eid w v ss run s t text (Some x) e h works none = λ is. only_of eid w v ss run x s t text e is works h none

pub device_only : DevicePrintsNothingElse
device_only eid w v ss run s t text h works none = only_if eid w v ss run s t text (site_for w.sites eid) refl h works none
