-- The deeds of a served device are acts that it may do, as far as it knows (`devices_act`).
use Rattle.std.proofs.Common.{◌≡◌, ◌∙◌, ◌+◌, ◌++◌, ℕ, zero, suc, Bool, true, false, List, [], ◌∷◌, Option, Some, None, arith, append-nil, append_assoc, ap, refl, sym, subst}
use Rattle.std.specs.List.{filter}
use Rattle.std.proofs.lemmas.List.Elements.{filter-append}
use Rattle.exch_lane.specs.Lanes.{Sent}
use Rattle.exch_lane.specs.Steps.{sent_at}
use Rattle.fd_core.specs.Images.{RowOf, rows_after_drop, row_without_applied}
use Rattle.fd_core.specs.declared.states.Verdict.{Verdict}
use Rattle.mctp_ctl.specs.declared.answers.Endpoint.{Endpoint}
use Rattle.fw_node.specs.Nodes.{DeviceNodeOf, device_restarts}
use Rattle.fw_process.specs.Processes.{Deed, Does, DoesAll, unit_after_deed}
use Rattle.fw_steps.specs.Absences.{device_absence}
use Rattle.fw_steps.specs.Alone.{DeviceCall, device_after_call, device_call_packets, is_for}
use Rattle.fw_steps.specs.Plays.{DeviceMayCall, DeviceProcess}
use Rattle.fw_steps.specs.Traces.{DeviceAct, IsTimely, device_act_call, device_process_after_act, device_unit_after}
use Rattle.fw_steps.specs.Worlds.{sent_now}
use Rattle.fw_serve.specs.Processes.{DeviceDoes, DeviceProcessOf, ReceivesIf, Sends}
use Rattle.fw_serve.specs.Serving.{AreDue, IsReceipt, IsRestart, IsTick, IsVerdict, MayCall, ServedDeviceOf, TakesCalls, TakesSuch, TakesTurn, due_verdict}
use Rattle.fw_serve.specs.Traced.{AreDeviceActs, AreTimely, DeviceKnows, DeviceMayDo, DevicesAct, IsTimelyDeed, device_process_after_acts, device_process_of, received_by_deed, received_by_device, received_in}

abbrev is_mine : DeviceProcessOf → Sent → Bool
is_mine s p = is_for s.device.node.endpoint.eid p.bytes

pub same_process : (u v : ℕ) (m n : DeviceNodeOf) (ps qs : List Sent) → u ≡ v → m ≡ n → ps ≡ qs
    → ◌≡◌ {A = DeviceProcess} (record { unit = u; node = m; sent = ps }) (record { unit = v; node = n; sent = qs })
same_process u v m n ps qs e f g = λ i. record { unit = e i; node = f i; sent = g i }

-- ACTS AFTER ACTS

pub after_on : (q : DeviceProcess) (xs ys : List DeviceAct) → device_process_after_acts q (xs ++ ys) ≡ device_process_after_acts (device_process_after_acts q xs) ys
after_on q [] ys = refl
after_on q (d ∷ xs) ys = after_on (device_process_after_act d q) xs ys

pub may_on : (device : ℕ) (q : DeviceProcess) (xs ys : List DeviceAct) → DeviceMayDo device q xs → DeviceMayDo device (device_process_after_acts q xs) ys → DeviceMayDo device q (xs ++ ys)
may_on device q [] ys h k = k
may_on device q (d ∷ xs) ys h k = (h.0, may_on device (device_process_after_act d q) xs ys h.1 k)

received_on : (xs ys : List DeviceAct) → received_by_device (xs ++ ys) ≡ received_by_device xs ++ received_by_device ys
received_on [] ys = refl
received_on (DeviceAct.Ticks ∷ xs) ys = received_on xs ys
received_on (DeviceAct.Receives works faults stamp bytes ∷ xs) ys = ap (λ (ps : List Sent). sent_at stamp bytes ∷ ps) (received_on xs ys)
received_on (DeviceAct.Judges works faults verdict ∷ xs) ys = received_on xs ys
received_on (DeviceAct.Restarts ∷ xs) ys = received_on xs ys

-- A device keeps its endpoint.
call_keeps : (n : DeviceNodeOf) (c : DeviceCall) → (device_after_call n c).endpoint ≡ n.endpoint
call_keeps n (DeviceCall.Receives works faults bytes) = refl
call_keeps n DeviceCall.Ticks = refl
call_keeps n (DeviceCall.Judges works faults verdict) = refl
call_keeps n DeviceCall.Restarts = refl

pub acts_keep : (q : DeviceProcess) (xs : List DeviceAct) → (device_process_after_acts q xs).node.endpoint ≡ q.node.endpoint
acts_keep q [] = refl
acts_keep q (d ∷ xs) = acts_keep (device_process_after_act d q) xs ∙ call_keeps q.node (device_act_call d)

keeps_endpoint : (before : List Sent) (s : DeviceProcessOf) (came : List Sent) (t : DeviceProcessOf) (sent : List Sent) (xs : List DeviceAct) → AreDeviceActs before s came t sent xs
    → t.device.node.endpoint ≡ s.device.node.endpoint
keeps_endpoint before s came t sent xs h = sym (ap (λ (q : DeviceProcess). q.node.endpoint) h.ends) ∙ acts_keep (device_process_of s before) xs

acts_on : (before : List Sent) (s m t : DeviceProcessOf) (came more a b : List Sent) (xs ys : List DeviceAct)
    → AreDeviceActs before s came m a xs → AreDeviceActs (before ++ a) m more t b ys → AreDeviceActs before s (came ++ more) t (a ++ b) (xs ++ ys)
acts_on before s m t came more a b xs ys h k =
    let q = device_process_of s before in
    let same = ap (λ (e : Endpoint). e.eid) (keeps_endpoint before s came m a xs h) in
    record {
      may = may_on s.device.node.endpoint.eid q xs ys h.may
          (subst (λ r. DeviceMayDo s.device.node.endpoint.eid r ys) (sym h.ends) (subst (λ e. DeviceMayDo e (device_process_of m (before ++ a)) ys) same k.may));
      ends = after_on q xs ys ∙ ap (λ r. device_process_after_acts r ys) h.ends ∙ k.ends ∙ ap (device_process_of t) (append_assoc before a b);
      received = received_on xs ys ∙ ap (λ ps. ps ++ received_by_device ys) h.received
          ∙ ap (λ ps. filter (is_mine s) came ++ ps) (k.received ∙ ap (λ e. filter (λ (p : Sent). is_for e p.bytes) more) same) ∙ sym (filter-append (is_mine s) came more);
    }

-- NO ACT AND ONE

no_acts : (before : List Sent) (s t : DeviceProcessOf) (came : List Sent) → t ≡ s → filter (is_mine s) came ≡ [] → AreDeviceActs before s came t [] []
no_acts before s t came is none = record {
  may = tt;
  ends = ap (device_process_of s) (sym (append-nil before)) ∙ ap (λ x. device_process_of x (before ++ [])) (sym is);
  received = sym none;
}

-- what one call leaves
pub record Taken (s : ServedDeviceOf) (call : DeviceCall) (t : ServedDeviceOf) (packets : List (List ℕ)) : Type 0 where
  pub may : MayCall s.node call
  pub node : t.node ≡ device_after_call s.node call
  pub sent : packets ≡ device_call_packets s.node call

pub taken_one : (s t : ServedDeviceOf) (call : DeviceCall) (packets : List (List ℕ)) → TakesCalls s (call ∷ []) t packets → Taken s call t packets
taken_one s t call packets (rest, may, last, is) = record {
  may = may;
  node = ap (λ (x : ServedDeviceOf). x.node) last.0;
  sent = is ∙ ap (λ ps. device_call_packets s.node call ++ ps) last.1 ∙ append-nil (device_call_packets s.node call);
}

may_call : (n : DeviceNodeOf) (c : DeviceCall) → MayCall n c → DeviceMayCall n c
may_call n (DeviceCall.Receives works faults bytes) h = record { worked = h.worked; failed = h.failed; called = h.called }
may_call n DeviceCall.Ticks h = tt
may_call n (DeviceCall.Judges works faults verdict) h = (record { worked = h.1.worked; failed = h.1.failed; called = h.1.called }, h.0)
may_call n DeviceCall.Restarts h = tt

one_act : (before : List Sent) (s t : DeviceProcessOf) (came : List Sent) (packets : List (List ℕ)) (sent : List Sent) (d : DeviceAct)
    → DeviceKnows s.device.node.endpoint.eid s.unit d → Taken s.device (device_act_call d) t.device packets → t.unit ≡ device_unit_after s.unit d
    → sent ≡ sent_now (device_unit_after s.unit d) packets → received_by_device (d ∷ []) ≡ filter (is_mine s) came → AreDeviceActs before s came t sent (d ∷ [])
one_act before s t came packets sent d knows taken unit stamped received = record {
  may = ((knows, may_call s.device.node (device_act_call d) taken.may), tt);
  ends = same_process (device_unit_after s.unit d) t.unit _ t.device.node _ (before ++ sent) (sym unit) (sym taken.node)
      (ap (λ ps. before ++ ps) (ap (sent_now (device_unit_after s.unit d)) (sym taken.sent) ∙ sym stamped));
  received = received;
}

-- DEEDS

-- There are acts between `s` and `t`.
pub record DeviceActs (before : List Sent) (s : DeviceProcessOf) (came : List Sent) (t : DeviceProcessOf) (sent : List Sent) : Type 0 where
  pub acts : List DeviceAct
  pub are : AreDeviceActs before s came t sent acts

acts_more : (before : List Sent) (s m t : DeviceProcessOf) (came more a b : List Sent) → DeviceActs before s came m a → DeviceActs (before ++ a) m more t b → DeviceActs before s (came ++ more) t (a ++ b)
acts_more before s m t came more a b h k = record { acts = h.acts ++ k.acts; are = acts_on before s m t came more a b h.acts k.acts h.are k.are }

-- a packet
pub kept_one : {A : Type 0} (p : A → Bool) (x : A) → p x ≡ true → filter p (x ∷ []) ≡ x ∷ []
kept_one p x is = rw is refl

pub left_one : {A : Type 0} (p : A → Bool) (x : A) → p x ≡ false → filter p (x ∷ []) ≡ []
left_one p x is = rw is refl

receipt_acts : (before : List Sent) (s t : DeviceProcessOf) (p : Sent) (packets : List (List ℕ)) (sent : List Sent) (calls : List DeviceCall) → is_mine s p ≡ true → IsTimely p.date s.unit
    → IsReceipt p.bytes calls → TakesCalls s.device calls t.device packets → t.unit ≡ s.unit → sent ≡ sent_now s.unit packets → DeviceActs before s (p ∷ []) t sent
receipt_acts before s t p packets sent [] mine timely such takes unit stamped = absurd such
receipt_acts before s t p packets sent (DeviceCall.Receives works faults bytes ∷ []) mine timely such takes unit stamped =
    let taken : Taken s.device (DeviceCall.Receives works faults p.bytes) t.device packets =
    subst (λ b. Taken s.device (DeviceCall.Receives works faults b) t.device packets) such (taken_one s.device t.device (DeviceCall.Receives works faults bytes) packets takes) in
    record {
      acts = DeviceAct.Receives works faults p.date p.bytes ∷ [];
      are = one_act before s t (p ∷ []) packets sent (DeviceAct.Receives works faults p.date p.bytes) (timely, mine) taken unit stamped (sym (kept_one (is_mine s) p mine));
    }
receipt_acts before s t p packets sent (DeviceCall.Receives works faults bytes ∷ c ∷ cs) mine timely such takes unit stamped = absurd such
receipt_acts before s t p packets sent (DeviceCall.Ticks ∷ cs) mine timely such takes unit stamped = absurd such
receipt_acts before s t p packets sent (DeviceCall.Judges works faults verdict ∷ cs) mine timely such takes unit stamped = absurd such
receipt_acts before s t p packets sent (DeviceCall.Restarts ∷ cs) mine timely such takes unit stamped = absurd such

packet_acts : (before : List Sent) (s t : DeviceProcessOf) (p : Sent) (sent : List Sent) (mine : Bool) → is_mine s p ≡ mine → IsTimely p.date s.unit → ReceivesIf mine s p.bytes t sent
    → DeviceActs before s (p ∷ []) t sent
packet_acts before s t p sent true mine timely h =
    receipt_acts before s t p h.packets sent h.taken.calls mine timely h.taken.such h.taken.takes h.counted h.stamped
packet_acts before s t p sent false other timely h =
    subst (λ ps. DeviceActs before s (p ∷ []) t ps) (sym h.1) (record { acts = []; are = no_acts before s t (p ∷ []) h.0 (left_one (is_mine s) p other) })

-- what is due, and a tick
abbrev with_device : DeviceProcessOf → ServedDeviceOf → DeviceProcessOf
with_device s device = record { unit = s.unit; device = device }

verdict_acts : (before : List Sent) (s : DeviceProcessOf) (mid : ServedDeviceOf) (verdict : Verdict) (calls : List DeviceCall) → IsVerdict verdict calls → TakesCalls s.device calls mid []
    → DeviceActs before s [] (with_device s mid) []
verdict_acts before s mid verdict [] such takes = absurd such
verdict_acts before s mid verdict (DeviceCall.Judges works faults judged ∷ []) such takes =
    record {
      acts = DeviceAct.Judges works faults judged ∷ [];
      are = one_act before s (with_device s mid) [] [] [] (DeviceAct.Judges works faults judged) tt (taken_one s.device mid (DeviceCall.Judges works faults judged) [] takes) refl refl refl;
    }
verdict_acts before s mid verdict (DeviceCall.Judges works faults judged ∷ c ∷ cs) such takes = absurd such
verdict_acts before s mid verdict (DeviceCall.Receives works faults bytes ∷ cs) such takes = absurd such
verdict_acts before s mid verdict (DeviceCall.Ticks ∷ cs) such takes = absurd such
verdict_acts before s mid verdict (DeviceCall.Restarts ∷ cs) such takes = absurd such

due_acts : (before : List Sent) (s : DeviceProcessOf) (mid : ServedDeviceOf) (due : Option Verdict) (calls : List DeviceCall) → AreDue due calls → TakesCalls s.device calls mid []
    → DeviceActs before s [] (with_device s mid) []
due_acts before s mid None calls such takes =
    let none : TakesCalls s.device [] mid [] = subst (λ cs. TakesCalls s.device cs mid []) such takes in
    record { acts = []; are = no_acts before s (with_device s mid) [] (ap (with_device s) none.0) refl }
due_acts before s mid (Some verdict) calls such takes = verdict_acts before s mid verdict calls such takes

tick_acts : (before : List Sent) (s t : DeviceProcessOf) (packets : List (List ℕ)) (sent : List Sent) → TakesSuch s.device IsTick t.device packets → t.unit ≡ s.unit + 1 → sent ≡ sent_now (s.unit + 1) packets
    → DeviceActs before s [] t sent
tick_acts before s t packets sent h unit stamped =
    let takes = subst (λ cs. TakesCalls s.device cs t.device packets) h.such h.takes in
    record {
      acts = DeviceAct.Ticks ∷ [];
      are = one_act before s t [] packets sent DeviceAct.Ticks tt (taken_one s.device t.device DeviceCall.Ticks packets takes) unit stamped refl;
    }

turn_acts : (before : List Sent) (s t : DeviceProcessOf) (sent : List Sent) → Sends (TakesTurn true s.device) (s.unit + 1) t sent → DeviceActs before s [] t sent
turn_acts before s t sent h =
    let turn = h.taken in
    let mid = with_device s turn.mid in
    acts_more before s mid t [] [] [] sent (due_acts before s turn.mid (due_verdict true s.device) turn.due.calls turn.due.such turn.due.takes)
    (tick_acts (before ++ []) mid t h.packets sent turn.ticks h.counted h.stamped)

-- AN ABSENCE

dropped_twice : (rows : List RowOf) → rows_after_drop (rows_after_drop rows) ≡ rows_after_drop rows
dropped_twice [] = refl
dropped_twice (r ∷ rs) = ap (λ (xs : List RowOf). row_without_applied r ∷ xs) (dropped_twice rs)

restarted_again : (n : DeviceNodeOf) → device_restarts (device_after_call (device_restarts n) DeviceCall.Ticks) ≡ device_restarts n
restarted_again n = rw (dropped_twice n.half.core.device.rows) refl

pub absence_after : (units : ℕ) (q : DeviceProcess) → device_process_after_acts q (device_absence units) ≡ record { unit = q.unit + units; node = device_restarts q.node; sent = q.sent }
absence_after zero q = same_process q.unit (q.unit + 0) (device_restarts q.node) (device_restarts q.node) (q.sent ++ []) q.sent (omega arith) refl (append-nil q.sent)
absence_after (suc units) q =
    let on = device_process_after_act DeviceAct.Ticks (device_process_after_act DeviceAct.Restarts q) in
    absence_after units on
    ∙ same_process (on.unit + units) (q.unit + suc units) (device_restarts on.node) (device_restarts q.node) on.sent q.sent (omega arith) (restarted_again q.node)
    (append-nil (q.sent ++ []) ∙ append-nil q.sent)

pub absence_may : (device units : ℕ) (q : DeviceProcess) → DeviceMayDo device q (device_absence units)
absence_may device zero q = ((tt, tt), tt)
absence_may device (suc units) q = ((tt, tt), ((tt, tt), absence_may device units (device_process_after_act DeviceAct.Ticks (device_process_after_act DeviceAct.Restarts q))))

absence_receives : (units : ℕ) → received_by_device (device_absence units) ≡ []
absence_receives zero = refl
absence_receives (suc units) = absence_receives units

miss_acts : (before : List Sent) (s t : DeviceProcessOf) (units : ℕ) → t.unit ≡ s.unit + units → TakesSuch s.device IsRestart t.device [] → DeviceActs before s [] t []
miss_acts before s t units unit h =
    let taken = taken_one s.device t.device DeviceCall.Restarts [] (subst (λ cs. TakesCalls s.device cs t.device []) h.such h.takes) in
    record {
      acts = device_absence units;
      are = record {
        may = absence_may s.device.node.endpoint.eid units (device_process_of s before);
        ends = absence_after units (device_process_of s before)
            ∙ same_process (s.unit + units) t.unit (device_restarts s.device.node) t.device.node before (before ++ []) (sym unit) (sym taken.node) (sym (append-nil before));
        received = absence_receives units;
      };
    }

-- ALL DEEDS

deed_acts : (before : List Sent) (s t : DeviceProcessOf) (d : Deed) (sent : List Sent) → Does DeviceDoes s d t sent → IsTimelyDeed s.unit d → DeviceActs before s (received_by_deed d) t sent
deed_acts before s t (Deed.Receives p) sent h timely = packet_acts before s t p sent (is_mine s p) refl timely h
deed_acts before s t (Deed.Drops p) sent h timely = subst (λ ps. DeviceActs before s [] t ps) (sym h.1) (record { acts = []; are = no_acts before s t [] h.0 refl })
deed_acts before s t Deed.Turns sent h timely = turn_acts before s t sent h
deed_acts before s t (Deed.Misses units) sent h timely = subst (λ ps. DeviceActs before s [] t ps) (sym h.2) (miss_acts before s t units h.0 h.1)

-- the unit after a deed
receipt_unit : (s t : DeviceProcessOf) (bytes : List ℕ) (sent : List Sent) (mine : Bool) → ReceivesIf mine s bytes t sent → t.unit ≡ s.unit
receipt_unit s t bytes sent true h = h.counted
receipt_unit s t bytes sent false h = ap (λ (x : DeviceProcessOf). x.unit) h.0

deed_unit : (s t : DeviceProcessOf) (d : Deed) (sent : List Sent) → Does DeviceDoes s d t sent → t.unit ≡ unit_after_deed s.unit d
deed_unit s t (Deed.Receives p) sent h = receipt_unit s t p.bytes sent (is_mine s p) h
deed_unit s t (Deed.Drops p) sent h = ap (λ (x : DeviceProcessOf). x.unit) h.0
deed_unit s t Deed.Turns sent h = h.counted
deed_unit s t (Deed.Misses units) sent h = h.0

all_acts : (s t : DeviceProcessOf) (ds : List Deed) (before sent : List Sent) → DoesAll DeviceDoes s ds t sent → AreTimely s.unit ds → DeviceActs before s (received_in ds) t sent
all_acts s t [] before sent h timely = subst (λ ps. DeviceActs before s [] t ps) (sym h.1) (record { acts = []; are = no_acts before s t [] h.0 refl })
all_acts s t (d ∷ ds) before sent (mid, a, b, first, rest, is) timely =
    subst (λ ps. DeviceActs before s (received_in (d ∷ ds)) t ps) (sym is)
    (acts_more before s mid t (received_by_deed d) (received_in ds) a b (deed_acts before s mid d a first timely.0)
    (all_acts mid t ds (before ++ a) b rest (subst (λ u. AreTimely u ds) (sym (deed_unit s mid d a first)) timely.1)))

pub devices_act : DevicesAct
devices_act s t ds before sent h timely = let all = all_acts s t ds before sent h timely in (all.acts, all.are)
