-- Nothing that a device does or sends depends on its bank's count of failures. So its acts may be
-- done with another count, which goes on from another number.
use Rattle.std.proofs.Common.{◌≡◌, ◌∙◌, ◌+◌, ◌-◌, ◌^◌, ◌==◌, ℕ, Bool, true, false, if◌then◌else◌, List, [], ◌∷◌, inl, inr, ap, refl, sym, subst}
use Rattle.std.proofs.lemmas.Bool.{eqb-true}
use Rattle.exch_lane.specs.Lanes.{Sent}
use Rattle.exch_lane.specs.Steps.{sent_at}
use Rattle.fd_core.specs.Banks.{CountsFailure}
use Rattle.fw_node.specs.Nodes.{DeviceNodeOf}
use Rattle.fw_steps.specs.Plays.{CallsBank, DeviceMayCall, DeviceProcess}
use Rattle.fw_steps.specs.Traces.{DeviceAct, device_act_call, device_process_after_act}
use Rattle.fw_serve.specs.Lives.{process_recounted, recounted, served_recounted}
use Rattle.fw_serve.specs.Processes.{DeviceProcessOf}
use Rattle.fw_serve.specs.Traced.{AreDeviceActs, DeviceKnows, DeviceMayDo, device_process_after_acts, received_by_device}

-- the count after a call of the bank
abbrev pub count_after : ℕ → (works : Bool) → ℕ
count_after f true = f
count_after f false = if f == 2 ^ 64 - 1 then f else f + 1

counts_if : (f : ℕ) (last : Bool) → (f == 2 ^ 64 - 1) ≡ last → CountsFailure f (if last then f else f + 1)
counts_if f true is = inr (eqb-true f (2 ^ 64 - 1) is, refl)
counts_if f false is = inl refl

calls_recounted : (calls : Bool) (before f : ℕ) (works : Bool) (faults : ℕ) → CallsBank calls before works faults → CallsBank calls f works (count_after f works)
calls_recounted calls before f true faults h = record { worked = λ e. refl; failed = λ e. absurd (cc); called = h.called }
calls_recounted calls before f false faults h = record { worked = λ e. absurd (cc); failed = λ e. counts_if f (f == 2 ^ 64 - 1) refl; called = h.called }

-- an act with a count that goes on from `f`, and the count after it
abbrev pub act_recounted : ℕ → DeviceAct → DeviceAct
act_recounted f DeviceAct.Ticks = DeviceAct.Ticks
act_recounted f (DeviceAct.Receives works faults stamp bytes) = DeviceAct.Receives works (count_after f works) stamp bytes
act_recounted f (DeviceAct.Judges works faults verdict) = DeviceAct.Judges works (count_after f works) verdict
act_recounted f DeviceAct.Restarts = DeviceAct.Restarts

abbrev pub count_next : ℕ → DeviceAct → ℕ
count_next f DeviceAct.Ticks = f
count_next f (DeviceAct.Receives works faults stamp bytes) = count_after f works
count_next f (DeviceAct.Judges works faults verdict) = count_after f works
count_next f DeviceAct.Restarts = f

abbrev pub acts_recounted : ℕ → List DeviceAct → List DeviceAct
acts_recounted f [] = []
acts_recounted f (d ∷ ds) = act_recounted f d ∷ acts_recounted (count_next f d) ds

abbrev pub count_last : ℕ → List DeviceAct → ℕ
count_last f [] = f
count_last f (d ∷ ds) = count_last (count_next f d) ds

-- one act
knows : (device unit f : ℕ) (d : DeviceAct) → DeviceKnows device unit d → DeviceKnows device unit (act_recounted f d)
knows device unit f DeviceAct.Ticks h = h
knows device unit f (DeviceAct.Receives works faults stamp bytes) h = h
knows device unit f (DeviceAct.Judges works faults verdict) h = h
knows device unit f DeviceAct.Restarts h = h

may_call : (f : ℕ) (n : DeviceNodeOf) (d : DeviceAct) → DeviceMayCall n (device_act_call d) → DeviceMayCall (recounted f n) (device_act_call (act_recounted f d))
may_call f n DeviceAct.Ticks h = tt
may_call f n (DeviceAct.Receives works faults stamp bytes) h = calls_recounted _ n.faults f works faults h
may_call f n (DeviceAct.Judges works faults verdict) h = (calls_recounted _ n.faults f works faults h.0, h.1)
may_call f n DeviceAct.Restarts h = tt

after_one : (f : ℕ) (q : DeviceProcess) (d : DeviceAct)
    → device_process_after_act (act_recounted f d) (process_recounted f q) ≡ process_recounted (count_next f d) (device_process_after_act d q)
after_one f q DeviceAct.Ticks = refl
after_one f q (DeviceAct.Receives works faults stamp bytes) = refl
after_one f q (DeviceAct.Judges works faults verdict) = refl
after_one f q DeviceAct.Restarts = refl

-- acts
may_do : (device f : ℕ) (q : DeviceProcess) (ds : List DeviceAct) → DeviceMayDo device q ds → DeviceMayDo device (process_recounted f q) (acts_recounted f ds)
may_do device f q [] h = tt
may_do device f q (d ∷ ds) h = (
  (knows device q.unit f d h.0.0, may_call f q.node d h.0.1),
  subst (λ r. DeviceMayDo device r (acts_recounted (count_next f d) ds)) (sym (after_one f q d)) (may_do device (count_next f d) (device_process_after_act d q) ds h.1),
)

after_all : (f : ℕ) (q : DeviceProcess) (ds : List DeviceAct)
    → device_process_after_acts (process_recounted f q) (acts_recounted f ds) ≡ process_recounted (count_last f ds) (device_process_after_acts q ds)
after_all f q [] = refl
after_all f q (d ∷ ds) =
    ap (λ r. device_process_after_acts r (acts_recounted (count_next f d) ds)) (after_one f q d) ∙ after_all (count_next f d) (device_process_after_act d q) ds

received_same : (f : ℕ) (ds : List DeviceAct) → received_by_device (acts_recounted f ds) ≡ received_by_device ds
received_same f [] = refl
received_same f (DeviceAct.Ticks ∷ ds) = received_same f ds
received_same f (DeviceAct.Receives works faults stamp bytes ∷ ds) = ap (λ (ps : List Sent). sent_at stamp bytes ∷ ps) (received_same (count_after f works) ds)
received_same f (DeviceAct.Judges works faults verdict ∷ ds) = received_same (count_after f works) ds
received_same f (DeviceAct.Restarts ∷ ds) = received_same f ds

-- The acts between two states of a served device are acts between the same states with other
-- counts.
pub are_recounted : (f : ℕ) (before : List Sent) (s : DeviceProcessOf) (came : List Sent) (t : DeviceProcessOf) (sent : List Sent) (ds : List DeviceAct) → AreDeviceActs before s came t sent ds
    → AreDeviceActs before (served_recounted f s) came (served_recounted (count_last f ds) t) sent (acts_recounted f ds)
are_recounted f before s came t sent ds h = record {
  may = may_do s.device.node.endpoint.eid f (record { unit = s.unit; node = s.device.node; sent = before }) ds h.may;
  ends = after_all f (record { unit = s.unit; node = s.device.node; sent = before }) ds ∙ ap (process_recounted (count_last f ds)) h.ends;
  received = received_same f ds ∙ h.received;
}
