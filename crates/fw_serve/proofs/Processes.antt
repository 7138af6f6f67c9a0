-- A device as a process of its own: what it does in a deed.
use Rattle.std.proofs.Common.{◌≡◌, ◌+◌, ℕ, true, false, List, [], ◌∷◌, ap, refl, sym}
use Rattle.exch_lane.specs.Lanes.{Sent}
use Rattle.fw_process.specs.Processes.{Deed, LineOf, Serves, line_with}
use Rattle.fw_process.proofs.Rounds.{line_none, serves_one}
use Rattle.fw_steps.specs.Alone.{is_for}
use Rattle.fw_steps.specs.Worlds.{sent_now}
use Rattle.fw_serve.specs.Processes.{DeviceDoes, DeviceProcessOf}
use Rattle.fw_serve.specs.Serving.{IsReceipt, TakesSuch, TakesTurn}

-- A DEVICE

abbrev pub device_unit : DeviceProcessOf → ℕ
device_unit s = s.unit

pub device_receives : (s t : DeviceProcessOf) (p : Sent) (packets : List (List ℕ)) (l m : LineOf) → is_for s.device.node.endpoint.eid p.bytes ≡ true → t.unit ≡ s.unit → TakesSuch s.device (IsReceipt p.bytes) t.device packets
    → m ≡ line_with l [] (sent_now t.unit packets) → Serves DeviceDoes device_unit [] (Deed.Receives p ∷ []) s l t m
device_receives s t p packets l m mine unit takes line =
    serves_one DeviceDoes device_unit s t (Deed.Receives p) (sent_now t.unit packets) l m
    (rw mine (record { counted = unit; packets = packets; taken = takes; stamped = ap (λ u. sent_now u packets) unit })) unit line

pub device_ignores : (s : DeviceProcessOf) (p : Sent) (l : LineOf) → is_for s.device.node.endpoint.eid p.bytes ≡ false → Serves DeviceDoes device_unit [] (Deed.Receives p ∷ []) s l s l
device_ignores s p l other =
    record { sent = []; done = (s, [], [], rw other (refl, refl), (refl, refl), refl); counted = refl; line = sym (line_none l) }

pub device_turns : (s t : DeviceProcessOf) (packets : List (List ℕ)) (l m : LineOf) → t.unit ≡ s.unit + 1 → TakesTurn true s.device t.device packets → m ≡ line_with l [] (sent_now t.unit packets)
    → Serves DeviceDoes device_unit [] (Deed.Turns ∷ []) s l t m
device_turns s t packets l m unit takes line =
    serves_one DeviceDoes device_unit s t Deed.Turns (sent_now t.unit packets) l m
    (record { counted = unit; packets = packets; taken = takes; stamped = ap (λ u. sent_now u packets) unit }) unit line
