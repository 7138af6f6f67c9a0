-- A device by itself, as a server of lines: the calls of its node that a line makes, and what is
-- printed. The calls, and the node after them, are those of `Alone`.
use Rattle.std.specs.Prelude.{ℕ, suc, zero, ◌≡◌, ◌++◌, ◌∷◌, [], Bool, true, false, if◌then◌else◌, is_some, List, map, Option, Some, None, Result, Ok, Err}
use Rattle.fd_core.specs.BankCalls.{verdict_calls_bank}
use Rattle.fd_core.specs.Banks.{CountsFailure}
use Rattle.fd_core.specs.States.{DeviceState}
use Rattle.fd_core.specs.Steps.{device_verdict}
use Rattle.fd_core.specs.declared.states.Verdict.{Verdict}
use Rattle.fd_core.specs.declared.states.Verdict.TheVariants as verdicts
use Rattle.fw_message.specs.Worlds.{NotedOf, noted_of}
use Rattle.fw_node.specs.BankCalls.{packet_calls_bank}
use Rattle.fw_node.specs.Cores.{device_core}
use Rattle.fw_node.specs.Nodes.{DeviceNodeOf}
use Rattle.fw_json.specs.Alone.{device_alone_value}
use Rattle.fw_json.specs.Values.{line_of}
use Rattle.fw_script.specs.Reports.{device_alone, history_text}
use Rattle.fw_script.specs.declared.faults.ScriptCause.{ScriptCause}
use Rattle.fw_steps.specs.Alone.{DeviceCall, device_after_call, device_call_entries, device_call_packets}
use Rattle.fw_serve.specs.Fronts.{answer_in_front}
use Rattle.fw_serve.specs.declared.fronts.FilterOptions.{FilterOptions}
use Rattle.fw_serve.specs.declared.fronts.Front.{Front}
use Rattle.fw_serve.specs.Lines.{DeviceLineOf, device_line_of}
use Rattle.fw_serve.specs.Texts.{fault_line, packets_line, refused_line}
use Rattle.fw_serve.specs.declared.texts.LineRefusal.TheVariants as refusals

-- a device's node, and the history of the images that it applied and activated
pub record ServedDeviceOf : Type 0 where
  pub node : DeviceNodeOf
  pub history : List NotedOf

-- The outcome of a call's bank: `works` says whether its one call succeeded. A call fails only if
-- the node calls its bank (`calls`), and only if the bank counts the failure.
pub record MayWork (works : Bool) (before after : ℕ) (calls : Bool) : Type 0 where
  pub worked : works ≡ true → after ≡ before
  pub failed : works ≡ false → CountsFailure before after
  pub called : works ≡ false → calls ≡ true

-- a call that the node takes: a verdict only if the device waits for it
abbrev pub MayCall : DeviceNodeOf → DeviceCall → Type 0
MayCall n (DeviceCall.Receives works faults bytes) = MayWork works n.faults faults (packet_calls_bank device_core n.half bytes)
MayCall n (DeviceCall.Judges works faults verdict) =
    (is_some (device_verdict n.half.core.device verdict works) ≡ true) × MayWork works n.faults faults (verdict_calls_bank n.half.core.device verdict)
MayCall n call = Unit {0}

-- the device after a call
abbrev pub served_after_call : ServedDeviceOf → DeviceCall → ServedDeviceOf
served_after_call s call =
    record { node = device_after_call s.node call; history = s.history ++ map (noted_of s.node.endpoint.eid) (device_call_entries s.node call) }

-- A device takes calls, in order, and sends packets.
abbrev pub TakesCalls : ServedDeviceOf → List DeviceCall → ServedDeviceOf → (sent : List (List ℕ)) → Type 0
TakesCalls s [] t sent = (t ≡ s) × (sent ≡ [])
TakesCalls s (call ∷ calls) t sent =
    (rest : List (List ℕ)) × MayCall s.node call × TakesCalls (served_after_call s call) calls t rest × (sent ≡ device_call_packets s.node call ++ rest)

-- A device takes calls of which this holds, and sends packets.
pub record TakesSuch (s : ServedDeviceOf) (asked : List DeviceCall → Type 0) (t : ServedDeviceOf) (sent : List (List ℕ)) : Type 0 where
  pub calls : List DeviceCall
  pub such : asked calls
  pub takes : TakesCalls s calls t sent

-- the one call is the receipt of a packet, a verdict, a tick, or a restart
abbrev pub IsReceipt : List ℕ → List DeviceCall → Type 0
IsReceipt bytes (DeviceCall.Receives works faults received ∷ []) = received ≡ bytes
IsReceipt bytes calls = ⊥

abbrev pub IsVerdict : Verdict → List DeviceCall → Type 0
IsVerdict verdict (DeviceCall.Judges works faults judged ∷ []) = judged ≡ verdict
IsVerdict verdict calls = ⊥

abbrev pub IsTick : List DeviceCall → Type 0
IsTick calls = calls ≡ DeviceCall.Ticks ∷ []

abbrev pub IsRestart : List DeviceCall → Type 0
IsRestart calls = calls ≡ DeviceCall.Restarts ∷ []

-- the verdict that a device waits for, always a success
abbrev pub awaited_verdict : DeviceState → Option Verdict
awaited_verdict d =
    if is_some (device_verdict d verdicts.VerifyOk true) then Some verdicts.VerifyOk
    else (if is_some (device_verdict d verdicts.ApplyOk true) then Some verdicts.ApplyOk else None)

-- what is due at the end of a turn: the verdict that the device waits for, if verdicts are given
abbrev pub due_verdict : (auto : Bool) → ServedDeviceOf → Option Verdict
due_verdict true s = awaited_verdict s.node.half.core.device
due_verdict false s = None

abbrev pub AreDue : Option Verdict → List DeviceCall → Type 0
AreDue None calls = calls ≡ []
AreDue (Some verdict) calls = IsVerdict verdict calls

-- A device takes what is due at the end of the turn before, and then a tick.
pub record TakesTurn (auto : Bool) (s t : ServedDeviceOf) (sent : List (List ℕ)) : Type 0 where
  pub mid : ServedDeviceOf
  pub due : TakesSuch s (AreDue (due_verdict auto s)) mid []
  pub ticks : TakesSuch mid IsTick t sent

-- It takes turns.
abbrev pub TakesTurns : (auto : Bool) → (count : ℕ) → ServedDeviceOf → ServedDeviceOf → (sent : List (List ℕ)) → Type 0
TakesTurns auto zero s t sent = (t ≡ s) × (sent ≡ [])
TakesTurns auto (suc count) s t sent =
    (mid : ServedDeviceOf) × (before : List (List ℕ)) × (last : List (List ℕ)) × TakesTurns auto count s mid before × TakesTurn auto mid t last × (sent ≡ before ++ last)

-- what a line prints after calls: the packets that the device sends
pub record PrintsPackets (sends : List (List ℕ) → Type 0) (text : List ℕ) : Type 0 where
  pub sent : List (List ℕ)
  pub takes : sends sent
  pub printed : text ≡ packets_line sent

-- a verdict that the device waits for, or one that it doesn't
abbrev pub ServesVerdict : (awaited : Bool) → Verdict → ServedDeviceOf → ServedDeviceOf → (text : List ℕ) → Type 0
ServesVerdict true verdict s t text = PrintsPackets (TakesSuch s (IsVerdict verdict) t) text
ServesVerdict false verdict s t text = (t ≡ s) × (text ≡ refused_line refusals.NotNow)

-- a line that was read
abbrev pub ServesRead : (auto : Bool) → ServedDeviceOf → DeviceLineOf → ServedDeviceOf → (text : List ℕ) → Type 0
ServesRead auto s (DeviceLineOf.Packet bytes) t text = PrintsPackets (TakesSuch s (IsReceipt bytes) t) text
ServesRead auto s (DeviceLineOf.Ticks count) t text = PrintsPackets (TakesTurns auto count s t) text
ServesRead auto s (DeviceLineOf.Judges verdict) t text = ServesVerdict (is_some (device_verdict s.node.half.core.device verdict true)) verdict s t text
ServesRead auto s DeviceLineOf.Restarts t text = PrintsPackets (TakesSuch s IsRestart t) text
ServesRead auto s DeviceLineOf.Reports t text = (t ≡ s) × (text ≡ line_of (device_alone_value s.node s.history))

-- A skipped line prints nothing.
abbrev pub ServesLine : (auto : Bool) → ServedDeviceOf → Result (Option DeviceLineOf) ScriptCause → ServedDeviceOf → (text : List ℕ) → Type 0
ServesLine auto s (Ok None) t text = (t ≡ s) × (text ≡ [])
ServesLine auto s (Ok (Some line)) t text = ServesRead auto s line t text
ServesLine auto s (Err cause) t text = (t ≡ s) × (text ≡ fault_line cause)

-- the answer in front of the device to a line that is a packet
abbrev pub device_line_front : Option Front → Result (Option DeviceLineOf) ScriptCause → Option (List ℕ)
device_line_front front (Ok (Some (DeviceLineOf.Packet bytes))) = answer_in_front front bytes
device_line_front front line = None

-- The front answers a line, and the device doesn't see it; or it has no answer, and the device
-- serves the line.
abbrev pub ServesBehind : Option (List ℕ) → (auto : Bool) → ServedDeviceOf → Result (Option DeviceLineOf) ScriptCause → ServedDeviceOf → (text : List ℕ) → Type 0
ServesBehind (Some answer) auto s line t text = (t ≡ s) × (text ≡ packets_line (answer ∷ []))
ServesBehind None auto s line t text = ServesLine auto s line t text

-- the report of a device: its state, its active images, and the history
abbrev pub device_report : ServedDeviceOf → List ℕ
device_report s = device_alone s.node ++ history_text s.history

-- a device as a server of lines: its options, and the device
pub record DeviceFilterOf : Type 0 where
  pub options : FilterOptions
  pub device : ServedDeviceOf

-- A device serves a line.
pub record ServesDeviceLine (s : DeviceFilterOf) (line : List ℕ) (t : DeviceFilterOf) (text : List ℕ) : Type 0 where
  pub options : t.options ≡ s.options
  pub serves : ServesBehind (device_line_front s.options.front (device_line_of line)) s.options.auto s.device (device_line_of line) t.device text
