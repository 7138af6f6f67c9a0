-- What lines print.
use Rattle.std.proofs.Common.{◌≡◌, ℕ, Bool, true, false, List, [], ◌∷◌, None, Option, Result, Some, refl, sym}
use Rattle.fd_core.specs.declared.states.Verdict.{Verdict}
use Rattle.fw_script.specs.declared.faults.ScriptCause.{ScriptCause}
use Rattle.fw_serve.specs.Agents.{AgentFilterOf, ServesAgentLine, agent_line_front, agent_served_behind}
use Rattle.fw_serve.specs.Lines.{AgentLineOf, DeviceLineOf, agent_line_of, device_line_of}
use Rattle.fw_serve.specs.Serving.{DeviceFilterOf, IsVerdict, PrintsPackets, ServedDeviceOf, ServesBehind, ServesDeviceLine, ServesLine, ServesVerdict, TakesSuch, device_line_front}
use Rattle.fw_serve.specs.Texts.{packets_line, refused_line}
use Rattle.fw_serve.specs.declared.texts.LineRefusal.TheVariants as refusals

-- a call that sends nothing
pub prints_nothing : (sends : List (List ℕ) → Type 0) (text : List ℕ) → sends [] → text ≡ packets_line [] → PrintsPackets sends text
prints_nothing sends text sent is = record { sent = []; takes = sent; printed = is }

pub verdict_taken : (awaited : Bool) (verdict : Verdict) (s t : ServedDeviceOf) (text : List ℕ) → awaited ≡ true → TakesSuch s (IsVerdict verdict) t [] → text ≡ packets_line []
    → ServesVerdict awaited verdict s t text
verdict_taken true verdict s t text is taken printed = prints_nothing (TakesSuch s (IsVerdict verdict) t) text taken printed
verdict_taken false verdict s t text is taken printed = absurd (cc)

pub verdict_refused : (awaited : Bool) (verdict : Verdict) (s : ServedDeviceOf) (text : List ℕ) → awaited ≡ false → text ≡ refused_line refusals.NotNow → ServesVerdict awaited verdict s s text
verdict_refused true verdict s text is printed = absurd (cc)
verdict_refused false verdict s text is printed = (refl, printed)

-- a packet that the front answers, and one that passes to the device
pub front_served : (front : Option (List ℕ)) (auto : Bool) (s : ServedDeviceOf) (line : Result (Option DeviceLineOf) ScriptCause) (answer text : List ℕ) → Some answer ≡ front → text ≡ packets_line (answer ∷ [])
    → ServesBehind front auto s line s text
front_served None auto s line answer text is printed = absurd (cc)
front_served (Some a) auto s line answer text is printed =
    let same : answer ≡ a = cc in
    (refl, rw (sym same) printed)

pub front_passed : (front : Option (List ℕ)) (auto : Bool) (s t : ServedDeviceOf) (line : Result (Option DeviceLineOf) ScriptCause) (text : List ℕ) → None ≡ front → ServesLine auto s line t text
    → ServesBehind front auto s line t text
front_passed None auto s t line text is serves = serves
front_passed (Some a) auto s t line text is serves = absurd (cc)

-- a line, once it is read
pub line_served : (s t : DeviceFilterOf) (line text : List ℕ) (read : Result (Option DeviceLineOf) ScriptCause) → device_line_of line ≡ read → t.options ≡ s.options
    → ServesBehind (device_line_front s.options.front read) s.options.auto s.device read t.device text → ServesDeviceLine s line t text
line_served s t line text read is options serves = record { options = options; serves = rw is serves }

pub agent_line_is_served : (s t : AgentFilterOf) (line text : List ℕ) (read : Result (Option AgentLineOf) ScriptCause) → agent_line_of line ≡ read → t.options ≡ s.options
    → t.agent ≡ (agent_served_behind (agent_line_front s.options.front read) s.options.auto s.agent read).agent
    → text ≡ (agent_served_behind (agent_line_front s.options.front read) s.options.auto s.agent read).text → ServesAgentLine s line t text
agent_line_is_served s t line text read is options agent printed = record { options = options; agent = rw is agent; printed = rw is printed }
