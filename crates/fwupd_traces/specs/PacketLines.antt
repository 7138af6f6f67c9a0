-- The line of a packet in a trace of hexadecimal digits.
use Rattle.std.specs.Prelude.{ℕ, ◌==◌, ◌++◌, Bool, false, if◌then◌else◌, List, [], ◌∷◌, codes}
use Rattle.exch_lane.specs.Lanes.{Sent}
use Rattle.fw_text.specs.Printing.{word_and_number}
use Rattle.fwupd_traces.specs.declared.packet_lines.TracedNode.{TracedNode}
use Rattle.fwupd_traces.specs.declared.packet_lines.TracedNode.TheVariants as nodes
use Rattle.hex.specs.Hex.{encode_upper}

-- The device of a packet of a node's process: the node itself, or the other end of a packet of the
-- agent. The second byte is the destination, the third the source (DSP0236).
abbrev pub other_end : (agent : ℕ) → List ℕ → ℕ
other_end agent (version ∷ dest ∷ source ∷ rest) = if source == agent then dest else source
other_end agent bytes = 0

abbrev pub device_in : TracedNode → List ℕ → ℕ
device_in (nodes.Device device) bytes = device
device_in (nodes.Agent agent) bytes = other_end agent bytes

-- a packet goes to the agent: its third byte is its source
abbrev pub is_to_agent : (device : ℕ) → List ℕ → Bool
is_to_agent device (version ∷ dest ∷ source ∷ rest) = source == device
is_to_agent device bytes = false

-- the direction of a packet
abbrev pub way_of : (device : ℕ) → List ℕ → List ℕ
way_of device bytes = if is_to_agent device bytes then codes " to-agent " else codes " to-device "

-- a packet's line: the tick of sending, the device of its pair, its direction, and its bytes in
-- digits
unfoldable pub trace_line : (device : ℕ) → Sent → List ℕ
trace_line device p =
    word_and_number [] p.date ++ word_and_number (codes " ") device ++ way_of device p.bytes ++ encode_upper p.bytes ++ codes "\n"
