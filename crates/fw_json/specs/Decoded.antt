-- Decoded packets as JSON values, a line each.
use Rattle.std.specs.Prelude.{ℕ, if◌then◌else◌, List, [], ◌∷◌, codes, drop, option_map}
use Rattle.std.specs.Str.{is_utf8}
use Rattle.json.specs.Json.{Json, string}
use Rattle.mctp_wire.specs.declared.layout.Head.{Head}
use Rattle.mctp_wire.specs.declared.unit.Unit.{«Unit»}
use Rattle.fw_trace.specs.Decoding.{decoded_text, facts_line, fault_name}
use Rattle.fw_trace.specs.declared.decoder.Facts.{Facts}
use Rattle.fw_trace.specs.declared.decoder.Facts.TheVariants as facts
use Rattle.fw_trace.specs.declared.decoder.PacketFacts.{PacketFacts}
use Rattle.fw_trace.specs.declared.inputs.InputFault.{InputFault}
use Rattle.fw_json.specs.Values.{line_of, number_value, object_of, optional_value, text_value}
use Rattle.fwupd_base.specs.declared.forms.Form.{Form}
use Rattle.fwupd_base.specs.declared.forms.Form.TheVariants as forms

-- What a packet says, as in its line, after the space before it. It is plain text; bytes that are
-- no UTF-8 would be escaped.
unfoldable pub said_value : List ℕ → Json
said_value text = if is_utf8 text then string text else text_value text

-- a packet: its place, its ends and its tag, null if the bytes are no packet, and what it says
unfoldable pub packet_value : PacketFacts → List ℕ → Json
packet_value f said =
    object_of
    ((codes "format", string (codes "fwupd-packet/1")) ∷ (codes "turn", optional_value number_value f.turn) ∷ (codes "device", number_value f.device)
    ∷ (codes "number", number_value f.number) ∷ (codes "source", optional_value number_value (option_map (λ (h : Head). h.source) f.head))
    ∷ (codes "dest", optional_value number_value (option_map (λ (h : Head). h.dest) f.head))
    ∷ (codes "tag", optional_value number_value (option_map (λ (h : Head). h.tag) f.head)) ∷ (codes "text", said_value (drop 1 said)) ∷ [])

-- an input that is no packet
unfoldable pub unread_value : InputFault → Json
unread_value fault = object_of ((codes "format", string (codes "fwupd-packet/1")) ∷ (codes "drop", string (fault_name fault)) ∷ [])

abbrev pub facts_value : Facts → List ℕ → Json
facts_value (facts.Packet f) said = packet_value f said
facts_value (facts.Unread fault) said = unread_value fault

-- the line of an input
abbrev pub facts_json : Facts → List ℕ → List ℕ
facts_json f said = line_of (facts_value f said)

-- the packets of a file, decoded, in either format
abbrev pub decoded_in : Form → «Unit» → List ℕ → List ℕ
decoded_in forms.Text u bytes = decoded_text facts_line u bytes
decoded_in forms.Json u bytes = decoded_text facts_json u bytes
