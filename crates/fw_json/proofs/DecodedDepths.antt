-- The value of a decoded packet nests one level deep.
use Rattle.std.proofs.Common.{◌≤◌, ℕ, Bool, true, false, if◌then◌else◌, drop, List, Option, None, Some, option_map, arith}
use Rattle.std.specs.Str.{is_utf8}
use Rattle.json.specs.Json.{max_depth, string}
use Rattle.json.specs.Tree.{depth}
use Rattle.mctp_wire.specs.declared.layout.Head.{Head}
use Rattle.fw_trace.specs.declared.decoder.Facts.{Facts}
use Rattle.fw_trace.specs.declared.decoder.Facts.TheVariants as facts
use Rattle.fw_trace.specs.declared.decoder.PacketFacts.{PacketFacts}
use Rattle.fw_json.specs.Decoded.{facts_value, packet_value, said_value, unread_value}
use Rattle.fw_json.specs.Values.{number_value, optional_value, text_value}

number_flat : (o : Option ℕ) → depth (optional_value number_value o) ≤ 0
number_flat None = omega arith
number_flat (Some n) = omega arith

said_by : (b : Bool) (text : List ℕ) → depth (if b then string text else text_value text) ≤ 0
said_by true text = omega arith
said_by false text = omega arith

said_flat : (text : List ℕ) → depth (said_value text) ≤ 0
unfolding said_value
said_flat text = said_by (is_utf8 text) text

packet_shallow : (f : PacketFacts) (said : List ℕ) → depth (packet_value f said) ≤ 1
unfolding packet_value
packet_shallow f said =
    let turn = number_flat f.turn in
    let source = number_flat (option_map (λ (h : Head). h.source) f.head) in
    let dest = number_flat (option_map (λ (h : Head). h.dest) f.head) in
    let tag = number_flat (option_map (λ (h : Head). h.tag) f.head) in
    let text = said_flat (drop 1 said) in
    omega (arith, turn, source, dest, tag, text)

pub facts_shallow : (f : Facts) (said : List ℕ) → depth (facts_value f said) ≤ max_depth
unfolding unread_value
facts_shallow (facts.Packet f) said = omega (arith, packet_shallow f said)
facts_shallow (facts.Unread fault) said = omega arith
