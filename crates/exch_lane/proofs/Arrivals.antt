-- The arrival of a packet of a message at an end.
use Rattle.std.proofs.Common.{◌≡◌, ◌≢◌, ◌∙◌, ◌<◌, ℕ, Bool, true, false, List, Some, None, Ok, slice_get, refl, sym, ap}
use Rattle.mctp_wire.specs.declared.unit.Unit.{«Unit»}
use Rattle.std.proofs.lemmas.Bool.{eq-eqb, ne_eqb}
use Rattle.mctp_wire.specs.Packet as wire
use Rattle.mctp_wire.specs.declared.layout.Head.{Head}
use Rattle.mctp_reasm.specs.Pieces.{IsMessage, MessageOf, PacketOf, pieces, spelling_of}
use Rattle.mctp_reasm.specs.Inboxes.{for_end, is_for, packet_for}
use Rattle.exch_lane.proofs.Below.{Laws}
use Rattle.exch_lane.proofs.Pieces.{piece_reads}

-- a packet is for its destination alone
is_for_it : (own peer : ℕ) (to : Bool) (h : Head) → h.dest ≡ own → h.source ≡ peer → h.to ≡ to → is_for own peer to h ≡ true
is_for_it own peer true h dest source to = rw (eq-eqb h.dest own dest, eq-eqb h.source peer source, to) refl
is_for_it own peer false h dest source to = rw (eq-eqb h.dest own dest, eq-eqb h.source peer source, to) refl

not_for_it : (own peer : ℕ) (to : Bool) (h : Head) → h.dest ≢ own → is_for own peer to h ≡ false
not_for_it own peer to h other = rw (ne_eqb h.dest own other) refl

pub packet_arrives : (l : Laws) (u : «Unit») (own peer : ℕ) (to : Bool) (m : MessageOf) (i : ℕ) (p : PacketOf) (bytes : List ℕ) → IsMessage u m → m.tag < 8
    → m.dest ≡ own → m.source ≡ peer → m.to ≡ to → slice_get (pieces u m) i ≡ Some p → bytes ≡ spelling_of p
    → packet_for u own peer to bytes ≡ Some p
packet_arrives l u own peer to m i p bytes lawful low dest source side at is =
    let route = ((l.pieces u m lawful).each i p at).route in
    let reads : wire.packet_of u bytes ≡ Ok (p.head, p.body) = ap (wire.packet_of u) is ∙ piece_reads l u m i p lawful low at in
    let here : is_for own peer to p.head ≡ true = is_for_it own peer to p.head (ap (λ r. r.dest) route ∙ dest) (ap (λ r. r.source) route ∙ source) (ap (λ r. r.to) route ∙ side) in
    ap (for_end own peer to) reads ∙ rw here refl

pub packet_misses : (l : Laws) (u : «Unit») (own peer : ℕ) (to : Bool) (m : MessageOf) (i : ℕ) (p : PacketOf) (bytes : List ℕ) → IsMessage u m → m.tag < 8
    → m.dest ≢ own → slice_get (pieces u m) i ≡ Some p → bytes ≡ spelling_of p
    → packet_for u own peer to bytes ≡ None
packet_misses l u own peer to m i p bytes lawful low other at is =
    let route = ((l.pieces u m lawful).each i p at).route in
    let reads : wire.packet_of u bytes ≡ Ok (p.head, p.body) = ap (wire.packet_of u) is ∙ piece_reads l u m i p lawful low at in
    let elsewhere : is_for own peer to p.head ≡ false = not_for_it own peer to p.head (λ e. other (sym (ap (λ r. r.dest) route) ∙ e)) in
    ap (for_end own peer to) reads ∙ rw elsewhere refl

-- its tag is that of the message
pub piece_tag : (l : Laws) (u : «Unit») (m : MessageOf) (i : ℕ) (p : PacketOf) → IsMessage u m → slice_get (pieces u m) i ≡ Some p → p.head.tag ≡ m.tag
piece_tag l u m i p lawful at = ap (λ r. r.tag) ((l.pieces u m lawful).each i p at).route
