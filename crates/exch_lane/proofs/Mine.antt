-- Each packet that can still arrive is one of the lane.
use Rattle.std.proofs.Common.{◌≡◌, ◌∙◌, ◌+◌, ◌≤◌, ◌<◌, ℕ, true, false, List, Option, Some, None, IsSomeAnd, Ok, inl, inr, refl, ap}
use Rattle.std.specs.List.{AllByRecursion}
use Rattle.std.proofs.lemmas.Bool.{eq-eqb}
use Rattle.mctp_wire.specs.Packet as wire
use Rattle.mctp_wire.specs.declared.layout.Head.{Head}
use Rattle.mctp_reasm.specs.Pieces.{IsMessage}
use Rattle.exch_lane.specs.Lanes.{LaneOf, Sent}
use Rattle.exch_lane.specs.Laws.{IsOfLane, in_lane, is_between, read_between}
use Rattle.exch_lane.proofs.AskerRows.{few_of}
use Rattle.exch_lane.proofs.Below.{Laws}
use Rattle.exch_lane.proofs.Deliveries.{reply_is, request_is}
use Rattle.exch_lane.proofs.Ghosts.{Ghost, IsLiving, IsOfExchange, IsPacketOf, LaneGood, ends_of}
use Rattle.exch_lane.proofs.Lifts.{all_maps}
use Rattle.exch_lane.proofs.Pieces.{piece_reads}
use Rattle.exch_lane.proofs.TakerTakes.{came_of}
use Rattle.exch_lane.proofs.Views.{Exchange, reply_of, request_of}

request_between : (asker taker : ℕ) (h : Head) → h.to ≡ true → h.source ≡ asker → h.dest ≡ taker → is_between asker taker h ≡ true
request_between asker taker h to source dest = rw (to, eq-eqb h.source asker source, eq-eqb h.dest taker dest) refl

reply_between : (asker taker : ℕ) (h : Head) → h.to ≡ false → h.source ≡ taker → h.dest ≡ asker → is_between asker taker h ≡ true
reply_between asker taker h to source dest = rw (to, eq-eqb h.source taker source, eq-eqb h.dest asker dest) refl

request_mine : (l : Laws) (w : LaneOf) (tag : ℕ) (e : Exchange) (bytes : List ℕ) → tag < 8 → IsMessage w.unit (request_of (ends_of w tag) e)
    → IsPacketOf w.unit (request_of (ends_of w tag) e) bytes → in_lane w.unit w.asker_eid w.taker_eid bytes ≡ true
request_mine l w tag e bytes low lawful p =
    let route = ((l.pieces w.unit (request_of (ends_of w tag) e) lawful).each p.number p.packet p.at).route in
    let reads : wire.packet_of w.unit bytes ≡ Ok (p.packet.head, p.packet.body) = ap (wire.packet_of w.unit) p.is ∙ piece_reads l w.unit (request_of (ends_of w tag) e) p.number p.packet lawful low p.at in
    ap (read_between w.asker_eid w.taker_eid) reads
    ∙ request_between w.asker_eid w.taker_eid p.packet.head (ap (λ r. r.to) route) (ap (λ r. r.source) route) (ap (λ r. r.dest) route)

reply_mine : (l : Laws) (w : LaneOf) (tag : ℕ) (e : Exchange) (r bytes : List ℕ) → tag < 8 → IsMessage w.unit (reply_of (ends_of w tag) e r)
    → IsPacketOf w.unit (reply_of (ends_of w tag) e r) bytes → in_lane w.unit w.asker_eid w.taker_eid bytes ≡ true
reply_mine l w tag e r bytes low lawful p =
    let route = ((l.pieces w.unit (reply_of (ends_of w tag) e r) lawful).each p.number p.packet p.at).route in
    let reads : wire.packet_of w.unit bytes ≡ Ok (p.packet.head, p.packet.body) = ap (wire.packet_of w.unit) p.is ∙ piece_reads l w.unit (reply_of (ends_of w tag) e r) p.number p.packet lawful low p.at in
    ap (read_between w.asker_eid w.taker_eid) reads
    ∙ reply_between w.asker_eid w.taker_eid p.packet.head (ap (λ r. r.to) route) (ap (λ r. r.source) route) (ap (λ r. r.dest) route)

replied_mine : (l : Laws) (w : LaneOf) (g : Ghost) (tag : ℕ) (e : Exchange) (o : Option (List ℕ)) (s : Sent) → e.reply ≡ o → tag < 8 → g.exchanges tag ≡ Some e → LaneGood w g
    → IsSomeAnd o (λ r. IsPacketOf w.unit (reply_of (ends_of w tag) e r) s.bytes × (s.date ≤ e.last + 8)) → in_lane w.unit w.asker_eid w.taker_eid s.bytes ≡ true
replied_mine l w g tag e None s is low there h of = absurd of
replied_mine l w g tag e (Some r) s is low there h of =
    reply_mine l w tag e r s.bytes low (reply_is (ends_of w tag) e r (few_of w.unit e r is (came_of w g tag e low there h).wording)) of.0

of_exchange : (l : Laws) (w : LaneOf) (g : Ghost) (tag : ℕ) (e : Exchange) (s : Sent) → tag < 8 → g.exchanges tag ≡ Some e → LaneGood w g
    → IsOfExchange (ends_of w tag) e s → in_lane w.unit w.asker_eid w.taker_eid s.bytes ≡ true
of_exchange l w g tag e s low there h (inl of) = request_mine l w tag e s.bytes low (request_is (ends_of w tag) e (came_of w g tag e low there h).wording) of.0
of_exchange l w g tag e s low there h (inr of) = replied_mine l w g tag e e.reply s refl low there h of

of_exchanges : (l : Laws) (w : LaneOf) (g : Ghost) (tag : ℕ) (o : Option Exchange) (s : Sent) → g.exchanges tag ≡ o → tag < 8 → LaneGood w g
    → IsSomeAnd o (λ e. IsOfExchange (ends_of w tag) e s) → in_lane w.unit w.asker_eid w.taker_eid s.bytes ≡ true
of_exchanges l w g tag None s is low h of = absurd of
of_exchanges l w g tag (Some e) s is low h of = of_exchange l w g tag e s low is h of

pub of_lane : (l : Laws) (w : LaneOf) (g : Ghost) → LaneGood w g → AllByRecursion (IsOfLane w) w.packets
of_lane l w g h =
    all_maps (IsLiving w.unit w.now w.asker_eid w.taker_eid g.exchanges) (IsOfLane w) w.packets h.body.packets
    (λ s k soon. let was = k soon in of_exchanges l w g was.tag (g.exchanges was.tag) s refl was.low h was.of)
