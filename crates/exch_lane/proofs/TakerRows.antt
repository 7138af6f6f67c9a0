-- The outcome of a packet of a request at the taker.
use Rattle.std.proofs.Common.{◌≡◌, ◌≤◌, ◌<◌, ◌++◌, ◌∷◌, [], ℕ, true, List, Option, Some, None, IfSome, length, slice_set, refl, sym, ap, subst}
use Rattle.pldm_base.specs.Limits.{reply_limit}
use Rattle.std.proofs.lemmas.Bool.{eq-eqb}
use Rattle.mctp_reasm.specs.Held.{Held, feed_outcome, held_after}
use Rattle.mctp_reasm.specs.declared.outcomes.Fed.{Fed}
use Rattle.mctp_reasm.specs.declared.outcomes.Fed.TheVariants.{Dropped, Open, Whole}
use Rattle.pldm_base.specs.Header.{pldm_of}
use Rattle.pldm_base.specs.declared.header.PldmHead.{PldmHead}
use Rattle.pldm_exch.specs.Kept.{KeptAnswer, asked_by_kept, identifier_in, identifier_of, kept_as, kept_at, kept_with, asked_for}
use Rattle.exch_lane.specs.Cells.{cell_at_taker, cell_take}
use Rattle.exch_lane.specs.Lanes.{LaneEntryOf, LaneOf, Sent, taker_clock}
use Rattle.mctp_reasm.specs.Inboxes.{held_at}
use Rattle.pldm_exch.specs.Sides.{TakerRow, taker_asked, taker_fed, taker_read}
use Rattle.exch_lane.specs.Steps.{packets_of_message, taker_does, taker_row_in}
use Rattle.exch_lane.proofs.Arrivals.{packet_arrives, piece_tag}
use Rattle.exch_lane.proofs.Below.{Laws}
use Rattle.exch_lane.proofs.Deliveries.{holds_requests, reply_reads, request_is, request_reads}
use Rattle.exch_lane.proofs.Facts.{some_maps}
use Rattle.exch_lane.proofs.Ghosts.{Ghost, GoesOn, IsPacketOf, LaneGood, ends_of, run_of}
use Rattle.exch_lane.proofs.Pieces.{Comes, piece_comes}
use Rattle.exch_lane.proofs.TakerHears.{goes_nowhere, taker_holds, taker_turned}
use Rattle.exch_lane.proofs.TakerTakes.{RequestCame, came_of, taker_repeats, taker_takes}
use Rattle.exch_lane.proofs.Views.{Ends, Exchange, IsKept, IsPart, IsRequests, IsWording, reply_of, request_of}

-- the effect of an outcome on the taker and on the cell
abbrev pub DoesRow : LaneOf → Ghost → List ℕ → TakerRow → Type 0
DoesRow w g reply row = GoesOn (taker_does w reply row) (cell_at_taker reply row (run_of w g))

-- the head of a request
abbrev pub request_head : Exchange → PldmHead
request_head e = record { rq = true; instance = e.identifier; pldm_type = 5; command = e.command }

request_identifier : (l : Laws) (x : Ends) (e : Exchange) → IsWording x.unit e → identifier_of (request_of x e) ≡ Some e.identifier
request_identifier l x e h = ap identifier_in (request_reads l x e h)

reply_identifier : (l : Laws) (x : Ends) (e : Exchange) (r : List ℕ) → IsWording x.unit e → identifier_of (reply_of x e r) ≡ Some e.identifier
reply_identifier l x e r h = ap identifier_in (reply_reads l x e r h)

-- a complete request is new or repeated
row_again : (w : LaneOf) (g : Ghost) (tag : ℕ) (e : Exchange) (reply : List ℕ) (k : KeptAnswer) → IsKept (taker_clock w) (ends_of w tag) e k
    → RequestCame w g tag e → LaneGood w g
    → DoesRow w g reply (TakerRow.Repeats (slice_set w.taker.requests tag None) k.reply)
row_again w g tag e reply k kept c h = taker_repeats w g tag e k kept c h

row_new : (l : Laws) (w : LaneOf) (g : Ghost) (tag : ℕ) (e : Exchange) (reply : List ℕ) → length reply ≤ reply_limit w.unit → kept_at w.taker.kept tag ≡ None
    → RequestCame w g tag e → LaneGood w g
    → DoesRow w g reply (TakerRow.TakesUp (slice_set w.taker.requests tag None) (request_of (ends_of w tag) e) (request_head e) e.body)
row_new l w g tag e reply few new c h =
    let k = came_of w g tag e c.low c.is h in
    let kept : kept_with w.taker.kept (reply_of (ends_of w tag) e reply) ≡ slice_set w.taker.kept tag (Some (record { identifier = e.identifier; reply = reply_of (ends_of w tag) e reply; age = 0 }))
    = ap (kept_as w.taker.kept (reply_of (ends_of w tag) e reply)) (reply_identifier l (ends_of w tag) e reply k.wording) in
    subst
    (λ kept. GoesOn
    (taker_turned w (record w.taker { kept = kept; requests = slice_set w.taker.requests tag None }) (w.packets ++ packets_of_message w.unit w.now (reply_of (ends_of w tag) e reply)) (w.entries ++ LaneEntryOf.Taken e.command e.body reply ∷ []))
    (cell_take e.command e.body reply (run_of w g)))
    (sym kept) (taker_takes w g tag e reply few new c h)

row_asked : (l : Laws) (w : LaneOf) (g : Ghost) (tag : ℕ) (e : Exchange) (reply : List ℕ) (k : Option KeptAnswer) → kept_at w.taker.kept tag ≡ k
    → IfSome k (IsKept (taker_clock w) (ends_of w tag) e) → length reply ≤ reply_limit w.unit → RequestCame w g tag e → LaneGood w g
    → DoesRow w g reply (taker_asked (slice_set w.taker.requests tag None) (request_of (ends_of w tag) e) (request_head e) e.body (asked_by_kept k (Some e.identifier)))
row_asked l w g tag e reply None is kept few c h = row_new l w g tag e reply few is c h
row_asked l w g tag e reply (Some k) is kept few c h = rw (eq-eqb k.identifier e.identifier kept.identifier) (row_again w g tag e reply k kept c h)

row_whole : (l : Laws) (w : LaneOf) (g : Ghost) (tag : ℕ) (e : Exchange) (reply : List ℕ) → length reply ≤ reply_limit w.unit → RequestCame w g tag e → LaneGood w g
    → DoesRow w g reply (taker_read (slice_set w.taker.requests tag None) w.taker.kept (request_of (ends_of w tag) e) (pldm_of (request_of (ends_of w tag) e).bytes))
row_whole l w g tag e reply few c h =
    let k = came_of w g tag e c.low c.is h in
    let heard : asked_for w.taker.kept (request_of (ends_of w tag) e) ≡ asked_by_kept (kept_at w.taker.kept tag) (Some e.identifier)
    = ap (asked_by_kept (kept_at w.taker.kept tag)) (request_identifier l (ends_of w tag) e k.wording) in
    subst (λ r. DoesRow w g reply (taker_read (slice_set w.taker.requests tag None) w.taker.kept (request_of (ends_of w tag) e) r)) (sym (request_reads l (ends_of w tag) e k.wording))
    (subst (λ a. DoesRow w g reply (taker_asked (slice_set w.taker.requests tag None) (request_of (ends_of w tag) e) (request_head e) e.body a)) (sym heard)
    (row_asked l w g tag e reply (kept_at w.taker.kept tag) refl k.taker.kept few c h))

-- the outcome of a packet of a request, from that of its assembly
row_fed : (l : Laws) (w : LaneOf) (g : Ghost) (tag : ℕ) (e : Exchange) (reply : List ℕ) (f : Fed) (o : Option Held)
    → Comes w.unit (request_of (ends_of w tag) e) f o → length reply ≤ reply_limit w.unit → RequestCame w g tag e → LaneGood w g
    → DoesRow w g reply (taker_fed (slice_set w.taker.requests tag o) w.taker.kept f)
row_fed l w g tag e reply (Whole m) o comes few c h =
    subst (λ o. DoesRow w g reply (taker_fed (slice_set w.taker.requests tag o) w.taker.kept (Whole m))) (sym comes.1)
    (subst (λ m. DoesRow w g reply (taker_fed (slice_set w.taker.requests tag None) w.taker.kept (Whole m))) (sym comes.0) (row_whole l w g tag e reply few c h))
row_fed l w g tag e reply Open o comes few c h =
    taker_holds w g tag e o w.packets c.low c.is c.hears (holds_requests (taker_clock w) (ends_of w tag) e Open o h.body.taker_time c.soon comes) h.body.packets h
row_fed l w g tag e reply (Dropped cause) o comes few c h =
    taker_holds w g tag e o w.packets c.low c.is c.hears (holds_requests (taker_clock w) (ends_of w tag) e (Dropped cause) o h.body.taker_time c.soon comes) h.body.packets h

-- the outcome of a packet of a request
row_is : (l : Laws) (w : LaneOf) (tag : ℕ) (e : Exchange) (s : Sent) (p : IsPacketOf w.unit (request_of (ends_of w tag) e) s.bytes) → w.taker.deaf ≡ 0 → IsWording w.unit e → tag < 8
    → taker_row_in w s.bytes ≡ taker_fed (slice_set w.taker.requests tag (held_after w.unit (held_at w.taker.requests tag) p.packet)) w.taker.kept (feed_outcome w.unit (held_at w.taker.requests tag) p.packet)
row_is l w tag e s p hears wording low =
    let lawful = request_is (ends_of w tag) e wording in
    let arrives = packet_arrives l w.unit w.taker_eid w.asker_eid true (request_of (ends_of w tag) e) p.number p.packet s.bytes lawful low refl refl refl p.at p.is in
    let under : p.packet.head.tag ≡ tag = piece_tag l w.unit (request_of (ends_of w tag) e) p.number p.packet lawful p.at in
    rw (hears, arrives, under) refl

-- a packet of a request arrives at a taker that isn't deaf
pub hears_request : (l : Laws) (w : LaneOf) (g : Ghost) (tag : ℕ) (e : Exchange) (reply : List ℕ) (s : Sent)
    → IsPacketOf w.unit (request_of (ends_of w tag) e) s.bytes → length reply ≤ reply_limit w.unit → RequestCame w g tag e → LaneGood w g
    → DoesRow w g reply (taker_row_in w s.bytes)
hears_request l w g tag e reply s p few c h =
    let k = came_of w g tag e c.low c.is h in
    let part = some_maps (held_at w.taker.requests tag) (IsRequests (taker_clock w) (ends_of w tag) e) (λ o. IsPart w.unit (request_of (ends_of w tag) e) o.packets) k.taker.requests (λ o r. r.part) in
    let comes = piece_comes l w.unit (request_of (ends_of w tag) e) p.number p.packet (held_at w.taker.requests tag) (request_is (ends_of w tag) e k.wording) p.at part in
    subst (DoesRow w g reply) (sym (row_is l w tag e s p c.hears k.wording c.low))
    (row_fed l w g tag e reply (feed_outcome w.unit (held_at w.taker.requests tag) p.packet) (held_after w.unit (held_at w.taker.requests tag) p.packet) comes few c h)

-- a deaf taker, and a packet that isn't for it
pub taker_silent : (w : LaneOf) (g : Ghost) (reply : List ℕ) (row : TakerRow) → row ≡ TakerRow.Silent w.taker.requests → LaneGood w g → DoesRow w g reply row
taker_silent w g reply row is h = subst (DoesRow w g reply) (sym is) (goes_nowhere w g h)
