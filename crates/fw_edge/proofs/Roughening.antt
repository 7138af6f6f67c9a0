-- Packets that are held back, and then passed on.
use Rattle.std.proofs.Common.{◌≡◌, ◌<◌, ◌≤◌, ◌+◌, ◌-◌, ◌^◌, ◌++◌, ◌∙◌, ℕ, Bool, true, false, List, [], ◌∷◌, append-nil, get_or, inl, inr, length, map, refl, sym, ap, subst, take, arith}
use Rattle.std.proofs.lemmas.Bool.{le-ltb, lt-ltb}
use Rattle.std.proofs.lemmas.List.{length-append, map-append, take_more}
use Rattle.std.proofs.lemmas.List.Elements.{filter-append}
use Rattle.std.specs.List.{filter}
use Rattle.fw_edge.specs.Frames.{frames_of}
use Rattle.fw_edge.specs.Ledgers.{TakesPackets}
use Rattle.fw_edge.specs.Links.{LinkBytes, GrowsAt, CountsOne, SendsPacket}
use Rattle.fw_edge.specs.Roughening.{GoOut, DelayedPacketOf, held_of, helds_of, is_due, is_late}
use Rattle.fw_edge.specs.declared.rough.DelayedPacket.{DelayedPacket}
use Rattle.fw_edge.specs.declared.tally.Tally.{Tally}

-- one more is passed on
pub out_more : (hs : List DelayedPacketOf) (h : DelayedPacketOf) (old mid new : LinkBytes) → GoOut hs old mid → GrowsAt h.side (frames_of (h.bytes ∷ [])) mid new → GoOut (hs ++ h ∷ []) old new
out_more [] h old mid new is grows = (new, subst (λ o. GrowsAt h.side (frames_of (h.bytes ∷ [])) o new) is grows, refl)
out_more (g ∷ gs) h old mid new out grows = (out.0, out.1, out_more gs h out.0 mid new out.2 grows)

-- the packets with a property
filter_step : (p : DelayedPacketOf → Bool) (h : DelayedPacket) (hs : List DelayedPacket) (b : Bool) → p (held_of h) ≡ b → map held_of (filter (λ g. p (held_of g)) hs) ≡ filter p (map held_of hs)
    → map held_of (filter (λ g. p (held_of g)) (h ∷ hs)) ≡ filter p (map held_of (h ∷ hs))
filter_step p h hs true is rest = rw is (ap (λ gs. held_of h ∷ gs) rest)
filter_step p h hs false is rest = rw is rest

pub filter_helds : (p : DelayedPacketOf → Bool) (hs : List DelayedPacket) → map held_of (filter (λ h. p (held_of h)) hs) ≡ filter p (map held_of hs)
filter_helds p [] = refl
filter_helds p (h ∷ hs) = filter_step p h hs (p (held_of h)) refl (filter_helds p hs)

-- the first `i` packets, and one more
next_of : (i : ℕ) (hs : List DelayedPacket) (h : DelayedPacket) → i < length hs → h ≡ get_or hs i h → helds_of (take (i + 1) hs) ≡ helds_of (take i hs) ++ held_of h ∷ []
next_of i hs h lt is =
    ap (map held_of) (take_more hs i h lt ∙ ap (λ g. take i hs ++ g ∷ []) (sym is)) ∙ map-append held_of (take i hs) (h ∷ [])

due_next : (turn : ℕ) (gs : List DelayedPacketOf) (h : DelayedPacketOf) → is_late turn h ≡ false → filter (is_due turn) (gs ++ h ∷ []) ≡ filter (is_due turn) gs ++ h ∷ []
due_next turn gs h is = filter-append (is_due turn) gs (h ∷ []) ∙ ap (λ hs. filter (is_due turn) gs ++ hs) (rw is refl)

late_next : (turn : ℕ) (gs : List DelayedPacketOf) (h : DelayedPacketOf) → is_late turn h ≡ true → filter (is_due turn) (gs ++ h ∷ []) ≡ filter (is_due turn) gs
late_next turn gs h is = filter-append (is_due turn) gs (h ∷ []) ∙ ap (λ hs. filter (is_due turn) gs ++ hs) (rw is refl) ∙ append-nil (filter (is_due turn) gs)

-- it is due and is passed on; or it is still held back
pub goes_next : (turn i : ℕ) (hs : List DelayedPacket) (h : DelayedPacket) (old mid new : LinkBytes) → i < length hs → h ≡ get_or hs i h → h.due ≤ turn
    → GoOut (filter (is_due turn) (helds_of (take i hs))) old mid → GrowsAt h.side (frames_of (h.packet.items ∷ [])) mid new
    → GoOut (filter (is_due turn) (helds_of (take (i + 1) hs))) old new
goes_next turn i hs h old mid new lt is due out grows =
    subst (λ gs. GoOut gs old new)
    (sym (ap (filter (is_due turn)) (next_of i hs h lt is) ∙ due_next turn (helds_of (take i hs)) (held_of h) (le-ltb turn h.due due)))
    (out_more (filter (is_due turn) (helds_of (take i hs))) (held_of h) old mid new out grows)

pub stays_next : (turn i : ℕ) (hs : List DelayedPacket) (h : DelayedPacket) (old new : LinkBytes) → i < length hs → h ≡ get_or hs i h → turn < h.due
    → GoOut (filter (is_due turn) (helds_of (take i hs))) old new → GoOut (filter (is_due turn) (helds_of (take (i + 1) hs))) old new
stays_next turn i hs h old new lt is far out =
    subst (λ gs. GoOut gs old new)
    (sym (ap (filter (is_due turn)) (next_of i hs h lt is) ∙ late_next turn (helds_of (take i hs)) (held_of h) (lt-ltb turn h.due far)))
    out

-- some were passed on, and one more is, or isn't
due_count : (turn i : ℕ) (hs : List DelayedPacket) (h : DelayedPacket) → i < length hs → h ≡ get_or hs i h → h.due ≤ turn
    → length (filter (is_due turn) (helds_of (take (i + 1) hs))) ≡ length (filter (is_due turn) (helds_of (take i hs))) + 1
due_count turn i hs h lt is due =
    ap length (ap (filter (is_due turn)) (next_of i hs h lt is) ∙ due_next turn (helds_of (take i hs)) (held_of h) (le-ltb turn h.due due))
    ∙ length-append (filter (is_due turn) (helds_of (take i hs))) (held_of h ∷ [])

late_count : (turn i : ℕ) (hs : List DelayedPacket) (h : DelayedPacket) → i < length hs → h ≡ get_or hs i h → turn < h.due
    → length (filter (is_due turn) (helds_of (take (i + 1) hs))) ≡ length (filter (is_due turn) (helds_of (take i hs)))
late_count turn i hs h lt is far =
    ap length (ap (filter (is_due turn)) (next_of i hs h lt is) ∙ late_next turn (helds_of (take i hs)) (held_of h) (lt-ltb turn h.due far))

rises_to : (n o mid new : ℕ) → (mid < 2 ^ 64 - 1 → mid ≡ o + n) → CountsOne mid new → new < 2 ^ 64 - 1 → new ≡ o + (n + 1)
rises_to n o mid new so (inl e) lt = let first = so (omega arith) in omega arith
rises_to n o mid new so (inr h) lt = absurd (let a = h.0 in let b = h.1 in omega arith)

writes_one : (n : ℕ) (o mid new : Tally) → TakesPackets n o mid → SendsPacket mid new → TakesPackets (n + 1) o new
writes_one n o mid new h s = record {
  failures = s.failures ∙ h.failures;
  sent_rise = rises_to n o.sent mid.sent new.sent h.sent_rise s.sent;
  asked = s.asked ∙ h.asked;
  given = s.given ∙ h.given;
}

pub counts_next : (turn i : ℕ) (hs : List DelayedPacket) (h : DelayedPacket) (o mid new : Tally) → i < length hs → h ≡ get_or hs i h → h.due ≤ turn
    → TakesPackets (length (filter (is_due turn) (helds_of (take i hs)))) o mid → SendsPacket mid new → TakesPackets (length (filter (is_due turn) (helds_of (take (i + 1) hs)))) o new
counts_next turn i hs h o mid new lt is due so s =
    subst (λ n. TakesPackets n o new) (sym (due_count turn i hs h lt is due)) (writes_one (length (filter (is_due turn) (helds_of (take i hs)))) o mid new so s)

pub counts_still : (turn i : ℕ) (hs : List DelayedPacket) (h : DelayedPacket) (o mid : Tally) → i < length hs → h ≡ get_or hs i h → turn < h.due
    → TakesPackets (length (filter (is_due turn) (helds_of (take i hs)))) o mid → TakesPackets (length (filter (is_due turn) (helds_of (take (i + 1) hs)))) o mid
counts_still turn i hs h o mid lt is far so = subst (λ n. TakesPackets n o mid) (sym (late_count turn i hs h lt is far)) so
