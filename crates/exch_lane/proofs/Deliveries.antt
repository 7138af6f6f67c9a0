-- The effect of one delivery on a tag.
use Rattle.std.proofs.Common.{◌≡◌, ◌∙◌, ◌+◌, ◌≤◌, ℕ, Bool, true, false, List, Option, Some, None, IfSome, IsSomeAnd, is_some, Ok, length, inl, inr, refl, sym, arith}
use Rattle.mctp_reasm.specs.Pieces.{IsMessage}
use Rattle.mctp_reasm.specs.Held.{Held}
use Rattle.mctp_reasm.specs.declared.outcomes.Fed.{Fed}
use Rattle.mctp_reasm.specs.declared.outcomes.Fed.TheVariants.{Dropped, Open, Whole}
use Rattle.pldm_base.specs.Header.{pldm_of}
use Rattle.pldm_base.specs.Limits.{reply_limit}
use Rattle.exch_lane.specs.Clocks.{Clock, IsClock}
use Rattle.exch_lane.proofs.Below.{Laws}
use Rattle.exch_lane.proofs.Elapsed.{elapsed_start}
use Rattle.exch_lane.proofs.Facts.{none_of}
use Rattle.exch_lane.proofs.Pieces.{unit_some, Comes}
use Rattle.exch_lane.proofs.Views.{AskerView, Ends, Exchange, IsAsker, IsExchange, IsPart, IsReplies, IsRequests, IsSpan, IsTaker, IsWording, TagView, TakerView, answered_with, asker_time, reply_of, request_of, taker_time}

-- the messages of an exchange read back
pub request_is : (x : Ends) (e : Exchange) → IsWording x.unit e → IsMessage x.unit (request_of x e)
request_is x e h = let few = h.body in let some = unit_some x.unit in (omega arith, omega arith)

pub reply_is : (x : Ends) (e : Exchange) (r : List ℕ) → length r ≤ reply_limit x.unit → IsMessage x.unit (reply_of x e r)
reply_is x e r few = let some = unit_some x.unit in (omega arith, omega arith)

pub request_reads : (l : Laws) (x : Ends) (e : Exchange) → IsWording x.unit e
    → pldm_of (request_of x e).bytes ≡ Ok (record { rq = true; instance = e.identifier; pldm_type = 5; command = e.command }, e.body)
request_reads l x e h =
    l.messages_read (request_of x e).bytes (record { rq = true; instance = e.identifier; pldm_type = 5; command = e.command }) e.body
    (l.messages_written (record { rq = true; instance = e.identifier; pldm_type = 5; command = e.command }) e.body (h.identifier, omega arith))

pub reply_reads : (l : Laws) (x : Ends) (e : Exchange) (r : List ℕ) → IsWording x.unit e
    → pldm_of (reply_of x e r).bytes ≡ Ok (record { rq = false; instance = e.identifier; pldm_type = 5; command = e.command }, r)
reply_reads l x e r h =
    l.messages_read (reply_of x e r).bytes (record { rq = false; instance = e.identifier; pldm_type = 5; command = e.command }) r
    (l.messages_written (record { rq = false; instance = e.identifier; pldm_type = 5; command = e.command }) r (h.identifier, omega arith))

-- the held packets of a message after one of its pieces
begins_requests : (c : Clock) (x : Ends) (e : Exchange) (o : Option Held) → IsClock c → c.now ≤ e.last + 8
    → IsSomeAnd o (λ h. IsPart x.unit (request_of x e) h.packets × (h.age ≡ 0)) → IfSome o (IsRequests c x e)
begins_requests c x e None ok soon h = tt
begins_requests c x e (Some held) ok soon h = record { part = h.0; age = omega (arith, h.1); soon = rw h.1 (elapsed_start c (e.last + 8) ok soon) }

pub holds_requests : (c : Clock) (x : Ends) (e : Exchange) (f : Fed) (o : Option Held) → IsClock c → c.now ≤ e.last + 8 → Comes x.unit (request_of x e) f o
    → IfSome o (IsRequests c x e)
holds_requests c x e (Whole m) o ok soon h = rw h.1 tt
holds_requests c x e Open o ok soon h = begins_requests c x e o ok soon h
holds_requests c x e (Dropped cause) o ok soon h = rw h tt

begins_replies : (c : Clock) (x : Ends) (e : Exchange) (r : List ℕ) (o : Option Held) → e.reply ≡ Some r → IsClock c → c.now ≤ e.last + 16
    → IsSomeAnd o (λ h. IsPart x.unit (reply_of x e r) h.packets × (h.age ≡ 0)) → IfSome o (IsReplies c x e)
begins_replies c x e r None is ok soon h = tt
begins_replies c x e r (Some held) is ok soon h = record { part = rw is h.0; age = omega (arith, h.1); soon = rw h.1 (elapsed_start c (e.last + 16) ok soon) }

pub holds_replies : (c : Clock) (x : Ends) (e : Exchange) (r : List ℕ) (f : Fed) (o : Option Held) → e.reply ≡ Some r → IsClock c
    → c.now ≤ e.last + 16 → Comes x.unit (reply_of x e r) f o → IfSome o (IsReplies c x e)
holds_replies c x e r (Whole m) o is ok soon h = rw h.1 tt
holds_replies c x e r Open o is ok soon h = begins_replies c x e r o is ok soon h
holds_replies c x e r (Dropped cause) o is ok soon h = rw h tt

-- an end holds other packets
pub view_taker_holds : (v : TagView) (e : Exchange) (o : Option Held) → v.taker.deaf ≡ 0 → IfSome o (IsRequests (taker_time v) v.ends e)
    → IsExchange v e → IsExchange (record v { taker = record { deaf = v.taker.deaf; kept = v.taker.kept; requests = o } }) e
view_taker_holds v e o hears holds h = record {
  wording = h.wording;
  span = h.span;
  asker = h.asker;
  taker = record { requests = holds; kept = h.taker.kept; still = h.taker.still; deaf = λ z. absurd (omega (arith, z, hears)) };
  settled = h.settled;
}

pub view_asker_holds : (v : TagView) (e : Exchange) (o : Option Held) → v.asker.deaf ≡ 0 → IfSome o (IsReplies (asker_time v) v.ends e)
    → IsExchange v e → IsExchange (record v { asker = record { deaf = v.asker.deaf; rest = v.asker.rest; replies = o } }) e
view_asker_holds v e o hears holds h = record {
  wording = h.wording;
  span = h.span;
  asker = record { replies = holds; rest = h.asker.rest; deaf = λ z. absurd (omega (arith, z, hears)) };
  taker = h.taker;
  settled = h.settled;
}

-- a request without a kept answer is unanswered, and it is that of the cell
unanswered_from : (c : Clock) (x : Ends) (e : Exchange) (w : TakerView) (o : Option (List ℕ)) → e.reply ≡ o → w.deaf ≡ 0 → w.kept ≡ None
    → c.now ≤ e.last + 8 → IsSpan c.now e → IsTaker c x e w → e.reply ≡ None
unanswered_from c x e w None is hears none soon span h = is
unanswered_from c x e w (Some r) is hears none soon span h =
    let far = span.span in
    let some : is_some w.kept ≡ true = h.still hears (rw is refl) (omega arith) in
    let bad : is_some w.kept ≡ false = rw none refl in
    let clash : true ≡ false = sym some ∙ bad in absurd (cc)

pub new_is_unanswered : (v : TagView) (e : Exchange) → v.taker.deaf ≡ 0 → v.taker.kept ≡ None → v.now ≤ e.last + 8 → IsExchange v e → e.reply ≡ None
new_is_unanswered v e hears none soon h = unanswered_from (taker_time v) v.ends e v.taker e.reply refl hears none soon h.span h.taker

current_from : (v : TagView) (e : Exchange) (b : Bool) → v.is_current ≡ b → e.reply ≡ None → v.now ≤ e.last + 8 → IsExchange v e → v.is_current ≡ true
current_from v e true is none soon h = is
current_from v e false is none soon h = elim (h.settled is) [
  | inl some ↦ let bad : is_some e.reply ≡ false = rw none refl in let clash : true ≡ false = sym some ∙ bad in absurd (cc)
  | inr far ↦ absurd (omega arith)
]

pub unanswered_is_current : (v : TagView) (e : Exchange) → e.reply ≡ None → v.now ≤ e.last + 8 → IsExchange v e → v.is_current ≡ true
unanswered_is_current v e none soon h = current_from v e v.is_current refl none soon h

-- a new request is taken and answered
no_replies : (c : Clock) (x : Ends) (e : Exchange) (w : AskerView) → e.reply ≡ None → IsAsker c x e w → w.replies ≡ None
no_replies c x e w none h = none_of w.replies (IsReplies c x e) h.replies (λ o r. rw none at r.part)

pub view_takes : (v : TagView) (e : Exchange) (r : List ℕ) → IsClock (taker_time v) → v.taker.deaf ≡ 0 → e.reply ≡ None → length r ≤ reply_limit v.ends.unit
    → v.now ≤ e.last + 8 → IsExchange v e
    → IsExchange (record v { taker = record { deaf = v.taker.deaf; kept = Some (record { identifier = e.identifier; reply = reply_of v.ends e r; age = 0 }); requests = None } }) (answered_with r e)
view_takes v e r ok hears none few soon h =
    let order = h.span.order in
    let past = h.span.past in
    let empty = no_replies (asker_time v) v.ends e v.asker none h.asker in
    record {
      wording = record { identifier = h.wording.identifier; body = h.wording.body; reply = few };
      span = record { order = h.span.order; span = h.span.span; past = h.span.past };
      asker = record { replies = rw empty tt; rest = h.asker.rest; deaf = h.asker.deaf };
      taker = record {
        requests = tt;
        kept = record { identifier = refl; reply = refl; age = omega arith; old = omega arith; soon = elapsed_start (taker_time v) (e.last + 8) ok soon };
        still = λ _ _ _. refl;
        deaf = λ z. absurd (omega (arith, z, hears));
      };
      settled = λ _. inl refl;
    }
