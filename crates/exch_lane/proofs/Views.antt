-- One tag of a lane: its latest exchange, and the data of both ends under it.
use Rattle.std.proofs.Common.{◌≡◌, ◌+◌, ◌-◌, ◌≤◌, ◌<◌, ℕ, Bool, true, false, nat_le, if◌then◌else◌, List, Option, Some, None, IfSome, IsSomeAnd, is_some, length, take, ◌⊎◌}
use Rattle.mctp_wire.specs.declared.unit.Unit.{«Unit»}
use Rattle.pldm_base.specs.Limits.{reply_limit}
use Rattle.mctp_reasm.specs.Pieces.{MessageOf, PacketOf, pieces}
use Rattle.mctp_reasm.specs.Held.{Held, held_tick}
use Rattle.pldm_base.specs.Header.{pldm_bytes}
use Rattle.pldm_exch.specs.Kept.{KeptAnswer, kept_tick}
use Rattle.exch_lane.specs.Clocks.{Clock, clock_after_unit, HasElapsedAtMost}

-- the two nodes, and the tag
pub record Ends : Type 0 where
  pub unit : «Unit»
  pub asker : ℕ
  pub taker : ℕ
  pub tag : ℕ

-- the latest exchange of a tag: its request, the times of its first and last sending, and the
-- taker's answer
pub record Exchange : Type 0 where
  pub identifier : ℕ
  pub command : ℕ
  pub body : List ℕ
  pub first : ℕ
  pub last : ℕ
  pub reply : Option (List ℕ)

-- its messages
abbrev pub request_of : Ends → Exchange → MessageOf
request_of x e =
    record {
      dest = x.taker;
      source = x.asker;
      to = true;
      tag = x.tag;
      bytes = pldm_bytes (record { rq = true; instance = e.identifier; pldm_type = 5; command = e.command }) e.body;
    }

abbrev pub reply_of : Ends → Exchange → List ℕ → MessageOf
reply_of x e reply =
    record {
      dest = x.asker;
      source = x.taker;
      to = false;
      tag = x.tag;
      bytes = pldm_bytes (record { rq = false; instance = e.identifier; pldm_type = 5; command = e.command }) reply;
    }

-- the exchange when its request is sent again, and when it is answered
abbrev pub resent : ℕ → Exchange → Exchange
resent now e = record e { last = now }

abbrev pub answered_with : List ℕ → Exchange → Exchange
answered_with r e = record e { reply = Some r }

-- one tag at its asker
pub record AskerView : Type 0 where
  pub deaf : ℕ
  pub rest : ℕ
  pub replies : Option Held

-- one tag at its taker
pub record TakerView : Type 0 where
  pub deaf : ℕ
  pub kept : Option KeptAnswer
  pub requests : Option Held

-- a tick that an end counts: a deaf one only counts down
abbrev pub asker_view_tick : AskerView → AskerView
asker_view_tick w =
    if nat_le w.deaf 1 then record { deaf = 0; rest = w.rest - 1; replies = held_tick w.replies }
    else record w { deaf = w.deaf - 1 }

abbrev pub taker_view_tick : TakerView → TakerView
taker_view_tick w =
    if nat_le w.deaf 1 then record { deaf = 0; kept = kept_tick w.kept; requests = held_tick w.requests }
    else record w { deaf = w.deaf - 1 }

-- an end that misses a tick does nothing
abbrev pub asker_at : Bool → AskerView → AskerView
asker_at true w = asker_view_tick w
asker_at false w = w

abbrev pub taker_at : Bool → TakerView → TakerView
taker_at true w = taker_view_tick w
taker_at false w = w

-- the tag's rest starts again
abbrev pub rested : AskerView → AskerView
rested w = record w { rest = 40 }

-- one tag: time, the two nodes, its latest exchange, both ends, and whether that exchange is in the
-- cell
pub record TagView : Type 0 where
  pub now : ℕ
  pub asker_miss : ℕ
  pub taker_miss : ℕ
  pub ends : Ends
  pub asker : AskerView
  pub taker : TakerView
  pub is_current : Bool

abbrev pub asker_time : TagView → Clock
asker_time v = record { now = v.now; since_miss = v.asker_miss }

abbrev pub taker_time : TagView → Clock
taker_time v = record { now = v.now; since_miss = v.taker_miss }

-- a unit of time passes
abbrev pub view_ticked : TagView → Bool → Bool → TagView
view_ticked v asker taker =
    record v {
      now = v.now + 1;
      asker_miss = (clock_after_unit asker (asker_time v)).since_miss;
      taker_miss = (clock_after_unit taker (taker_time v)).since_miss;
      asker = asker_at asker v.asker;
      taker = taker_at taker v.taker;
    }

-- a proper beginning of a message
pub record IsPart (u : «Unit») (m : MessageOf) (ps : List PacketOf) : Type 0 where
  pub count : ℕ
  pub some : 0 < count
  pub proper : count < length (pieces u m)
  pub is : ps ≡ take count (pieces u m)

-- facts about the held packets of the request
pub record IsRequests (c : Clock) (x : Ends) (e : Exchange) (h : Held) : Type 0 where
  pub part : IsPart x.unit (request_of x e) h.packets
  pub age : h.age ≤ 8
  pub soon : HasElapsedAtMost c (e.last + 8) h.age

-- facts about the held packets of the reply
pub record IsReplies (c : Clock) (x : Ends) (e : Exchange) (h : Held) : Type 0 where
  pub part : IsSomeAnd e.reply (λ r. IsPart x.unit (reply_of x e r) h.packets)
  pub age : h.age ≤ 8
  pub soon : HasElapsedAtMost c (e.last + 16) h.age

-- a kept answer is that of the exchange
pub record IsKept (c : Clock) (x : Ends) (e : Exchange) (k : KeptAnswer) : Type 0 where
  pub identifier : k.identifier ≡ e.identifier
  pub reply : IsSomeAnd e.reply (λ r. k.reply ≡ reply_of x e r)
  pub age : k.age ≤ 24
  pub old : e.first + k.age ≤ c.now
  pub soon : HasElapsedAtMost c (e.last + 8) k.age

-- the times at which the request was sent
pub record IsSpan (now : ℕ) (e : Exchange) : Type 0 where
  pub order : e.first ≤ e.last
  pub span : e.last ≤ e.first + 14
  pub past : e.last ≤ now

-- the exchange can be encoded
pub record IsWording (u : «Unit») (e : Exchange) : Type 0 where
  pub identifier : e.identifier ≤ 31
  pub body : length e.body ≤ reply_limit u
  pub reply : IfSome e.reply (λ r. length r ≤ reply_limit u)

-- the asker's side: the tag rests until nothing of the exchange can be left
pub record IsAsker (c : Clock) (x : Ends) (e : Exchange) (w : AskerView) : Type 0 where
  pub replies : IfSome w.replies (IsReplies c x e)
  pub rest : w.deaf ≡ 0 → e.last + 40 ≤ c.now + w.rest
  pub deaf : 0 < w.deaf → (e.last + 40 ≤ c.now + w.deaf) × (w.rest ≡ 0) × (w.replies ≡ None)

-- the taker's side: an answer is kept as long as its request can arrive
pub record IsTaker (c : Clock) (x : Ends) (e : Exchange) (w : TakerView) : Type 0 where
  pub requests : IfSome w.requests (IsRequests c x e)
  pub kept : IfSome w.kept (IsKept c x e)
  pub still : w.deaf ≡ 0 → is_some e.reply ≡ true → c.now ≤ e.first + 24 → is_some w.kept ≡ true
  pub deaf : 0 < w.deaf → (w.kept ≡ None) × (w.requests ≡ None) × (is_some e.reply ≡ true → e.first + 40 ≤ c.now + w.deaf)

-- nothing of the exchange can be left, or it was answered
abbrev pub IsSettled : ℕ → Exchange → Type 0
IsSettled now e = (is_some e.reply ≡ true) ⊎ (e.last + 40 ≤ now)

-- a tag without an exchange
abbrev pub IsEmptyTag : TagView → Type 0
IsEmptyTag v = (v.asker.replies ≡ None) × (v.taker.requests ≡ None) × (v.taker.kept ≡ None)

-- a tag and its exchange
pub record IsExchange (v : TagView) (e : Exchange) : Type 0 where
  pub wording : IsWording v.ends.unit e
  pub span : IsSpan v.now e
  pub asker : IsAsker (asker_time v) v.ends e v.asker
  pub taker : IsTaker (taker_time v) v.ends e v.taker
  pub settled : v.is_current ≡ false → IsSettled v.now e

abbrev pub TagOf : TagView → Option Exchange → Type 0
TagOf v None = IsEmptyTag v
TagOf v (Some e) = IsExchange v e
