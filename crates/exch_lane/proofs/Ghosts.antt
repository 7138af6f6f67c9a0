-- The ghost state of a lane: the latest exchange of each tag, and the exchange in the cell.
use Rattle.std.proofs.Common.{◌≡◌, ◌≢◌, ◌+◌, ◌≤◌, ◌<◌, ◌==◌, ℕ, Bool, true, false, if◌then◌else◌, List, Option, Some, None, IfSome, IsSomeAnd, is_none, is_some, length, slice_get, ◌⊎◌}
use Rattle.mctp_wire.specs.declared.unit.Unit.{«Unit»}
use Rattle.std.specs.List.{AllByRecursion}
use Rattle.mctp_reasm.specs.Pieces.{MessageOf, PacketOf, pieces, spelling_of}
use Rattle.pldm_exch.specs.Caller.{IsCaller, Open, new_caller, is_quiet, last_tag, rest_at}
use Rattle.pldm_exch.specs.Kept.{kept_at}
use Rattle.exch_lane.specs.Cells.{Cell, CellRun}
use Rattle.exch_lane.specs.Clocks.{Clock, IsClock, HasElapsedAtMost}
use Rattle.exch_lane.specs.Lanes.{LaneOf, Sent, asker_clock, taker_clock}
use Rattle.pldm_exch.specs.Ends.{AskerOf, TakerOf}
use Rattle.mctp_reasm.specs.Inboxes.{held_at}
use Rattle.exch_lane.proofs.Views.{AskerView, Ends, Exchange, TagOf, TagView, TakerView, reply_of, request_of}

-- the latest exchange of each tag, and the tag of the exchange in the cell
pub record Ghost : Type 0 where
  pub exchanges : ℕ → Option Exchange
  pub current : Option ℕ

-- a tag has another exchange
abbrev pub put : ℕ → Exchange → (ℕ → Option Exchange) → ℕ → Option Exchange
put tag e exchanges t = if t == tag then Some e else exchanges t

abbrev pub is_at : Option ℕ → ℕ → Bool
is_at None t = false
is_at (Some tag) t = t == tag

-- one tag of a lane
abbrev pub ends_of : LaneOf → ℕ → Ends
ends_of w t = record { unit = w.unit; asker = w.asker_eid; taker = w.taker_eid; tag = t }

abbrev pub asker_view : AskerOf → ℕ → AskerView
asker_view a t = record { deaf = a.deaf; rest = rest_at a.caller t; replies = held_at a.replies t }

abbrev pub taker_view : TakerOf → ℕ → TakerView
taker_view a t = record { deaf = a.deaf; kept = kept_at a.kept t; requests = held_at a.requests t }

abbrev pub view_of : LaneOf → Option ℕ → ℕ → TagView
view_of w current t =
    record {
      now = w.now;
      asker_miss = w.asker_since_miss;
      taker_miss = w.taker_since_miss;
      ends = ends_of w t;
      asker = asker_view w.asker t;
      taker = taker_view w.taker t;
      is_current = is_at current t;
    }

-- the cell of a lane
abbrev pub cell_with : Exchange → Bool → Option (List ℕ) → Cell
cell_with e live None = Cell.Asked e.command e.body live
cell_with e live (Some r) = Cell.Answered e.command e.body r live

abbrev pub cell_from : Bool → Option Exchange → Cell
cell_from live None = Cell.Empty
cell_from live (Some e) = cell_with e live e.reply

abbrev pub exchange_at : (ℕ → Option Exchange) → Option ℕ → Option Exchange
exchange_at exchanges None = None
exchange_at exchanges (Some t) = exchanges t

abbrev pub run_of : LaneOf → Ghost → CellRun
run_of w g = record { cell = cell_from (is_some w.asker.caller.asked) (exchange_at g.exchanges g.current); entries = w.entries }

-- bytes of a packet of a message
pub record IsPacketOf (u : «Unit») (m : MessageOf) (bytes : List ℕ) : Type 0 where
  pub number : ℕ
  pub packet : PacketOf
  pub at : slice_get (pieces u m) number ≡ Some packet
  pub is : bytes ≡ spelling_of packet

-- a packet of an exchange: of its request, not sent after the last sending; or of its reply, which
-- some packet of the request caused
abbrev pub IsOfExchange : Ends → Exchange → Sent → Type 0
IsOfExchange x e s =
    (IsPacketOf x.unit (request_of x e) s.bytes × (s.date ≤ e.last))
    ⊎ IsSomeAnd e.reply (λ r. IsPacketOf x.unit (reply_of x e r) s.bytes × (s.date ≤ e.last + 8))

pub record IsExplained (u : «Unit») (asker taker : ℕ) (exchanges : ℕ → Option Exchange) (s : Sent) : Type 0 where
  pub tag : ℕ
  pub low : tag < 8
  pub of : IsSomeAnd (exchanges tag) (λ e. IsOfExchange (record { unit = u; asker = asker; taker = taker; tag = tag }) e s)

-- each packet that can still arrive is one of the latest exchange of its tag
abbrev pub IsLiving : (u : «Unit») (now asker taker : ℕ) → (ℕ → Option Exchange) → Sent → Type 0
IsLiving u now asker taker exchanges s = now ≤ s.date + 8 → IsExplained u asker taker exchanges s

-- the open request is that of an exchange
pub record IsOpenOf (c : Clock) (x : Ends) (o : Open) (e : Exchange) : Type 0 where
  pub identifier : o.identifier ≡ e.identifier
  pub kind : o.pldm_type ≡ 5
  pub command : o.command ≡ e.command
  pub message : o.message ≡ request_of x e
  pub soon : HasElapsedAtMost c e.first o.age

pub record IsOpenRequest (u : «Unit») (c : Clock) (asker taker deaf : ℕ) (g : Ghost) (o : Open) : Type 0 where
  pub hears : deaf ≡ 0
  pub current : g.current ≡ Some o.tag
  pub of : IsSomeAnd (g.exchanges o.tag) (IsOpenOf c (record { unit = u; asker = asker; taker = taker; tag = o.tag }) o)

abbrev pub IsAskedOf : LaneOf → Ghost → Open → Type 0
IsAskedOf w g o = IsOpenRequest w.unit (asker_clock w) w.asker_eid w.taker_eid w.asker.deaf g o

pub record IsCurrent (g : Ghost) (t : ℕ) : Type 0 where
  pub low : t < 8
  pub there : is_some (g.exchanges t) ≡ true

-- the invariant of a lane and its ghost state, except for the relation between the caller and the
-- cell
pub record LaneBody (w : LaneOf) (g : Ghost) : Type 0 where
  pub differ : w.asker_eid ≢ w.taker_eid
  pub own : w.asker.caller.own ≡ w.asker_eid
  pub peer : w.asker.caller.peer ≡ w.taker_eid
  pub replies : length w.asker.replies ≡ 8
  pub kept : length w.taker.kept ≡ 8
  pub requests : length w.taker.requests ≡ 8
  pub asker_time : IsClock (asker_clock w)
  pub taker_time : IsClock (taker_clock w)
  pub caller : IsCaller w.asker.caller
  pub tags : (t : ℕ) → t < 8 → TagOf (view_of w g.current t) (g.exchanges t)
  pub packets : AllByRecursion (IsLiving w.unit w.now w.asker_eid w.taker_eid g.exchanges) w.packets
  pub asked : IfSome w.asker.caller.asked (IsAskedOf w g)
  pub current : IfSome g.current (IsCurrent g)
  pub deaf : 0 < w.asker.deaf → w.asker.caller ≡ new_caller w.asker_eid w.taker_eid

-- the whole invariant: the cell of an asker that isn't deaf is that of its last request, and it is
-- empty exactly if the asker is quiet
pub record LaneGood (w : LaneOf) (g : Ghost) : Type 0 where
  pub body : LaneBody w g
  pub last : w.asker.deaf ≡ 0 → IfSome g.current (λ t. t ≡ last_tag w.asker.caller)
  pub quiet : w.asker.deaf ≡ 0 → is_quiet w.asker.caller ≡ is_none g.current

-- A step keeps the invariant: the ghost state afterwards, and the cell's run is that of the lane.
pub record GoesOn (after : LaneOf) (along : Option CellRun) : Type 0 where
  pub ghost : Ghost
  pub good : LaneGood after ghost
  pub runs : along ≡ Some (run_of after ghost)
