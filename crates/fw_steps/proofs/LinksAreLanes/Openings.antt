-- A link without packets is explained.
use Rattle.mctp_wire.specs.declared.unit.Unit.{«Unit»}
use Rattle.std.proofs.Common.{◌≡◌, ℕ, List, [], refl, ap}
use Rattle.std.specs.List.{AllByRecursion, filter}
use Rattle.pldm_exch.specs.Ends.{AskerOf, TakerOf, asker_new, taker_new}
use Rattle.exch_lane.specs.Cells.{no_cell_yet}
use Rattle.exch_lane.specs.Lanes.{AreEnds, LaneOf, Sent, lane_new}
use Rattle.fw_node.specs.Halves.{HalfOf}
use Rattle.fw_steps.specs.Lanes.{Explained, LinkExplained, Times, is_of, way_of}
use Rattle.fw_steps.specs.Links.{LinkOf}
use Rattle.fw_steps.proofs.LinksAreLanes.Ways.{IsOfEither}

-- a half before its first request and its first answer
pub record IsNewHalf {C : Type 0} (h : HalfOf C) : Type 0 where
  pub asker : h.asker ≡ asker_new h.own h.peer 0
  pub taker : h.taker ≡ taker_new 0

-- the lane of new halves is a new lane
new_lane : (u : «Unit») (own peer other : ℕ) (asker : AskerOf) (taker : TakerOf) (packets : List Sent) → asker ≡ asker_new own peer 0 → taker ≡ taker_new 0 → packets ≡ []
    → peer ≡ other
    → ◌≡◌ {A = LaneOf} (lane_new u own other) (record { unit = u; asker_eid = own; taker_eid = peer; now = 0; asker_since_miss = 8; taker_since_miss = 8; asker = asker; taker = taker; packets = packets; entries = [] })
new_lane u own peer other asker taker packets first second none is = rw (first, second, none, is) refl

-- both count every tick so far
abbrev pub new_times : Times
new_times = record { now = 0; asker_since_miss = 8; taker_since_miss = 8 }

new_way : {A B : Type 0} (a : HalfOf A) (b : HalfOf B) (ps : List Sent) → IsNewHalf a → IsNewHalf b → a.peer ≡ b.own → ps ≡ [] → Explained a.unit a.own b.own (way_of new_times a b ps)
new_way a b ps new other peer none = record {
  steps = [];
  may = tt;
  run = no_cell_yet;
  along = refl;
  is = new_lane a.unit a.own a.peer b.own a.asker b.taker (filter (is_of a.unit a.own b.own) ps) new.asker other.taker (ap (filter (is_of a.unit a.own b.own)) none) peer;
}

none_sent : (u v : «Unit») (now x y : ℕ) (ps : List Sent) → ps ≡ [] → AllByRecursion (IsOfEither u v now x y) ps
none_sent u v now x y ps none = rw none tt

pub new_link_explained : (l : LinkOf) → l.device.unit ≡ l.agent.unit → l.agent.core.session.unit ≡ l.agent.unit → AreEnds l.agent.own l.device.own → l.agent.peer ≡ l.device.own → l.device.peer ≡ l.agent.own
    → IsNewHalf l.agent → IsNewHalf l.device → l.packets ≡ [] → l.agent_since_miss ≡ 8 → l.device_since_miss ≡ 8 → LinkExplained 0 l
new_link_explained l unit session_unit ends peer back agent device none agent_misses device_misses = record {
  unit = unit;
  session_unit = session_unit;
  ends = ends;
  agent_peer = peer;
  device_peer = back;
  down = rw (agent_misses, device_misses) (new_way l.agent l.device l.packets agent device peer none);
  up = rw (agent_misses, device_misses) (new_way l.device l.agent l.packets device agent back none);
  packets = none_sent l.agent.unit l.device.unit 0 l.agent.own l.device.own l.packets none;
}
