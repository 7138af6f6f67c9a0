-- The front of a node.
use Rattle.std.specs.Prelude.{ℕ, [], ◌∷◌, List, Option, None, Some}
use Rattle.exch_lane.specs.Lanes.{Sent}
use Rattle.exch_lane.specs.Steps.{sent_at}
use Rattle.mctp_front.specs.Front.{front_of}
use Rattle.fwupd_wires.specs.declared.fronted_line.Front.{Front}

-- the answer of the front to a packet, if there is a front and it has one
abbrev pub answer_at : Option Front → List ℕ → Option (List ℕ)
answer_at None packet = None
answer_at (Some front) packet = front_of front.network front.endpoint packet

-- what the front sends for a packet in a unit: its answer, if it has one
abbrev pub sent_if : (unit : ℕ) → Option (List ℕ) → List Sent
sent_if unit None = []
sent_if unit (Some answer) = sent_at unit answer ∷ []

abbrev pub answer_sent : Option Front → (unit : ℕ) → (packet : List ℕ) → List Sent
answer_sent front unit packet = sent_if unit (answer_at front packet)
