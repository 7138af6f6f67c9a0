-- The packets that a node sends.
use Rattle.std.specs.Prelude.{ℕ, List, [], ◌∷◌, flat_map, map}
use Rattle.mctp_wire.specs.declared.unit.Unit.{«Unit»}
use Rattle.mctp_reasm.specs.Pieces.{MessageOf, pieces, spelling_of}
use Rattle.pldm_exch.specs.Caller.{CallTickOf}

-- the packets of a message, and of several messages, in a network with this transmission unit
abbrev pub packets_of : «Unit» → MessageOf → List (List ℕ)
packets_of u m = map spelling_of (pieces u m)

abbrev pub all_packets : «Unit» → List MessageOf → List (List ℕ)
all_packets u ms = flat_map (packets_of u) ms

-- the message that a tick of its requests has a node send again
abbrev pub sent_by : CallTickOf → List MessageOf
sent_by CallTickOf.Nothing = []
sent_by (CallTickOf.Send m) = m ∷ []
sent_by CallTickOf.GaveUp = []
