-- The opening of a world: without devices, and with one more device.
use Rattle.std.proofs.Common.{◌∷◌, ◌++◌, ℕ, List, [], refl}
use Rattle.std.specs.Prelude.{All}
use Rattle.std.proofs.lemmas.List.Elements.{All-append, All-cons, All-nil}
use Rattle.fd_core.specs.Images.{RowOf, rows_after_drop, row_without_applied}
use Rattle.fd_core.specs.States.{DeviceState}
use Rattle.fw_message.specs.Laws.{IsOpening, IsUnapplied}
use Rattle.fw_message.specs.WorldLaws.{IsOpeningNode, IsOpeningMessageWorld, new_node, run_of}
use Rattle.fw_message.specs.Worlds.{MessageWorldOf}

nothing_applied : (rows : List RowOf) → All IsUnapplied (rows_after_drop rows)
nothing_applied [] = All-nil IsUnapplied
nothing_applied (r ∷ rows) = All-cons IsUnapplied (row_without_applied r) (rows_after_drop rows) refl (nothing_applied rows)

opens_node : (eid : ℕ) (device : DeviceState) → IsOpening (run_of (new_node eid device) [])
opens_node eid device =
    record { idle = refl; unapplied = nothing_applied device.rows; session = refl; down = refl; up = refl; entries = refl }

-- a world at its opening is at its opening with one more device
pub opens_more : (w : MessageWorldOf) (eid : ℕ) (device : DeviceState) → IsOpeningMessageWorld w → IsOpeningMessageWorld (record w { nodes = w.nodes ++ new_node eid device ∷ [] })
opens_more w eid device h =
    record {
      nodes = All-append IsOpeningNode w.nodes (new_node eid device ∷ []) h.nodes
          (All-cons IsOpeningNode (new_node eid device) [] (opens_node eid device) (All-nil IsOpeningNode));
      history = h.history;
    }
