-- The device that is found at a place.
use Rattle.std.proofs.Common.{◌≡◌, ℕ, List, Some, None, map}
use Rattle.std.specs.Prelude.{slice_get}
use Rattle.fw_message.specs.Nodes.{CountedOf}
use Rattle.fw_message.specs.Replays.{place_at}
use Rattle.fw_message.specs.Worlds.{node_at}
use Rattle.fw_message.proofs.Places.{at_node, is_at, not_at}
use Rattle.fw_message.proofs.Stepping.{get_map, node_in}

pub found_at : (pairs : List CountedOf) (eid place : ℕ) (p : CountedOf) → place_at (map node_in pairs) eid ≡ Some place → slice_get pairs place ≡ Some p → node_at (map node_in pairs) eid ≡ Some p.node
found_at pairs eid place p at found = at_node (map node_in pairs) eid place p.node (is_at (map node_in pairs) eid place at) (get_map pairs place p found)

pub not_found : (pairs : List CountedOf) (eid : ℕ) → place_at (map node_in pairs) eid ≡ None → node_at (map node_in pairs) eid ≡ None
not_found pairs eid none = not_at 0 (map node_in pairs) eid none
