use Rattle.std.proofs.Common.{◌≡◌, drop, map}
use Rattle.fw_store.specs.Folders.{has_name}
use Rattle.fw_store.proofs.known.is_listed.Given as goal

-- the answer of the names that are left is the answer of all
abbrev pub invariant-loop-other : goal.invariant-loop-other
invariant-loop-other l = has_name (map (λ n. n.items) (drop l.other-index l.names)) l.name ≡ has_name (map (λ n. n.items) l.names) l.name
