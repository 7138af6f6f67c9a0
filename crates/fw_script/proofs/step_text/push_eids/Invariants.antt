use Rattle.std.proofs.Common.{◌≡◌, ◌++◌, ◌∷◌, decimal, take}
use Rattle.std.specs.List.{flat_map}
use Rattle.fw_script.proofs.step_text.push_eids.Given as goal

-- the identifiers before the index are written
abbrev pub invariant-loop-eid : goal.invariant-loop-eid
invariant-loop-eid l = l.text.items ≡ l.fn.text.items ++ flat_map (λ eid. 32 ∷ decimal eid) (take l.eid-index l.eids)
