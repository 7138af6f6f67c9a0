use Rattle.std.proofs.Common.{◌≡◌, drop}
use Rattle.fw_store.specs.Opening.{has_foreign as names_foreign}
use Rattle.fw_store.proofs.looking.has_foreign.Given as goal

-- the lines so far aren't foreign
abbrev pub invariant-loop-entry : goal.invariant-loop-entry
invariant-loop-entry l = names_foreign l.components (drop l.entry-index l.entries) ≡ names_foreign l.components l.entries
