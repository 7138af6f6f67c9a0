use Rattle.std.proofs.Common.{◌≡◌, ◌++◌, drop}
use Rattle.fwupd_traces.specs.Records.{starts_text}
use Rattle.fwupd_traces.proofs.node_record.push_starts.Given as goal

-- the text so far, then that of the remaining starts, is that of all
abbrev pub invariant-loop-eid : goal.invariant-loop-eid
invariant-loop-eid l = l.text.items ++ starts_text l.number (drop l.eid-index l.eids) ≡ l.fn.text.items ++ starts_text l.fn.number l.fn.eids
