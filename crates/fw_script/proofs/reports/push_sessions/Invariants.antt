use Rattle.std.proofs.Common.{◌≡◌, ◌++◌, take}
use Rattle.fw_script.specs.Reports.{sessions_text}
use Rattle.fw_script.proofs.reports.push_sessions.Given as goal

-- the sessions before the index are written
abbrev pub invariant-loop-sent : goal.invariant-loop-sent
invariant-loop-sent l = l.text.items ≡ l.fn.text.items ++ sessions_text l.agent (take l.sent-index l.counts)
