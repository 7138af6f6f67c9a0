use Rattle.std.proofs.Common.{◌≡◌, ◌+◌, ◌++◌, drop, map}
use Rattle.fw_trace.specs.Lines.{lines_of, reader_along}
use Rattle.fw_trace.specs.Sent.{sent_of}
use Rattle.fw_trace.proofs.lists.push_lines.Given as goal

-- the lines so far, then those of the remaining packets
abbrev pub invariant-loop-place : goal.invariant-loop-place
invariant-loop-place l =
    (l.text.items ++ lines_of l.reader (l.place + 1) (map sent_of (drop l.place l.packets))
    ≡ l.fn.text.items ++ lines_of l.fn.reader 1 (map sent_of l.fn.packets))
    × (reader_along l.reader (map sent_of (drop l.place l.packets)) ≡ reader_along l.fn.reader (map sent_of l.fn.packets))
